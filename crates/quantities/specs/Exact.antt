-- A result that is exact or none. Assumes nothing.
use Rattle.std.specs.Prelude.{◌≡◌, ℤ, Some, None, Option, FitsSigned}
use Rattle.std.specs.Int.{w64}

-- z of the unit that `units` counts, where z fits 64 bits; else none
abbrev pub Exact : {X : Type 0} → (X → ℤ) → Option X → ℤ → Type 0
Exact units None z = FitsSigned w64 z → ⊥
Exact units (Some x) z = FitsSigned w64 z × (units x ≡ z)
