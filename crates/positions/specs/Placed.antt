-- What a position withdraws at each bus, from what stands at its sink and its source. Assumes nothing.
use Rattle.std.specs.Prelude.{Bool, true, false, if◌then◌else◌, ◌≡◌, ℕ, ◌*◌, ◌≤◌, pos, ◌-ℤ◌, ◌*ℤ◌}
use Rattle.std.proofs.Common.{◌∙◌, arith}
use Rattle.std.proofs.lemmas.Int.{ints}
use Rattle.std.proofs.Math.IntN.{zero-*ℤ}
use Rattle.quantities.proofs.Ring.{one-*ℤ}
use Rattle.positions.specs.Classes.{side_of, withdrawn, injected, net_withdrawal, loaded, one_if_side}
use Rattle.positions.specs.declared.classes.Class.{Class}
use Rattle.positions.specs.declared.classes.Class.TheVariants.{Load, DecrementBid, Generation, IncrementOffer}
use Rattle.positions.specs.declared.classes.Side.TheVariants.{Withdrawing}

both : (c : Class) (m : ℕ) → net_withdrawal c m ≡ pos (1 * withdrawn c m) -ℤ pos (1 * injected c m)
both Load m = omega (arith, ints)
both DecrementBid m = omega (arith, ints)
both Generation m = omega (arith, ints)
both IncrementOffer m = omega (arith, ints)

-- 1 where a test holds, else 0
abbrev one_if : Bool → ℕ
one_if b = if b then 1 else 0

pub at_bus : (here : Bool) (c : Class) (m : ℕ) → pos (one_if here) *ℤ net_withdrawal c m ≡ pos (one_if here * withdrawn c m) -ℤ pos (one_if here * injected c m)
at_bus true c m = one-*ℤ (net_withdrawal c m) ∙ both c m
at_bus false c m = let z = zero-*ℤ (net_withdrawal c m) in omega (arith, ints)

pub withdrawn_within : (c : Class) (m : ℕ) → withdrawn c m ≤ m
withdrawn_within Load m = omega arith
withdrawn_within DecrementBid m = omega arith
withdrawn_within Generation m = omega arith
withdrawn_within IncrementOffer m = omega arith

pub injected_within : (c : Class) (m : ℕ) → injected c m ≤ m
injected_within Load m = omega arith
injected_within DecrementBid m = omega arith
injected_within Generation m = omega arith
injected_within IncrementOffer m = omega arith

pub loaded_within : (c : Class) (m : ℕ) → loaded c m ≤ one_if_side (side_of c) Withdrawing * m
loaded_within Load m = omega arith
loaded_within DecrementBid m = omega arith
loaded_within Generation m = omega arith
loaded_within IncrementOffer m = omega arith

pub at_ends : (sink source : Bool) (m : ℕ) → (pos (one_if sink) -ℤ pos (one_if source)) *ℤ pos m ≡ pos (one_if sink * m) -ℤ pos (one_if source * m)
at_ends true true m = omega (arith, ints)
at_ends true false m = omega (arith, ints)
at_ends false true m = omega (arith, ints)
at_ends false false m = omega (arith, ints)
