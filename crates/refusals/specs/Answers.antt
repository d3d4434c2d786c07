-- What a call answers, told by the causes that hold of it. Assumes nothing.
use Rattle.std.specs.Prelude.{◌≡◌, ℕ, ◌≤◌, ◌≢◌, Ok, Err, Result}
use Rattle.refusals.specs.declared.Cause.{Cause}
use Rattle.refusals.specs.declared.Cause.TheVariants.{RowLength}
use Rattle.refusals.specs.Causes.{number}

-- the cause that is answered: it holds, and none with a smaller number does
pub record First (Holds : Cause → Type 0) (c : Cause) : Type 0 where
  pub holds : Holds c
  pub least : (d : Cause) → Holds d → number c ≤ number d

-- no cause holds
abbrev pub Clear : (Cause → Type 0) → Type 0
Clear Holds = (c : Cause) → Holds c → ⊥

-- a call is taken where no cause holds, and refused by the first that does
abbrev pub Answered : {T : Type 0} → (Cause → Type 0) → Result T Cause → Type 0
Answered Holds (Ok x) = Clear Holds
Answered Holds (Err c) = First Holds c

-- a row is given that has not a place for each of n
abbrev pub WrongLength : ℕ → ℕ → Cause → Type 0
WrongLength places n c = (c ≡ RowLength) × (places ≢ n)
