-- The number of each class, what it withdraws, injects and loads, and the total that it counts in. Assumes nothing.
use Rattle.std.specs.Prelude.{◌≡◌, ◌≢◌, ℕ, ℤ, pos, neg_ℤ, Ok, Err, Result}
use Rattle.refusals.specs.declared.Cause.{Cause}
use Rattle.refusals.specs.declared.Cause.TheVariants.{ClassNotTaken}
use Rattle.positions.specs.declared.classes.Class.{Class}
use Rattle.positions.specs.declared.classes.Class.TheVariants.{Load, DecrementBid, Generation, IncrementOffer}
use Rattle.positions.specs.declared.classes.Side.{Side}
use Rattle.positions.specs.declared.classes.Side.TheVariants.{Withdrawing, Injecting, Transacting}

abbrev pub class_number : Class → ℕ
class_number Load = 1
class_number DecrementBid = 2
class_number Generation = 3
class_number IncrementOffer = 4

-- the class that has a number, or that none has
abbrev pub ClassNumbered : ℕ → Result Class Cause → Type 0
ClassNumbered k (Ok c) = class_number c ≡ k
ClassNumbered k (Err e) = (e ≡ ClassNotTaken) × ((c : Class) → class_number c ≢ k)

abbrev pub side_of : Class → Side
side_of Load = Withdrawing
side_of DecrementBid = Withdrawing
side_of Generation = Injecting
side_of IncrementOffer = Injecting

-- the net withdrawal of m tenths at their bus
abbrev pub net_withdrawal : Class → ℕ → ℤ
net_withdrawal Load m = pos m
net_withdrawal DecrementBid m = pos m
net_withdrawal Generation m = neg_ℤ (pos m)
net_withdrawal IncrementOffer m = neg_ℤ (pos m)

-- their load: a bid withdraws, and is no load
abbrev pub loaded : Class → ℕ → ℕ
loaded Load m = m
loaded DecrementBid m = 0
loaded Generation m = 0
loaded IncrementOffer m = 0

-- the two parts of the net withdrawal
abbrev pub withdrawn : Class → ℕ → ℕ
withdrawn Load m = m
withdrawn DecrementBid m = m
withdrawn Generation m = 0
withdrawn IncrementOffer m = 0

abbrev pub injected : Class → ℕ → ℕ
injected Load m = 0
injected DecrementBid m = 0
injected Generation m = m
injected IncrementOffer m = m

-- 1 where two totals are the same, else 0
abbrev pub one_if_side : Side → Side → ℕ
one_if_side Withdrawing Withdrawing = 1
one_if_side Withdrawing Injecting = 0
one_if_side Withdrawing Transacting = 0
one_if_side Injecting Withdrawing = 0
one_if_side Injecting Injecting = 1
one_if_side Injecting Transacting = 0
one_if_side Transacting Withdrawing = 0
one_if_side Transacting Injecting = 0
one_if_side Transacting Transacting = 1
