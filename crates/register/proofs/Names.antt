-- Which number names which class. Assumes nothing.
use Rattle.std.proofs.Common.{◌≡◌, ◌⊎◌, ⊎_elim, ℕ, Ok, Err, Result, refl, subst}
use Rattle.positions.specs.Classes.{class_number}
use Rattle.positions.specs.declared.classes.Class.{Class}
use Rattle.positions.specs.declared.classes.Class.TheVariants.{Load, DecrementBid, Generation, IncrementOffer}
use Rattle.register.specs.Register.{Phase, day_ahead, Names, load, decrement, generation, increment}
use Rattle.register.specs.Weighed.{ClassNamed, ClassTaken}
use Rattle.refusals.specs.declared.Cause.{Cause}
use Rattle.std.specs.Result.{result_ok}

-- a class is named by its number alone
pub number_named : {p : Phase} {k : ℕ} {c : Class} → Names p k c → class_number c ≡ k
number_named load = refl
number_named decrement = refl
number_named generation = refl
number_named increment = refl

-- and day-ahead by that
pub named_day_ahead : (c : Class) (k : ℕ) → class_number c ≡ k → Names day_ahead k c
named_day_ahead Load k e = subst (λ x. Names day_ahead x Load) e load
named_day_ahead DecrementBid k e = subst (λ x. Names day_ahead x DecrementBid) e decrement
named_day_ahead Generation k e = subst (λ x. Names day_ahead x Generation) e generation
named_day_ahead IncrementOffer k e = subst (λ x. Names day_ahead x IncrementOffer) e increment

-- loads and generation in every phase
pub named_always : (p : Phase) (c : Class) (k : ℕ) → class_number c ≡ k → (c ≡ Load) ⊎ (c ≡ Generation) → Names p k c
named_always p Load k e either = subst (λ x. Names p x Load) e load
named_always p DecrementBid k e either = ⊎_elim (λ h. cc) (λ h. cc) either
named_always p Generation k e either = subst (λ x. Names p x Generation) e generation
named_always p IncrementOffer k e either = ⊎_elim (λ h. cc) (λ h. cc) either

pub one_name : {p : Phase} {k : ℕ} {c d : Class} → Names p k c → Names p k d → c ≡ d
one_name load load = refl
one_name decrement decrement = refl
one_name generation generation = refl
one_name increment increment = refl

-- what a number names, with its cause let go
pub named_of_taken : (p : Phase) (k : ℕ) (r : Result Class Cause) → ClassTaken p k r → ClassNamed p k (result_ok r)
named_of_taken p k (Ok c) taken = taken
named_of_taken p k (Err e) taken = taken.1
