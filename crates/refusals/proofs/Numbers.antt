-- The numbers of the causes: two causes with one number are one, and none passes 16. Assumes nothing.
use Rattle.std.proofs.Common.{◌≡◌, ℕ, ◌<◌, ◌≤◌, ◌≢◌, [], ◌∷◌, get_or, sym, refl, ap, ◌∙◌, subst, ⊎_elim, arith, lit≤}
use Rattle.std.proofs.lemmas.Bool.{cases_lt}
use Rattle.refusals.specs.Answers.{First, Clear, WrongLength}
use Rattle.refusals.specs.Causes.{number}
use Rattle.refusals.specs.declared.Cause.{Cause}
use Rattle.refusals.specs.declared.Cause.TheVariants.{BusOutOfRange, ParticipantOutOfRange, ClassNotTaken, TotalOverLimit, SourceIsSink, LedgerFull, RecordNotOpen, Unbalanced, AreaNotWhole, OtherBusCount, ConstraintOutOfRange, RowLength, OutsideLimits, WeightOutOfRange, MalformedLine, FrameOutOfPlace}

-- the cause of a number
of_number : ℕ → Cause
of_number k = get_or (BusOutOfRange ∷ BusOutOfRange ∷ ParticipantOutOfRange ∷ ClassNotTaken ∷ TotalOverLimit ∷ SourceIsSink ∷ LedgerFull ∷ RecordNotOpen ∷ Unbalanced ∷ AreaNotWhole ∷ OtherBusCount ∷ ConstraintOutOfRange ∷ RowLength ∷ OutsideLimits ∷ WeightOutOfRange ∷ MalformedLine ∷ FrameOutOfPlace ∷ []) k BusOutOfRange

back : (c : Cause) → of_number (number c) ≡ c
unfolding of_number
back BusOutOfRange = refl
back ParticipantOutOfRange = refl
back ClassNotTaken = refl
back TotalOverLimit = refl
back SourceIsSink = refl
back LedgerFull = refl
back RecordNotOpen = refl
back Unbalanced = refl
back AreaNotWhole = refl
back OtherBusCount = refl
back ConstraintOutOfRange = refl
back RowLength = refl
back OutsideLimits = refl
back WeightOutOfRange = refl
back MalformedLine = refl
back FrameOutOfPlace = refl

pub one_cause : (c d : Cause) → number c ≡ number d → c ≡ d
one_cause c d e = sym (back c) ∙ ap of_number e ∙ back d

pub number_small : (c : Cause) → number c ≤ 16
number_small BusOutOfRange = lit≤ tt
number_small ParticipantOutOfRange = lit≤ tt
number_small ClassNotTaken = lit≤ tt
number_small TotalOverLimit = lit≤ tt
number_small SourceIsSink = lit≤ tt
number_small LedgerFull = lit≤ tt
number_small RecordNotOpen = lit≤ tt
number_small Unbalanced = lit≤ tt
number_small AreaNotWhole = lit≤ tt
number_small OtherBusCount = lit≤ tt
number_small ConstraintOutOfRange = lit≤ tt
number_small RowLength = lit≤ tt
number_small OutsideLimits = lit≤ tt
number_small WeightOutOfRange = lit≤ tt
number_small MalformedLine = lit≤ tt
number_small FrameOutOfPlace = lit≤ tt

-- of what holds, one cause is answered
pub one_first : {Holds : Cause → Type 0} {c d : Cause} → First Holds c → First Holds d → c ≡ d
one_first {c} {d} f g =
    let low = f.least d g.holds in
    let high = g.least c f.holds in
    let same : number c ≡ number d = omega arith in
    one_cause c d same

-- where every cause that holds has a number past the last, none holds
pub none_holds : {Holds : Cause → Type 0} → ((c : Cause) → Holds c → 17 ≤ number c) → Clear Holds
none_holds past c h = let low = past c h in let high = number_small c in omega arith

-- a row of the wrong length is refused for that, and one of the right length is not
pub wrong_length : (places n : ℕ) → places ≢ n → First (WrongLength places n) RowLength
wrong_length places n h = record { holds = (refl, h); least = λ d q. subst (λ (x : Cause). 12 ≤ number x) (sym q.0) (lit≤ tt) }

pub right_length : (places n : ℕ) → places ≡ n → Clear (WrongLength places n)
right_length places n e c q = q.1 e

-- k is at most n, where it cannot be above
pub at_most : (k n : ℕ) → (n < k → ⊥) → k ≤ n
at_most k n f = ⊎_elim (λ l. absurd (f l)) (λ h. h) (cases_lt n k)
