-- Which refusal a split answers. Assumes nothing.
use Rattle.std.proofs.Common.{◌≡◌, ℕ, ◌<◌, ◌≤◌, ◌≢◌, List, length, ⊎_elim, arith, lit≤}
use Rattle.std.proofs.lemmas.Bool.{cases_lt}
use Rattle.refusals.specs.declared.Cause.{Cause}
use Rattle.refusals.specs.declared.Cause.TheVariants.{RowLength, WeightOutOfRange}
use Rattle.refusals.specs.Answers.{First, Clear}
use Rattle.refusals.specs.Causes.{number}
use Rattle.apportion.specs.Split.{whole, SumRefused, no_weight, too_much, SplitRefused, other_length, weights}

sum_least : (ws : List ℕ) (d : Cause) → SumRefused ws d → 14 ≤ number d
sum_least ws d (no_weight e) = lit≤ tt
sum_least ws d (too_much l) = lit≤ tt

pub sum_none : (ws : List ℕ) → whole ws ≡ 0 → First (SumRefused ws) WeightOutOfRange
sum_none ws e = record { holds = no_weight e; least = sum_least ws }

pub sum_much : (ws : List ℕ) → 2000000000 < whole ws → First (SumRefused ws) WeightOutOfRange
sum_much ws l = record { holds = too_much l; least = sum_least ws }

pub sum_clear : (ws : List ℕ) → 0 < whole ws → whole ws ≤ 2000000000 → Clear (SumRefused ws)
sum_clear ws h k c (no_weight e) = omega arith
sum_clear ws h k c (too_much l) = omega arith

pub sum_some : (ws : List ℕ) → Clear (SumRefused ws) → (0 < whole ws) × (whole ws ≤ 2000000000)
sum_some ws none = (
  ⊎_elim (λ (l : 0 < whole ws). l) (λ (g : whole ws ≤ 0). absurd (none WeightOutOfRange (no_weight (omega arith)))) (cases_lt 0 (whole ws)),
  ⊎_elim (λ (l : 2000000000 < whole ws). absurd (none WeightOutOfRange (too_much l))) (λ (g : whole ws ≤ 2000000000). g) (cases_lt 2000000000 (whole ws)),
)

length_least : (places : ℕ) (ws : List ℕ) (d : Cause) → SplitRefused places ws d → 12 ≤ number d
length_least places ws d (other_length n) = lit≤ tt
length_least places ws d (weights s) = let h = sum_least ws d s in omega arith

pub split_length : (places : ℕ) (ws : List ℕ) → places ≢ length ws → First (SplitRefused places ws) RowLength
split_length places ws n = record { holds = other_length n; least = length_least places ws }

weights_least : (places : ℕ) (ws : List ℕ) (c : Cause) → places ≡ length ws → First (SumRefused ws) c → (d : Cause) → SplitRefused places ws d → number c ≤ number d
weights_least places ws c e f d (other_length n) = absurd (n e)
weights_least places ws c e f d (weights s) = f.least d s

pub split_weights : (places : ℕ) (ws : List ℕ) (c : Cause) → places ≡ length ws → First (SumRefused ws) c → First (SplitRefused places ws) c
split_weights places ws c e f = record { holds = weights f.holds; least = weights_least places ws c e f }

pub split_clear : (places : ℕ) (ws : List ℕ) → places ≡ length ws → Clear (SumRefused ws) → Clear (SplitRefused places ws)
split_clear places ws e none c (other_length n) = n e
split_clear places ws e none c (weights s) = none c s

-- what is within the limits is not refused
pub split_never : {c : Cause} (places : ℕ) (ws : List ℕ) → places ≡ length ws → 0 < whole ws → whole ws ≤ 2000000000 → First (SplitRefused places ws) c → ⊥
split_never {c} places ws e h k f = split_clear places ws e (sum_clear ws h k) c f.holds
