-- The split of an amount over weights, its laws, and when it is refused. Assumes nothing.
use Rattle.std.specs.Prelude.{◌≡◌, ℕ, suc, ◌<◌, ◌≢◌, List, length, ℤ, pos, negsuc, ◌-ℤ◌, ◌*ℤ◌, ◌≤ℤ◌, unsigned_abs}
use Rattle.refusals.specs.declared.Cause.{Cause}
use Rattle.refusals.specs.declared.Cause.TheVariants.{RowLength, WeightOutOfRange}
use Rattle.quantities.specs.Sums.{sum, sumℕ, atℕ, row_of}
use Rattle.quantities.specs.Rounding.{floor}

-- what the i-th of n items gets of A by their weights g: A times the weights up to and with it, over all weights, less A times
-- the weights before it, over all weights, each quotient rounded down
abbrev pub share : ℤ → ℕ → (ℕ → ℕ) → ℕ → ℤ
share A n g i = floor (A *ℤ pos (sumℕ (suc i) g)) (sumℕ n g) -ℤ floor (A *ℤ pos (sumℕ i g)) (sumℕ n g)

-- the same for a list of weights: their sum, and the row of shares
abbrev pub whole : List ℕ → ℕ
whole ws = sumℕ (length ws) (atℕ ws)

abbrev pub shares : ℤ → List ℕ → List ℤ
shares A ws = row_of (length ws) (share A (length ws) (atℕ ws))

-- ---- the laws of a fair split of A over n weights g, where the i-th gets f i

pub record Fair (A : ℤ) (n : ℕ) (g : ℕ → ℕ) (f : ℕ → ℤ) : Type 0 where
  -- nothing is lost, and nothing is added
  pub adds : sum n f ≡ A
  -- each is less than one unit from A × g i / W; here both sides are multiplied by W
  pub near : (i : ℕ) → i < n → unsigned_abs (f i *ℤ pos (sumℕ n g) -ℤ A *ℤ pos (g i)) < sumℕ n g
  -- no weight gets nought
  pub nothing : (i : ℕ) → i < n → g i ≡ 0 → f i ≡ pos 0

-- z lies between nought and A
abbrev pub Toward : ℤ → ℤ → Type 0
Toward (pos a) z = (pos 0 ≤ℤ z) × (z ≤ℤ pos a)
Toward (negsuc a) z = (negsuc a ≤ℤ z) × (z ≤ℤ pos 0)

-- ---- when it is refused

-- weights that no amount is split over
pub data SumRefused (ws : List ℕ) : Cause → Type 0 where
  no_weight : whole ws ≡ 0 → SumRefused ws WeightOutOfRange
  too_much : 2000000000 < whole ws → SumRefused ws WeightOutOfRange

-- a row of so many places, and such weights
pub data SplitRefused (places : ℕ) (ws : List ℕ) : Cause → Type 0 where
  other_length : places ≢ length ws → SplitRefused places ws RowLength
  weights : {c : Cause} → SumRefused ws c → SplitRefused places ws c
