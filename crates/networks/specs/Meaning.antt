-- What a network means, its limits, and the congestion price at a bus. Assumes nothing.
use Rattle.std.specs.Prelude.{◌≡◌, ℕ, ◌<◌, ◌≤◌, ℤ, pos, ◌-ℤ◌, ◌*ℤ◌, unsigned_abs}
use Rattle.quantities.specs.Sums.{sum}
use Rattle.quantities.specs.Limits.{most_buses}
use Rattle.networks.specs.Limits.{most_constraints, most_price, most_factor, most_spread}

-- its counts, the shadow price of each constraint, and the factor of each constraint at each bus
pub record Meaning : Type 0 where
  pub buses : ℕ
  pub constraints : ℕ
  pub price : ℕ → ℤ
  pub factor : ℕ → ℕ → ℤ

-- within the limits, and nought beyond the counts
pub record Within (w : Meaning) : Type 0 where
  pub a_bus : 1 ≤ w.buses
  pub buses_most : w.buses ≤ most_buses
  pub constraints_most : w.constraints ≤ most_constraints
  pub price_most : (j : ℕ) → unsigned_abs (w.price j) ≤ most_price
  pub factor_most : (j i : ℕ) → unsigned_abs (w.factor j i) ≤ most_factor
  pub spread_most : (j i k : ℕ) → i < w.buses → k < w.buses → unsigned_abs (w.factor j i -ℤ w.factor j k) ≤ most_spread
  pub price_beyond : (j : ℕ) → w.constraints ≤ j → w.price j ≡ pos 0
  pub factor_beyond_constraints : (j i : ℕ) → w.constraints ≤ j → w.factor j i ≡ pos 0
  pub factor_beyond_buses : (j i : ℕ) → w.buses ≤ i → w.factor j i ≡ pos 0

-- two factors of one constraint, at any two buses
abbrev pub SpreadMost : Meaning → Type 0
SpreadMost w = (j i k : ℕ) → unsigned_abs (w.factor j i -ℤ w.factor j k) ≤ most_spread

-- what a tenth of a megawatt withdrawn at bus i for an hour is charged
abbrev pub congestion_price_at : Meaning → ℕ → ℤ
congestion_price_at w i = sum w.constraints (λ j. w.price j *ℤ w.factor j i)
