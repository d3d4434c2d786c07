-- How large the congestion price of a network within the limits gets. Assumes nothing.
use Rattle.std.proofs.Common.{ℕ, ◌*◌, ◌≤◌, ℤ, ◌*ℤ◌, nat_abs}
use Rattle.quantities.specs.Sums.{sum}
use Rattle.quantities.proofs.Bounds.{product_within, sum_within}
use Rattle.networks.specs.Limits.{most_price, most_factor}

module _ (price : ℕ → ℤ) (factor : ℕ → ℕ → ℤ)
    (price_most : (j : ℕ) → nat_abs (price j) ≤ most_price)
    (factor_most : (j i : ℕ) → nat_abs (factor j i) ≤ most_factor) where
  -- what one constraint adds
  pub part_within : (i j : ℕ) → nat_abs (price j *ℤ factor j i) ≤ 1000000000
  part_within i j = product_within 500000 2000 (price j) (factor j i) (price_most j) (factor_most j i)

  -- what the first m add
  pub parts_within : (m i : ℕ) → nat_abs (sum m (λ j. price j *ℤ factor j i)) ≤ m * 1000000000
  parts_within m i = sum_within m 1000000000 (λ j. price j *ℤ factor j i) (λ j _. part_within i j)
