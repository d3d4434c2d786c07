-- Quotients rounded down, and roundings that are carried on from one amount to the next. Assumes nothing.
use Rattle.std.specs.Prelude.{ℕ, suc, ◌/◌, List, length, ℤ, pos, negsuc, ◌+ℤ◌, ◌-ℤ◌, ◌*ℤ◌, ◌≤ℤ◌, ◌<ℤ◌}
use Rattle.quantities.specs.Sums.{sum, at, row_of}

-- z / d, rounded down; -(a + 1) / d is -(a / d + 1)
abbrev pub floor : ℤ → ℕ → ℤ
floor (pos a) d = pos (a / d)
floor (negsuc a) d = negsuc (a / d)

-- q is the largest whole number whose product with d does not pass z
pub record RoundedDown (z : ℤ) (d : ℕ) (q : ℤ) : Type 0 where
  pub under : (q *ℤ pos d) ≤ℤ z
  pub over : z <ℤ (q *ℤ pos d +ℤ pos d)

-- the k-th of the amounts g: the amounts up to and with it, rounded, less those before it, rounded
abbrev pub carried : ℕ → (ℕ → ℤ) → ℕ → ℤ
carried d g k = floor (sum (suc k) g) d -ℤ floor (sum k g) d

abbrev pub carried_row : ℕ → List ℤ → List ℤ
carried_row d zs = row_of (length zs) (carried d (at zs))
