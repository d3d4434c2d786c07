-- Carried roundings: their sum, and how large they are. Assumes nothing.
use Rattle.std.proofs.Common.{◌≡◌, ℕ, ◌+◌, ◌*◌, ◌/◌, ◌^◌, ◌≤◌, List, length, ℤ, pos, ◌+ℤ◌, ◌-ℤ◌, nat_abs, sym, ap, ◌∙◌, arith, w64, SFits}
use native.Mathlib.Nat.{zero-div}
use borrow.Author.Differences.{ints}
use Rattle.quantities.specs.Sums.{sum, sum_of, at}
use Rattle.quantities.specs.Rounding.{floor, carried, carried_row}
use Rattle.quantities.proofs.SumLaws.{telescope, sum_of_row, sum_at}

-- carried roundings add up to the rounding of the sum
pub carried_adds : (n d : ℕ) (g : ℕ → ℤ) → sum n (carried d g) ≡ floor (sum n g) d
carried_adds n d g =
    let t : sum n (carried d g) ≡ floor (sum n g) d -ℤ pos (0 / d) = telescope n (λ k. floor (sum k g) d) in
    let z : 0 / d ≡ 0 = zero-div d in
    omega (arith, ints)

pub carried_row_adds : (d : ℕ) (zs : List ℤ) → sum_of (λ z. z) (carried_row d zs) ≡ floor (sum_of (λ z. z) zs) d
carried_row_adds d zs =
    sum_of_row (length zs) (carried d (at zs)) ∙ carried_adds (length zs) d (at zs) ∙ ap (λ z. floor z d) (sym (sum_at zs))

-- the sums of so many amounts in 64 bits
pub within_more : (s a r : ℤ) (k : ℕ) → nat_abs s ≤ k * 2 ^ 63 → SFits w64 a → r ≡ s +ℤ a → nat_abs r ≤ (k + 1) * 2 ^ 63
within_more s a r k h f e = omega (arith, ints)
