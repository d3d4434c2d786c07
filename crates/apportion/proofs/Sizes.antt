-- How large the numbers of a split get. Assumes nothing.
use Rattle.std.proofs.Common.{◌≡◌, ℕ, ◌+◌, ◌^◌, ◌<◌, ◌≤◌, ℤ, pos, negsuc, ◌+ℤ◌, ◌-ℤ◌, ◌*ℤ◌, sym, ap, ◌∙◌, arith, lit<, w64, SFits}
use borrow.Author.Differences.{ints}
use mir.Syntax.{Width, w128}
use Rattle.quantities.specs.Rounding.{floor}
use Rattle.quantities.proofs.Bounds.{product_fits}
use Rattle.quantities.proofs.Ring.{*ℤ-+ℤ}
use Rattle.apportion.specs.Split.{Toward}
use Rattle.apportion.proofs.Laws.{between_toward}

toward_fits : (w : Width) (A z : ℤ) → SFits w A → Toward A z → SFits w z
toward_fits w (pos a) z f t = omega (arith, ints)
toward_fits w (negsuc a) z f t = omega (arith, ints)

-- what is given between two weights of W fits the amount's width
pub between_fits : (w : Width) (A : ℤ) (W p q : ℕ) → SFits w A → 0 < W → p ≤ q → q ≤ W → SFits w (floor (A *ℤ pos q) W -ℤ floor (A *ℤ pos p) W)
between_fits w A W p q f h l m = toward_fits w A _ f (between_toward A W p q h l m)

-- 63 bits and 31 make at most 94
pub weighted_fits : (A : ℤ) (q : ℕ) → SFits w64 A → q ≤ 2000000000 → SFits w128 (A *ℤ pos q)
weighted_fits A q f h = product_fits w128 (2 ^ 63) 2000000000 A (pos q) (omega (arith, ints)) (omega (arith, ints)) (lit< tt)

-- the exact parts of p weights and of w more
pub weighted_more : (A : ℤ) (p w q : ℕ) → q ≡ p + w → A *ℤ pos p +ℤ A *ℤ pos w ≡ A *ℤ pos q
weighted_more A p w q e = sym (*ℤ-+ℤ A (pos p) (pos w)) ∙ ap (λ k. A *ℤ pos k) (sym e)
