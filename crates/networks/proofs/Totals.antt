-- What an iterator over the first n values of f adds to. Assumes nothing.
use Rattle.std.proofs.Common.{◌≡◌, ℕ, zero, suc, ◌*◌, ◌^◌, ◌<◌, ◌≤◌, length, take, Option, ℤ, pos, ◌+ℤ◌, FitsSigned, nat_abs, fold, refl, sym, ap, ◌∙◌, subst, add-one, length-take, mul-le-mul_right, arith}
use mir.Syntax.{w64}
use Rattle.std.proofs.lemmas.List.{map-id, take_all}
use Rattle.std.proofs.lemmas.List.Sums.{fold_more}
use Rattle.std.proofs.lemmas.Iterator.{YieldsList}
use Rattle.std.proofs.lemmas.Iterator.Consumers.{YieldsList-so_far}
use Rattle.std.specs.Iterator.{Yields}
use Rattle.std.specs.Iterator.Runs.{Run, EachRunFrom, YieldsRun}
use Rattle.quantities.specs.Sums.{sum, row_of, at}
use Rattle.quantities.proofs.SumLaws.{at_row, length_row}
use Rattle.quantities.proofs.Bounds.{fits_by, sum_within}

-- the first k of a row
fold_row : (n : ℕ) (f : ℕ → ℤ) (k : ℕ) → k ≤ n → fold ◌+ℤ◌ (pos 0) (take k (row_of n f)) ≡ sum k f
fold_row n f zero h = refl
fold_row n f (suc k) h =
    let before = fold_row n f k (omega arith) in
    let more = fold_more ◌+ℤ◌ (pos 0) (row_of n f) k (pos 0) (rw (length_row n f) (omega arith)) in
    let here = at_row n f k (omega arith) in
    rw (← add-one) (more ∙ ap (λ z. z +ℤ at (row_of n f) k) before ∙ ap (λ z. sum k f +ℤ z) here)

-- all of it
pub fold_all : (n : ℕ) (f : ℕ → ℤ) → fold ◌+ℤ◌ (pos 0) (row_of n f) ≡ sum n f
fold_all n f =
    ap (fold ◌+ℤ◌ (pos 0)) (sym (take_all n (row_of n f) (rw length_row (omega arith)))) ∙ fold_row n f n (omega arith)

module _ {S : Type 0} {steps : S → Option ℤ → S → Type 0} {s : S} (n : ℕ) (f : ℕ → ℤ) (road : YieldsList steps (λ z. z) s (row_of n f)) where
  -- along any run, some of them
  run_total : (p : Run steps) → p.from ≡ s → (k : ℕ) × (k ≤ n) × (fold ◌+ℤ◌ (pos 0) p.items ≡ sum k f)
  unfolding YieldsRun
  run_total p from =
      let front = YieldsList-so_far road p.items p.gave.0.0 (subst (λ u. Yields steps u p.items p.gave.0.0) from p.gave.0.1) in
      let items = rw map-id at front in
      let long = ap length items in
      let short : length p.items ≤ n = omega (arith, length-take (length p.items) (row_of n f), length_row n f) in
      (length p.items, short, ap (fold ◌+ℤ◌ (pos 0)) items ∙ fold_row n f (length p.items) short)

  -- so each run fits 64 bits, where n terms of at most B do
  pub runs_fit : (B : ℕ) → ((j : ℕ) → nat_abs (f j) ≤ B) → n * B < 2 ^ 63 → EachRunFrom steps s (λ p. FitsSigned w64 (fold ◌+ℤ◌ (pos 0) p.items))
  runs_fit B within small p _ from =
      let total = run_total p from in
      let most = sum_within total.0 B f (λ j _. within j) in
      let more = mul-le-mul_right B total.1 in
      fits_by w64 _ (rw total.2 (omega arith))
