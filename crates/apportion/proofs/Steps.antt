-- The steps of the loops over items and over a row. Assumes nothing.
use Rattle.std.proofs.Common.{◌≡◌, ℕ, ◌+◌, ◌<◌, ◌≤◌, List, map, length, get_or, set, ℤ, pos, sym, ap, ◌∙◌, arith}
use Rattle.std.proofs.lemmas.List.FromFn.{fill_by_all}
use Rattle.std.proofs.lemmas.List.Edits.{fill_by_more}
use Rattle.std.proofs.lemmas.List.{get_or-map, length-map, map-set}
use Rattle.quantities.specs.Sums.{sumℕ, at, atℕ, row_of}
use Rattle.quantities.proofs.SumLaws.{sumℕ_more}
use Rattle.apportion.specs.Split.{whole}

module _ {X : Type 0} (f : X → ℕ) where
  -- the weight of the item that is read
  pub weight_at : (xs : List X) (i : ℕ) (x : X) → i < length xs → x ≡ get_or xs i x → atℕ (map f xs) i ≡ f x
  weight_at xs i x h e = get_or-map f xs i x 0 h ∙ ap f (sym e)

  -- the weights up to and with it
  pub weights_more : (xs : List X) (i : ℕ) (x : X) → i < length xs → x ≡ get_or xs i x → sumℕ (i + 1) (atℕ (map f xs)) ≡ sumℕ i (atℕ (map f xs)) + f x
  weights_more xs i x h e = sumℕ_more i (atℕ (map f xs)) ∙ ap (λ w. sumℕ i (atℕ (map f xs)) + w) (weight_at xs i x h e)

  -- at the end of the loop the sum is whole
  pub whole_at_end : (xs : List X) (i s : ℕ) → s ≡ sumℕ i (atℕ (map f xs)) → i ≡ length xs → s ≡ whole (map f xs)
  whole_at_end xs i s e h = e ∙ ap (λ k. sumℕ k (atℕ (map f xs))) (h ∙ sym (length-map xs f))

-- ---- a row that is filled place by place

module _ {X : Type 0} (u : X → ℤ) (f : ℕ → ℤ) (row : List X) (i : ℕ) where
  -- one place more
  pub place_filled : (x : X) → i < length row → u x ≡ f i → ((k : ℕ) → k < i → at (map u row) k ≡ f k) → (k : ℕ) → k < i + 1 → at (map u (set row i x)) k ≡ f k
  place_filled x h e before k l =
      let room : i < length (map u row) = rw length-map h in
      let put : map u (set row i x) ≡ set (map u row) i (f i) = map-set u row i x ∙ ap (λ z. set (map u row) i z) e in
      ap (λ zs. at zs k) put ∙ fill_by_more f (map u row) i (pos 0) room before k l

  -- all of them
  pub row_filled : (n : ℕ) → length row ≡ n → n ≤ i → ((k : ℕ) → k < i → at (map u row) k ≡ f k) → map u row ≡ row_of n f
  row_filled n long end before = fill_by_all f (map u row) n (pos 0) (length-map row u ∙ long) (λ k l. before k (omega arith))
