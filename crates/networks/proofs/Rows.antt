-- What a run of `chunks_exact` says of the rows of n elements. Assumes nothing.
use Rattle.std.proofs.Common.{◌≡◌, ℕ, suc, ◌*◌, ◌/◌, ◌<◌, true, List, length, take, drop, Some, Option, ⊎_elim, sym, ◌∙◌, subst, arith}
use Rattle.std.proofs.lemmas.Nat.{le-div}
use Rattle.std.proofs.lemmas.Option.{slice_get_cases}
use Rattle.std.specs.Iterator.Runs.{Run, IsChunksExactRun, AllItems, AnyItem, YieldsRun}
use denote.Ref.{Bor}

-- there is an item at each place of a run
item_at : {S A : Type 0} {steps : S → Option A → S → Type 0} (p : Run steps) (k : ℕ) → k < p.len → (x : A) × (p.at k ≡ Some x)
unfolding YieldsRun
item_at p k h =
    ⊎_elim (λ s. (s.0, p.gave.1 k ∙ s.2)) (λ n. let long = p.long in absurd (omega (arith, n.0))) ((slice_get_cases p.items k).1)

module _ {S A : Type 0} {steps : S → Option (Bor (List A)) → S → Type 0} (p : Run steps) (n : ℕ) (xs : List A) (P : List A → Type 0) where
  -- of a whole run: what holds of each item holds of each row
  pub each_row : IsChunksExactRun p n xs → p.whole ≡ true → AllItems p (λ x. P x.now) → (j : ℕ) → j < length xs / n → P (take n (drop (j * n) xs))
  each_row chunks whole each j h =
      let item = item_at p j (rw (chunks.1 whole) h) in
      let row = rw item.1 at (chunks.2 j) in
      subst P row.2.0 (rw item.1 at (each j))

  -- an item that fails is a row that fails
  pub some_row : 0 < n → IsChunksExactRun p n xs → AnyItem p (λ x. ¬ P x.now) → ((j : ℕ) → j < length xs / n → P (take n (drop (j * n) xs))) → ⊥
  some_row pos chunks item each =
      let j = item.0 in
      let found = item_at p j item.1 in
      let row = rw found.1 at (chunks.2 j) in
      let fails = rw found.1 at item.2 in
      fails (subst P (sym row.2.0) (each j (le-div (suc j) (length xs) n pos (omega (arith, row.1)))))
