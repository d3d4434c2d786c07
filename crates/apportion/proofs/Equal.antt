-- Equal weights. Assumes nothing.
use Rattle.std.proofs.Common.{◌≡◌, ℕ, zero, suc, ◌≤◌, ◌∷◌, map, replicate, refl, ap, ◌∙◌, arith}
use Rattle.std.proofs.lemmas.List.{length-replicate, get_or-replicate}
use Rattle.quantities.specs.Sums.{sumℕ, atℕ}
use Rattle.apportion.specs.Split.{whole}

pub map-replicate : {X Y : Type 0} (f : X → Y) (x : X) (n : ℕ) → map f (replicate n x) ≡ replicate n (f x)
map-replicate f x zero = refl
map-replicate f x (suc n) = ap (λ ys. f x ∷ ys) (map-replicate f x n)

sum_ones : (n k : ℕ) → k ≤ n → sumℕ k (atℕ (replicate n 1)) ≡ k
sum_ones n zero h = refl
sum_ones n (suc k) h =
    let before = sum_ones n k (omega arith) in
    let here : atℕ (replicate n 1) k ≡ 1 = get_or-replicate n k 1 0 (omega arith) in
    omega arith

-- n weights of 1 make n
pub whole_ones : (n : ℕ) → whole (replicate n 1) ≡ n
whole_ones n = ap (λ k. sumℕ k (atℕ (replicate n 1))) (length-replicate n 1) ∙ sum_ones n n (omega arith)
