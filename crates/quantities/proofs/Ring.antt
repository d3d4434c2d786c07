-- The laws of the ring of integers that lib.IntN lacks. Assumes nothing.
use Rattle.std.proofs.Common.{◌≡◌, ◌*◌, ℤ, pos, ◌+ℤ◌, ◌-ℤ◌, ◌*ℤ◌, neg_ℤ, ap, ◌∙◌, arith}
use lib.IntN.{*ℤ_comm}
use borrow.Author.Differences.{ints, up, down, sum_is_lem, neg_is, product_is}

-- `omega` reads an integer z as `up z - down z`, and multiplies out: what it wants are the facts on a sum or a product, times a factor
pub *ℤ-+ℤ : (a b c : ℤ) → a *ℤ (b +ℤ c) ≡ a *ℤ b +ℤ a *ℤ c
*ℤ-+ℤ a b c =
    let u = ap (λ n. up a * n) (sum_is_lem b c) in
    let d = ap (λ n. down a * n) (sum_is_lem b c) in
    omega (arith, ints)

pub +ℤ-*ℤ : (a b c : ℤ) → (a +ℤ b) *ℤ c ≡ a *ℤ c +ℤ b *ℤ c
+ℤ-*ℤ a b c =
    let u = ap (λ n. n * up c) (sum_is_lem a b) in
    let d = ap (λ n. n * down c) (sum_is_lem a b) in
    omega (arith, ints)

pub neg_ℤ-*ℤ : (a b : ℤ) → neg_ℤ a *ℤ b ≡ neg_ℤ (a *ℤ b)
neg_ℤ-*ℤ a b =
    let n = neg_is a in
    let h1 = ap (λ k. k * up b) n.0 in
    let h2 = ap (λ k. k * down b) n.0 in
    let h3 = ap (λ k. k * up b) n.1 in
    let h4 = ap (λ k. k * down b) n.1 in
    omega (arith, ints)

pub -ℤ-*ℤ : (a b c : ℤ) → (a -ℤ b) *ℤ c ≡ a *ℤ c -ℤ b *ℤ c
-ℤ-*ℤ a b c = +ℤ-*ℤ a (neg_ℤ b) c ∙ ap (λ z. a *ℤ c +ℤ z) (neg_ℤ-*ℤ b c)

pub *ℤ--ℤ : (a b c : ℤ) → a *ℤ (b -ℤ c) ≡ a *ℤ b -ℤ a *ℤ c
*ℤ--ℤ a b c = *ℤ_comm a (b -ℤ c) ∙ -ℤ-*ℤ b c a ∙ ap (λ z. z -ℤ c *ℤ a) (*ℤ_comm b a) ∙ ap (λ z. a *ℤ b -ℤ z) (*ℤ_comm c a)

pub *ℤ-assoc : (a b c : ℤ) → (a *ℤ b) *ℤ c ≡ a *ℤ (b *ℤ c)
*ℤ-assoc a b c =
    let p = product_is a b in
    let q = product_is b c in
    let h1 = ap (λ n. n * up c) p.0 in
    let h2 = ap (λ n. n * down c) p.0 in
    let h3 = ap (λ n. n * up c) p.1 in
    let h4 = ap (λ n. n * down c) p.1 in
    let k1 = ap (λ n. up a * n) q.0 in
    let k2 = ap (λ n. down a * n) q.0 in
    let k3 = ap (λ n. up a * n) q.1 in
    let k4 = ap (λ n. down a * n) q.1 in
    omega (arith, ints)

pub one-*ℤ : (a : ℤ) → pos 1 *ℤ a ≡ a
one-*ℤ a = omega (arith, ints, product_is (pos 1) a)
