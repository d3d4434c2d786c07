-- The laws of the split. Assumes nothing.
use Rattle.std.proofs.Common.{◌≡◌, ℕ, suc, ◌+◌, ◌-◌, ◌*◌, ◌/◌, ◌<◌, ◌≤◌, List, length, ℤ, pos, negsuc, ◌-ℤ◌, ◌*ℤ◌, nat_abs, ◌≤ℤ◌, sym, ap, ◌∙◌, subst, add-mul, mul-le-mul_left, mul-add, arith}
use borrow.Author.Differences.{ints, up, down, product_is, at_most_in}
use Rattle.quantities.specs.Sums.{sum, sumℕ, at, atℕ}
use Rattle.quantities.specs.Rounding.{floor}
use Rattle.quantities.proofs.SumLaws.{telescope, sum_same, sumℕ_same, sumℕ_grows, at_row}
use Rattle.quantities.proofs.Floors.{floor_parts, floor_whole, floor_nought, floor_mono}
use Rattle.apportion.specs.Split.{share, shares, whole, Fair, Toward}

-- shares add up to the amount
pub shares_add : (A : ℤ) (n : ℕ) (g : ℕ → ℕ) → 0 < sumℕ n g → sum n (share A n g) ≡ A
shares_add A n g h =
    let W = sumℕ n g in
    let t : sum n (share A n g) ≡ floor (A *ℤ pos W) W -ℤ floor (A *ℤ pos 0) W = telescope n (λ k. floor (A *ℤ pos (sumℕ k g)) W) in
    let top = floor_whole A W h in
    let low = floor_nought A W h in
    omega (arith, ints)

-- a difference times w, in the parts that `omega` reads
diff_times : (a b : ℤ) (w : ℕ) → up (a -ℤ b) * w + down a * w + up b * w ≡ down (a -ℤ b) * w + up a * w + down b * w
diff_times a b w =
    let d = a -ℤ b in
    let e : up d + down a + up b ≡ down d + up a + down b = omega (arith, ints) in
    let t : (up d + down a + up b) * w ≡ (down d + up a + down b) * w = ap (λ n. n * w) e in
    omega (arith, add-mul (up d + down a) (up b) w, add-mul (up d) (down a) w, add-mul (down d + up a) (down b) w, add-mul (down d) (up a) w)

-- what lies between two quotients is less than one from its exact part
near_one : (A : ℤ) (W p w : ℕ) → 0 < W → nat_abs ((floor (A *ℤ pos (p + w)) W -ℤ floor (A *ℤ pos p) W) *ℤ pos W -ℤ A *ℤ pos w) < W
near_one A W p w h =
    let x = floor (A *ℤ pos (p + w)) W in
    let y = floor (A *ℤ pos p) W in
    let a = floor_parts (A *ℤ pos (p + w)) W h in
    let b = floor_parts (A *ℤ pos p) W h in
    let t = diff_times x y W in
    let s = x -ℤ y in
    omega (arith, ints, product_is s (pos W), product_is A (pos (p + w)), product_is A (pos p), product_is A (pos w), mul-add (up A) p w, mul-add (down A) p w)

pub share_near : (A : ℤ) (n : ℕ) (g : ℕ → ℕ) (i : ℕ) → 0 < sumℕ n g → nat_abs (share A n g i *ℤ pos (sumℕ n g) -ℤ A *ℤ pos (g i)) < sumℕ n g
share_near A n g i h = near_one A (sumℕ n g) (sumℕ i g) (g i) h

pub share_nothing : (A : ℤ) (n : ℕ) (g : ℕ → ℕ) (i : ℕ) → g i ≡ 0 → share A n g i ≡ pos 0
share_nothing A n g i e =
    let F : ℕ → ℤ = λ k. floor (A *ℤ pos k) (sumℕ n g) in
    let same : F (sumℕ i g + g i) ≡ F (sumℕ i g) = ap F (omega arith) in
    omega (arith, ints)

pub share_fair : (A : ℤ) (n : ℕ) (g : ℕ → ℕ) → 0 < sumℕ n g → Fair A n g (share A n g)
share_fair A n g h = record { adds = shares_add A n g h; near = λ i _. share_near A n g i h; nothing = λ i _ e. share_nothing A n g i e }

-- equal weights give equal shares
pub share_same : (A : ℤ) (n : ℕ) (f g : ℕ → ℕ) (i : ℕ) → i < n → ((k : ℕ) → k < n → f k ≡ g k) → share A n f i ≡ share A n g i
share_same A n f g i h e =
    let here : sumℕ (suc i) f ≡ sumℕ (suc i) g = sumℕ_same (suc i) f g (λ k l. e k (omega arith)) in
    let before : sumℕ i f ≡ sumℕ i g = sumℕ_same i f g (λ k l. e k (omega arith)) in
    let all : sumℕ n f ≡ sumℕ n g = sumℕ_same n f g e in
    let F : ℕ → ℕ → ℕ → ℤ = λ x y z. floor (A *ℤ pos x) z -ℤ floor (A *ℤ pos y) z in
    ap (λ x. F x (sumℕ i f) (sumℕ n f)) here ∙ ap (λ y. F (sumℕ (suc i) g) y (sumℕ n f)) before ∙ ap (λ z. F (sumℕ (suc i) g) (sumℕ i g) z) all

-- ---- between nought and the amount

grows : (a p q : ℕ) → p ≤ q → (pos a *ℤ pos p) ≤ℤ (pos a *ℤ pos q)
grows a p q h = at_most_in _ _ (omega (arith, mul-le-mul_left a h))

falls : (a p q : ℕ) → p ≤ q → (negsuc a *ℤ pos q) ≤ℤ (negsuc a *ℤ pos p)
falls a p q h =
    at_most_in _ _ (omega (arith, mul-le-mul_left (suc a) h, product_is (negsuc a) (pos p), product_is (negsuc a) (pos q)))

-- what is given between two weights of W lies between nought and the amount
pub between_toward : (A : ℤ) (W p q : ℕ) → 0 < W → p ≤ q → q ≤ W → Toward A (floor (A *ℤ pos q) W -ℤ floor (A *ℤ pos p) W)
between_toward (pos a) W p q h l m =
    let F : ℕ → ℤ = λ k. floor (pos a *ℤ pos k) W in
    let low : F 0 ≡ pos 0 = floor_nought (pos a) W h in
    let one : F 0 ≤ℤ F p = floor_mono _ _ W h (grows a 0 p (omega arith)) in
    let two : F p ≤ℤ F q = floor_mono _ _ W h (grows a p q l) in
    let three : F q ≤ℤ F W = floor_mono _ _ W h (grows a q W m) in
    let high : F W ≡ pos a = floor_whole (pos a) W h in
    (omega (arith, ints), omega (arith, ints))
between_toward (negsuc a) W p q h l m =
    let F : ℕ → ℤ = λ k. floor (negsuc a *ℤ pos k) W in
    let low : F 0 ≡ pos 0 = floor_nought (negsuc a) W h in
    let one : F p ≤ℤ F 0 = floor_mono _ _ W h (falls a 0 p (omega arith)) in
    let two : F q ≤ℤ F p = floor_mono _ _ W h (falls a p q l) in
    let three : F W ≤ℤ F q = floor_mono _ _ W h (falls a q W m) in
    let high : F W ≡ negsuc a = floor_whole (negsuc a) W h in
    (omega (arith, ints), omega (arith, ints))

pub share_toward : (A : ℤ) (n : ℕ) (g : ℕ → ℕ) (i : ℕ) → 0 < sumℕ n g → i < n → Toward A (share A n g i)
share_toward A n g i h l =
    between_toward A (sumℕ n g) (sumℕ i g) (sumℕ (suc i) g) h (omega arith) (sumℕ_grows (suc i) n g (omega arith))

-- a natural amount gives natural shares
pub share_natural : (a n : ℕ) (g : ℕ → ℕ) (i : ℕ) → 0 < sumℕ n g → i < n → share (pos a) n g i ≡ pos (a * sumℕ (suc i) g / sumℕ n g - a * sumℕ i g / sumℕ n g)
share_natural a n g i h l = let t = share_toward (pos a) n g i h l in omega (arith, ints)

-- ---- the same of a row of shares

row_at : (A : ℤ) (ws : List ℕ) (row : List ℤ) → row ≡ shares A ws → (i : ℕ) → i < length ws → at row i ≡ share A (length ws) (atℕ ws) i
row_at A ws row e i h = ap (λ zs. at zs i) e ∙ at_row (length ws) (share A (length ws) (atℕ ws)) i h

pub row_fair : (A : ℤ) (ws : List ℕ) (row : List ℤ) → 0 < whole ws → row ≡ shares A ws → Fair A (length ws) (atℕ ws) (at row)
row_fair A ws row h e =
    let n = length ws in
    let g = atℕ ws in
    let is = row_at A ws row e in
    record {
      adds = sum_same n (at row) (share A n g) is ∙ shares_add A n g h;
      near = λ i l. subst (λ (z : ℤ). nat_abs (z *ℤ pos (sumℕ n g) -ℤ A *ℤ pos (g i)) < sumℕ n g) (sym (is i l)) (share_near A n g i h);
      nothing = λ i l z. is i l ∙ share_nothing A n g i z;
    }

pub row_toward : (A : ℤ) (ws : List ℕ) (row : List ℤ) → 0 < whole ws → row ≡ shares A ws → (i : ℕ) → i < length ws → Toward A (at row i)
row_toward A ws row h e i l =
    subst (Toward A) (sym (row_at A ws row e i l)) (share_toward A (length ws) (atℕ ws) i h l)
