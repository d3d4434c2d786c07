-- The laws of sums over indices and over lists. Assumes nothing.
use Rattle.std.proofs.Common.{◌≡◌, ℕ, zero, suc, ◌+◌, ◌<◌, ◌≤◌, List, [], ◌∷◌, ◌++◌, length, ℤ, pos, ◌+ℤ◌, ◌-ℤ◌, ◌*ℤ◌, sym, refl, ap, ◌∙◌, ⊎_elim, zero-add, add-one, arith}
use lib.IntN.{*ℤ_comm, *ℤ-zero, zero-*ℤ}
use borrow.Author.Differences.{ints}
use Rattle.std.proofs.lemmas.List.FromFn.{get_or-map-range_with_len, length-map-range_with_len}
use Rattle.std.specs.List.{AllByRecursion}
use Rattle.std.proofs.lemmas.Bool.{cases_lt}
use Rattle.std.proofs.lemmas.Bool.Decides.{nat_tests}
use Rattle.quantities.specs.Sums.{sum, sumℕ, sum_of, count_of, same, at, atℕ, row_of}
use Rattle.quantities.proofs.Ring.{one-*ℤ, *ℤ-+ℤ}

-- ---- over the first n indices

-- equal terms below n
pub sum_same : (n : ℕ) (f g : ℕ → ℤ) → ((i : ℕ) → i < n → f i ≡ g i) → sum n f ≡ sum n g
sum_same zero f g e = refl
sum_same (suc n) f g e =
    let before : sum n f ≡ sum n g = sum_same n f g (λ i h. e i (omega arith)) in
    let here : f n ≡ g n = e n (omega arith) in
    omega (arith, ints)

-- equal terms everywhere
pub sum_ext : (n : ℕ) (f g : ℕ → ℤ) → ((i : ℕ) → f i ≡ g i) → sum n f ≡ sum n g
sum_ext n f g e = sum_same n f g (λ i _. e i)

pub sum_zero : (n : ℕ) → sum n (λ _. pos 0) ≡ pos 0
sum_zero zero = refl
sum_zero (suc n) = let before = sum_zero n in omega (arith, ints)

pub sum_add : (n : ℕ) (f g : ℕ → ℤ) → sum n (λ i. f i +ℤ g i) ≡ sum n f +ℤ sum n g
sum_add zero f g = refl
sum_add (suc n) f g = let before = sum_add n f g in omega (arith, ints)

pub sum_sub : (n : ℕ) (f g : ℕ → ℤ) → sum n (λ i. f i -ℤ g i) ≡ sum n f -ℤ sum n g
sum_sub zero f g = refl
sum_sub (suc n) f g = let before = sum_sub n f g in omega (arith, ints)

-- a constant factor
pub sum_times : (n : ℕ) (c : ℤ) (f : ℕ → ℤ) → sum n (λ i. c *ℤ f i) ≡ c *ℤ sum n f
sum_times zero c f = sym (*ℤ-zero c)
sum_times (suc n) c f = ap (λ s. s +ℤ c *ℤ f n) (sum_times n c f) ∙ sym (*ℤ-+ℤ c (sum n f) (f n))

pub sum_times_right : (n : ℕ) (f : ℕ → ℤ) (c : ℤ) → sum n (λ i. f i *ℤ c) ≡ sum n f *ℤ c
sum_times_right n f c =
    sum_ext n (λ i. f i *ℤ c) (λ i. c *ℤ f i) (λ i. *ℤ_comm (f i) c) ∙ sum_times n c f ∙ *ℤ_comm c (sum n f)

-- the order of two sums
pub sum_swap : (m n : ℕ) (f : ℕ → ℕ → ℤ) → sum m (λ i. sum n (λ j. f i j)) ≡ sum n (λ j. sum m (λ i. f i j))
sum_swap zero n f = sym (sum_zero n)
sum_swap (suc m) n f =
    ap (λ s. s +ℤ sum n (f m)) (sum_swap m n f) ∙ sym (sum_add n (λ j. sum m (λ i. f i j)) (f m))

-- differences from step to step add up to the difference of the ends
pub telescope : (n : ℕ) (g : ℕ → ℤ) → sum n (λ i. g (suc i) -ℤ g i) ≡ g n -ℤ g 0
telescope zero g = omega (arith, ints)
telescope (suc n) g = let before = telescope n g in omega (arith, ints)

same_here : (a b : ℕ) → a ≡ b → same a b ≡ 1
same_here a b e = grind (arith, nat_tests)

same_apart : (a b : ℕ) → (a ≡ b → ⊥) → same a b ≡ 0
same_apart a b d = grind (arith, nat_tests)

sum_pick_none : (n : ℕ) (f : ℕ → ℤ) (b : ℕ) → n ≤ b → sum n (λ i. pos (same b i) *ℤ f i) ≡ pos 0
sum_pick_none n f b h =
    sum_same n _ (λ _. pos 0) (λ i l. ap (λ k. pos k *ℤ f i) (same_apart b i (λ e. omega arith)) ∙ zero-*ℤ (f i)) ∙ sum_zero n

-- terms that are nought from n on add nothing
pub sum_past : (n k : ℕ) (f : ℕ → ℤ) → n ≤ k → ((i : ℕ) → n ≤ i → f i ≡ pos 0) → sum k f ≡ sum n f
sum_past n zero f h none = let e : 0 ≡ n = omega arith in ap (λ j. sum j f) e
sum_past n (suc k) f h none = ⊎_elim
    (λ l. let before = sum_past n k f (omega arith) none in let here = none k (omega arith) in omega (arith, ints))
    (λ g. let e : suc k ≡ n = omega arith in ap (λ j. sum j f) e)
    (cases_lt n (suc k))

-- the one term that is picked out
pub sum_pick : (n : ℕ) (f : ℕ → ℤ) (b : ℕ) → b < n → sum n (λ i. pos (same b i) *ℤ f i) ≡ f b
sum_pick zero f b h = absurd (omega arith)
sum_pick (suc n) f b h = ⊎_elim
    (λ l.
    let some = sum_pick n f b l in
    let none : pos (same b n) *ℤ f n ≡ pos 0 = ap (λ k. pos k *ℤ f n) (same_apart b n (λ e. omega arith)) ∙ zero-*ℤ (f n) in
    omega (arith, ints))
    (λ g.
    let e : b ≡ n = omega arith in
    let none = sum_pick_none n f b g in
    let here : pos (same b n) *ℤ f n ≡ f b = ap (λ k. pos k *ℤ f n) (same_here b n e) ∙ one-*ℤ (f n) ∙ ap f (sym e) in
    omega (arith, ints))
    (cases_lt b n)

-- whole numbers that are not below nought
pub sumℕ_same : (n : ℕ) (f g : ℕ → ℕ) → ((i : ℕ) → i < n → f i ≡ g i) → sumℕ n f ≡ sumℕ n g
sumℕ_same zero f g e = refl
sumℕ_same (suc n) f g e =
    let before : sumℕ n f ≡ sumℕ n g = sumℕ_same n f g (λ i h. e i (omega arith)) in
    let here : f n ≡ g n = e n (omega arith) in
    omega arith

pub sumℕ_grows : (m n : ℕ) (g : ℕ → ℕ) → m ≤ n → sumℕ m g ≤ sumℕ n g
sumℕ_grows m zero g h = let e : m ≡ 0 = omega arith in let z : sumℕ m g ≡ 0 = ap (λ k. sumℕ k g) e in omega arith
sumℕ_grows m (suc n) g h = ⊎_elim
    (λ l. let before = sumℕ_grows m n g (omega arith) in omega arith)
    (λ k. let e : m ≡ suc n = omega arith in let z : sumℕ m g ≡ sumℕ (suc n) g = ap (λ j. sumℕ j g) e in omega arith)
    (cases_lt m (suc n))

pub sum_pos : (n : ℕ) (g : ℕ → ℕ) → sum n (λ i. pos (g i)) ≡ pos (sumℕ n g)
sum_pos zero g = refl
sum_pos (suc n) g = let before = sum_pos n g in omega (arith, ints)

-- ---- over a list

module _ {A : Type 0} where
  pub sum_of_append : (f : A → ℤ) (xs ys : List A) → sum_of f (xs ++ ys) ≡ sum_of f xs +ℤ sum_of f ys
  sum_of_append f [] ys = omega (arith, ints)
  sum_of_append f (x ∷ xs) ys = let rest = sum_of_append f xs ys in omega (arith, ints)

  pub count_append : (f : A → ℕ) (xs ys : List A) → count_of f (xs ++ ys) ≡ count_of f xs + count_of f ys
  count_append f [] ys = omega arith
  count_append f (x ∷ xs) ys = let rest = count_append f xs ys in omega arith

  -- one more at the end, and one in the middle
  pub count_push : (f : A → ℕ) (xs : List A) (x : A) → count_of f (xs ++ (x ∷ [])) ≡ count_of f xs + f x
  count_push f xs x = let h = count_append f xs (x ∷ []) in omega arith

  pub count_middle : (f : A → ℕ) (before : List A) (x : A) (after : List A) → count_of f (before ++ (x ∷ after)) ≡ count_of f before + (f x + count_of f after)
  count_middle f before x after = count_append f before (x ∷ after)

  pub sum_of_pos : (f : A → ℕ) (xs : List A) → sum_of (λ x. pos (f x)) xs ≡ pos (count_of f xs)
  sum_of_pos f [] = refl
  sum_of_pos f (x ∷ xs) = let rest = sum_of_pos f xs in omega (arith, ints)

  pub sum_of_add : (f g : A → ℤ) (xs : List A) → sum_of (λ x. f x +ℤ g x) xs ≡ sum_of f xs +ℤ sum_of g xs
  sum_of_add f g [] = refl
  sum_of_add f g (x ∷ xs) = let rest = sum_of_add f g xs in omega (arith, ints)

  pub sum_of_sub : (f g : A → ℤ) (xs : List A) → sum_of (λ x. f x -ℤ g x) xs ≡ sum_of f xs -ℤ sum_of g xs
  sum_of_sub f g [] = refl
  sum_of_sub f g (x ∷ xs) = let rest = sum_of_sub f g xs in omega (arith, ints)

  pub sum_of_times : (c : ℤ) (f : A → ℤ) (xs : List A) → sum_of (λ x. c *ℤ f x) xs ≡ c *ℤ sum_of f xs
  sum_of_times c f [] = sym (*ℤ-zero c)
  sum_of_times c f (x ∷ xs) = ap (λ s. c *ℤ f x +ℤ s) (sum_of_times c f xs) ∙ sym (*ℤ-+ℤ c (f x) (sum_of f xs))

  -- equal terms at elements of which P holds
  pub sum_of_same : (P : A → Type 0) (f g : A → ℤ) → ((x : A) → P x → f x ≡ g x) → (xs : List A) → AllByRecursion P xs → sum_of f xs ≡ sum_of g xs
  sum_of_same P f g e [] h = refl
  sum_of_same P f g e (x ∷ xs) h =
      let here : f x ≡ g x = e x h.0 in
      let rest = sum_of_same P f g e xs h.1 in
      omega (arith, ints)

  -- a sum over indices and one over a list change places
  pub sum_of_swap : (n : ℕ) (f : ℕ → A → ℤ) (xs : List A) → sum n (λ i. sum_of (f i) xs) ≡ sum_of (λ x. sum n (λ i. f i x)) xs
  sum_of_swap n f [] = sum_zero n
  sum_of_swap n f (x ∷ xs) =
      sum_add n (λ i. f i x) (λ i. sum_of (f i) xs) ∙ ap (λ z. sum n (λ i. f i x) +ℤ z) (sum_of_swap n f xs)

-- ---- between lists and indices

-- one more term
pub sum_more : (k : ℕ) (f : ℕ → ℤ) → sum (k + 1) f ≡ sum k f +ℤ f k
sum_more k f = rw add-one refl

pub sumℕ_more : (k : ℕ) (g : ℕ → ℕ) → sumℕ (k + 1) g ≡ sumℕ k g + g k
sumℕ_more k g = rw add-one refl

-- the first term apart
pub sum_first : (n : ℕ) (f : ℕ → ℤ) → sum (suc n) f ≡ f 0 +ℤ sum n (λ k. f (suc k))
sum_first zero f = omega (arith, ints)
sum_first (suc n) f = let before = sum_first n f in omega (arith, ints)

pub sumℕ_first : (n : ℕ) (g : ℕ → ℕ) → sumℕ (suc n) g ≡ g 0 + sumℕ n (λ k. g (suc k))
sumℕ_first zero g = omega arith
sumℕ_first (suc n) g = let before = sumℕ_first n g in omega arith

-- what a list adds to, place by place
pub sum_at : (zs : List ℤ) → sum_of (λ z. z) zs ≡ sum (length zs) (at zs)
sum_at [] = refl
sum_at (z ∷ zs) = let rest = sum_at zs in let apart = sum_first (length zs) (at (z ∷ zs)) in omega (arith, ints)

pub count_at : (ns : List ℕ) → count_of (λ n. n) ns ≡ sumℕ (length ns) (atℕ ns)
count_at [] = refl
count_at (n ∷ ns) = let rest = count_at ns in let apart = sumℕ_first (length ns) (atℕ (n ∷ ns)) in omega arith

-- what stands at a place of a row
pub at_row : (n : ℕ) (f : ℕ → ℤ) (i : ℕ) → i < n → at (row_of n f) i ≡ f i
at_row n f i h = get_or-map-range_with_len f 0 n i i (pos 0) h (zero-add i)

pub length_row : {A : Type 0} (n : ℕ) (f : ℕ → A) → length (row_of n f) ≡ n
length_row n f = length-map-range_with_len f 0 n

-- what a row adds to
pub sum_of_row : (n : ℕ) (f : ℕ → ℤ) → sum_of (λ z. z) (row_of n f) ≡ sum n f
sum_of_row n f =
    let t = ap (λ k. sum k (at (row_of n f))) (length_row n f) in
    sum_at (row_of n f) ∙ t ∙ sum_same n (at (row_of n f)) f (λ i h. at_row n f i h)
