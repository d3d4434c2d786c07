-- Quotients rounded down. Assumes nothing.
use Rattle.std.proofs.Common.{◌≡◌, ℕ, suc, ◌+◌, ◌-◌, ◌*◌, ◌/◌, ◌%◌, ◌<◌, ◌≤◌, ◌⊎◌, ℤ, pos, negsuc, ◌+ℤ◌, ◌*ℤ◌, ◌≤ℤ◌, refl, ap, inl, inr, suc-mul, add-mul, lt_of_mul-lt-mul_right, one-mul, div-add-mod', arith}
use borrow.Author.Differences.{up, down, le_out, at_most_in, below_in, product_is, sum_is_lem}
use Rattle.std.proofs.lemmas.Int.{ints}
use Rattle.std.proofs.lemmas.Nat.{mod_below}
use Rattle.std.proofs.lemmas.Bool.Decides.{leb_tells}
use Rattle.std.specs.Int.{int_div_euclid}
use Rattle.quantities.specs.Rounding.{floor, RoundedDown}

-- what is left over
abbrev pub floor_mod : ℤ → ℕ → ℕ
floor_mod (pos a) w = a % w
floor_mod (negsuc a) w = w - suc (a % w)

-- z is q times w and a rest below w; z is read as `up z - down z`
pub record Parted (z q : ℤ) (w r : ℕ) : Type 0 where
  pub whole : up z + down q * w ≡ up q * w + down z + r
  pub rest : r < w

pub floor_parts : (z : ℤ) (w : ℕ) → 0 < w → Parted z (floor z w) w (floor_mod z w)
floor_parts (pos a) w h = record { whole = omega (arith, div-add-mod' a w); rest = mod_below a w h }
floor_parts (negsuc a) w h =
    record { whole = omega (arith, div-add-mod' a w, mod_below a w h, suc-mul (a / w) w); rest = omega (arith, mod_below a w h) }

-- the order of two numbers gives that of their quotients
pub parted_le : (y z p q : ℤ) (w r s : ℕ) → Parted y p w r → Parted z q w s → y ≤ℤ z → p ≤ℤ q
parted_le y z p q w r s a b h =
    let wide : (up p + down q) * w < (up q + down p + 1) * w = omega (arith, a.whole, a.rest, b.whole, b.rest, le_out y z h, add-mul (up p) (down q) w, add-mul (up q + down p) 1 w, add-mul (up q) (down p) w, one-mul w) in
    at_most_in p q (omega (arith, lt_of_mul-lt-mul_right w wide))

pub floor_mono : (y z : ℤ) (w : ℕ) → 0 < w → y ≤ℤ z → floor y w ≤ℤ floor z w
floor_mono y z w h le = parted_le y z _ _ w _ _ (floor_parts y w h) (floor_parts z w h) le

-- a quotient with a rest below w is the quotient
pub floor_unique : (z q : ℤ) (w r : ℕ) → 0 < w → Parted z q w r → floor z w ≡ q
floor_unique z q w r h a =
    let b = floor_parts z w h in
    let same : z ≤ℤ z = at_most_in z z (omega arith) in
    let one : floor z w ≤ℤ q = parted_le z z _ _ w _ _ b a same in
    let two : q ≤ℤ floor z w = parted_le z z _ _ w _ _ a b same in
    omega (arith, ints)

pub floor_whole : (A : ℤ) (w : ℕ) → 0 < w → floor (A *ℤ pos w) w ≡ A
floor_whole A w h = floor_unique (A *ℤ pos w) A w 0 h (record { whole = omega (arith, product_is A (pos w)); rest = h })

pub floor_nought : (A : ℤ) (w : ℕ) → 0 < w → floor (A *ℤ pos 0) w ≡ pos 0
floor_nought A w h = floor_unique (A *ℤ pos 0) (pos 0) w 0 h (record { whole = omega (arith, product_is A (pos 0)); rest = h })

-- in the words of the specs
pub floor_rounds : (z : ℤ) (w : ℕ) → 0 < w → RoundedDown z w (floor z w)
floor_rounds z w h =
    let p = floor_parts z w h in
    let q = floor z w in
    record {
      under = at_most_in _ _ (omega (arith, p.whole, p.rest, product_is q (pos w)));
      over = below_in _ _ (omega (arith, p.whole, p.rest, product_is q (pos w), sum_is_lem (q *ℤ pos w) (pos w)));
    }

-- `div_euclid` by a number above nought rounds down
pub euclid_floor : (z : ℤ) (w : ℕ) → int_div_euclid z (pos w) ≡ floor z w
euclid_floor (pos a) w = refl
euclid_floor (negsuc a) w = refl

-- a sum times w, in the parts that `omega` reads
sum_times_parts : (a b : ℤ) (w : ℕ) → up (a +ℤ b) * w + down a * w + down b * w ≡ down (a +ℤ b) * w + up a * w + up b * w
sum_times_parts a b w =
    let s = a +ℤ b in
    let e : up s + down a + down b ≡ down s + up a + up b = omega (arith, ints) in
    let t : (up s + down a + down b) * w ≡ (down s + up a + up b) * w = ap (λ n. n * w) e in
    omega (arith, add-mul (up s + down a) (down b) w, add-mul (up s) (down a) w, add-mul (down s + up a) (up b) w, add-mul (down s) (up a) w)

-- the sum of two quotients with their rests, where the rests make less than one more
parted_sum : (y z p q : ℤ) (w r s : ℕ) → Parted y p w r → Parted z q w s → r + s < w → Parted (y +ℤ z) (p +ℤ q) w (r + s)
parted_sum y z p q w r s a b h =
    record { whole = omega (arith, ints, a.whole, b.whole, sum_times_parts p q w); rest = h }

-- the same, where they make one more
parted_over : (y z p q : ℤ) (w r s : ℕ) → Parted y p w r → Parted z q w s → w ≤ r + s → r + s - w < w → Parted (y +ℤ z) (p +ℤ q +ℤ pos 1) w (r + s - w)
parted_over y z p q w r s a b h k =
    record { whole = omega (arith, ints, a.whole, b.whole, sum_times_parts p q w, sum_times_parts (p +ℤ q) (pos 1) w, one-mul w); rest = k }

-- a sum rounded down is the sum of what was rounded down, or one more
pub floor_sum : (y z : ℤ) (w : ℕ) → 0 < w → (floor (y +ℤ z) w ≡ floor y w +ℤ floor z w) ⊎ (floor (y +ℤ z) w ≡ floor y w +ℤ floor z w +ℤ pos 1)
floor_sum y z w h =
    let a = floor_parts y w h in
    let b = floor_parts z w h in
    let r = floor_mod y w in
    let s = floor_mod z w in
    elim (leb_tells w (r + s)) [
      | inl over ↦ inr (floor_unique _ _ w (r + s - w) h (parted_over y z _ _ w r s a b over.1 (omega (arith, a.rest, b.rest, over.1))))
      | inr under ↦ inl (floor_unique _ _ w (r + s) h (parted_sum y z _ _ w r s a b under.1))
    ]
