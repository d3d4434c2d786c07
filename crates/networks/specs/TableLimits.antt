-- A table is refused where it is outside the limits, and what is within them keeps to the limits of a network. Assumes nothing.
use Rattle.std.specs.Prelude.{◌≡◌, ℕ, ◌+◌, ◌*◌, ◌<◌, ◌≤◌, ◌⊎◌, List, length, drop, ℤ, pos, ◌-ℤ◌, unsigned_abs, refl}
use Rattle.std.proofs.Common.{inl, inr, ⊎_elim, ap, ◌∙◌, mul-le-mul_right, suc-mul, arith, rules}
use Rattle.std.proofs.lemmas.Int.{ints}
use Rattle.std.proofs.lemmas.List.{get_or_past, get_or-take, get_or-drop, length-take, length-take-le, length-drop}
use Rattle.std.proofs.lemmas.Bool.{cases_lt, cases_eq, lt-ltb, le-ltb, and_right, cond-false}
use Rattle.refusals.specs.declared.Cause.{Cause}
use Rattle.refusals.specs.declared.Cause.TheVariants.{OutsideLimits}
use Rattle.refusals.specs.Answers.{First, Clear}
use Rattle.refusals.specs.Causes.{number}
use Rattle.quantities.specs.declared.kinds.Factor.{Factor}
use Rattle.quantities.specs.declared.kinds.ShadowPrice.{ShadowPrice}
use Rattle.quantities.specs.Limits.{most_buses}
use Rattle.networks.specs.Limits.{most_constraints, most_price, most_factor, most_spread}
use Rattle.networks.specs.Meaning.{SpreadMost}
use Rattle.networks.specs.Tables.{price_at, factor_at, table_meaning, TableRefused, no_bus, buses_over, constraints_over, price_over, other_length, factor_over, spread_over, factor_row, PricesWithin, FactorsWithin, Close, CloseTo, RowsClose, TableWithin}
use Rattle.networks.specs.Refused.{and_then, or_at_most, or_each, clear_within, outside_refused}

-- ---- the factors of one constraint

row_at : (n : ℕ) (fs : List Factor) (j i : ℕ) → i < n → factor_at (factor_row n fs j) i ≡ factor_at fs (j * n + i)
row_at n fs j i h =
    ap (λ (f : Factor). f.0) (get_or-take n (drop (j * n) fs) i (record { 0 = pos 0 }) h ∙ get_or-drop (j * n) fs i (record { 0 = pos 0 }))

-- a row ends within the factors
pub row_end : (n m j : ℕ) → j < m → j * n + n ≤ m * n
row_end n m j h = let grow = mul-le-mul_right n h in omega (arith, grow, suc-mul j n)

row_length : (n m : ℕ) (fs : List Factor) (j : ℕ) → length fs ≡ m * n → j < m → length (factor_row n fs j) ≡ n
row_length n m fs j e h =
    length-take-le n (drop (j * n) fs) (rw length-drop (let end = row_end n m j h in omega arith))

row_short : (n : ℕ) (fs : List Factor) (j i : ℕ) → i < length (factor_row n fs j) → i < n
row_short n fs j i h = let short = length-take n (drop (j * n) fs) in omega arith

-- ---- refused or within

module _ (n : ℕ) (ps : List ShadowPrice) (fs : List Factor) where
  -- how far apart the factors of j at i and k lie
  abbrev apart : ℕ → ℕ → ℕ → ℕ
  apart j i k = unsigned_abs (factor_at fs (j * n + i) -ℤ factor_at fs (j * n + k))

  -- the same, read in the row of j
  row_apart : (j i k : ℕ) → i < n → k < n → unsigned_abs (factor_at (factor_row n fs j) i -ℤ factor_at (factor_row n fs j) k) ≡ apart j i k
  row_apart j i k h l =
      ap (λ z. unsigned_abs (z -ℤ factor_at (factor_row n fs j) k)) (row_at n fs j i h) ∙ ap (λ z. unsigned_abs (factor_at fs (j * n + i) -ℤ z)) (row_at n fs j k l)

  rows_close : ((j : ℕ) → j < length ps → (i : ℕ) → i < n → (k : ℕ) → k < n → apart j i k ≤ most_spread) → RowsClose n (length ps) fs
  unfolding Close CloseTo
  rows_close h j a i b k c =
      let in_row = row_short n fs j in
      rw (row_apart j i k (in_row i b) (in_row k c)) (h j a i (in_row i b) k (in_row k c))

  pub decided : TableRefused n ps fs OutsideLimits ⊎ TableWithin n ps fs
  decided =
      and_then (or_at_most 1 n (λ l. no_bus (omega arith))) (λ a.
      and_then (or_at_most n most_buses buses_over) (λ b.
      and_then (or_at_most (length ps) most_constraints constraints_over) (λ c.
      and_then (or_each _ (length ps) (λ j h. or_at_most (unsigned_abs (price_at ps j)) most_price (price_over j h))) (λ p.
      and_then (⊎_elim inr (λ d. inl (other_length d)) (cases_eq (length fs) (length ps * n))) (λ w.
      and_then (or_each _ (length fs) (λ k h. or_at_most (unsigned_abs (factor_at fs k)) most_factor (factor_over k h))) (λ f.
      and_then (or_each _ (length ps) (λ j h. or_each _ n (λ i a. or_each _ n (λ k b. or_at_most (apart j i k) most_spread (spread_over j i k h a b))))) (λ s.
      inr (record { a_bus = a; buses = b; constraints = c; prices = p; whole = w; factors = f; spreads = rows_close s }))))))))

  -- how far apart two factors of one constraint lie
  spread_kept : TableWithin n ps fs → (j i k : ℕ) → j < length ps → i < n → k < n → apart j i k ≤ most_spread
  unfolding Close CloseTo
  spread_kept w j i k h a b =
      let long = row_length n (length ps) fs j w.whole h in
      let close = w.spreads j h i (omega arith) k (omega arith) in
      omega (arith, row_apart j i k a b)

  -- what is within the limits is not refused
  pub within_clear : TableWithin n ps fs → Clear (TableRefused n ps fs)
  within_clear w c (no_bus e) = omega (arith, w.a_bus)
  within_clear w c (buses_over l) = omega (arith, w.buses)
  within_clear w c (constraints_over l) = omega (arith, w.constraints)
  within_clear w c (price_over j h l) = omega (arith, w.prices j h)
  within_clear w c (other_length d) = d w.whole
  within_clear w c (factor_over k h l) = omega (arith, w.factors k h)
  within_clear w c (spread_over j i k h a b l) = omega (arith, spread_kept w j i k h a b)

  -- there is one cause
  pub least : (d : Cause) → TableRefused n ps fs d → 13 ≤ number d
  least d r = search rules

  pub refused : ¬ TableWithin n ps fs → First (TableRefused n ps fs) OutsideLimits
  refused = outside_refused _ _ decided least

  pub within : Clear (TableRefused n ps fs) → TableWithin n ps fs
  within = clear_within _ _ decided

-- ---- the limits of a network

pub price_past : (ps : List ShadowPrice) (j : ℕ) → length ps ≤ j → price_at ps j ≡ pos 0
price_past ps j h = ap (λ (p : ShadowPrice). p.0) (get_or_past ps j (record { 0 = pos 0 }) h)

pub price_most : (ps : List ShadowPrice) → PricesWithin ps → (j : ℕ) → unsigned_abs (price_at ps j) ≤ most_price
price_most ps within j = ⊎_elim (λ l. within j l) (λ g. let e = price_past ps j g in omega (arith, ints)) (cases_lt j (length ps))

module _ (n : ℕ) (ps : List ShadowPrice) (fs : List Factor) where
  abbrev told : ℕ → ℕ → ℤ
  told j i = (table_meaning n ps fs).factor j i

  beyond_constraints : (j i : ℕ) → length ps ≤ j → told j i ≡ pos 0
  beyond_constraints j i h = rw (le-ltb j (length ps) h) refl

  beyond_buses : (j i : ℕ) → n ≤ i → told j i ≡ pos 0
  beyond_buses j i h = cond-false _ _ _ (and_right _ _ (le-ltb i n h))

  -- nought beyond the counts, and what was given within them
  told_cases : (j i : ℕ) → (told j i ≡ pos 0) ⊎ ((j < length ps) × (i < n) × (told j i ≡ factor_at fs (j * n + i)))
  told_cases j i =
      ⊎_elim
      (λ a. ⊎_elim (λ b. inr (a, b, rw (lt-ltb j (length ps) a, lt-ltb i n b) refl)) (λ b. inl (beyond_buses j i b)) (cases_lt i n))
      (λ a. inl (beyond_constraints j i a))
      (cases_lt j (length ps))

  pub factor_most : length fs ≡ length ps * n → FactorsWithin fs → (j i : ℕ) → unsigned_abs (told j i) ≤ most_factor
  factor_most whole within j i =
      ⊎_elim (λ e. omega (arith, ints)) (λ t. let end = row_end n (length ps) j t.0 in let most = within (j * n + i) (omega (arith, t.1)) in omega (arith, ints, t.2)) (told_cases j i)

  pub spread_most : TableWithin n ps fs → SpreadMost (table_meaning n ps fs)
  spread_most w j i k =
      let a = factor_most w.whole w.factors j i in
      let b = factor_most w.whole w.factors j k in
      ⊎_elim (λ e. omega (arith, ints)) (λ t. ⊎_elim (λ e. omega (arith, ints)) (λ u.
      omega (arith, ints, t.2, u.2, spread_kept n ps fs w j i k t.0 t.1 u.1)) (told_cases j k)) (told_cases j i)
