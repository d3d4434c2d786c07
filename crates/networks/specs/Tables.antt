-- What a table of prices and factors means, and where it is refused. Assumes nothing.
use Rattle.std.specs.Prelude.{◌≡◌, ℕ, ◌+◌, ◌*◌, ◌<◌, ◌≤◌, if◌then◌else◌, ◌&&◌, ◌≢◌, List, length, take, drop, ℤ, pos, ◌-ℤ◌, nat_lt, slice_index_or, EachIndex, unsigned_abs}
use Rattle.refusals.specs.declared.Cause.{Cause}
use Rattle.refusals.specs.declared.Cause.TheVariants.{OutsideLimits}
use Rattle.quantities.specs.declared.kinds.Factor.{Factor}
use Rattle.quantities.specs.declared.kinds.ShadowPrice.{ShadowPrice}
use Rattle.quantities.specs.Limits.{most_buses}
use Rattle.networks.specs.Limits.{most_constraints, most_price, most_factor, most_spread}
use Rattle.networks.specs.Meaning.{Meaning}

-- the price at a place of a list, and the factor; nought past the end
abbrev pub price_at : List ShadowPrice → ℕ → ℤ
price_at ps j = (slice_index_or ps j (record { 0 = pos 0 })).0

abbrev pub factor_at : List Factor → ℕ → ℤ
factor_at fs k = (slice_index_or fs k (record { 0 = pos 0 })).0

-- n buses, the price of each constraint, and the factors constraint by constraint: that of j at i stands at place j × n + i
abbrev pub table_meaning : ℕ → List ShadowPrice → List Factor → Meaning
table_meaning n ps fs = record {
  buses = n;
  constraints = length ps;
  price = price_at ps;
  factor = λ j i. if nat_lt j (length ps) && nat_lt i n then factor_at fs (j * n + i) else pos 0;
}

-- ---- where such a table is refused

pub data TableRefused (n : ℕ) (ps : List ShadowPrice) (fs : List Factor) : Cause → Type 0 where
  no_bus : n ≡ 0 → TableRefused n ps fs OutsideLimits
  buses_over : most_buses < n → TableRefused n ps fs OutsideLimits
  constraints_over : most_constraints < length ps → TableRefused n ps fs OutsideLimits
  price_over : (j : ℕ) → j < length ps → most_price < unsigned_abs (price_at ps j) → TableRefused n ps fs OutsideLimits
  other_length : length fs ≢ length ps * n → TableRefused n ps fs OutsideLimits
  factor_over : (k : ℕ) → k < length fs → most_factor < unsigned_abs (factor_at fs k) → TableRefused n ps fs OutsideLimits
  spread_over : (j i k : ℕ) → j < length ps → i < n → k < n → most_spread < unsigned_abs (factor_at fs (j * n + i) -ℤ factor_at fs (j * n + k)) → TableRefused n ps fs OutsideLimits

-- ---- the same limits, kept

abbrev pub PricesWithin : List ShadowPrice → Type 0
PricesWithin ps = EachIndex ps (λ j. unsigned_abs (price_at ps j) ≤ most_price)

abbrev pub FactorsWithin : List Factor → Type 0
FactorsWithin fs = EachIndex fs (λ k. unsigned_abs (factor_at fs k) ≤ most_factor)

-- f lies close to each factor of a row; it and `Close` are unfolded by name alone
unfoldable pub CloseTo : ℤ → List Factor → Type 0
CloseTo f row = EachIndex row (λ k. unsigned_abs (f -ℤ factor_at row k) ≤ most_spread)

-- every two factors of a row lie close together
unfoldable pub Close : List Factor → Type 0
Close row = EachIndex row (λ i. CloseTo (factor_at row i) row)

-- the n factors of constraint j
abbrev pub factor_row : ℕ → List Factor → ℕ → List Factor
factor_row n fs j = take n (drop (j * n) fs)

abbrev pub RowsClose : ℕ → ℕ → List Factor → Type 0
RowsClose n m fs = (j : ℕ) → j < m → Close (factor_row n fs j)

pub record TableWithin (n : ℕ) (ps : List ShadowPrice) (fs : List Factor) : Type 0 where
  pub a_bus : 1 ≤ n
  pub buses : n ≤ most_buses
  pub constraints : length ps ≤ most_constraints
  pub prices : PricesWithin ps
  pub whole : length fs ≡ length ps * n
  pub factors : FactorsWithin fs
  pub spreads : RowsClose n (length ps) fs
