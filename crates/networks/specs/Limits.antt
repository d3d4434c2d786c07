-- The limits of a network, besides the most buses. Assumes nothing.
use Rattle.std.specs.Prelude.{ℕ}

abbrev pub most_constraints : ℕ
most_constraints = 8

-- of a shadow price, of a factor, and of the difference of two factors of one constraint, each above nought or below
abbrev pub most_price : ℕ
most_price = 500000

abbrev pub most_factor : ℕ
most_factor = 2000

abbrev pub most_spread : ℕ
most_spread = 2000
