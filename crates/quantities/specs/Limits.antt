-- The most buses of an hour, and of a network. Assumes nothing.
use Rattle.std.specs.Prelude.{ℕ}

abbrev pub most_buses : ℕ
most_buses = 32
