-- The most records of one ledger of an hour. Assumes nothing.
use Rattle.std.specs.Prelude.{ℕ}

abbrev pub most_records : ℕ
most_records = 4096
