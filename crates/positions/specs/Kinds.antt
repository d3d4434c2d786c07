-- What a bus position and a transaction mean, and what amending them gives. Assumes nothing.
use Rattle.std.specs.Prelude.{List, ◌++◌, map, ℕ, ◌*◌, pos, ◌-ℤ◌, ◌*ℤ◌, nat_abs}
use Rattle.quantities.specs.Sums.{same}
use Rattle.quantities.specs.declared.kinds.Megawatts.{Megawatts}
use Rattle.positions.specs.Classes.{side_of, withdrawn, injected, net_withdrawal, loaded}
use Rattle.positions.specs.Posted.{Posted}
use Rattle.positions.specs.declared.classes.Class.{Class}
use Rattle.positions.specs.declared.classes.Side.TheVariants.{Transacting}
use Rattle.positions.specs.declared.bus_positions.BusPosition.{BusPosition}
use Rattle.positions.specs.declared.position.Ends.{Ends}
use Rattle.positions.specs.declared.transactions.Transaction.{Transaction}

-- the M of a record: whole tenths of a megawatt
abbrev pub tenths : Megawatts → ℕ
tenths m = nat_abs m.0

abbrev pub megawatts_of : ℕ → Megawatts
megawatts_of m = record { 0 = pos m }

-- ---- of so many tenths

abbrev pub position : ℕ → Class → ℕ → ℕ → BusPosition
position who kind at_bus m = record { participant = who; class = kind; bus = at_bus; megawatts = megawatts_of m }

abbrev pub transaction : ℕ → ℕ → ℕ → ℕ → Transaction
transaction who from to m = record { participant = who; source = from; sink = to; megawatts = megawatts_of m }

-- with another M
abbrev pub amended_position : BusPosition → ℕ → BusPosition
amended_position x m = position x.participant x.class x.bus m

abbrev pub amended_transaction : Transaction → ℕ → Transaction
amended_transaction x m = transaction x.participant x.source x.sink m

-- ---- what they mean

-- at its bus what its class says, and nought at every other
abbrev pub position_meaning : BusPosition → Posted
position_meaning x = record {
  participant = x.participant;
  megawatts = tenths x.megawatts;
  side = side_of x.class;
  withdraws = λ i. pos (same x.bus i) *ℤ net_withdrawal x.class (tenths x.megawatts);
  load = λ i. same x.bus i * loaded x.class (tenths x.megawatts);
}

-- M at the sink, and M less at the source
abbrev pub transaction_meaning : Transaction → Posted
transaction_meaning x = record {
  participant = x.participant;
  megawatts = tenths x.megawatts;
  side = Transacting;
  withdraws = λ i. (pos (same x.sink i) -ℤ pos (same x.source i)) *ℤ pos (tenths x.megawatts);
  load = λ i. 0;
}

-- the records of both kinds
abbrev pub posted : List BusPosition → List Transaction → List Posted
posted ps ts = map position_meaning ps ++ map transaction_meaning ts

-- ---- where they withdraw and inject

abbrev pub position_ends : BusPosition → Ends
position_ends x = record {
  sink = x.bus;
  withdrawn = withdrawn x.class (tenths x.megawatts);
  source = x.bus;
  injected = injected x.class (tenths x.megawatts);
  load = loaded x.class (tenths x.megawatts);
}

abbrev pub transaction_ends : Transaction → Ends
transaction_ends x = record { sink = x.sink; withdrawn = tenths x.megawatts; source = x.source; injected = tenths x.megawatts; load = 0 }
