-- The loads of an area, and when they are refused. Assumes nothing.
use Rattle.std.specs.Prelude.{◌≡◌, ℕ, ◌+◌, ◌<◌, ◌≤◌, ◌≢◌, List, [], ◌∷◌, map, length, ℤ, Ok, Err, Result, slice_index_or}
use Rattle.refusals.specs.declared.Cause.{Cause}
use Rattle.refusals.specs.declared.Cause.TheVariants.{BusOutOfRange, LedgerFull, AreaNotWhole}
use Rattle.apportion.specs.Split.{whole}
use Rattle.apportion.specs.declared.items.AreaMember.{AreaMember}
use Rattle.ledgers.specs.Book.{Book}
use Rattle.ledgers.specs.Limits.{most_records}
use Rattle.positions.specs.declared.bus_positions.BusPosition.{BusPosition}
use Rattle.positions.specs.declared.classes.Class.TheVariants.{Load}

abbrev pub shares_by : List AreaMember → List ℕ
shares_by ms = map (λ m. m.share) ms

-- in place of a member that is not there
abbrev pub nowhere : AreaMember
nowhere = record { bus = 0; share = 0 }

-- one load for each member, with its share of the split
abbrev pub loads : ℕ → List AreaMember → List ℤ → List BusPosition
loads who [] [] = []
loads who [] (z ∷ zs) = []
loads who (m ∷ ms) [] = []
loads who (m ∷ ms) (z ∷ zs) = record { participant = who; class = Load; bus = m.bus; megawatts = record { 0 = z } } ∷ loads who ms zs

-- ---- what is weighed

abbrev pub MembersPlaced : ℕ → List AreaMember → Type 0
MembersPlaced n ms = (i : ℕ) → i < length ms → (slice_index_or ms i nowhere).bus < n

abbrev pub MembersWeighed : ℕ → List AreaMember → Result (Unit {0}) Cause → Type 0
MembersWeighed n ms (Ok _) = MembersPlaced n ms
MembersWeighed n ms (Err c) = (c ≡ BusOutOfRange) × ((i : ℕ) × (i < length ms) × (n ≤ (slice_index_or ms i nowhere).bus))

abbrev pub SharesWeighed : {A : Type 0} → List AreaMember → Result A Cause → Type 0
SharesWeighed ms (Ok _) = whole (shares_by ms) ≡ 10000
SharesWeighed ms (Err c) = (c ≡ AreaNotWhole) × (whole (shares_by ms) ≢ 10000)

-- no more members are taken than an hour's ledger can have records
pub data AreaRefused (b : Book BusPosition) (ms : List AreaMember) : Cause → Type 0 where
  many_members : most_records < length ms → AreaRefused b ms LedgerFull
  no_room : b.capacity < length b.items + length ms → AreaRefused b ms LedgerFull
  not_whole : whole (shares_by ms) ≢ 10000 → AreaRefused b ms AreaNotWhole
