-- What a ledger stands for: the records that stand, in their order, how many of them are of a closed phase, and how many there
-- may be. Assumes nothing.
use Rattle.std.specs.Prelude.{◌≡◌, ℕ, ◌<◌, ◌≤◌, List, [], ◌∷◌, ◌++◌, length, take, Some, None, Ok, Err, Option, Result, slice_index_or, slice_set}
use Rattle.refusals.specs.declared.Cause.{Cause}
use Rattle.refusals.specs.declared.Cause.TheVariants.{LedgerFull, RecordNotOpen}
use Rattle.ledgers.specs.declared.records.ClosedLedger.{ClosedLedger}
use Rattle.ledgers.specs.declared.records.Ledger.{Ledger}

pub record Book (P : Type 0) : Type 0 where
  pub capacity : ℕ
  pub mark : ℕ
  pub items : List P

-- the first so many of a slice stand
abbrev pub front_book : {P : Type 0} → List P → ℕ → ℕ → Book P
front_book xs len at_mark = record { capacity = length xs; mark = at_mark; items = take len xs }

abbrev pub book : {P : Type 0} → Ledger P → Book P
book l = front_book l.records.now l.len l.mark

abbrev pub closed_book : {P : Type 0} → ClosedLedger P → Book P
closed_book l = front_book l.records.now l.len l.mark

-- both hold the same lent slice, at the same place in memory
abbrev pub SameSlice : {P : Type 0} → Ledger P → Ledger P → Type 0
SameSlice old new = (new.records.ghost_name ≡ old.records.ghost_name) × (new.records.ref_ptr ≡ old.records.ref_ptr)

abbrev pub empty : (P : Type 0) → ℕ → Book P
empty P n = record { capacity = n; mark = 0; items = [] }

abbrev pub closed : {P : Type 0} → Book P → Book P
closed b = record { capacity = b.capacity; mark = length b.items; items = b.items }

-- the same book with other records
abbrev pub holding : {P : Type 0} → Book P → List P → Book P
holding b xs = record { capacity = b.capacity; mark = b.mark; items = xs }

-- the record of a number is one of the open phase
abbrev pub IsOpen : {P : Type 0} → Book P → ℕ → Type 0
IsOpen b i = (b.mark ≤ i) × (i < length b.items)

-- a record is added at the end and answered by its number, where there is room
abbrev pub Appended : {P : Type 0} → Book P → P → Result ℕ Cause → Book P → Type 0
Appended b x (Ok i) e = (length b.items < b.capacity) × (i ≡ length b.items) × (e ≡ holding b (b.items ++ (x ∷ [])))
Appended b x (Err c) e = (c ≡ LedgerFull) × (b.capacity ≤ length b.items) × (e ≡ b)

-- the record of a number is amended by f, where it is one of the open phase
abbrev pub Amended : {P : Type 0} → (P → ℕ → P) → Book P → ℕ → ℕ → Result (Unit {0}) Cause → Book P → Type 0
Amended {P} f b i m (Ok _) e = (b.mark ≤ i) × (i < length b.items) × ((d : P) → e ≡ holding b (slice_set b.items i (f (slice_index_or b.items i d) m)))
Amended f b i m (Err c) e = (c ≡ RecordNotOpen) × (b.mark ≤ i → i < length b.items → ⊥) × (e ≡ b)

abbrev pub OpenAt : {P : Type 0} → Book P → ℕ → Option P → Type 0
OpenAt {P} b i (Some x) = (b.mark ≤ i) × (i < length b.items) × ((d : P) → x ≡ slice_index_or b.items i d)
OpenAt b i None = b.mark ≤ i → i < length b.items → ⊥
