-- What the hour's ledgers stand for in the register, and what its calls and answers are there. Assumes nothing.
use Rattle.std.specs.Prelude.{◌≡◌, ℕ, zero, suc, ◌≤◌, List, ◌++◌, map, length, take, drop, Ok, Err, Result}
use Rattle.refusals.specs.declared.Cause.{Cause}
use Rattle.apportion.specs.declared.items.AreaMember.{AreaMember}
use Rattle.ledgers.specs.Book.{Book}
use Rattle.ledgers.specs.Limits.{most_records}
use Rattle.positions.specs.declared.bus_positions.BusPosition.{BusPosition}
use Rattle.positions.specs.declared.transactions.Transaction.{Transaction}
use Rattle.positions.specs.declared.classes.Side.{Side}
use Rattle.register.specs.declared.answers.Accepted.TheVariants.{RecordNumber, Taken}
use Rattle.register.specs.declared.totals.Totals.{Totals}
use Rattle.register.specs.Totals.{of_side}
use Rattle.register.specs.Register.{Register, Kept, Phase, day_ahead, real_time, in_phase, Call, post, transfer, area, total, Answer}

-- ---- the register of two books

-- the phase that is open after k closings
abbrev pub phase_of : ℕ → Phase
phase_of zero = day_ahead
phase_of (suc k) = real_time

-- those before the mark are of day-ahead, the others of the phase p
abbrev pub kept : {P : Type 0} → Phase → Book P → List (Kept P)
kept p b = map (in_phase day_ahead) (take b.mark b.items) ++ map (in_phase p) (drop b.mark b.items)

abbrev pub register : ℕ → ℕ → Book BusPosition → Book Transaction → Register
register k n b d = record {
  buses = n;
  position_room = b.capacity;
  transaction_room = d.capacity;
  closings = k;
  positions = kept (phase_of k) b;
  transactions = kept (phase_of k) d;
}

-- the day-ahead records of a closed hour, and those of real time, which stand behind them
abbrev pub DayAheadPart : {P : Type 0} → List (Kept P) → List P → Type 0
DayAheadPart {P} all xs = (later : List P) × (all ≡ map (in_phase day_ahead) xs ++ map (in_phase real_time) later)

abbrev pub RealTimePart : {P : Type 0} → List (Kept P) → List P → Type 0
RealTimePart {P} all xs = (earlier : List P) × (all ≡ map (in_phase day_ahead) earlier ++ map (in_phase real_time) xs)

-- ---- what an open hour keeps to

-- the mark of a ledger lies within what stands, and day-ahead at its start
abbrev pub Marked : {P : Type 0} → ℕ → Book P → Type 0
Marked k b = (b.mark ≤ length b.items) × (k ≡ 0 → b.mark ≡ 0)

-- the totals are those of a phase in the register
abbrev pub Summed : Totals → Register → Phase → Type 0
Summed t r p = (s : Side) → of_side t s ≡ total r p s

abbrev pub Sized : {P : Type 0} → Book P → Type 0
Sized b = b.capacity ≤ most_records

-- all records, whatever their phase
abbrev pub Entries : {P : Type 0} → List (Kept P) → List P → Type 0
Entries {P} all xs = map (λ (k : Kept P). k.entry) all ≡ xs

-- ---- calls and answers

abbrev pub posting : ℕ → ℕ → ℕ → ℕ → Call
posting who kind at_bus m = post (record { participant = who; class = kind; bus = at_bus; amount = m })

abbrev pub transferring : ℕ → ℕ → ℕ → ℕ → Call
transferring who from to m = transfer (record { participant = who; source = from; sink = to; amount = m })

abbrev pub spreading : ℕ → ℕ → List AreaMember → Call
spreading who m over = area (record { participant = who; amount = m; members = over })

-- a call that answers a record's number, and one that answers that it was taken
abbrev pub numbered : Result ℕ Cause → Answer
numbered (Ok i) = Ok (RecordNumber i)
numbered (Err c) = Err c

abbrev pub done : Result (Unit {0}) Cause → Answer
done (Ok _) = Ok Taken
done (Err c) = Err c
