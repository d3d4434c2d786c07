-- The register of an hour: what any list of calls answers and leaves, told by the calls alone. Assumes nothing.
use Rattle.std.specs.Prelude.{◌≡◌, ℕ, suc, ◌+◌, ◌*◌, ◌<◌, ◌≤◌, ◌≢◌, List, [], ◌∷◌, ◌++◌, map, length, pos, Ok, Err, Result, slice_index_or}
use Rattle.refusals.specs.Answers.{First, Clear}
use Rattle.refusals.specs.declared.Cause.{Cause}
use Rattle.refusals.specs.declared.Cause.TheVariants.{BusOutOfRange, ParticipantOutOfRange, ClassNotTaken, TotalOverLimit, SourceIsSink, LedgerFull, RecordNotOpen, Unbalanced, AreaNotWhole}
use Rattle.quantities.specs.Sums.{count_of}
use Rattle.apportion.specs.Split.{shares, whole}
use Rattle.apportion.specs.declared.items.AreaMember.{AreaMember}
use Rattle.areas.specs.Areas.{shares_by, nowhere, loads}
use Rattle.positions.specs.Classes.{side_of, one_if_side}
use Rattle.positions.specs.Kinds.{tenths, position, transaction, amended_position, amended_transaction}
use Rattle.positions.specs.declared.bus_positions.BusPosition.{BusPosition}
use Rattle.positions.specs.declared.transactions.Transaction.{Transaction}
use Rattle.positions.specs.declared.classes.Class.{Class}
use Rattle.positions.specs.declared.classes.Class.TheVariants.{Load, DecrementBid, Generation, IncrementOffer}
use Rattle.positions.specs.declared.classes.Side.{Side}
use Rattle.positions.specs.declared.classes.Side.TheVariants.{Withdrawing, Injecting, Transacting}
use Rattle.register.specs.declared.answers.Accepted.{Accepted}
use Rattle.register.specs.declared.answers.Accepted.TheVariants.{RecordNumber, Taken}

pub data Phase : Type 0 where
  day_ahead : Phase
  real_time : Phase

-- a record with the phase in which it was posted
pub record Kept (P : Type 0) : Type 0 where
  pub phase : Phase
  pub entry : P

abbrev pub in_phase : {P : Type 0} → Phase → P → Kept P
in_phase p e = record { phase = p; entry = e }

pub record Register : Type 0 where
  pub buses : ℕ
  pub position_room : ℕ
  pub transaction_room : ℕ
  pub closings : ℕ  -- 0: day-ahead is open; 1: real time is open; 2: closed
  pub positions : List (Kept BusPosition)
  pub transactions : List (Kept Transaction)

-- ---- the calls, with their arguments

pub record Posting : Type 0 where
  pub participant : ℕ
  pub class : ℕ
  pub bus : ℕ
  pub amount : ℕ

pub record Transfer : Type 0 where
  pub participant : ℕ
  pub source : ℕ
  pub sink : ℕ
  pub amount : ℕ

pub record Area : Type 0 where
  pub participant : ℕ
  pub amount : ℕ
  pub members : List AreaMember

pub data Call : Type 0 where
  post : Posting → Call
  transfer : Transfer → Call
  area : Area → Call
  amend_position : ℕ → ℕ → Call
  amend_transaction : ℕ → ℕ → Call
  close : Call

-- ---- the answers: what a call that is taken gives, or the cause of its refusal

abbrev pub Answer : Type 0
Answer = Result Accepted Cause

-- ---- what the records of a phase add to

abbrev pub one_if_phase : Phase → Phase → ℕ
one_if_phase day_ahead day_ahead = 1
one_if_phase day_ahead real_time = 0
one_if_phase real_time day_ahead = 0
one_if_phase real_time real_time = 1

-- what one record adds to a side of a phase
abbrev pub one_position : Phase → Side → Kept BusPosition → ℕ
one_position p s k = one_if_phase k.phase p * (one_if_side (side_of k.entry.class) s * tenths k.entry.megawatts)

abbrev pub one_transaction : Phase → Side → Kept Transaction → ℕ
one_transaction p s k = one_if_phase k.phase p * (one_if_side Transacting s * tenths k.entry.megawatts)

-- the total of one side in one phase
abbrev pub total : Register → Phase → Side → ℕ
total r p s = count_of (one_position p s) r.positions + count_of (one_transaction p s) r.transactions

-- ---- classes

-- the class that a number names in a phase: bids and offers exist day-ahead only
pub data Names : Phase → ℕ → Class → Type 0 where
  load : {p : Phase} → Names p 1 Load
  decrement : Names day_ahead 2 DecrementBid
  generation : {p : Phase} → Names p 3 Generation
  increment : Names day_ahead 4 IncrementOffer

-- ---- the causes, each where it holds

-- a register in phase p
pub data Open : Register → Phase → Type 0 where
  in_day_ahead : {r : Register} → r.closings ≡ 0 → Open r day_ahead
  in_real_time : {r : Register} → r.closings ≡ 1 → Open r real_time

-- the record e of phase p has the number i
pub data Standing (P : Type 0) (p : Phase) (all : List (Kept P)) (i : ℕ) (e : P) : Type 0 where
  stands : (before after : List (Kept P)) → all ≡ before ++ (in_phase p e ∷ after) → length before ≡ i → Standing P p all i e

pub data Holds (r : Register) (p : Phase) : Call → Cause → Type 0 where
  post_bus : {a : Posting} → r.buses ≤ a.bus → Holds r p (post a) BusOutOfRange
  post_participant : {a : Posting} → 15 < a.participant → Holds r p (post a) ParticipantOutOfRange
  post_class : {a : Posting} → ((c : Class) → Names p a.class c → ⊥) → Holds r p (post a) ClassNotTaken
  post_total : {a : Posting} {c : Class} → Names p a.class c → 1000000 < total r p (side_of c) + a.amount → Holds r p (post a) TotalOverLimit
  post_room : {a : Posting} → r.position_room ≤ length r.positions → Holds r p (post a) LedgerFull
  transfer_source : {a : Transfer} → r.buses ≤ a.source → Holds r p (transfer a) BusOutOfRange
  transfer_sink : {a : Transfer} → r.buses ≤ a.sink → Holds r p (transfer a) BusOutOfRange
  transfer_participant : {a : Transfer} → 15 < a.participant → Holds r p (transfer a) ParticipantOutOfRange
  transfer_total : {a : Transfer} → 1000000 < total r p Transacting + a.amount → Holds r p (transfer a) TotalOverLimit
  transfer_same : {a : Transfer} → a.source ≡ a.sink → Holds r p (transfer a) SourceIsSink
  transfer_room : {a : Transfer} → r.transaction_room ≤ length r.transactions → Holds r p (transfer a) LedgerFull
  area_bus : {a : Area} (i : ℕ) → i < length a.members → r.buses ≤ (slice_index_or a.members i nowhere).bus → Holds r p (area a) BusOutOfRange
  area_participant : {a : Area} → 15 < a.participant → Holds r p (area a) ParticipantOutOfRange
  area_total : {a : Area} → 1000000 < total r p Withdrawing + a.amount → Holds r p (area a) TotalOverLimit
  area_room : {a : Area} → r.position_room < length r.positions + length a.members → Holds r p (area a) LedgerFull
  area_empty : {a : Area} → a.members ≡ [] → Holds r p (area a) AreaNotWhole
  area_shares : {a : Area} → whole (shares_by a.members) ≢ 10000 → Holds r p (area a) AreaNotWhole
  amend_absent : {i m : ℕ} → ((e : BusPosition) → Standing BusPosition p r.positions i e → ⊥) → Holds r p (amend_position i m) RecordNotOpen
  amend_total : {i m : ℕ} (e : BusPosition) → Standing BusPosition p r.positions i e → 1000000 + tenths e.megawatts < total r p (side_of e.class) + m → Holds r p (amend_position i m) TotalOverLimit
  amend_transaction_absent : {i m : ℕ} → ((e : Transaction) → Standing Transaction p r.transactions i e → ⊥) → Holds r p (amend_transaction i m) RecordNotOpen
  amend_transaction_total : {i m : ℕ} (e : Transaction) → Standing Transaction p r.transactions i e → 1000000 + tenths e.megawatts < total r p Transacting + m → Holds r p (amend_transaction i m) TotalOverLimit
  close_unbalanced : total r p Withdrawing ≢ total r p Injecting → Holds r p close Unbalanced

-- ---- one call

abbrev pub area_loads : Area → List BusPosition
area_loads a = loads a.participant a.members (shares (pos a.amount) (shares_by a.members))

abbrev pub with_positions : Register → List (Kept BusPosition) → Register
with_positions r xs = record { buses = r.buses; position_room = r.position_room; transaction_room = r.transaction_room; closings = r.closings; positions = xs; transactions = r.transactions }

abbrev pub with_transactions : Register → List (Kept Transaction) → Register
with_transactions r xs = record { buses = r.buses; position_room = r.position_room; transaction_room = r.transaction_room; closings = r.closings; positions = r.positions; transactions = xs }

abbrev pub with_closings : Register → ℕ → Register
with_closings r k = record { buses = r.buses; position_room = r.position_room; transaction_room = r.transaction_room; closings = k; positions = r.positions; transactions = r.transactions }

-- what a call that nothing speaks against does
pub data Takes (r : Register) (p : Phase) : Call → Answer → Register → Type 0 where
  posts : (a : Posting) (c : Class) → Names p a.class c →
      Takes r p (post a) (Ok (RecordNumber (length r.positions)))
      (with_positions r (r.positions ++ (in_phase p (position a.participant c a.bus a.amount) ∷ [])))
  transfers : (a : Transfer) →
      Takes r p (transfer a) (Ok (RecordNumber (length r.transactions)))
      (with_transactions r (r.transactions ++ (in_phase p (transaction a.participant a.source a.sink a.amount) ∷ [])))
  spreads : (a : Area) →
      Takes r p (area a) (Ok (RecordNumber (length r.positions))) (with_positions r (r.positions ++ map (in_phase p) (area_loads a)))
  amends : (i m : ℕ) (e : BusPosition) (before after : List (Kept BusPosition)) → r.positions ≡ before ++ (in_phase p e ∷ after) → length before ≡ i →
      Takes r p (amend_position i m) (Ok Taken) (with_positions r (before ++ (in_phase p (amended_position e m) ∷ after)))
  amends_transaction : (i m : ℕ) (e : Transaction) (before after : List (Kept Transaction)) → r.transactions ≡ before ++ (in_phase p e ∷ after) → length before ≡ i →
      Takes r p (amend_transaction i m) (Ok Taken) (with_transactions r (before ++ (in_phase p (amended_transaction e m) ∷ after)))
  closes : Takes r p close (Ok Taken) (with_closings r (suc r.closings))

-- one call on the register: its answer, and the register after it
pub data Step (r : Register) : Call → Answer → Register → Type 0 where
  took : {p : Phase} {a : Call} {b : Answer} {s : Register} → Open r p → Clear (Holds r p a) → Takes r p a b s → Step r a b s
  stood : {p : Phase} {a : Call} {c : Cause} → Open r p → First (Holds r p a) c → Step r a (Err c) r

-- a list of calls, each on the register as those before left it
pub data Run : Register → List Call → List Answer → Register → Type 0 where
  done : {r : Register} → Run r [] [] r
  next : {r s t : Register} {a : Call} {b : Answer} {calls : List Call} {answers : List Answer} → Step r a b s → Run s calls answers t → Run r (a ∷ calls) (b ∷ answers) t

abbrev pub fresh : ℕ → ℕ → ℕ → Register
fresh n rooms roomt = record { buses = n; position_room = rooms; transaction_room = roomt; closings = 0; positions = []; transactions = [] }
