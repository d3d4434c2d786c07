-- What is weighed before a step: buses, participants, classes, the limits of an hour, a closing. Assumes nothing.
use Rattle.std.specs.Prelude.{◌≡◌, ℕ, ◌<◌, ◌≤◌, Some, None, Option, Ok, Err, Result}
use Rattle.refusals.specs.Answers.{Clear}
use Rattle.refusals.specs.declared.Cause.{Cause}
use Rattle.refusals.specs.declared.Cause.TheVariants.{BusOutOfRange, ParticipantOutOfRange, ClassNotTaken, OutsideLimits}
use Rattle.quantities.specs.Limits.{most_buses}
use Rattle.ledgers.specs.Limits.{most_records}
use Rattle.positions.specs.declared.classes.Class.{Class}
use Rattle.register.specs.Register.{Register, Phase, Names, Holds, Step, close}

-- the class that a number names in a phase, if any
abbrev pub ClassNamed : Phase → ℕ → Option Class → Type 0
ClassNamed p k (Some c) = Names p k c
ClassNamed p k None = (c : Class) → Names p k c → ⊥

-- the same, with the cause where it names none
abbrev pub ClassTaken : Phase → ℕ → Result Class Cause → Type 0
ClassTaken p k (Ok c) = ClassNamed p k (Some c)
ClassTaken p k (Err e) = (e ≡ ClassNotTaken) × ClassNamed p k None

-- whether a bus is one of n, and whether there is a participant of that number
abbrev pub BusWeighed : ℕ → ℕ → Result (Unit {0}) Cause → Type 0
BusWeighed n i (Ok _) = i < n
BusWeighed n i (Err e) = (e ≡ BusOutOfRange) × (n ≤ i)

abbrev pub ParticipantWeighed : ℕ → Result (Unit {0}) Cause → Type 0
ParticipantWeighed who (Ok _) = who ≤ 15
ParticipantWeighed who (Err e) = (e ≡ ParticipantOutOfRange) × (15 < who)

-- ---- making and closing: a weighing that answers, and then a step that cannot refuse

-- an hour of n buses over two slices of so many records
pub data MakingRefused (n rooms roomt : ℕ) : Cause → Type 0 where
  no_bus : n < 1 → MakingRefused n rooms roomt OutsideLimits
  many_buses : most_buses < n → MakingRefused n rooms roomt OutsideLimits
  many_positions : most_records < rooms → MakingRefused n rooms roomt OutsideLimits
  many_transactions : most_records < roomt → MakingRefused n rooms roomt OutsideLimits

abbrev pub ClosingWeighed : Register → Phase → Result (Unit {0}) Cause → Type 0
ClosingWeighed r p (Ok _) = Clear (Holds r p close)
ClosingWeighed r p (Err c) = Step r close (Err c) r
