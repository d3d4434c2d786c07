-- Each call of the hour as a step of its register. Assumes nothing.
use Rattle.std.proofs.Common.{◌≡◌, ℕ, zero, suc, ◌+◌, ◌<◌, ◌≤◌, [], ◌∷◌, ◌++◌, length, refl, subst, arith, Ok, Err}
use Rattle.refusals.specs.declared.Cause.TheVariants.{BusOutOfRange, ParticipantOutOfRange, ClassNotTaken, TotalOverLimit, SourceIsSink, LedgerFull}
use Rattle.refusals.proofs.Numbers.{none_holds}
use Rattle.ledgers.specs.Book.{Book}
use Rattle.positions.specs.Kinds.{position, transaction}
use Rattle.positions.specs.Classes.{side_of}
use Rattle.positions.specs.declared.bus_positions.BusPosition.{BusPosition}
use Rattle.positions.specs.declared.transactions.Transaction.{Transaction}
use Rattle.positions.specs.declared.classes.Class.{Class}
use Rattle.positions.specs.declared.classes.Side.TheVariants.{Transacting}
use Rattle.register.specs.declared.answers.Accepted.TheVariants.{RecordNumber}
use Rattle.register.specs.Register.{Register, Phase, Posting, Transfer, post, transfer, Open, in_day_ahead, in_real_time, Names, total, Holds, post_bus, post_participant, post_class, post_total, post_room, transfer_source, transfer_sink, transfer_participant, transfer_total, transfer_same, transfer_room, posts, transfers, Step, took, stood, with_positions, with_transactions, in_phase}
use Rattle.register.specs.Views.{phase_of, register}
use Rattle.register.proofs.Names.{one_name}
use Rattle.register.proofs.Weighed.{post_least, transfer_least}

pub open_phase : (k n : ℕ) (b : Book BusPosition) (d : Book Transaction) → k < 2 → Open (register k n b d) (phase_of k)
open_phase zero n b d h = in_day_ahead refl
open_phase (suc zero) n b d h = in_real_time refl
open_phase (suc (suc k)) n b d h = absurd (omega arith)

module _ {r : Register} {p : Phase} (o : Open r p) (a : Posting) where
  pub post_no_bus : r.buses ≤ a.bus → Step r (post a) (Err BusOutOfRange) r
  post_no_bus h = stood o (record { holds = post_bus h; least = post_least r p a 1 (λ l. absurd (omega arith)) (λ l. absurd (omega arith)) (λ l. absurd (omega arith)) (λ l. absurd (omega arith)) (λ l. absurd (omega arith)) })

  pub post_no_participant : a.bus < r.buses → 15 < a.participant → Step r (post a) (Err ParticipantOutOfRange) r
  post_no_participant bus h = stood o (record { holds = post_participant h; least = post_least r p a 2 (λ l. bus) (λ l. absurd (omega arith)) (λ l. absurd (omega arith)) (λ l. absurd (omega arith)) (λ l. absurd (omega arith)) })

  pub post_no_class : a.bus < r.buses → a.participant ≤ 15 → ((c : Class) → Names p a.class c → ⊥) → Step r (post a) (Err ClassNotTaken) r
  post_no_class bus who h = stood o (record { holds = post_class h; least = post_least r p a 3 (λ l. bus) (λ l. who) (λ l. absurd (omega arith)) (λ l. absurd (omega arith)) (λ l. absurd (omega arith)) })

  pub post_too_much : a.bus < r.buses → a.participant ≤ 15 → (c : Class) → Names p a.class c → 1000000 < total r p (side_of c) + a.amount → Step r (post a) (Err TotalOverLimit) r
  post_too_much bus who c names h = stood o (record { holds = post_total names h; least = post_least r p a 4 (λ l. bus) (λ l. who) (λ l. (c, names)) (λ l. absurd (omega arith)) (λ l. absurd (omega arith)) })

  -- what is within the limit for the class that the number names is so for every class that it names
  fitting : (c : Class) → Names p a.class c → total r p (side_of c) + a.amount ≤ 1000000 → (d : Class) → Names p a.class d → total r p (side_of d) + a.amount ≤ 1000000
  fitting c names h d others = subst (λ e. total r p (side_of e) + a.amount ≤ 1000000) (one_name names others) h

  pub post_no_room : a.bus < r.buses → a.participant ≤ 15 → (c : Class) → Names p a.class c → total r p (side_of c) + a.amount ≤ 1000000 → r.position_room ≤ length r.positions → Step r (post a) (Err LedgerFull) r
  post_no_room bus who c names most h = stood o (record { holds = post_room h; least = post_least r p a 6 (λ l. bus) (λ l. who) (λ l. (c, names)) (λ l. fitting c names most) (λ l. absurd (omega arith)) })

  pub post_taken : a.bus < r.buses → a.participant ≤ 15 → (c : Class) → Names p a.class c → total r p (side_of c) + a.amount ≤ 1000000 → length r.positions < r.position_room → Step r (post a) (Ok (RecordNumber (length r.positions))) (with_positions r (r.positions ++ (in_phase p (position a.participant c a.bus a.amount) ∷ [])))
  post_taken bus who c names most room = took o (none_holds {Holds = Holds r p (post a)} (post_least r p a 17 (λ l. bus) (λ l. who) (λ l. (c, names)) (λ l. fitting c names most) (λ l. room))) (posts a c names)

module _ {r : Register} {p : Phase} (o : Open r p) (a : Transfer) where
  pub transfer_no_source : r.buses ≤ a.source → Step r (transfer a) (Err BusOutOfRange) r
  transfer_no_source h = stood o (record { holds = transfer_source h; least = transfer_least r p a 1 (λ l. absurd (omega arith)) (λ l. absurd (omega arith)) (λ l. absurd (omega arith)) (λ l. absurd (omega arith)) (λ l. absurd (omega arith)) })

  pub transfer_no_sink : r.buses ≤ a.sink → Step r (transfer a) (Err BusOutOfRange) r
  transfer_no_sink h = stood o (record { holds = transfer_sink h; least = transfer_least r p a 1 (λ l. absurd (omega arith)) (λ l. absurd (omega arith)) (λ l. absurd (omega arith)) (λ l. absurd (omega arith)) (λ l. absurd (omega arith)) })

  pub transfer_no_participant : (a.source < r.buses) × (a.sink < r.buses) → 15 < a.participant → Step r (transfer a) (Err ParticipantOutOfRange) r
  transfer_no_participant buses h = stood o (record { holds = transfer_participant h; least = transfer_least r p a 2 (λ l. buses) (λ l. absurd (omega arith)) (λ l. absurd (omega arith)) (λ l. absurd (omega arith)) (λ l. absurd (omega arith)) })

  pub transfer_too_much : (a.source < r.buses) × (a.sink < r.buses) → a.participant ≤ 15 → 1000000 < total r p Transacting + a.amount → Step r (transfer a) (Err TotalOverLimit) r
  transfer_too_much buses who h = stood o (record { holds = transfer_total h; least = transfer_least r p a 4 (λ l. buses) (λ l. who) (λ l. absurd (omega arith)) (λ l. absurd (omega arith)) (λ l. absurd (omega arith)) })

  pub transfer_nowhere : (a.source < r.buses) × (a.sink < r.buses) → a.participant ≤ 15 → total r p Transacting + a.amount ≤ 1000000 → a.source ≡ a.sink → Step r (transfer a) (Err SourceIsSink) r
  transfer_nowhere buses who most h = stood o (record { holds = transfer_same h; least = transfer_least r p a 5 (λ l. buses) (λ l. who) (λ l. most) (λ l. absurd (omega arith)) (λ l. absurd (omega arith)) })

  pub transfer_no_room : (a.source < r.buses) × (a.sink < r.buses) → a.participant ≤ 15 → total r p Transacting + a.amount ≤ 1000000 → (a.source ≡ a.sink → ⊥) → r.transaction_room ≤ length r.transactions → Step r (transfer a) (Err LedgerFull) r
  transfer_no_room buses who most apart h = stood o (record { holds = transfer_room h; least = transfer_least r p a 6 (λ l. buses) (λ l. who) (λ l. most) (λ l. apart) (λ l. absurd (omega arith)) })

  pub transfer_taken : (a.source < r.buses) × (a.sink < r.buses) → a.participant ≤ 15 → total r p Transacting + a.amount ≤ 1000000 → (a.source ≡ a.sink → ⊥) → length r.transactions < r.transaction_room → Step r (transfer a) (Ok (RecordNumber (length r.transactions))) (with_transactions r (r.transactions ++ (in_phase p (transaction a.participant a.source a.sink a.amount) ∷ [])))
  transfer_taken buses who most apart room = took o (none_holds {Holds = Holds r p (transfer a)} (transfer_least r p a 17 (λ l. buses) (λ l. who) (λ l. most) (λ l. apart) (λ l. room))) (transfers a)
