-- The causes of each call, weighed in the order of their numbers. Assumes nothing.
use Rattle.std.proofs.Common.{◌≡◌, ℕ, ◌+◌, ◌<◌, ◌≤◌, length, arith}
use Rattle.refusals.proofs.Numbers.{at_most}
use Rattle.refusals.specs.Causes.{number}
use Rattle.refusals.specs.declared.Cause.{Cause}
use Rattle.positions.specs.Classes.{side_of}
use Rattle.positions.specs.declared.classes.Class.{Class}
use Rattle.positions.specs.declared.classes.Side.TheVariants.{Transacting}
use Rattle.register.specs.Register.{Register, Phase, Posting, Transfer, post, transfer, Names, total, Holds, post_bus, post_participant, post_class, post_total, post_room, transfer_source, transfer_sink, transfer_participant, transfer_total, transfer_same, transfer_room}

module _ (r : Register) (p : Phase) where
  -- what was found of a posting, up to the causes below k: none of those holds
  pub post_least : (a : Posting) (k : ℕ) → (1 < k → a.bus < r.buses) → (2 < k → a.participant ≤ 15) → (3 < k → (c : Class) × Names p a.class c) → (4 < k → (c : Class) → Names p a.class c → total r p (side_of c) + a.amount ≤ 1000000) → (6 < k → length r.positions < r.position_room) → (d : Cause) → Holds r p (post a) d → k ≤ number d
  post_least a k bus who class most room d (post_bus h) = at_most k 1 (λ l. let f = bus l in omega arith)
  post_least a k bus who class most room d (post_participant h) = at_most k 2 (λ l. let f = who l in omega arith)
  post_least a k bus who class most room d (post_class h) = at_most k 3 (λ l. let f = class l in h f.0 f.1)
  post_least a k bus who class most room d (post_total {c} names h) = at_most k 4 (λ l. let f = most l c names in omega arith)
  post_least a k bus who class most room d (post_room h) = at_most k 6 (λ l. let f = room l in omega arith)

  pub transfer_least : (a : Transfer) (k : ℕ) → (1 < k → (a.source < r.buses) × (a.sink < r.buses)) → (2 < k → a.participant ≤ 15) → (4 < k → total r p Transacting + a.amount ≤ 1000000) → (5 < k → a.source ≡ a.sink → ⊥) → (6 < k → length r.transactions < r.transaction_room) → (d : Cause) → Holds r p (transfer a) d → k ≤ number d
  transfer_least a k buses who most apart room d (transfer_source h) = at_most k 1 (λ l. let f = buses l in omega arith)
  transfer_least a k buses who most apart room d (transfer_sink h) = at_most k 1 (λ l. let f = buses l in omega arith)
  transfer_least a k buses who most apart room d (transfer_participant h) = at_most k 2 (λ l. let f = who l in omega arith)
  transfer_least a k buses who most apart room d (transfer_total h) = at_most k 4 (λ l. let f = most l in omega arith)
  transfer_least a k buses who most apart room d (transfer_same h) = at_most k 5 (λ l. apart l h)
  transfer_least a k buses who most apart room d (transfer_room h) = at_most k 6 (λ l. let f = room l in omega arith)
