use Rattle.std.proofs.Common.{◌+◌, ◌≤◌, map, length, arith}
use Rattle.std.proofs.lemmas.List.{length-map}
use Rattle.quantities.specs.Sums.{atℕ}
use Rattle.quantities.proofs.SumLaws.{sumℕ_grows}
use Rattle.apportion.proofs.Refused.{sum_none, sum_much}
use Rattle.apportion.proofs.Steps.{weights_more, whole_at_end}
use Rattle.apportion.proofs.shares.weight_sum.Goals as goal

-- what is left to add only makes the sum larger
pub returns-then-weight-sum-clause-answer : goal.returns-then-weight-sum-clause-answer
returns-then-weight-sum-clause-answer g c =
    let f = g.I.WeightedItem.weighs in
    let xs = c.args.items.now in
    let ws = map f xs in
    let i = c.loop-item.item-index in
    let more = weights_more f xs i c.item-item.result c.loop-item-test.true c.item-item.is in
    let room : i + 1 ≤ length ws = rw length-map (omega arith) in
    let grown = sumℕ_grows (i + 1) (length ws) (atℕ ws) room in
    sum_much ws (omega arith)

pub returns-then-sum-eq0-clause-answer : goal.returns-then-sum-eq0-clause-answer
returns-then-sum-eq0-clause-answer g c =
    let f = g.I.WeightedItem.weighs in
    let w = whole_at_end f c.args.items.now c.loop-item.item-index c.loop-item.sum c.loop-item.invariant.0 (omega arith) in
    sum_none (map f c.args.items.now) (omega arith)
