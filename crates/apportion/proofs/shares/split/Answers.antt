use Rattle.std.proofs.Common.{ℕ, ◌<◌, map, length, subst, arith}
use Rattle.std.proofs.lemmas.List.{length-map}
use Rattle.std.proofs.lemmas.Result.{err_from_is_err_and}
use Rattle.quantities.specs.Sums.{at, atℕ}
use Rattle.apportion.specs.Split.{Fair, Toward}
use Rattle.apportion.proofs.Laws.{row_fair, row_toward}
use Rattle.apportion.proofs.Refused.{sum_some, split_length, split_weights}
use Rattle.apportion.proofs.shares.split.Goals as goal

pub returns-then-row-items-clause-answer : goal.returns-then-row-items-clause-answer
returns-then-row-items-clause-answer g c =
    split_length (length c.args.row.now) (map g.I.WeightedItem.weighs c.args.items.now) (rw length-map c.if-row-items.true)

pub returns-in_err-sum-clause-answer : goal.returns-in_err-sum-clause-answer
returns-in_err-sum-clause-answer g c =
    let p = err_from_is_err_and c.from_residual.result c.from_residual.ensures.1 in
    rw (p.1, p.2) (split_weights (length c.args.row.now) (map g.I.WeightedItem.weighs c.args.items.now) _ (rw length-map c.if-row-items.false) c.in_err-sum.ensures.answer)

pub fill-requires-clause-some : goal.fill-requires-clause-some
fill-requires-clause-some g c =
    let is = c.in_ok-sum.ensures.value in
    let some = sum_some (map g.I.WeightedItem.weighs c.args.items.now) c.in_ok-sum.ensures.answer in
    omega arith

pub fill-requires-clause-most : goal.fill-requires-clause-most
fill-requires-clause-most g c =
    let is = c.in_ok-sum.ensures.value in
    let some = sum_some (map g.I.WeightedItem.weighs c.args.items.now) c.in_ok-sum.ensures.answer in
    omega arith

pub returns-clause-fair : goal.returns-clause-fair
returns-clause-fair g c =
    let f = g.I.WeightedItem.weighs in
    let A = g.Q.Quantity.units c.args.amount in
    let xs = c.args.items.now in
    let ws = map f xs in
    let row = map g.Q.Quantity.units c.fill.new.row in
    subst (λ (n : ℕ). Fair A n (atℕ ws) (at row)) (length-map xs f) (row_fair A ws row (sum_some ws c.in_ok-sum.ensures.answer).0 c.fill.ensures)

pub returns-clause-toward : goal.returns-clause-toward
returns-clause-toward g c =
    let f = g.I.WeightedItem.weighs in
    let A = g.Q.Quantity.units c.args.amount in
    let xs = c.args.items.now in
    let ws = map f xs in
    let row = map g.Q.Quantity.units c.fill.new.row in
    subst (λ (n : ℕ). (i : ℕ) → i < n → Toward A (at row i)) (length-map xs f) (row_toward A ws row (sum_some ws c.in_ok-sum.ensures.answer).0 c.fill.ensures)
