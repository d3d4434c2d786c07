use Rattle.std.proofs.Common.{◌≡◌, ℕ, ◌<◌, map, length, pos, ◌*ℤ◌}
use Rattle.quantities.specs.Sums.{sumℕ, at, atℕ}
use Rattle.apportion.specs.Split.{share}
use Rattle.apportion.proofs.shares.fill.Given as goal

abbrev pub invariant-loop-i : goal.invariant-loop-i
invariant-loop-i g l =
    let A = g.Q.Quantity.units l.amount in
    let ws = map g.I.WeightedItem.weighs l.items in
    (l.running.divisor ≡ l.sum)
    × (l.running.exact ≡ A *ℤ pos (sumℕ l.i (atℕ ws)))
    × ((k : ℕ) → k < l.i → at (map g.Q.Quantity.units l.row) k ≡ share A (length ws) (atℕ ws) k)
