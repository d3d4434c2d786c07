use Rattle.std.proofs.Common.{◌≡◌, ◌≤◌, map}
use Rattle.quantities.specs.Sums.{sumℕ, atℕ}
use Rattle.apportion.proofs.shares.weight_sum.Given as goal

abbrev pub invariant-loop-item : goal.invariant-loop-item
invariant-loop-item g l = (l.sum ≡ sumℕ l.item-index (atℕ (map g.I.WeightedItem.weighs l.items))) × (l.sum ≤ 2000000000)
