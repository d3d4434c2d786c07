use Rattle.std.proofs.Common.{◌≡◌, ◌*◌, ◌^◌, ◌≤◌, drop, ◌+ℤ◌, nat_abs}
use Rattle.quantities.specs.Sums.{sum_of}
use Rattle.quantities.proofs.totals.total.Given as goal

-- what is left makes up the whole
abbrev pub invariant-loop-quantity : goal.invariant-loop-quantity
invariant-loop-quantity g l =
    let u = g.Q.Quantity.units in
    (l.sum +ℤ sum_of u (drop l.quantity-index l.row) ≡ sum_of u l.row)
    × (nat_abs l.sum ≤ l.quantity-index * 2 ^ 63)
