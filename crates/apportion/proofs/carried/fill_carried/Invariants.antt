use Rattle.std.proofs.Common.{◌≡◌, ℕ, ◌*◌, ◌^◌, ◌<◌, ◌≤◌, nat_abs}
use Rattle.quantities.specs.Sums.{sum, at}
use Rattle.quantities.specs.Rounding.{carried}
use Rattle.quantities.specs.Views.{cents, grains}
use Rattle.apportion.proofs.carried.fill_carried.Given as goal

abbrev pub invariant-loop-k : goal.invariant-loop-k
invariant-loop-k l =
    let g = at (grains l.exact) in
    (l.running.divisor ≡ 10000)
    × (l.running.exact ≡ sum l.k g)
    × (nat_abs l.running.exact ≤ l.k * 2 ^ 63)
    × ((i : ℕ) → i < l.k → at (cents l.row) i ≡ carried 10000 g i)
