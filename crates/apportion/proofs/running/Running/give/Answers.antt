use Rattle.std.proofs.Common.{◌≡◌, ℤ, ◌+ℤ◌, arith, SFits, rules}
use mir.Syntax.{w128}
use Rattle.std.proofs.lemmas.Int.{ints, to_z-of_z}
use Rattle.quantities.specs.Rounding.{floor}
use Rattle.apportion.proofs.running.Running.give.Goals as goal

-- the share that the code takes is the one that is required to fit
pub overflow_sub-share : goal.overflow_sub-share
overflow_sub-share c =
    let s : ℤ = c.args.self.now.exact in
    let kept : SFits w128 c.div_euclid-given.result = search rules in
    let q : c.div_euclid-given.result ≡ floor (s +ℤ c.args.part) c.args.self.now.divisor = search rules in
    let was : c.args.self.now.given ≡ floor s c.args.self.now.divisor = c.args.self.now.rounded in
    let old : SFits w128 c.args.self.now.given = search rules in
    let small = c.requires.share in
    rw (to_z-of_z w128 _ kept, to_z-of_z w128 _ old, q, was) (omega (arith, ints))
