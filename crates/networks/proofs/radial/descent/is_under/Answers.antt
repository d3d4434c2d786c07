use Rattle.std.proofs.Common.{◌≡◌, ◌-◌, slice_index, arith, rules}
use Rattle.networks.specs.Descent.{upper, from}
use Rattle.networks.specs.DescentLaws.{upper_smaller, under_upper, under_end}
use Rattle.networks.proofs.radial.descent.is_under.Goals as goal

pub loop-reached-preserved : goal.loop-reached-preserved
loop-reached-preserved c =
    let us = c.args.uppers.now in
    let smaller = upper_smaller us c.requires.falling in
    let i = c.loop-reached.reached in
    let next : slice_index us (c.from.result - 1) ≡ upper us i = cc in
    let falls = smaller i (omega arith) in
    let same = c.loop-reached.invariant.1 in
    (omega arith, rw next (λ p. same.0 (from i (omega arith) p), λ p. under_upper (upper us) smaller c.args.top (same.1 p) (search rules)))

pub returns : goal.returns
returns c =
    let us = c.args.uppers.now in
    let end = under_end (upper us) (upper_smaller us c.requires.falling) c.args.top c.loop-reached.reached (omega arith) in
    search rules
