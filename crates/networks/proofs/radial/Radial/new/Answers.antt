use Rattle.std.proofs.Common.{vec_items}
use Rattle.networks.specs.RadialLimits.{within, tells}
use Rattle.networks.proofs.radial.Radial.new.Goals as goal

pub invariant_of-result : goal.invariant_of-result
invariant_of-result c =
    let w = within (vec_items c.args.uppers) (vec_items c.args.constraints) c.requires in
    record { buses_most = w.buses; falling = w.falling; constraints_most = w.constraints; constraints_within = w.each }

pub returns : goal.returns
returns c =
    let us = vec_items c.args.uppers in
    let cs = vec_items c.args.constraints in
    tells us cs (within us cs c.requires).falling
