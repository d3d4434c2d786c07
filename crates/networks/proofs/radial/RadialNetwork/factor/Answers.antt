use Rattle.std.proofs.Common.{vec_items, sym, rules}
use Rattle.networks.specs.RadialLimits.{told_reached}
use Rattle.networks.proofs.radial.RadialNetwork.factor.Goals as goal

pub returns-in-Some : goal.returns-in-Some
returns-in-Some c =
    let n = c.args.self.now in
    let told = told_reached (vec_items n.uppers) (vec_items n.constraints) n.falling c.args.constraint c.args.bus _ _ c.is_under.result (search rules) (search rules) c.deref-then-bus-buses.ensures.value (search rules) c.is_under.ensures in
    sym (rw c.if-is_under.true at told)

pub returns-in_default : goal.returns-in_default
returns-in_default c =
    let n = c.args.self.now in
    let told = told_reached (vec_items n.uppers) (vec_items n.constraints) n.falling c.args.constraint c.args.bus _ _ c.is_under.result (search rules) (search rules) c.deref-then-bus-buses.ensures.value (search rules) c.is_under.ensures in
    sym (rw c.if-is_under.false at told)
