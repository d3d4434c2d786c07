use Rattle.register.proofs.Amendments.{position_amended}
use Rattle.hours.proofs.Held.{lawful}
use Rattle.hours.proofs.hour.Hour.amend_position.Goals as goal

pub invariant_of-self : goal.invariant_of-self
invariant_of-self g c =
    let l = (position_amended (lawful c.args.self.now g.P.OpenPhase.two_phases) c.args.«record» c.args.tenths c.amend.result _ c.amend.new.totals c.amend.ensures.amended).lawful in
    record { marked = l.marked; summed = l.summed; sized = l.sized; sound = l.sound }

pub returns : goal.returns
returns g c = (position_amended (lawful c.args.self.now g.P.OpenPhase.two_phases) c.args.«record» c.args.tenths c.amend.result _ c.amend.new.totals c.amend.ensures.amended).step
