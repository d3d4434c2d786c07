use Rattle.std.proofs.Common.{Ok}
use Rattle.std.proofs.lemmas.Result.{err_from_is_err_and}
use Rattle.ledgers.specs.Book.{book}
use Rattle.register.specs.Views.{spreading}
use Rattle.register.specs.declared.answers.Accepted.TheVariants.{RecordNumber}
use Rattle.register.proofs.Lawful.{Made, opened}
use Rattle.register.proofs.Posted.{area_over, area_unposted, area_made}
use Rattle.register.proofs.Spread.{area_no_bus, area_no_participant}
use Rattle.hours.specs.Hours.{register_of}
use Rattle.hours.proofs.Held.{lawful}
use Rattle.hours.proofs.hour.Hour.post_area.Given as given
use Rattle.hours.proofs.hour.Hour.post_area.Goals as goal
use Rattle.hours.proofs.hour.Hour.post_area.Goals.{In_ok-first}

pub returns-in_err-weigh_members : goal.returns-in_err-weigh_members
returns-in_err-weigh_members g c =
    let h = lawful c.args.self.now g.P.OpenPhase.two_phases in
    let q = c.in_err-weigh_members.ensures in
    let e = err_from_is_err_and c.from_residual.result c.from_residual.ensures.1 in
    rw (e.1, e.2, q.0) (area_no_bus (opened h) _ q.1.0 q.1.1 q.1.2)

pub returns-in_err-weigh_participant : goal.returns-in_err-weigh_participant
returns-in_err-weigh_participant g c =
    let h = lawful c.args.self.now g.P.OpenPhase.two_phases in
    let q = c.in_err-weigh_participant.ensures in
    let e = err_from_is_err_and c.from_residual-in_err-weigh_participant.result c.from_residual-in_err-weigh_participant.ensures.1 in
    rw (e.1, e.2, q.0) (area_no_participant (opened h) _ c.in_ok-weigh_members.ensures q.1)

pub returns-in_err-totals : goal.returns-in_err-totals
returns-in_err-totals g c =
    let h = lawful c.args.self.now g.P.OpenPhase.two_phases in
    let e = err_from_is_err_and c.from_residual-in_err-totals.result c.from_residual-in_err-totals.ensures.1 in
    rw (e.1, e.2) (area_over h _ c.in_ok-weigh_members.ensures c.in_ok-weigh_participant.ensures _ c.in_err-totals.ensures)

-- what the areas' own call refused
pub returns-in_err-first : goal.returns-in_err-first
returns-in_err-first g c =
    let h = lawful c.args.self.now g.P.OpenPhase.two_phases in
    let q = c.in_err-first.ensures in
    let e = err_from_is_err_and c.from_residual-in_err-first.result c.from_residual-in_err-first.ensures.1 in
    rw (e.1, e.2) (area_unposted h _ c.in_ok-weigh_members.ensures c.in_ok-weigh_participant.ensures c.in_ok-totals.totals c.in_ok-totals.ensures _ _ q.answer q.posted)

-- the step that is taken
made : (g : given.Over) (c : In_ok-first g) → Made (register_of c.args.self.now) (spreading c.args.participant c.args.tenths c.args.members.now) (Ok (RecordNumber c.in_ok-first.first)) g.P.OpenPhase.closings c.args.self.now.buses c.in_ok-totals.totals (book c.post_area.new.ledger) (book c.args.self.now.transactions)
made g c =
    let h = lawful c.args.self.now g.P.OpenPhase.two_phases in
    let q = c.in_ok-first.ensures in
    area_made h _ c.in_ok-weigh_members.ensures c.in_ok-weigh_participant.ensures c.in_ok-totals.totals c.in_ok-totals.ensures _ _ q.answer q.posted.0 q.posted.1

pub invariant_of-self-2 : goal.invariant_of-self-2
invariant_of-self-2 g c =
    let l = (made g (goal.at.invariant_of-self-2 g c).In_ok-first).lawful in
    record { marked = l.marked; summed = l.summed; sized = l.sized; sound = l.sound }

pub returns : goal.returns
returns g c = (made g (goal.at.returns g c).In_ok-first).step
