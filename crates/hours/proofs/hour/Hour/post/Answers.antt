use Rattle.std.proofs.Common.{Ok}
use Rattle.std.proofs.lemmas.Result.{err_from_is_err_and}
use Rattle.ledgers.specs.Book.{book}
use Rattle.register.specs.Views.{posting}
use Rattle.register.specs.declared.answers.Accepted.TheVariants.{RecordNumber}
use Rattle.register.proofs.Lawful.{Made, opened}
use Rattle.register.proofs.Posted.{post_over, post_full, post_made}
use Rattle.register.proofs.Steps.{post_no_bus, post_no_participant, post_no_class}
use Rattle.hours.specs.Hours.{register_of}
use Rattle.hours.proofs.Held.{lawful}
use Rattle.hours.proofs.hour.Hour.post.Given as given
use Rattle.hours.proofs.hour.Hour.post.Goals as goal
use Rattle.hours.proofs.hour.Hour.post.Goals.{In_ok-number}

pub returns-in_err-weigh_bus : goal.returns-in_err-weigh_bus
returns-in_err-weigh_bus g c =
    let h = lawful c.args.self.now g.P.OpenPhase.two_phases in
    let q = c.in_err-weigh_bus.ensures in
    let e = err_from_is_err_and c.from_residual.result c.from_residual.ensures.1 in
    rw (e.1, e.2, q.0) (post_no_bus (opened h) _ q.1)

pub returns-in_err-weigh_participant : goal.returns-in_err-weigh_participant
returns-in_err-weigh_participant g c =
    let h = lawful c.args.self.now g.P.OpenPhase.two_phases in
    let q = c.in_err-weigh_participant.ensures in
    let e = err_from_is_err_and c.from_residual-in_err-weigh_participant.result c.from_residual-in_err-weigh_participant.ensures.1 in
    rw (e.1, e.2, q.0) (post_no_participant (opened h) _ c.in_ok-weigh_bus.ensures q.1)

pub returns-in_err-class : goal.returns-in_err-class
returns-in_err-class g c =
    let h = lawful c.args.self.now g.P.OpenPhase.two_phases in
    let none = c.in_err-class.ensures in
    let e = err_from_is_err_and c.from_residual-in_err-class.result c.from_residual-in_err-class.ensures.1 in
    rw (e.1, e.2, none.0) (post_no_class (opened h) _ c.in_ok-weigh_bus.ensures c.in_ok-weigh_participant.ensures none.1)

pub returns-in_err-totals : goal.returns-in_err-totals
returns-in_err-totals g c =
    let h = lawful c.args.self.now g.P.OpenPhase.two_phases in
    let over = rw c.side.ensures at c.in_err-totals.ensures in
    let e = err_from_is_err_and c.from_residual-in_err-totals.result c.from_residual-in_err-totals.ensures.1 in
    rw (e.1, e.2) (post_over h _ c.in_ok-weigh_bus.ensures c.in_ok-weigh_participant.ensures c.in_ok-class.class c.in_ok-class.ensures _ over)

pub returns-in_err-number : goal.returns-in_err-number
returns-in_err-number g c =
    let h = lawful c.args.self.now g.P.OpenPhase.two_phases in
    let new = rw c.side.ensures at c.in_ok-totals.ensures in
    let e = err_from_is_err_and c.from_residual-in_err-number.result c.from_residual-in_err-number.ensures.1 in
    rw (e.1, e.2)
    (post_full h _ c.in_ok-weigh_bus.ensures c.in_ok-weigh_participant.ensures c.in_ok-class.class c.in_ok-class.ensures c.in_ok-totals.totals new c.new.result c.new.ensures _ _ c.in_err-number.ensures.posted)

-- the step that is taken
made : (g : given.Over) (c : In_ok-number g) → Made (register_of c.args.self.now) (posting c.args.participant c.args.class c.args.bus c.args.tenths) (Ok (RecordNumber c.in_ok-number.number)) g.P.OpenPhase.closings c.args.self.now.buses c.in_ok-totals.totals (book c.post.new.self) (book c.args.self.now.transactions)
made g c =
    let h = lawful c.args.self.now g.P.OpenPhase.two_phases in
    let new = rw c.side.ensures at c.in_ok-totals.ensures in
    post_made h _ c.in_ok-weigh_bus.ensures c.in_ok-weigh_participant.ensures c.in_ok-class.class c.in_ok-class.ensures c.in_ok-totals.totals new c.new.result c.new.ensures _ _ c.in_ok-number.ensures.posted

pub invariant_of-self-2 : goal.invariant_of-self-2
invariant_of-self-2 g c =
    let l = (made g (goal.at.invariant_of-self-2 g c).In_ok-number).lawful in
    record { marked = l.marked; summed = l.summed; sized = l.sized; sound = l.sound }

pub returns : goal.returns
returns g c = (made g (goal.at.returns g c).In_ok-number).step
