use Rattle.std.proofs.Common.{Ok}
use Rattle.std.proofs.lemmas.Result.{err_from_is_err_and}
use Rattle.ledgers.specs.Book.{book}
use Rattle.register.specs.Views.{transferring}
use Rattle.register.specs.declared.answers.Accepted.TheVariants.{RecordNumber}
use Rattle.register.proofs.Lawful.{Made, opened}
use Rattle.register.proofs.Posted.{transfer_over, transfer_to_itself, transfer_full, transfer_made}
use Rattle.register.proofs.Steps.{transfer_no_source, transfer_no_sink, transfer_no_participant}
use Rattle.hours.specs.Hours.{register_of}
use Rattle.hours.proofs.Held.{lawful}
use Rattle.hours.proofs.hour.Hour.post_transaction.Given as given
use Rattle.hours.proofs.hour.Hour.post_transaction.Goals as goal
use Rattle.hours.proofs.hour.Hour.post_transaction.Goals.{In_ok-number}

pub returns-in_err-weigh_bus : goal.returns-in_err-weigh_bus
returns-in_err-weigh_bus g c =
    let h = lawful c.args.self.now g.P.OpenPhase.two_phases in
    let q = c.in_err-weigh_bus.ensures in
    let e = err_from_is_err_and c.from_residual.result c.from_residual.ensures.1 in
    rw (e.1, e.2, q.0) (transfer_no_source (opened h) _ q.1)

pub returns-in_err-weigh_bus-2 : goal.returns-in_err-weigh_bus-2
returns-in_err-weigh_bus-2 g c =
    let h = lawful c.args.self.now g.P.OpenPhase.two_phases in
    let q = c.in_err-weigh_bus-2.ensures in
    let e = err_from_is_err_and c.from_residual-in_err-weigh_bus-2.result c.from_residual-in_err-weigh_bus-2.ensures.1 in
    rw (e.1, e.2, q.0) (transfer_no_sink (opened h) _ q.1)

pub returns-in_err-weigh_participant : goal.returns-in_err-weigh_participant
returns-in_err-weigh_participant g c =
    let h = lawful c.args.self.now g.P.OpenPhase.two_phases in
    let q = c.in_err-weigh_participant.ensures in
    let e = err_from_is_err_and c.from_residual-in_err-weigh_participant.result c.from_residual-in_err-weigh_participant.ensures.1 in
    rw (e.1, e.2, q.0) (transfer_no_participant (opened h) _ (c.in_ok-weigh_bus.ensures, c.in_ok-weigh_bus-2.ensures) q.1)

pub returns-in_err-totals : goal.returns-in_err-totals
returns-in_err-totals g c =
    let h = lawful c.args.self.now g.P.OpenPhase.two_phases in
    let e = err_from_is_err_and c.from_residual-in_err-totals.result c.from_residual-in_err-totals.ensures.1 in
    rw (e.1, e.2) (transfer_over h _ (c.in_ok-weigh_bus.ensures, c.in_ok-weigh_bus-2.ensures) c.in_ok-weigh_participant.ensures _ c.in_err-totals.ensures)

pub returns-then-source-sink : goal.returns-then-source-sink
returns-then-source-sink g c =
    let h = lawful c.args.self.now g.P.OpenPhase.two_phases in
    transfer_to_itself h _ (c.in_ok-weigh_bus.ensures, c.in_ok-weigh_bus-2.ensures) c.in_ok-weigh_participant.ensures c.in_ok-totals.totals c.in_ok-totals.ensures c.if-source-sink.true

pub returns-in_err-number : goal.returns-in_err-number
returns-in_err-number g c =
    let h = lawful c.args.self.now g.P.OpenPhase.two_phases in
    let e = err_from_is_err_and c.from_residual-in_err-number.result c.from_residual-in_err-number.ensures.1 in
    rw (e.1, e.2)
    (transfer_full h _ (c.in_ok-weigh_bus.ensures, c.in_ok-weigh_bus-2.ensures) c.in_ok-weigh_participant.ensures c.in_ok-totals.totals c.in_ok-totals.ensures c.if-source-sink.false c.new.result c.new.ensures _ _ c.in_err-number.ensures.posted)

-- the step that is taken
made : (g : given.Over) (c : In_ok-number g) → Made (register_of c.args.self.now) (transferring c.args.participant c.args.source c.args.sink c.args.tenths) (Ok (RecordNumber c.in_ok-number.number)) g.P.OpenPhase.closings c.args.self.now.buses c.in_ok-totals.totals (book c.args.self.now.positions) (book c.post.new.self)
made g c =
    let h = lawful c.args.self.now g.P.OpenPhase.two_phases in
    transfer_made h _ (c.in_ok-weigh_bus.ensures, c.in_ok-weigh_bus-2.ensures) c.in_ok-weigh_participant.ensures c.in_ok-totals.totals c.in_ok-totals.ensures c.if-source-sink.false c.new.result c.new.ensures _ _ c.in_ok-number.ensures.posted

pub invariant_of-self-2 : goal.invariant_of-self-2
invariant_of-self-2 g c =
    let l = (made g (goal.at.invariant_of-self-2 g c).In_ok-number).lawful in
    record { marked = l.marked; summed = l.summed; sized = l.sized; sound = l.sound }

pub returns : goal.returns
returns g c = (made g (goal.at.returns g c).In_ok-number).step
