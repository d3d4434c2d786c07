use Rattle.std.proofs.Common.{◌∙◌, sym}
use Rattle.std.proofs.lemmas.Bool.{eqb-true}
use Rattle.std.proofs.lemmas.Result.{err_from_is_err_and}
use Rattle.register.specs.Views.{phase_of}
use Rattle.register.proofs.Names.{named_always, named_day_ahead, number_named}
use Rattle.register.proofs.classes.class_where.Goals as goal
use Rattle.register.proofs.classes.class_where.Goals.{in-Load, in-IncrementOffer}

pub returns-in_err-class : goal.returns-in_err-class
returns-in_err-class c closings same =
    let none = c.in_err-class.ensures in
    let e = err_from_is_err_and c.from_residual.result c.from_residual.ensures.1 in
    rw (e.1, e.2) (none.0, λ k names. none.1 k (number_named names))

pub returns-then-exists : goal.returns-then-exists
returns-then-exists c closings same =
    let class = c.in_ok-class.class in
    let k = c.args.number in
    elim c.match-class.branch [
      | in-Load w ↦ named_always (phase_of closings) class k c.in_ok-class.ensures w.in-Load.is
      | in-IncrementOffer w ↦
          (let none = eqb-true closings 0 (sym same ∙ sym w.exists-is ∙ c.if-exists.true) in
          rw none (named_day_ahead class k c.in_ok-class.ensures))
    ]
