use Rattle.std.proofs.Common.{◌≡◌, Some, refl, sym, ap, ◌∙◌, get_or, set}
use Rattle.std.proofs.lemmas.Result.{err_from_is_err_and}
use Rattle.refusals.specs.declared.Cause.TheVariants.{RecordNotOpen}
use Rattle.ledgers.specs.Book.{book, holding, OpenAt}
use Rattle.register.specs.Amending.{not_open, over_limit}
use Rattle.hours.proofs.hour.amending.amend.Given as given
use Rattle.hours.proofs.hour.amending.amend.Goals as goal
use Rattle.hours.proofs.hour.amending.amend.Goals.{In_ok-old}

-- the record of that number is open
found : (g : given.Over) (c : In_ok-old g) → OpenAt (book c.args.ledger.now) c.args.record (Some c.in_ok-old.old)
found g c = rw c.in_ok-old.ensures.ok_part at c.requires

pub returns-in_err-old-clause-amended : goal.returns-in_err-old-clause-amended
returns-in_err-old-clause-amended g c =
    let h = c.in_err-old.ensures in
    let none = rw h.ok_part at c.requires in
    let value = rw h.ok_part at h.value in
    let same : c.in_err-old.field-0.0 ≡ RecordNotOpen = cc in
    let e = err_from_is_err_and c.from_residual.result c.from_residual.ensures.1 in
    rw (e.1, e.2, same) (not_open none, refl, refl)

pub returns-in_err-amended-clause-amended : goal.returns-in_err-amended-clause-amended
returns-in_err-amended-clause-amended g c =
    let e = err_from_is_err_and c.from_residual-in_err-amended.result c.from_residual-in_err-amended.ensures.1 in
    rw (e.1, e.2) (over_limit c.in_ok-old.old (found g (goal.at.returns-in_err-amended-clause-amended g c).In_ok-old) (rw (c.side.ensures, c.tenths.ensures) at c.in_err-amended.ensures), refl, refl)

pub returns-clause-amended : goal.returns-clause-amended
returns-clause-amended g c =
    let b = book c.args.ledger.now in
    let i = c.args.«record» in
    let m = c.args.tenths in
    let x = c.in_ok-old.old in
    let at_i = found g (goal.at.returns-clause-amended g c).In_ok-old in
    let is : x ≡ get_or b.items i x = at_i.2 x in
    let changed = c.in_ok-amend.ensures.amended.2 x in (
      x,
      at_i,
      rw (c.side.ensures, c.tenths.ensures) at c.in_ok-amended.ensures,
      changed ∙ ap (λ z. holding b (set b.items i (g.P.Position.amended z m))) (sym is),
    )
