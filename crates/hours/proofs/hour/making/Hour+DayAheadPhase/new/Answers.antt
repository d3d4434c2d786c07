use Rattle.register.proofs.Closings.{new_lawful}
use Rattle.hours.proofs.hour.making.Hour+DayAheadPhase.new.Goals as goal

pub invariant_of-result : goal.invariant_of-result
invariant_of-result c =
    let l = new_lawful _ _ _ _ _ _ c.requires c.new-positions.ensures.book c.new-transactions.ensures.book c.none.ensures in
    record { marked = l.marked; summed = l.summed; sized = l.sized; sound = l.sound }
