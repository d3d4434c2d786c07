-- What an hour keeps to, from its ghost fields. Assumes nothing.
use Rattle.std.proofs.Common.{◌<◌}
use Rattle.ledgers.specs.Book.{book}
use Rattle.register.proofs.Lawful.{Lawful}
use Rattle.hours.specs.declared.hour.Hour.{Hour}

pub lawful : {P : _} {p : _} (h : Hour P p) → p.closings < 2 → Lawful p.closings h.buses h.totals (book h.positions) (book h.transactions)
lawful h few = record { few = few; marked = h.marked; summed = h.summed; sized = h.sized; sound = h.sound }
