-- The register that an hour stands for. P is the type of its open phase, and p its ghost members. Assumes nothing.
use Rattle.ledgers.specs.Book.{book, closed_book}
use Rattle.hours.specs.declared.hour.ClosedHour.{ClosedHour}
use Rattle.hours.specs.declared.hour.Hour.{Hour}
use Rattle.register.specs.Register.{Register}
use Rattle.register.specs.Views.{register}

abbrev pub register_of : {P : _} {p : _} → Hour P p → Register
register_of {p} h = register p.closings h.buses (book h.positions) (book h.transactions)

abbrev pub closed_register : ClosedHour → Register
closed_register h = register 2 h.buses (closed_book h.positions) (closed_book h.transactions)
