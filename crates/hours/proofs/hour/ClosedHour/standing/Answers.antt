use Rattle.std.proofs.Common.{sym, ◌∙◌}
use Rattle.ledgers.specs.Book.{closed_book}
use Rattle.register.specs.Register.{real_time}
use Rattle.register.proofs.Kept.{kept_entries}
use Rattle.hours.proofs.hour.ClosedHour.standing.Goals as goal

pub returns-clause-positions : goal.returns-clause-positions
returns-clause-positions c = kept_entries real_time (closed_book c.args.self.now.positions) ∙ sym c.standing.ensures.records

pub returns-clause-transactions : goal.returns-clause-transactions
returns-clause-transactions c = kept_entries real_time (closed_book c.args.self.now.transactions) ∙ sym c.standing-2.ensures.records
