use Rattle.std.proofs.Common.{Ok}
use Rattle.ledgers.specs.Book.{closed_book}
use Rattle.register.specs.Register.{Step, close}
use Rattle.register.specs.Views.{register}
use Rattle.register.specs.declared.answers.Accepted.TheVariants.{Taken}
use Rattle.register.proofs.Closings.{real_time_closed}
use Rattle.register.proofs.Runs.{step_sound}
use Rattle.hours.specs.Hours.{register_of}
use Rattle.hours.proofs.hour.closing.Hour+RealTimePhase.close.Goals as goal
use Rattle.hours.proofs.hour.closing.Hour+RealTimePhase.close.Goals.{After-finish-transactions}

step : (c : After-finish-transactions) → Step (register_of c.args.self) close (Ok Taken) (register 2 c.args.self.buses (closed_book c.finish-positions.result) (closed_book c.finish-transactions.result))
step c = real_time_closed _ _ _ _ _ c.requires c.finish-positions.ensures.book c.finish-transactions.ensures.book

pub invariant_of-result : goal.invariant_of-result
invariant_of-result c = record { sound = step_sound (step (goal.at.invariant_of-result c).After-finish-transactions) c.args.self.sound }

pub returns : goal.returns
returns c = step (goal.at.returns c).After-finish-transactions
