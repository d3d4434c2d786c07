use Rattle.std.proofs.Common.{rules}
use Rattle.networks.specs.TableLimits.{refused, within_clear}
use Rattle.networks.proofs.table.Table.weigh.Goals as goal

pub returns-then-not-within_limits : goal.returns-then-not-within_limits
returns-then-not-within_limits c = refused c.args.buses c.args.prices.now c.args.factors.now (search rules)

pub returns : goal.returns
returns c = within_clear c.args.buses c.args.prices.now c.args.factors.now (search rules)
