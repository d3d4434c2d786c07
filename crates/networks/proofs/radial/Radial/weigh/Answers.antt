use Rattle.std.proofs.Common.{rules}
use Rattle.networks.specs.RadialLimits.{refused}
use Rattle.networks.proofs.radial.Radial.weigh.Goals as goal

pub returns-then-not-within_limits : goal.returns-then-not-within_limits
returns-then-not-within_limits c = refused c.args.uppers.now c.args.constraints.now (search rules)
