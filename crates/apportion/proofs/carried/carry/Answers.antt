use Rattle.std.proofs.Common.{ap, ◌∙◌}
use Rattle.quantities.specs.Sums.{sum_of}
use Rattle.quantities.specs.Views.{grains}
use Rattle.quantities.proofs.Carrying.{carried_row_adds}
use Rattle.apportion.proofs.carried.carry.Goals as goal

pub returns-clause-adds : goal.returns-clause-adds
returns-clause-adds c = ap (λ zs. sum_of (λ z. z) zs) c.fill_carried.ensures ∙ carried_row_adds 10000 (grains c.args.exact.now)
