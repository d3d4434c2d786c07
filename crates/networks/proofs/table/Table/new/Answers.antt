use Rattle.std.proofs.Common.{vec_items}
use Rattle.networks.specs.TableLimits.{within, spread_most}
use Rattle.networks.proofs.table.Table.new.Goals as goal

pub invariant_of-result : goal.invariant_of-result
invariant_of-result c =
    let n = c.args.buses in
    let ps = vec_items c.args.prices in
    let fs = vec_items c.args.factors in
    let w = within n ps fs c.requires in
    record {
      a_bus = w.a_bus;
      buses_most = w.buses;
      constraints_most = w.constraints;
      prices_within = w.prices;
      whole = w.whole;
      factors_within = w.factors;
      spread_most = spread_most n ps fs w;
    }
