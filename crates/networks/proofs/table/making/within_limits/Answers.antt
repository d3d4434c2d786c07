use Rattle.std.proofs.Common.{◌≡◌, ◌*◌, ◌<◌, ◌↔◌, length, IsTrue, rules}
use Rattle.std.proofs.Math.Nat.{mul-div_cancel}
use Rattle.networks.specs.Tables.{RowsClose}
use Rattle.networks.proofs.table.making.within_limits.Goals as goal

pub returns-then-factors_within : goal.returns-then-factors_within
returns-then-factors_within c =
    let n = c.args.buses in
    let m = length c.args.prices.now in
    let fs = c.args.factors.now in
    let a_bus : 0 < n = search rules in
    let whole : length fs ≡ m * n = search rules in
    let rows : IsTrue c.rows_close.result ↔ RowsClose n m fs = rw (c.from-then-factors_within.ensures, whole, mul-div_cancel m a_bus) at c.rows_close.ensures in
    search rules
