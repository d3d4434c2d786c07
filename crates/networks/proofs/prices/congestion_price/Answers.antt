use Rattle.std.proofs.Common.{◌≡◌, ℕ, pos, ◌+ℤ◌, ◌*ℤ◌, to_z-of_z, ◌∙◌, arith, rules}
use mir.Syntax.{w64}
use Rattle.std.proofs.lemmas.Iterator.{YieldsList-from_map, YieldsList-from_range}
use Rattle.std.proofs.lemmas.Iterator.Adapters.{total_from_yields_List}
use Rattle.quantities.specs.Sums.{sum}
use Rattle.quantities.proofs.Bounds.{fits_by}
use Rattle.networks.proofs.Limits.{part_within, parts_within}
use Rattle.networks.proofs.Totals.{fold_all, runs_fit}
use Rattle.networks.proofs.prices.congestion_price.Goals as goal

pub sum-price-requires-clause-fits : goal.sum-price-requires-clause-fits
sum-price-requires-clause-fits g c =
    let network = c.args.network.now in
    let w = g.N.Network.meaning network in
    let met = g.met.N.Network in
    let bus = c.args.bus in
    let m = w.constraints in
    let part = λ (j : ℕ). w.price j *ℤ w.factor j bus in
    let few = met.constraints_most network in
    runs_fit m part (YieldsList-from_map _ part (YieldsList-from_range 0 _ m c.map.ensures.source (omega arith)) c.map.ensures.closure (λ x r q k. search rules)) 1000000000 (part_within w.price w.factor (met.price_most network) (met.factor_most network) bus) (omega arith)

pub returns : goal.returns
returns g c =
    let network = c.args.network.now in
    let w = g.N.Network.meaning network in
    let met = g.met.N.Network in
    let bus = c.args.bus in
    let m = w.constraints in
    let part = λ (j : ℕ). w.price j *ℤ w.factor j bus in
    let few = met.constraints_most network in
    let total : c.sum-price.result ≡ sum m part =
    total_from_yields_List ◌+ℤ◌ (pos 0) _ c.sum-price.ensures.ran (YieldsList-from_map _ part (YieldsList-from_range 0 _ m c.map.ensures.source (omega arith)) c.map.ensures.closure (λ x r q k. search rules)) ∙ fold_all m part in
    let most = parts_within w.price w.factor (met.price_most network) (met.factor_most network) m bus in
    let exact = to_z-of_z (fits_by w64 c.sum-price.result (rw total (omega arith))) in
    record { value = exact ∙ total; bound = rw (exact, total) (omega arith) }
