use Rattle.std.proofs.Common.{◌≡◌, ℕ, ◌+◌, ◌<◌, ◌≤◌, List, length, get_or, ℤ, pos, ◌+ℤ◌, ◌-ℤ◌, sym, ap, ◌∙◌, arith, w64, SFits, to_z, of_z, rules}
use mir.Syntax.{w128}
use Rattle.std.proofs.lemmas.List.{get_or-map, length-map}
use Rattle.std.proofs.lemmas.Int.{to_z-of_z}
use Rattle.quantities.specs.declared.kinds.Cents.{Cents}
use Rattle.quantities.specs.declared.kinds.Grains.{Grains}
use Rattle.quantities.specs.Sums.{sum, at}
use Rattle.quantities.specs.Rounding.{floor, carried}
use Rattle.quantities.specs.Views.{grains}
use Rattle.quantities.proofs.SumLaws.{sum_more}
use Rattle.quantities.proofs.Carrying.{within_more}
use Rattle.apportion.proofs.Steps.{place_filled, row_filled}
use Rattle.apportion.proofs.carried.fill_carried.Goals as goal

-- the amount at k, as the definition reads it
here : (xs : List Grains) (k : ℕ) → k < length xs → (get_or xs k (record { 0 = pos 0 })).0 ≡ at (grains xs) k
here xs k h = sym (get_or-map (λ (x : Grains). x.0) xs k (record { 0 = pos 0 }) (pos 0) h)

pub loop-k-preserved : goal.loop-k-preserved
loop-k-preserved c =
    let xs = c.args.exact.now in
    let k = c.loop-k.k in
    let g = at (grains xs) in
    let row = c.loop-k.row in
    let exact = c.loop-k.running.exact in
    let d = c.loop-k.running.divisor in
    let x : ℤ = (get_or xs k (record { 0 = pos 0 })).0 in
    let fits : SFits w64 x = search rules in
    let wide : SFits w128 c.from.result = search rules in
    let part : to_z w128 (of_z w128 c.from.result) ≡ x = to_z-of_z w128 c.from.result wide ∙ c.from.ensures ∙ to_z-of_z w64 x fits in
    let up : exact +ℤ to_z w128 (of_z w128 c.from.result) ≡ sum (k + 1) g = ap (λ z. exact +ℤ z) (part ∙ here xs k c.loop-k-test.true) ∙ ap (λ z. z +ℤ g k) c.loop-k.invariant.1 ∙ sym (sum_more k g) in
    let small : SFits w64 c.give.result = search rules in
    let share : to_z w64 (of_z w64 c.give.result) ≡ carried 10000 g k =
    to_z-of_z w64 c.give.result small ∙ c.give.ensures.share ∙ ap (λ z. floor z d -ℤ floor exact d) up ∙ ap (λ z. floor (sum (k + 1) g) d -ℤ floor z d) c.loop-k.invariant.1
    ∙ ap (λ n. floor (sum (k + 1) g) n -ℤ floor (sum k g) n) c.loop-k.invariant.0 ∙ ap (λ z. floor z 10000 -ℤ floor (sum k g) 10000) (sum_more k g) in
    let new : Cents = record { 0 = to_z w64 (of_z w64 c.give.result) } in
    let room : k < length row = omega arith in
    let total : c.give.new.self.exact ≡ exact +ℤ x = c.give.ensures.exact ∙ ap (λ z. exact +ℤ z) part in
    (c.give.ensures.divisor ∙ c.loop-k.invariant.0, c.give.ensures.exact ∙ up, within_more exact x c.give.new.self.exact k c.loop-k.invariant.2 fits total, place_filled (λ (y : Cents). y.0) (carried 10000 g) row k new room share c.loop-k.invariant.3)

pub returns : goal.returns
returns c =
    let xs = c.args.exact.now in
    let row = c.loop-k.row in
    let n = length (grains xs) in
    let long : length row ≡ n = (let e : length row ≡ length xs = omega arith in e) ∙ sym (length-map xs (λ (y : Grains). y.0)) in
    let end : n ≤ c.loop-k.k = rw length-map (omega arith) in
    row_filled (λ (y : Cents). y.0) (carried 10000 (at (grains xs))) row c.loop-k.k n long end c.loop-k.invariant.3
