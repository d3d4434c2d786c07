use Rattle.std.proofs.Common.{◌≡◌, ℕ, suc, ◌+◌, ◌<◌, ◌≤◌, map, length, ℤ, pos, ◌+ℤ◌, ◌-ℤ◌, ◌*ℤ◌, sym, ap, ◌∙◌, subst, arith, w64, SFits, to_z, of_z, rules}
use mir.Syntax.{w128}
use Rattle.std.proofs.lemmas.List.{length-map}
use Rattle.std.proofs.lemmas.Int.{to_z-of_z}
use Rattle.quantities.specs.Sums.{sumℕ, atℕ}
use Rattle.quantities.specs.Rounding.{floor}
use Rattle.quantities.proofs.SumLaws.{sumℕ_grows, sumℕ_more}
use Rattle.apportion.specs.Split.{share}
use Rattle.apportion.proofs.Sizes.{between_fits, weighted_fits, weighted_more}
use Rattle.apportion.proofs.Steps.{weights_more, place_filled, row_filled}
use Rattle.apportion.proofs.shares.fill.Goals as goal
use Rattle.apportion.proofs.shares.fill.Goals.{After-weight, After-exact_part}
use Rattle.apportion.proofs.shares.fill.Given as given

-- the weights up to and with the item, within the sum
record UpTo (p w q W : ℕ) : Type 0 where
  more : q ≡ p + w
  within : q ≤ W
  most : q ≤ 2000000000

up_to : (g : given.Over) (c : goal.After-weight g) →
    let ws = map g.I.WeightedItem.weighs c.args.items.now in
    UpTo (sumℕ c.loop-i.i (atℕ ws)) c.weight.result (sumℕ (c.loop-i.i + 1) (atℕ ws)) c.args.sum
up_to g c =
    let f = g.I.WeightedItem.weighs in
    let xs = c.args.items.now in
    let ws = map f xs in
    let i = c.loop-i.i in
    let more = weights_more f xs i c.index-items-i.result c.loop-i-test.true c.index-items-i.is in
    let room : i + 1 ≤ length ws = rw length-map (omega arith) in
    let grown = sumℕ_grows (i + 1) (length ws) (atℕ ws) room in
    record { more = omega arith; within = omega arith; most = omega arith }

pub exact_part-requires : goal.exact_part-requires
exact_part-requires g c = let h = up_to g c in omega (arith, h.more, h.most)

-- the amount, the exact parts up to and with the item as the code adds them, and the item's share
record Share (A : ℤ) (p q W d : ℕ) (exact part : ℤ) : Type 0 where
  fits : SFits w64 A
  more : exact +ℤ part ≡ A *ℤ pos q
  is : floor (exact +ℤ part) d -ℤ floor exact d ≡ floor (A *ℤ pos q) W -ℤ floor (A *ℤ pos p) W

share_of : (g : given.Over) (c : goal.After-exact_part g) →
    let ws = map g.I.WeightedItem.weighs c.args.items.now in
    Share (g.Q.Quantity.units c.args.amount) (sumℕ c.loop-i.i (atℕ ws)) (sumℕ (c.loop-i.i + 1) (atℕ ws)) c.args.sum c.loop-i.running.divisor c.loop-i.running.exact (to_z w128 (of_z w128 c.exact_part.result))
share_of g c =
    let A = g.Q.Quantity.units c.args.amount in
    let ws = map g.I.WeightedItem.weighs c.args.items.now in
    let p = sumℕ c.loop-i.i (atℕ ws) in
    let q = sumℕ (c.loop-i.i + 1) (atℕ ws) in
    let w = c.weight.result in
    let W = c.args.sum in
    let d = c.loop-i.running.divisor in
    let exact = c.loop-i.running.exact in
    let h = up_to g (goal.at.give-share-requires-clause-sum g c).After-weight in
    let small : SFits w64 c.units.result = search rules in
    let wide : SFits w128 c.exact_part.result = search rules in
    let whole_amount : to_z w64 (of_z w64 c.units.result) ≡ A = to_z-of_z w64 c.units.result small ∙ c.units.ensures in
    let part : to_z w128 (of_z w128 c.exact_part.result) ≡ A *ℤ pos w = to_z-of_z w128 c.exact_part.result wide ∙ c.exact_part.ensures ∙ ap (λ z. z *ℤ pos w) whole_amount in
    let all : exact +ℤ to_z w128 (of_z w128 c.exact_part.result) ≡ A *ℤ pos q = ap (λ z. exact +ℤ z) part ∙ ap (λ z. z +ℤ A *ℤ pos w) c.loop-i.invariant.1 ∙ weighted_more A p w q h.more in
    record {
      fits = subst (SFits w64) c.units.ensures small;
      more = all;
      is = ap (λ z. floor z d -ℤ floor exact d) all ∙ ap (λ z. floor (A *ℤ pos q) d -ℤ floor z d) c.loop-i.invariant.1 ∙ ap (λ k. floor (A *ℤ pos q) k -ℤ floor (A *ℤ pos p) k) c.loop-i.invariant.0;
    }

pub give-share-requires-clause-sum : goal.give-share-requires-clause-sum
give-share-requires-clause-sum g c =
    let h = up_to g (goal.at.give-share-requires-clause-sum g c).After-weight in
    let s = share_of g c in
    subst (SFits w128) (sym s.more) (weighted_fits _ _ s.fits h.most)

pub give-share-requires-clause-share : goal.give-share-requires-clause-share
give-share-requires-clause-share g c =
    let h = up_to g (goal.at.give-share-requires-clause-share g c).After-weight in
    let s = share_of g c in
    subst (SFits w64) (sym s.is) (between_fits w64 _ c.args.sum _ _ s.fits c.requires.some (omega (arith, h.more)) h.within)

pub loop-i-preserved : goal.loop-i-preserved
loop-i-preserved g c =
    let u = g.Q.Quantity.units in
    let A = u c.args.amount in
    let ws = map g.I.WeightedItem.weighs c.args.items.now in
    let i = c.loop-i.i in
    let p = sumℕ i (atℕ ws) in
    let W = c.args.sum in
    let row = c.loop-i.row in
    let new = c.from_units.result in
    let s = share_of g (goal.at.loop-i-preserved g c).After-exact_part in
    let small : SFits w64 c.give-share.result = search rules in
    let value : u new ≡ share A (length ws) (atℕ ws) i =
    c.from_units.ensures ∙ to_z-of_z w64 c.give-share.result small ∙ c.give-share.ensures.share ∙ s.is
    ∙ ap (λ k. floor (A *ℤ pos k) W -ℤ floor (A *ℤ pos p) W) (sumℕ_more i (atℕ ws)) ∙ ap (λ k. floor (A *ℤ pos (sumℕ (suc i) (atℕ ws))) k -ℤ floor (A *ℤ pos p) k) c.requires.sum in
    let room : i < length row = omega arith in
    (c.give-share.ensures.divisor ∙ c.loop-i.invariant.0, c.give-share.ensures.exact ∙ s.more, place_filled u (share A (length ws) (atℕ ws)) row i new room value c.loop-i.invariant.2)

pub returns : goal.returns
returns g c =
    let u = g.Q.Quantity.units in
    let f = g.I.WeightedItem.weighs in
    let xs = c.args.items.now in
    let ws = map f xs in
    let row = c.loop-i.row in
    let long : length row ≡ length ws = (let e : length row ≡ length xs = omega arith in e) ∙ sym (length-map xs f) in
    let end : length ws ≤ c.loop-i.i = rw length-map (omega arith) in
    row_filled u (share (u c.args.amount) (length ws) (atℕ ws)) row c.loop-i.i (length ws) long end c.loop-i.invariant.2
