use Rattle.std.proofs.Common.{◌≡◌, replicate, map, sym, ap, ◌∙◌, arith}
use Rattle.std.proofs.lemmas.List.{length-replicate, length-map}
use Rattle.apportion.specs.Split.{shares, whole}
use Rattle.apportion.specs.declared.items.LoadBus.{LoadBus}
use Rattle.apportion.proofs.Refused.{split_never}
use Rattle.apportion.proofs.Equal.{map-replicate, whole_ones}
use Rattle.apportion.proofs.worked.over_equal.Goals as goal

abbrev bus : LoadBus
bus = record { bus = 0; weight = 1 }

-- such a split is not refused
pub returns-in_err-split : goal.returns-in_err-split
returns-in_err-split g c =
    let n = g.row.N in
    let ones = map-replicate (λ (x : LoadBus). x.weight) bus n in
    let all : whole (map (λ (x : LoadBus). x.weight) (replicate n bus)) ≡ n = ap whole ones ∙ whole_ones n in
    absurd (split_never _ _ (length-replicate n _ ∙ sym (length-map (replicate n bus) _ ∙ length-replicate n bus)) (omega (arith, c.requires.some)) (omega (arith, c.requires.most)) c.in_err-split.ensures.answer)

pub returns : goal.returns
returns g c = c.in_ok-split.ensures.places ∙ ap (shares c.args.amount.0) (map-replicate (λ (x : LoadBus). x.weight) bus g.row.N)
