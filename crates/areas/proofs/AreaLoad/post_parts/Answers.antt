use Rattle.std.proofs.Common.{◌≡◌, ℕ, ◌⊎◌, List, [], ◌∷◌, refl, ⊎_elim, append-nil, arith}
use Rattle.std.proofs.lemmas.Slice.Zip.{either_empty_from_Zip}
use Rattle.quantities.specs.declared.kinds.Megawatts.{Megawatts}
use Rattle.apportion.specs.declared.items.AreaMember.{AreaMember}
use Rattle.areas.specs.Areas.{loads}
use Rattle.quantities.specs.Views.{megawatts}
use Rattle.areas.proofs.AreaLoad.post_parts.Goals as goal

-- no load is left where the members end, or the row
none_left : (who : ℕ) (ms : List AreaMember) (row : List Megawatts) → (ms ≡ []) ⊎ (row ≡ []) → loads who ms (megawatts row) ≡ []
none_left who [] [] h = refl
none_left who [] (x ∷ row) h = refl
none_left who (m ∷ ms) [] h = refl
none_left who (m ∷ ms) (x ∷ row) h = ⊎_elim (λ e. cc) (λ e. cc) h

pub returns : goal.returns
returns c =
    let it = c.loop-member.member-iterator in
    let over = either_empty_from_Zip it c.next.new.self c.next.result c.in-None.is c.next.ensures.steps in
    let none = none_left c.args.self.now.participant it.a.rest.now it.b.rest.now over in
    grind (arith, append-nil)
