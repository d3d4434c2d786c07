-- Carried cents that follow from the definitions. Assumes nothing.
use Rattle.std.specs.Prelude.{◌≡◌, [], ◌∷◌, pos, negsuc}
use Rattle.quantities.specs.Rounding.{carried_row}
use Rattle.quantities.specs.Views.{cents, grains}
use Rattle.apportion.specs.declared.worked.WorkedCents.{WorkedCents}

abbrev pub WorkedCentsDefined : Type 0
WorkedCentsDefined =
    (carried_row 10000 (pos 15000 ∷ pos 15000 ∷ []) ≡ pos 1 ∷ pos 2 ∷ [])
    × (carried_row 10000 (negsuc 4999 ∷ []) ≡ negsuc 0 ∷ [])

-- the same figures in the rows that are returned
pub record WorkedCentsRows (w : WorkedCents) : Type 0 where
  pub twice : grains w.twice ≡ pos 15000 ∷ pos 15000 ∷ []
  pub twice_in_cents : cents w.twice_in_cents ≡ pos 1 ∷ pos 2 ∷ []
  pub below_nought : grains w.below_nought ≡ negsuc 4999 ∷ []
  pub below_nought_in_cents : cents w.below_nought_in_cents ≡ negsuc 0 ∷ []
