-- Splits that follow from the definitions. Assumes nothing.
use Rattle.std.specs.Prelude.{◌≡◌, [], ◌∷◌, pos, negsuc}
use Rattle.quantities.specs.Views.{cents, megawatts}
use Rattle.apportion.specs.declared.worked.WorkedSplits.{WorkedSplits}
use Rattle.apportion.specs.Split.{shares}

abbrev pub WorkedSplitsDefined : Type 0
WorkedSplitsDefined =
    (shares (pos 100) (1 ∷ 1 ∷ 1 ∷ []) ≡ pos 33 ∷ pos 33 ∷ pos 34 ∷ [])
    × (shares (negsuc 99) (1 ∷ 1 ∷ 1 ∷ []) ≡ negsuc 33 ∷ negsuc 32 ∷ negsuc 32 ∷ [])
    × (shares (pos 6) (1 ∷ 1 ∷ 1 ∷ 1 ∷ []) ≡ pos 1 ∷ pos 2 ∷ pos 1 ∷ pos 2 ∷ [])
    × (shares (pos 10) (3333 ∷ 3333 ∷ 3334 ∷ []) ≡ pos 3 ∷ pos 3 ∷ pos 4 ∷ [])

-- the same figures in the rows that the split fills
pub record WorkedRows (w : WorkedSplits) : Type 0 where
  pub hundred : cents w.hundred ≡ pos 33 ∷ pos 33 ∷ pos 34 ∷ []
  pub hundred_below_nought : cents w.hundred_below_nought ≡ negsuc 33 ∷ negsuc 32 ∷ negsuc 32 ∷ []
  pub six : cents w.six ≡ pos 1 ∷ pos 2 ∷ pos 1 ∷ pos 2 ∷ []
  pub area : megawatts w.area ≡ pos 3 ∷ pos 3 ∷ pos 4 ∷ []
