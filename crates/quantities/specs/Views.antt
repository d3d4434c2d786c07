-- The numbers in a row of quantities. Assumes nothing.
use Rattle.std.specs.Prelude.{List, map, ℤ}
use Rattle.quantities.specs.declared.kinds.Cents.{Cents}
use Rattle.quantities.specs.declared.kinds.Grains.{Grains}
use Rattle.quantities.specs.declared.kinds.Megawatts.{Megawatts}

abbrev pub cents : List Cents → List ℤ
cents row = map (λ (x : Cents). x.0) row

abbrev pub grains : List Grains → List ℤ
grains row = map (λ (x : Grains). x.0) row

abbrev pub megawatts : List Megawatts → List ℤ
megawatts row = map (λ (x : Megawatts). x.0) row
