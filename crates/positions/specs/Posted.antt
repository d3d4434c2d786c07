-- What a posted record means, whatever its kind. Assumes nothing.
use Rattle.std.specs.Prelude.{ℕ, ◌*◌, ℤ, pos, ◌-ℤ◌}
use Rattle.quantities.specs.Sums.{same}
use Rattle.positions.specs.declared.classes.Side.{Side}
use Rattle.positions.specs.declared.position.Ends.{Ends}

-- whose it is, its M in tenths of a megawatt, the total that it counts in, its net withdrawal at each bus and its load there
pub record Posted : Type 0 where
  pub participant : ℕ
  pub megawatts : ℕ
  pub side : Side
  pub withdraws : ℕ → ℤ
  pub load : ℕ → ℕ

-- what is withdrawn at bus i by what stands at a sink and a source, and what is load there
abbrev pub net_of : Ends → ℕ → ℤ
net_of e i = pos (same e.sink i * e.withdrawn) -ℤ pos (same e.source i * e.injected)

abbrev pub load_of : Ends → ℕ → ℕ
load_of e i = same e.sink i * e.load
