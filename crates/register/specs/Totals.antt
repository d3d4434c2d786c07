-- The totals of a phase, by their sides. Assumes nothing.
use Rattle.std.specs.Prelude.{◌≡◌, ℕ, ◌+◌, ◌-◌, ◌<◌, ◌≤◌, Ok, Err, Result}
use Rattle.refusals.specs.declared.Cause.{Cause}
use Rattle.refusals.specs.declared.Cause.TheVariants.{TotalOverLimit}
use Rattle.positions.specs.declared.classes.Side.{Side}
use Rattle.positions.specs.declared.classes.Side.TheVariants.{Withdrawing, Injecting, Transacting}
use Rattle.register.specs.declared.totals.Totals.{Totals}

abbrev pub of_side : Totals → Side → ℕ
of_side t Withdrawing = t.withdrawing
of_side t Injecting = t.injecting
of_side t Transacting = t.transacting

abbrev pub with_side : Totals → Side → ℕ → Totals
with_side t Withdrawing m = record { withdrawing = m; injecting = t.injecting; transacting = t.transacting }
with_side t Injecting m = record { withdrawing = t.withdrawing; injecting = m; transacting = t.transacting }
with_side t Transacting m = record { withdrawing = t.withdrawing; injecting = t.injecting; transacting = m }

-- one total with an amount replaced by another, where the limit is not passed
abbrev pub Amended : Totals → Side → ℕ → ℕ → Result Totals Cause → Type 0
Amended t s old m (Ok u) = (of_side t s - old + m ≤ 1000000) × (u ≡ with_side t s (of_side t s - old + m))
Amended t s old m (Err c) = (c ≡ TotalOverLimit) × (1000000 < of_side t s - old + m)
