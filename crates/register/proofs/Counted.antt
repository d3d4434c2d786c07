-- The totals, as records come and change. Assumes nothing.
use Rattle.std.proofs.Common.{◌≡◌, ℕ, ◌+◌, ◌-◌, ◌*◌, ◌≤◌, one-mul, arith}
use Rattle.positions.specs.declared.classes.Side.{Side}
use Rattle.positions.specs.declared.classes.Side.TheVariants.{Withdrawing, Injecting, Transacting}
use Rattle.register.specs.declared.totals.Totals.{Totals}
use Rattle.register.specs.Totals.{of_side, with_side}
use Rattle.positions.specs.Classes.{one_if_side}
use Rattle.register.specs.Register.{Phase, day_ahead, real_time, one_if_phase}

-- a record of the phase itself counts whole
pub counts : (p : Phase) (x : ℕ) → one_if_phase p p * x ≡ x
counts day_ahead x = one-mul x
counts real_time x = one-mul x

pub counts_side : (a : Side) (x : ℕ) → one_if_side a a * x ≡ x
counts_side Withdrawing x = one-mul x
counts_side Injecting x = one-mul x
counts_side Transacting x = one-mul x

-- one total has an amount replaced by another
pub replaced : (t : Totals) (a s : Side) (old m : ℕ) → old ≤ of_side t a → of_side (with_side t a (of_side t a - old + m)) s + one_if_side a s * old ≡ of_side t s + one_if_side a s * m
replaced t Withdrawing Withdrawing old m h = omega arith
replaced t Withdrawing Injecting old m h = omega arith
replaced t Withdrawing Transacting old m h = omega arith
replaced t Injecting Withdrawing old m h = omega arith
replaced t Injecting Injecting old m h = omega arith
replaced t Injecting Transacting old m h = omega arith
replaced t Transacting Withdrawing old m h = omega arith
replaced t Transacting Injecting old m h = omega arith
replaced t Transacting Transacting old m h = omega arith
