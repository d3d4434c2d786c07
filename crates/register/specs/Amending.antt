-- An amendment in a ledger and in the totals of the open phase. Assumes nothing.
use Rattle.std.specs.Prelude.{◌≡◌, ℕ, Some, None, Ok, Err, Result, slice_set}
use Rattle.refusals.specs.declared.Cause.{Cause}
use Rattle.refusals.specs.declared.Cause.TheVariants.{RecordNotOpen}
use Rattle.positions.specs.Posted.{Posted}
use Rattle.ledgers.specs.Book.{Book, OpenAt, holding}
use Rattle.register.specs.declared.totals.Totals.{Totals}
use Rattle.register.specs.Totals.{Amended}

-- why the record i is not amended to m: it is not open, or its total would pass the limit
pub data AmendRefused {P : Type 0} (meaning : P → Posted) (b : Book P) (t : Totals) (i m : ℕ) : Cause → Type 0 where
  not_open : OpenAt b i None → AmendRefused meaning b t i m RecordNotOpen
  over_limit : (x : P) {c : Cause} → OpenAt b i (Some x) → Amended t (meaning x).side (meaning x).megawatts m (Err c) → AmendRefused meaning b t i m c

-- the record i is amended to m, and so is the total that it counts in; or neither is
abbrev pub RecordAmended : {P : Type 0} → (P → Posted) → (P → ℕ → P) → Book P → Totals → ℕ → ℕ → Result (Unit {0}) Cause → Book P → Totals → Type 0
RecordAmended {P} meaning amended b t i m (Ok _) e u =
    (x : P)
    × OpenAt b i (Some x)
    × Amended t (meaning x).side (meaning x).megawatts m (Ok u)
    × (e ≡ holding b (slice_set b.items i (amended x m)))
RecordAmended meaning amended b t i m (Err c) e u = AmendRefused meaning b t i m c × (e ≡ b) × (u ≡ t)
