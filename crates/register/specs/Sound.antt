-- What every register that calls lead to keeps to. Assumes nothing.
use Rattle.std.specs.Prelude.{◌≡◌, ℕ, ◌<◌, ◌≤◌, List, length, slice_index_or}
use Rattle.positions.specs.declared.bus_positions.BusPosition.{BusPosition}
use Rattle.positions.specs.declared.transactions.Transaction.{Transaction}
use Rattle.positions.specs.declared.classes.Side.{Side}
use Rattle.positions.specs.declared.classes.Side.TheVariants.{Withdrawing, Injecting}
use Rattle.register.specs.Register.{Register, Kept, Phase, day_ahead, real_time, total}

-- each record names a participant and buses that there are
abbrev pub Placed : ℕ → List (Kept BusPosition) → Type 0
Placed n xs = (i : ℕ) (d : Kept BusPosition) → i < length xs → ((slice_index_or xs i d).entry.participant < 16) × ((slice_index_or xs i d).entry.bus < n)

abbrev pub Transferred : ℕ → List (Kept Transaction) → Type 0
Transferred n xs = (i : ℕ) (d : Kept Transaction) → i < length xs → ((slice_index_or xs i d).entry.participant < 16) × ((slice_index_or xs i d).entry.source < n) × ((slice_index_or xs i d).entry.sink < n)

-- no total of a phase passes the limit
abbrev pub Limited : Register → Type 0
Limited r = (p : Phase) (s : Side) → total r p s ≤ 1000000

abbrev pub Balanced : Register → Phase → Type 0
Balanced r p = total r p Withdrawing ≡ total r p Injecting

-- a closed phase is balanced
abbrev pub ClosedBalanced : Register → Type 0
ClosedBalanced r = (1 ≤ r.closings → Balanced r day_ahead) × (2 ≤ r.closings → Balanced r real_time)

abbrev pub Sound : Register → Type 0
Sound r = Placed r.buses r.positions × Transferred r.buses r.transactions × Limited r × ClosedBalanced r
