-- What a radial network means, and where it is refused. Assumes nothing.
use Rattle.std.specs.Prelude.{◌≡◌, ℕ, zero, suc, ◌+◌, ◌<◌, ◌≤◌, Bool, if◌then◌else◌, ◌&&◌, List, length, ℤ, pos, negsuc, ◌==◌, nat_lt, slice_index_or, EachIndex, unsigned_abs}
use Rattle.refusals.specs.declared.Cause.{Cause}
use Rattle.refusals.specs.declared.Cause.TheVariants.{OutsideLimits}
use Rattle.quantities.specs.Sums.{atℕ}
use Rattle.networks.specs.declared.radial.constraint.RadialConstraint.{RadialConstraint}
use Rattle.networks.specs.Descent.{upper, Falling, Under}
use Rattle.quantities.specs.Limits.{most_buses}
use Rattle.networks.specs.Limits.{most_constraints, most_price}
use Rattle.networks.specs.Meaning.{Meaning}

-- the constraint at a place of a list, with its bus and its price; nought past the end
abbrev pub constraint_at : List RadialConstraint → ℕ → RadialConstraint
constraint_at cs j = slice_index_or cs j (record { bus = 0; price = record { 0 = pos 0 } })

abbrev pub constraint_bus : List RadialConstraint → ℕ → ℕ
constraint_bus cs j = (constraint_at cs j).bus

abbrev pub constraint_price : List RadialConstraint → ℕ → ℤ
constraint_price cs j = (constraint_at cs j).price.0

-- ---- what it means, told by the relation of descent

pub record RadialTells (us : List ℕ) (cs : List RadialConstraint) (w : Meaning) : Type 0 where
  pub buses : w.buses ≡ length us + 1
  pub constraints : w.constraints ≡ length cs
  pub price : (j : ℕ) → w.price j ≡ constraint_price cs j
  -- -1,000 at the constraint's bus and at its descendants, and nought at every other bus
  pub under : (j i : ℕ) → j < length cs → i < length us + 1 → Under (upper us) (constraint_bus cs j) i → w.factor j i ≡ negsuc 999
  pub elsewhere : (j i : ℕ) → (Under (upper us) (constraint_bus cs j) i → ⊥) → w.factor j i ≡ pos 0
  -- nought beyond the counts
  pub beyond_constraints : (j i : ℕ) → length cs ≤ j → w.factor j i ≡ pos 0
  pub beyond_buses : (j i : ℕ) → length us + 1 ≤ i → w.factor j i ≡ pos 0

-- A meaning holds the factors as a function, so here the path is followed: whether it reaches b in at most k steps from i.
unfoldable pub reaches : (ℕ → ℕ) → ℕ → ℕ → ℕ → Bool
reaches up b zero i = i == b
reaches up b (suc k) i = if nat_lt b i then reaches up b k (up i) else i == b

abbrev pub radial_meaning : List ℕ → List RadialConstraint → Meaning
radial_meaning us cs = record {
  buses = length us + 1;
  constraints = length cs;
  price = constraint_price cs;
  factor = λ j i. if nat_lt j (length cs) && (nat_lt i (length us + 1) && reaches (upper us) (constraint_bus cs j) i i) then negsuc 999 else pos 0;
}

-- ---- where it is refused

pub data RadialRefused (us : List ℕ) (cs : List RadialConstraint) : Cause → Type 0 where
  buses_over : most_buses < length us + 1 → RadialRefused us cs OutsideLimits
  upper_not_smaller : (i : ℕ) → i < length us → i + 1 ≤ atℕ us i → RadialRefused us cs OutsideLimits
  constraints_over : most_constraints < length cs → RadialRefused us cs OutsideLimits
  at_root : (j : ℕ) → j < length cs → constraint_bus cs j ≡ 0 → RadialRefused us cs OutsideLimits
  bus_beyond : (j : ℕ) → j < length cs → length us + 1 ≤ constraint_bus cs j → RadialRefused us cs OutsideLimits
  price_over : (j : ℕ) → j < length cs → most_price < unsigned_abs (constraint_price cs j) → RadialRefused us cs OutsideLimits

-- ---- the same limits, kept

-- a constraint of a network of n buses
abbrev pub ConstraintWithin : ℕ → RadialConstraint → Type 0
ConstraintWithin n c = (1 ≤ c.bus) × (c.bus < n) × (unsigned_abs c.price.0 ≤ most_price)

-- each constraint
abbrev pub ConstraintsWithin : ℕ → List RadialConstraint → Type 0
ConstraintsWithin n cs = EachIndex cs (λ j. ConstraintWithin n (constraint_at cs j))

pub record RadialWithin (us : List ℕ) (cs : List RadialConstraint) : Type 0 where
  pub buses : length us + 1 ≤ most_buses
  pub falling : Falling us
  pub constraints : length cs ≤ most_constraints
  pub each : ConstraintsWithin (length us + 1) cs
