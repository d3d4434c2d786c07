-- A radial network is refused where it is outside the limits; what it means, by the relation of descent; and its limits. Assumes nothing.
use Rattle.std.specs.Prelude.{◌≡◌, ℕ, suc, ◌+◌, ◌<◌, ◌≤◌, ◌⊎◌, List, length, get_or, ℤ, pos, negsuc, nat_lt, slice_index_or, unsigned_abs, refl}
use Rattle.std.proofs.Common.{Bool, IsTrue, ◌↔◌, if◌then◌else◌, inr, ⊎_elim, ap, ◌∙◌, arith, rules}
use Rattle.std.proofs.lemmas.Int.{ints}
use Rattle.std.proofs.lemmas.List.{get_or_past, get_or_read}
use Rattle.std.proofs.lemmas.Bool.Decides.{same_from_decides}
use Rattle.std.proofs.lemmas.Bool.{cases_lt, cases_Bool, lt-ltb, le-ltb, and_right, cond-false}
use Rattle.refusals.specs.declared.Cause.{Cause}
use Rattle.refusals.specs.declared.Cause.TheVariants.{OutsideLimits}
use Rattle.refusals.specs.Answers.{First, Clear}
use Rattle.refusals.specs.Causes.{number}
use Rattle.quantities.specs.Sums.{atℕ}
use Rattle.networks.specs.declared.radial.constraint.RadialConstraint.{RadialConstraint}
use Rattle.networks.specs.Descent.{upper, Falling, Under}
use Rattle.quantities.specs.Limits.{most_buses}
use Rattle.networks.specs.Limits.{most_constraints, most_price}
use Rattle.networks.specs.Radials.{constraint_bus, constraint_price, reaches, radial_meaning, RadialTells, RadialRefused, buses_over, upper_not_smaller, constraints_over, at_root, bus_beyond, price_over, ConstraintsWithin, RadialWithin}
use Rattle.networks.specs.Refused.{and_then, or_at_most, or_each, clear_within, outside_refused}
use Rattle.networks.specs.DescentLaws.{upper_smaller, reaches_under}

-- ---- refused or within

module _ (us : List ℕ) (cs : List RadialConstraint) where
  pub decided : RadialRefused us cs OutsideLimits ⊎ RadialWithin us cs
  decided =
      and_then (or_at_most (length us + 1) most_buses buses_over) (λ b.
      and_then (or_each _ (length us) (λ k h. or_at_most (atℕ us k) k (λ l. upper_not_smaller k h (omega (arith, l))))) (λ f.
      and_then (or_at_most (length cs) most_constraints constraints_over) (λ c.
      and_then (or_each _ (length cs) (λ j h.
      and_then (or_at_most 1 (constraint_bus cs j) (λ l. at_root j h (omega arith))) (λ r.
      and_then (or_at_most (suc (constraint_bus cs j)) (length us + 1) (λ l. bus_beyond j h (omega arith))) (λ d.
      and_then (or_at_most (unsigned_abs (constraint_price cs j)) most_price (price_over j h)) (λ p.
      inr (r, d, p)))))) (λ e.
      inr (record { buses = b; falling = f; constraints = c; each = e })))))

  -- what is within the limits is not refused
  pub within_clear : RadialWithin us cs → Clear (RadialRefused us cs)
  within_clear w c (buses_over l) = omega (arith, w.buses)
  within_clear w c (upper_not_smaller i h l) = omega (arith, w.falling i h)
  within_clear w c (constraints_over l) = omega (arith, w.constraints)
  within_clear w c (at_root j h e) = omega (arith, (w.each j h).0)
  within_clear w c (bus_beyond j h l) = omega (arith, (w.each j h).1)
  within_clear w c (price_over j h l) = omega (arith, (w.each j h).2)

  -- there is one cause
  pub least : (d : Cause) → RadialRefused us cs d → 13 ≤ number d
  least d r = search rules

  pub refused : ¬ RadialWithin us cs → First (RadialRefused us cs) OutsideLimits
  refused = outside_refused _ _ decided least

  pub within : Clear (RadialRefused us cs) → RadialWithin us cs
  within = clear_within _ _ decided

-- ---- the limits of a network

pub price_past : (cs : List RadialConstraint) (j : ℕ) → length cs ≤ j → constraint_price cs j ≡ pos 0
price_past cs j h = ap (λ (c : RadialConstraint). c.price.0) (get_or_past cs j (record { bus = 0; price = record { 0 = pos 0 } }) h)

pub price_most : (n : ℕ) (cs : List RadialConstraint) → ConstraintsWithin n cs → (j : ℕ) → unsigned_abs (constraint_price cs j) ≤ most_price
price_most n cs within j = ⊎_elim (λ l. (within j l).2) (λ g. let e = price_past cs j g in omega (arith, ints)) (cases_lt j (length cs))

-- ---- what it means

module _ (us : List ℕ) (cs : List RadialConstraint) (falling : Falling us) where
  abbrev told : ℕ → ℕ → ℤ
  told j i = (radial_meaning us cs).factor j i

  followed : (j i : ℕ) → IsTrue (reaches (upper us) (constraint_bus cs j) i i) ↔ Under (upper us) (constraint_bus cs j) i
  followed j i = reaches_under (upper us) (upper_smaller us falling) (constraint_bus cs j) i i (omega arith)

  -- by any test of descent from the bus of the constraint
  pub told_reached : (j i : ℕ) (vs : List ℕ) (b : ℕ) (r : Bool) → j < length cs → i < length us + 1 → vs ≡ us → b ≡ constraint_bus cs j → IsTrue r ↔ Under (upper vs) b i → told j i ≡ (if r then negsuc 999 else pos 0)
  told_reached j i vs b r h l e f under =
      rw (lt-ltb j (length cs) h, lt-ltb i (length us + 1) l, same_from_decides _ r (followed j i) (rw (e, f) at under)) refl

  pub told_under : (j i : ℕ) → j < length cs → i < length us + 1 → Under (upper us) (constraint_bus cs j) i → told j i ≡ negsuc 999
  told_under j i h l p = rw (lt-ltb j (length cs) h, lt-ltb i (length us + 1) l, (followed j i).1 p) refl

  pub told_elsewhere : (j i : ℕ) → (Under (upper us) (constraint_bus cs j) i → ⊥) → told j i ≡ pos 0
  told_elsewhere j i n =
      ⊎_elim (λ t. absurd (n ((followed j i).0 t))) (λ f. cond-false _ (negsuc 999) (pos 0) (and_right (nat_lt j (length cs)) _ (and_right (nat_lt i (length us + 1)) _ f))) (cases_Bool (reaches (upper us) (constraint_bus cs j) i i))

  pub told_beyond_constraints : (j i : ℕ) → length cs ≤ j → told j i ≡ pos 0
  told_beyond_constraints j i h = rw (le-ltb j (length cs) h) refl

  pub told_beyond_buses : (j i : ℕ) → length us + 1 ≤ i → told j i ≡ pos 0
  told_beyond_buses j i h = cond-false _ (negsuc 999) (pos 0) (and_right (nat_lt j (length cs)) _ (rw (le-ltb i (length us + 1) h) refl))

  pub tells : RadialTells us cs (radial_meaning us cs)
  tells = record {
    buses = refl;
    constraints = refl;
    price = λ j. refl;
    under = told_under;
    elsewhere = told_elsewhere;
    beyond_constraints = told_beyond_constraints;
    beyond_buses = told_beyond_buses;
  }

-- the bus of the constraint that is read at j
pub bus_read : (cs : List RadialConstraint) (j k : ℕ) (c : RadialConstraint) → k ≡ j → j < length cs → c ≡ slice_index_or cs k c → c.bus ≡ constraint_bus cs j
bus_read cs j k c e h r =
    ap (λ (x : RadialConstraint). x.bus) (get_or_read cs j c h (r ∙ ap (λ i. get_or cs i c) e) (record { bus = 0; price = record { 0 = pos 0 } }))
