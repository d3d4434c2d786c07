-- The laws of descent, and the path of upper buses followed step by step. Assumes nothing.
use Rattle.std.specs.Prelude.{◌≡◌, ℕ, zero, suc, ◌-◌, ◌<◌, ◌≤◌, List, length, IsTrue, ◌↔◌, ◌==◌}
use Rattle.std.proofs.Math.Logic.{inl, inr}
use Rattle.std.proofs.Common.{⊎_elim, sym, subst, arith}
use Rattle.std.proofs.lemmas.List.{get_or_past}
use Rattle.std.proofs.lemmas.Bool.{cases_lt, eqb-true, eq-eqb, lt-ltb, le-ltb}
use Rattle.networks.specs.Descent.{upper, Falling, Under, here, from}
use Rattle.networks.specs.Radials.{reaches}

pub upper_smaller : (us : List ℕ) → Falling us → (i : ℕ) → 0 < i → upper us i < i
upper_smaller us falling i h =
    ⊎_elim (λ l. omega (arith, falling (i - 1) l)) (λ (g : length us ≤ i - 1). omega (arith, get_or_past us (i - 1) 0 g)) (cases_lt (i - 1) (length us))

module _ (up : ℕ → ℕ) (smaller : (i : ℕ) → 0 < i → up i < i) (b : ℕ) where
  -- what is under b has no smaller number
  under_above : {i : ℕ} → Under up b i → b ≤ i
  under_above here = omega arith
  under_above (from i h p) = omega (arith, under_above p, smaller i h)

  -- one step up from a bus that is not b
  pub under_upper : {i : ℕ} → Under up b i → b < i → Under up b (up i)
  under_upper here l = absurd (omega arith)
  under_upper (from i h p) l = p

  -- where no step is left
  pub under_end : (i : ℕ) → i ≤ b → IsTrue (i == b) ↔ Under up b i
  under_end i h =
      (λ e. subst (λ (k : ℕ). Under up b k) (sym (eqb-true i b e)) here, λ p. eq-eqb i b (omega (arith, under_above p)))

  pub reaches_under : (k i : ℕ) → i ≤ k → IsTrue (reaches up b k i) ↔ Under up b i
  unfolding reaches
  reaches_under zero i h = under_end i (omega arith)
  reaches_under (suc k) i h = elim (cases_lt b i) [
    | inl l ↦
        let d = reaches_under k (up i) (omega (arith, smaller i (omega arith))) in
        rw (lt-ltb b i l) (λ t. from i (omega arith) (d.0 t), λ p. d.1 (under_upper p l))
    | inr g ↦ rw (le-ltb b i g) (under_end i g)
  ]

-- of the same tree and the same bus
pub under_same : (us vs : List ℕ) (b d : ℕ) {i : ℕ} → vs ≡ us → d ≡ b → Under (upper vs) d i → Under (upper us) b i
under_same us vs b d {i} e f p =
    subst (λ (x : ℕ). Under (upper us) x i) f (subst (λ (xs : List ℕ). Under (upper xs) d i) e p)
