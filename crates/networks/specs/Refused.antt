-- Limits weighed one after the other: all are kept, or one is passed, and then the cause is 13. Assumes nothing.
use Rattle.std.specs.Prelude.{◌≡◌, ℕ, zero, suc, ◌<◌, ◌≤◌, ◌⊎◌}
use Rattle.std.proofs.Common.{inl, inr, ⊎_elim, subst, arith}
use Rattle.std.proofs.lemmas.Bool.{cases_lt}
use Rattle.refusals.specs.declared.Cause.{Cause}
use Rattle.refusals.specs.declared.Cause.TheVariants.{OutsideLimits}
use Rattle.refusals.specs.Answers.{First, Clear}
use Rattle.refusals.specs.Causes.{number}

module _ {R : Type 0} where
  -- one limit after the other: R where one is passed
  pub and_then : {A B : Type 0} → R ⊎ A → (A → R ⊎ B) → R ⊎ B
  and_then (inl r) f = inl r
  and_then (inr a) f = f a

  pub or_at_most : (a b : ℕ) → (b < a → R) → R ⊎ (a ≤ b)
  or_at_most a b over = ⊎_elim (λ l. inl (over l)) inr (cases_lt b a)

  -- a limit at each place below n
  pub or_each : (Q : ℕ → Type 0) (n : ℕ) → ((k : ℕ) → k < n → R ⊎ Q k) → R ⊎ ((k : ℕ) → k < n → Q k)
  or_each Q zero here = inr (λ k h. absurd (omega arith))
  or_each Q (suc n) here =
      and_then (or_each Q n (λ k h. here k (omega arith))) (λ before.
      and_then (here n (omega arith)) (λ last.
      inr (λ k h. ⊎_elim (before k) (λ (g : n ≤ k). let e : n ≡ k = omega arith in subst Q e last) (cases_lt k n))))

module _ (Refused : Cause → Type 0) (Within : Type 0) (decided : Refused OutsideLimits ⊎ Within) where
  pub clear_within : Clear Refused → Within
  clear_within none = ⊎_elim (λ r. absurd (none OutsideLimits r)) (λ w. w) decided

  pub outside_refused : ((d : Cause) → Refused d → 13 ≤ number d) → ¬ Within → First Refused OutsideLimits
  outside_refused least out = ⊎_elim (λ r. record { holds = r; least = least }) (λ w. absurd (out w)) decided
