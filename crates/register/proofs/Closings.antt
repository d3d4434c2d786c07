-- Making and closing as steps of the register. Assumes nothing.
use Rattle.std.proofs.Common.{◌≡◌, ℕ, ◌≤◌, List, [], ◌∷◌, ◌++◌, map, length, take, drop, sym, refl, ap, ◌∙◌, append-nil, arith, lit≤, Ok, Err}
use Rattle.std.proofs.lemmas.List.{map-append, take-append-drop, take_all, drop_all}
use Rattle.quantities.specs.Sums.{count_of}
use Rattle.refusals.specs.Causes.{number}
use Rattle.refusals.specs.declared.Cause.{Cause}
use Rattle.refusals.specs.declared.Cause.TheVariants.{Unbalanced, OutsideLimits}
use Rattle.refusals.proofs.Numbers.{at_most}
use Rattle.ledgers.specs.Limits.{most_records}
use Rattle.ledgers.specs.Book.{Book, empty, closed}
use Rattle.positions.specs.declared.bus_positions.BusPosition.{BusPosition}
use Rattle.positions.specs.declared.transactions.Transaction.{Transaction}
use Rattle.positions.specs.declared.classes.Side.{Side}
use Rattle.positions.specs.declared.classes.Side.TheVariants.{Withdrawing, Injecting, Transacting}
use Rattle.register.specs.declared.answers.Accepted.TheVariants.{Taken}
use Rattle.register.specs.declared.totals.Totals.{Totals}
use Rattle.register.specs.Totals.{of_side}
use Rattle.refusals.specs.Answers.{Clear, First}
use Rattle.register.specs.Register.{Register, Phase, day_ahead, real_time, in_day_ahead, in_real_time, close, Holds, close_unbalanced, closes, Step, took, stood, in_phase, one_position, one_transaction}
use Rattle.register.specs.Views.{phase_of, kept, register, Summed}
use Rattle.register.specs.Weighed.{MakingRefused, no_bus, many_buses, many_positions, many_transactions}
use Rattle.register.proofs.Lawful.{Lawful, Made, opened}
use Rattle.register.proofs.Runs.{step_sound, fresh_sound}

abbrev pub none : Totals
none = record { withdrawing = 0; injecting = 0; transacting = 0 }

none_side : (s : Side) → of_side none s ≡ 0
none_side Withdrawing = refl
none_side Injecting = refl
none_side Transacting = refl

-- ---- making

module _ (n rooms roomt : ℕ) where
  pub making_least : (c : Cause) → MakingRefused n rooms roomt c → 13 ≤ number c
  making_least c (no_bus h) = lit≤ tt
  making_least c (many_buses h) = lit≤ tt
  making_least c (many_positions h) = lit≤ tt
  making_least c (many_transactions h) = lit≤ tt

  pub making_first : MakingRefused n rooms roomt OutsideLimits → First (MakingRefused n rooms roomt) OutsideLimits
  making_first h = record { holds = h; least = making_least }

  pub new_lawful : (u : Totals) (e : Book BusPosition) (f : Book Transaction) → Clear (MakingRefused n rooms roomt) → e ≡ empty BusPosition rooms → f ≡ empty Transaction roomt → u ≡ none → Lawful 0 n u e f
  new_lawful u e f clear p q z =
      record {
        few = lit≤ tt;
        marked = rw (p, q) ((omega arith, λ x. refl), (omega arith, λ x. refl));
        summed = rw (z, p, q) (λ s. let y = none_side s in omega arith);
        sized = rw (p, q) (at_most rooms most_records (λ l. clear OutsideLimits (many_positions l)), at_most roomt most_records (λ l. clear OutsideLimits (many_transactions l)));
        sound = rw (p, q) (fresh_sound n rooms roomt);
      }

-- ---- weighing

unbalanced_least : (r : Register) (p : Phase) (d : Cause) → Holds r p close d → 8 ≤ number d
unbalanced_least r p d (close_unbalanced ne) = omega arith

module _ {k n : ℕ} {t : Totals} {b : Book BusPosition} {d : Book Transaction} (h : Lawful k n t b d) where
  pub close_refused : (t.withdrawing ≡ t.injecting → ⊥) → Step (register k n b d) close (Err Unbalanced) (register k n b d)
  close_refused ne = stood (opened h) (record {
    holds = close_unbalanced (λ e. ne (h.summed Withdrawing ∙ e ∙ sym (h.summed Injecting)));
    least = unbalanced_least (register k n b d) (phase_of k);
  })

-- ---- going over

module _ {P : Type 0} (b : Book P) where
  kept_whole : kept day_ahead b ≡ map (in_phase day_ahead) b.items
  kept_whole = sym (map-append (in_phase day_ahead) (take b.mark b.items) (drop b.mark b.items)) ∙ ap (map (in_phase day_ahead)) (take-append-drop b.mark b.items)

  kept_closed : kept real_time (closed b) ≡ map (in_phase day_ahead) b.items
  kept_closed =
      ap (λ xs. map (in_phase day_ahead) xs ++ map (in_phase real_time) (drop (length b.items) b.items)) (take_all (length b.items) b.items (omega arith))
      ∙ ap (λ xs. map (in_phase day_ahead) b.items ++ map (in_phase real_time) xs) (drop_all (length b.items) b.items (omega arith))
      ∙ append-nil (map (in_phase day_ahead) b.items)

  pub kept_over : kept day_ahead b ≡ kept real_time (closed b)
  kept_over = kept_whole ∙ sym kept_closed

-- a record of day-ahead counts nothing in real time
no_position : (s : Side) (xs : List BusPosition) → count_of (one_position real_time s) (map (in_phase day_ahead) xs) ≡ 0
no_position s [] = refl
no_position s (x ∷ xs) = let rest = no_position s xs in omega arith

no_transaction : (s : Side) (xs : List Transaction) → count_of (one_transaction real_time s) (map (in_phase day_ahead) xs) ≡ 0
no_transaction s [] = refl
no_transaction s (x ∷ xs) = let rest = no_transaction s xs in omega arith

over_step : (n : ℕ) (b e : Book BusPosition) (d f : Book Transaction) → Clear (Holds (register 0 n b d) day_ahead close) → e ≡ closed b → f ≡ closed d → Step (register 0 n b d) close (Ok Taken) (register 1 n e f)
over_step n b e d f clear p q = rw (p, q, ← kept_over b, ← kept_over d) (took (in_day_ahead refl) clear closes)

-- day-ahead is closed, and real time is open
pub day_ahead_closed : {n : ℕ} {t : Totals} {b : Book BusPosition} {d : Book Transaction} → Lawful 0 n t b d → (u : Totals) (e : Book BusPosition) (f : Book Transaction) → Clear (Holds (register 0 n b d) day_ahead close) → e ≡ closed b → f ≡ closed d → u ≡ none → Made (register 0 n b d) close (Ok Taken) 1 n u e f
day_ahead_closed {n} {b} {d} h u e f clear p q z =
    let step = over_step n b e d f clear p q in
    let summed : Summed none (register 1 n (closed b) (closed d)) real_time = λ s.
    let none_here = none_side s in
    let one = ap (count_of (one_position real_time s)) (kept_closed b) in
    let two = ap (count_of (one_transaction real_time s)) (kept_closed d) in
    let three = no_position s b.items in
    let four = no_transaction s d.items in
    omega arith in
    record {
      step = step;
      lawful = record {
        few = lit≤ tt;
        marked = rw (p, q) ((omega arith, λ x. absurd (omega arith)), (omega arith, λ x. absurd (omega arith)));
        summed = rw (z, p, q) summed;
        sized = rw (p, q) h.sized;
        sound = step_sound step h.sound;
      };
    }

-- real time is closed, and the hour with it
pub real_time_closed : (n : ℕ) (b e : Book BusPosition) (d f : Book Transaction) → Clear (Holds (register 1 n b d) real_time close) → e ≡ b → f ≡ d → Step (register 1 n b d) close (Ok Taken) (register 2 n e f)
real_time_closed n b e d f clear p q = rw (p, q) (took (in_real_time refl) clear closes)
