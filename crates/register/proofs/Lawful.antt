-- What an hour keeps to, as records are added. Assumes nothing.
use Rattle.std.proofs.Common.{◌≡◌, ℕ, ◌+◌, ◌-◌, ◌*◌, ◌<◌, List, ◌++◌, map, Ok, ap, ◌∙◌, arith}
use Rattle.std.proofs.lemmas.List.{length-append}
use Rattle.quantities.specs.Sums.{count_of}
use Rattle.quantities.proofs.SumLaws.{count_append}
use Rattle.ledgers.specs.Book.{Book, holding}
use Rattle.positions.specs.Classes.{one_if_side}
use Rattle.positions.specs.declared.bus_positions.BusPosition.{BusPosition}
use Rattle.positions.specs.declared.transactions.Transaction.{Transaction}
use Rattle.positions.specs.declared.classes.Side.{Side}
use Rattle.register.specs.declared.totals.Totals.{Totals}
use Rattle.register.specs.Totals.{of_side, with_side, Amended}
use Rattle.register.specs.Register.{Register, Phase, Call, Answer, Open, one_if_phase, one_position, one_transaction, in_phase, Step}
use Rattle.register.specs.Sound.{Sound}
use Rattle.register.specs.Views.{phase_of, kept, register, Marked, Summed, Sized}
use Rattle.register.proofs.Kept.{kept_more}
use Rattle.register.proofs.Runs.{step_sound}
use Rattle.register.proofs.Steps.{open_phase}
use Rattle.register.proofs.Counted.{counts, replaced}

-- what an hour keeps to after k closings, with n buses, the totals t and the books of both kinds
pub record Lawful (k n : ℕ) (t : Totals) (b : Book BusPosition) (d : Book Transaction) : Type 0 where
  pub few : k < 2
  pub marked : Marked k b × Marked k d
  pub summed : Summed t (register k n b d) (phase_of k)
  pub sized : Sized b × Sized d
  pub sound : Sound (register k n b d)

pub opened : {k n : ℕ} {t : Totals} {b : Book BusPosition} {d : Book Transaction} → Lawful k n t b d → Open (register k n b d) (phase_of k)
opened {k} {n} {b} {d} h = open_phase k n b d h.few

-- a call is taken: a step of the register, after which the hour keeps to the same
pub record Made (r : Register) (call : Call) (answer : Answer) (k n : ℕ) (u : Totals) (e : Book BusPosition) (f : Book Transaction) : Type 0 where
  pub step : Step r call answer (register k n e f)
  pub lawful : Lawful k n u e f

-- a book that grows stays marked
marked_more : {P : Type 0} (k : ℕ) (b : Book P) (more : List P) → Marked k b → Marked k (holding b (b.items ++ more))
marked_more k b more m = let l = length-append b.items more in (omega arith, m.1)

module _ {k n : ℕ} {t : Totals} {b : Book BusPosition} {d : Book Transaction} (h : Lawful k n t b d) {call : Call} {answer : Answer} (s : Side) (m : ℕ) (u : Totals) (new : Amended t s 0 m (Ok u)) where
  -- records that count m on the side s
  pub positions_added : (xs : List BusPosition) (e : Book BusPosition) → ((q : Phase) (a : Side) → count_of (one_position q a) (map (in_phase (phase_of k)) xs) ≡ one_if_phase (phase_of k) q * (one_if_side s a * m)) → e ≡ holding b (b.items ++ xs) → Step (register k n b d) call answer (register k n e d) → Made (register k n b d) call answer k n u e d
  positions_added xs e adds grown step =
      let p = phase_of k in
      let summed : Summed (with_side t s (of_side t s - 0 + m)) (register k n (holding b (b.items ++ xs)) d) p = λ a.
      (let r = replaced t s a 0 m (omega arith) in
      let was = h.summed a in
      let more = ap (count_of (one_position p a)) (kept_more p b xs h.marked.0.0) in
      let both = count_append (one_position p a) (kept p b) (map (in_phase p) xs) in
      let added = adds p a ∙ counts p (one_if_side s a * m) in
      omega arith) in
      record {
        step = step;
        lawful = record {
          few = h.few;
          marked = rw grown (marked_more k b xs h.marked.0, h.marked.1);
          summed = rw (new.1, grown) summed;
          sized = rw grown h.sized;
          sound = step_sound step h.sound;
        };
      }

  pub transactions_added : (xs : List Transaction) (f : Book Transaction) → ((q : Phase) (a : Side) → count_of (one_transaction q a) (map (in_phase (phase_of k)) xs) ≡ one_if_phase (phase_of k) q * (one_if_side s a * m)) → f ≡ holding d (d.items ++ xs) → Step (register k n b d) call answer (register k n b f) → Made (register k n b d) call answer k n u b f
  transactions_added xs f adds grown step =
      let p = phase_of k in
      let summed : Summed (with_side t s (of_side t s - 0 + m)) (register k n b (holding d (d.items ++ xs))) p = λ a.
      (let r = replaced t s a 0 m (omega arith) in
      let was = h.summed a in
      let more = ap (count_of (one_transaction p a)) (kept_more p d xs h.marked.1.0) in
      let both = count_append (one_transaction p a) (kept p d) (map (in_phase p) xs) in
      let added = adds p a ∙ counts p (one_if_side s a * m) in
      omega arith) in
      record {
        step = step;
        lawful = record {
          few = h.few;
          marked = rw grown (h.marked.0, marked_more k d xs h.marked.1);
          summed = rw (new.1, grown) summed;
          sized = rw grown h.sized;
          sound = step_sound step h.sound;
        };
      }
