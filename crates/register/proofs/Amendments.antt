-- An amendment as a step of the register. Assumes nothing.
use Rattle.std.proofs.Common.{◌≡◌, ℕ, ◌+◌, ◌-◌, ◌*◌, ◌<◌, ◌≤◌, List, ◌∷◌, ◌++◌, length, set, Some, None, Ok, Err, Result, sym, refl, ap, ◌∙◌, subst, arith}
use Rattle.std.proofs.lemmas.List.{length-set}
use Rattle.quantities.specs.Sums.{count_of}
use Rattle.quantities.proofs.SumLaws.{count_middle}
use Rattle.refusals.specs.Answers.{Clear}
use Rattle.refusals.specs.Causes.{number}
use Rattle.refusals.specs.declared.Cause.{Cause}
use Rattle.refusals.specs.declared.Cause.TheVariants.{TotalOverLimit, RecordNotOpen}
use Rattle.ledgers.specs.Book.{Book, OpenAt, holding}
use Rattle.positions.specs.Classes.{one_if_side}
use Rattle.positions.specs.Kinds.{amended_position, amended_transaction, position_meaning, transaction_meaning}
use Rattle.positions.specs.Posted.{Posted}
use Rattle.positions.specs.declared.bus_positions.BusPosition.{BusPosition}
use Rattle.positions.specs.declared.transactions.Transaction.{Transaction}
use Rattle.positions.specs.declared.classes.Side.{Side}
use Rattle.register.specs.declared.answers.Accepted.TheVariants.{Taken}
use Rattle.register.specs.declared.totals.Totals.{Totals}
use Rattle.register.specs.Amending.{AmendRefused, not_open, over_limit, RecordAmended}
use Rattle.register.specs.Totals.{of_side, with_side, Amended}
use Rattle.register.specs.Register.{Register, Kept, Phase, Call, Open, Standing, stands, amend_position, amend_transaction, Holds, amend_absent, amend_total, amend_transaction_absent, amend_transaction_total, one_if_phase, total, Takes, amends, amends_transaction, Step, took, stood, with_positions, with_transactions, in_phase, one_position, one_transaction}
use Rattle.register.specs.Views.{phase_of, kept, register, done, Marked, Summed}
use Rattle.register.proofs.Counted.{counts, counts_side, replaced}
use Rattle.register.proofs.Kept.{front_of, back_of, front_length, kept_set, kept_at, one_record, past_mark, below_end}
use Rattle.register.proofs.Lawful.{Lawful, Made}
use Rattle.register.proofs.Steps.{open_phase}
use Rattle.register.proofs.Runs.{step_sound}

-- what a record of one kind adds to a side of a phase
abbrev one_of : {P : Type 0} → (P → Posted) → Phase → Side → Kept P → ℕ
one_of meaning p s k = one_if_phase k.phase p * (one_if_side (meaning k.entry).side s * (meaning k.entry).megawatts)

-- why a register refuses to amend the record i of one kind to m
data Refusal {P : Type 0} (meaning : P → Posted) (r : Register) (p : Phase) (all : List (Kept P)) (i m : ℕ) : Cause → Type 0 where
  absent : ((x : P) → Standing P p all i x → ⊥) → Refusal meaning r p all i m RecordNotOpen
  over : (x : P) → Standing P p all i x → 1000000 + (meaning x).megawatts < total r p (meaning x).side + m → Refusal meaning r p all i m TotalOverLimit

-- how it amends that record: by which call, refused when, to what effect
record Kind {P : Type 0} (meaning : P → Posted) (amended : P → ℕ → P) (p : Phase) (i m : ℕ) (of : Book P → Register) (call : Call) : Type 0 where
  open_to : (b : Book P) → Open (of b) p
  refuses : (b : Book P) (c : Cause) → Refusal meaning (of b) p (kept p b) i m c → Holds (of b) p call c
  causes : (b : Book P) (c : Cause) → Holds (of b) p call c → Refusal meaning (of b) p (kept p b) i m c
  takes : (b : Book P) (ys : List P) (x : P) (before after : List (Kept P)) → kept p b ≡ before ++ (in_phase p x ∷ after) → length before ≡ i → kept p (holding b ys) ≡ before ++ (in_phase p (amended x m) ∷ after) → Takes (of b) p call (Ok Taken) (of (holding b ys))
  others : Side → ℕ
  counted : (b : Book P) (s : Side) → total (of b) p s ≡ count_of (one_of meaning p s) (kept p b) + others s
  side_stays : (x : P) → (meaning (amended x m)).side ≡ (meaning x).side
  megawatts_amended : (x : P) → (meaning (amended x m)).megawatts ≡ m

module _ {P : Type 0} {meaning : P → Posted} {r : Register} {p : Phase} {all : List (Kept P)} {i m : ℕ} where
  absent_least : ((x : P) → Standing P p all i x → ⊥) → (c : Cause) → Refusal meaning r p all i m c → 7 ≤ number c
  absent_least none c (absent f) = omega arith
  absent_least none c (over x at_i f) = absurd (none x at_i)

  over_least : (c : Cause) → Refusal meaning r p all i m c → 4 ≤ number c
  over_least c (absent f) = omega arith
  over_least c (over x at_i f) = omega arith

  none_refuses : (x : P) → Standing P p all i x → total r p (meaning x).side + m ≤ 1000000 + (meaning x).megawatts → (c : Cause) → Refusal meaning r p all i m c → ⊥
  none_refuses x at_i most c (absent f) = f x at_i
  none_refuses x at_i most c (over y at_y f) =
      let fit = subst (λ (z : P). total r p (meaning z).side + m ≤ 1000000 + (meaning z).megawatts) (one_record at_i at_y) most in
      omega arith

marked_set : {P : Type 0} (k : ℕ) (b : Book P) (i : ℕ) (y : P) → Marked k b → Marked k (holding b (set b.items i y))
marked_set k b i y m = let l = length-set b.items i y in (omega arith, m.1)

-- what an amendment of a book leaves
record Left {P : Type 0} (k : ℕ) (p : Phase) (of : Book P → Register) (call : Call) (b e : Book P) (u : Totals) (r : Result (Unit {0}) Cause) : Type 0 where
  step : Step (of b) call (done r) (of e)
  marked : Marked k e
  summed : Summed u (of e) p
  room : e.capacity ≡ b.capacity

module _ {P : Type 0} {meaning : P → Posted} {amended : P → ℕ → P} (k : ℕ) {i m : ℕ} {of : Book P → Register} {call : Call} (kind : Kind meaning amended (phase_of k) i m of call) (b : Book P) (t : Totals) (marked : Marked k b) (summed : Summed t (of b) (phase_of k)) where
  -- a record of the open phase in the book stands in the register
  standing : (x : P) → OpenAt b i (Some x) → Standing P (phase_of k) (kept (phase_of k) b) i x
  standing x at_i =
      let p = phase_of k in
      stands (front_of p b i) (back_of p b i) (kept_at p b i x at_i.0 at_i.1 (at_i.2 x)) (front_length p b i at_i.0 at_i.1)

  -- its megawatts are in its total
  held : (x : P) → OpenAt b i (Some x) → (meaning x).megawatts ≤ of_side t (meaning x).side
  held x at_i =
      let p = phase_of k in
      let s = (meaning x).side in
      let f = one_of meaning p s in
      let was = summed s ∙ kind.counted b s in
      let parts = ap (count_of f) (kept_at p b i x at_i.0 at_i.1 (at_i.2 x)) in
      let middle = count_middle f (front_of p b i) (in_phase p x) (back_of p b i) in
      let one = counts p (one_if_side s s * (meaning x).megawatts) in
      let two = counts_side s (meaning x).megawatts in
      omega arith

  absent_step : OpenAt b i None → Step (of b) call (Err RecordNotOpen) (of b)
  absent_step none =
      let p = phase_of k in
      let nowhere : (x : P) → Standing P p (kept p b) i x → ⊥ = λ x s. none (past_mark k b i x marked.1 s) (below_end p b i x s) in
      stood (kind.open_to b) (record {
        holds = kind.refuses b RecordNotOpen (absent nowhere);
        least = λ c h. absent_least nowhere c (kind.causes b c h);
      })

  over_step : (x : P) (c : Cause) → OpenAt b i (Some x) → Amended t (meaning x).side (meaning x).megawatts m (Err c) → Step (of b) call (Err c) (of b)
  over_step x c at_i new =
      let is = summed (meaning x).side in
      let low = held x at_i in
      rw new.0 (stood (kind.open_to b) (record {
        holds = kind.refuses b TotalOverLimit (over x (standing x at_i) (omega (arith, new.1)));
        least = λ d h. over_least d (kind.causes b d h);
      }))

  refused : (c : Cause) → AmendRefused meaning b t i m c → Step (of b) call (Err c) (of b)
  refused c (not_open none) = absent_step none
  refused c (over_limit x at_i new) = over_step x c at_i new

  -- no cause holds where the total stays within the limit
  clear : (x : P) (u : Totals) → OpenAt b i (Some x) → Amended t (meaning x).side (meaning x).megawatts m (Ok u) → Clear (Holds (of b) (phase_of k) call)
  clear x u at_i new c h =
      let is = summed (meaning x).side in
      let low = held x at_i in
      none_refuses x (standing x at_i) (omega (arith, new.0)) c (kind.causes b c h)

  taken : (x : P) (u : Totals) (e : Book P) (o : Unit {0}) → OpenAt b i (Some x) → Amended t (meaning x).side (meaning x).megawatts m (Ok u) → e ≡ holding b (set b.items i (amended x m)) → Left k (phase_of k) of call b e u (Ok o)
  taken x u e o at_i new changed =
      let p = phase_of k in
      let a = (meaning x).side in
      let y = amended x m in
      let ys = set b.items i y in
      let front = front_of p b i in
      let back = back_of p b i in
      let was_kept = kept_at p b i x at_i.0 at_i.1 (at_i.2 x) in
      let is_kept = kept_set p b i y at_i.0 at_i.1 in
      let step : Step (of b) call (Ok Taken) (of (holding b ys)) =
      took (kind.open_to b) (clear x u at_i new) (kind.takes b ys x front back was_kept (front_length p b i at_i.0 at_i.1) is_kept) in
      let sums : Summed (with_side t a (of_side t a - (meaning x).megawatts + m)) (of (holding b ys)) p = λ s.
      (let f = one_of meaning p s in
      let r = replaced t a s (meaning x).megawatts m (held x at_i) in
      let was = summed s ∙ kind.counted b s in
      let now = kind.counted (holding b ys) s in
      let before = ap (count_of f) was_kept in
      let after = ap (count_of f) is_kept in
      let one = count_middle f front (in_phase p x) back in
      let two = count_middle f front (in_phase p y) back in
      let three = counts p (one_if_side a s * (meaning x).megawatts) in
      let four : f (in_phase p y) ≡ one_if_side a s * m = rw (kind.side_stays x, kind.megawatts_amended x) (counts p (one_if_side a s * m)) in
      omega arith) in
      record {
        step = rw changed step;
        marked = rw changed (marked_set k b i y marked);
        summed = rw (new.1, changed) sums;
        room = ap (λ (z : Book P). z.capacity) changed;
      }

  amended_left : (r : Result (Unit {0}) Cause) (e : Book P) (u : Totals) → RecordAmended meaning amended b t i m r e u → Left k (phase_of k) of call b e u r
  amended_left (Ok o) e u q = taken q.0 u e o q.1 q.2 q.3
  amended_left (Err c) e u q = record {
    step = rw q.1 (refused c q.0);
    marked = rw q.1 marked;
    summed = rw (q.2, q.1) summed;
    room = ap (λ (z : Book P). z.capacity) q.1;
  }

-- ---- both kinds

module _ (p : Phase) (k n : ℕ) (i m : ℕ) where
  position_refuses : (b : Book BusPosition) (d : Book Transaction) (c : Cause) → Refusal position_meaning (register k n b d) p (register k n b d).positions i m c → Holds (register k n b d) p (amend_position i m) c
  position_refuses b d c (absent f) = amend_absent f
  position_refuses b d c (over x at_i f) = amend_total x at_i f

  position_causes : (b : Book BusPosition) (d : Book Transaction) (c : Cause) → Holds (register k n b d) p (amend_position i m) c → Refusal position_meaning (register k n b d) p (register k n b d).positions i m c
  position_causes b d c (amend_absent f) = absent f
  position_causes b d c (amend_total x at_i f) = over x at_i f

  transaction_refuses : (b : Book BusPosition) (d : Book Transaction) (c : Cause) → Refusal transaction_meaning (register k n b d) p (register k n b d).transactions i m c → Holds (register k n b d) p (amend_transaction i m) c
  transaction_refuses b d c (absent f) = amend_transaction_absent f
  transaction_refuses b d c (over x at_i f) = amend_transaction_total x at_i f

  transaction_causes : (b : Book BusPosition) (d : Book Transaction) (c : Cause) → Holds (register k n b d) p (amend_transaction i m) c → Refusal transaction_meaning (register k n b d) p (register k n b d).transactions i m c
  transaction_causes b d c (amend_transaction_absent f) = absent f
  transaction_causes b d c (amend_transaction_total x at_i f) = over x at_i f

module _ {k n : ℕ} {t : Totals} {b : Book BusPosition} {d : Book Transaction} (h : Lawful k n t b d) (i m : ℕ) where
  positions : Kind position_meaning amended_position (phase_of k) i m (λ x. register k n x d) (amend_position i m)
  positions =
      let p = phase_of k in
      record {
        open_to = λ x. open_phase k n x d h.few;
        refuses = λ x c q. position_refuses p k n i m x d c q;
        causes = λ x c q. position_causes p k n i m x d c q;
        takes = λ x ys e before after is at new. (
            let r = register k n x d in
            subst (λ (zs : List (Kept BusPosition)). Takes r p (amend_position i m) (Ok Taken) (with_positions r zs)) (sym new) (amends i m e before after is at));
        others = λ s. count_of (one_transaction p s) (kept p d);
        counted = λ x s. refl;
        side_stays = λ x. refl;
        megawatts_amended = λ x. refl;
      }

  transactions : Kind transaction_meaning amended_transaction (phase_of k) i m (λ x. register k n b x) (amend_transaction i m)
  transactions =
      let p = phase_of k in
      record {
        open_to = λ x. open_phase k n b x h.few;
        refuses = λ x c q. transaction_refuses p k n i m b x c q;
        causes = λ x c q. transaction_causes p k n i m b x c q;
        takes = λ x ys e before after is at new. (
            let r = register k n b x in
            subst (λ (zs : List (Kept Transaction)). Takes r p (amend_transaction i m) (Ok Taken) (with_transactions r zs)) (sym new) (amends_transaction i m e before after is at));
        others = λ s. count_of (one_position p s) (kept p b);
        counted = λ x s. omega arith;
        side_stays = λ x. refl;
        megawatts_amended = λ x. refl;
      }

  pub position_amended : (r : Result (Unit {0}) Cause) (e : Book BusPosition) (u : Totals) → RecordAmended position_meaning amended_position b t i m r e u → Made (register k n b d) (amend_position i m) (done r) k n u e d
  position_amended r e u q =
      let l = amended_left k positions b t h.marked.0 h.summed r e u q in
      record {
        step = l.step;
        lawful = record {
          few = h.few;
          marked = (l.marked, h.marked.1);
          summed = l.summed;
          sized = (rw l.room h.sized.0, h.sized.1);
          sound = step_sound l.step h.sound;
        };
      }

  pub transaction_amended : (r : Result (Unit {0}) Cause) (f : Book Transaction) (u : Totals) → RecordAmended transaction_meaning amended_transaction d t i m r f u → Made (register k n b d) (amend_transaction i m) (done r) k n u b f
  transaction_amended r f u q =
      let l = amended_left k transactions d t h.marked.1 h.summed r f u q in
      record {
        step = l.step;
        lawful = record {
          few = h.few;
          marked = (h.marked.0, l.marked);
          summed = l.summed;
          sized = (h.sized.0, rw l.room h.sized.1);
          sound = step_sound l.step h.sound;
        };
      }
