-- Every call keeps a register sound. Assumes nothing.
use Rattle.std.proofs.Common.{◌≡◌, ℕ, suc, ◌+◌, ◌*◌, ◌<◌, ◌≤◌, ◌≢◌, List, [], ◌∷◌, ◌++◌, map, length, get_or, ℤ, sym, refl, ap, ◌∙◌, subst, arith}
use Rattle.std.specs.Prelude.{All}
use Rattle.std.proofs.lemmas.List.Elements.{All-nil, All-cons, All-head, All-tail, All-append, All-push, All-from_get_or}
use Rattle.refusals.proofs.Numbers.{at_most}
use Rattle.refusals.specs.Answers.{Clear}
use Rattle.refusals.specs.declared.Cause.TheVariants.{BusOutOfRange, ParticipantOutOfRange, TotalOverLimit, AreaNotWhole, Unbalanced}
use Rattle.quantities.specs.Sums.{count_of}
use Rattle.quantities.proofs.SumLaws.{count_append, count_push, count_middle}
use Rattle.apportion.specs.Split.{whole}
use Rattle.apportion.specs.declared.items.AreaMember.{AreaMember}
use Rattle.positions.specs.Classes.{side_of, one_if_side}
use Rattle.positions.specs.Kinds.{tenths, position, transaction, amended_position, amended_transaction}
use Rattle.positions.specs.declared.bus_positions.BusPosition.{BusPosition}
use Rattle.positions.specs.declared.transactions.Transaction.{Transaction}
use Rattle.positions.specs.declared.classes.Side.{Side}
use Rattle.positions.specs.declared.classes.Side.TheVariants.{Withdrawing, Injecting, Transacting}
use Rattle.areas.specs.Areas.{shares_by, nowhere, loads}
use Rattle.register.specs.Register.{Register, Kept, Phase, day_ahead, real_time, in_phase, Call, one_if_phase, one_position, one_transaction, total, Open, in_day_ahead, in_real_time, stands, area_loads, Holds, post_bus, post_participant, post_total, transfer_source, transfer_sink, transfer_participant, transfer_total, area_bus, area_participant, area_total, area_shares, amend_total, amend_transaction_total, close_unbalanced, with_positions, with_transactions, with_closings, Takes, posts, transfers, spreads, amends, amends_transaction, closes, Step, took, stood, Run, done, next, fresh, Answer}
use Rattle.register.specs.Sound.{Limited, Balanced, ClosedBalanced, Sound}
use Rattle.register.proofs.Spread.{count_area}

-- ---- records that name what there is

abbrev pub PositionPlaced : ℕ → Kept BusPosition → Type 0
PositionPlaced n k = (k.entry.participant < 16) × (k.entry.bus < n)

abbrev pub TransactionPlaced : ℕ → Kept Transaction → Type 0
TransactionPlaced n k = (k.entry.participant < 16) × (k.entry.source < n) × (k.entry.sink < n)

all_replaced : {A : Type 0} (P : A → Type 0) (x y : A) → (P x → P y) → (before after : List A) → All P (before ++ (x ∷ after)) → All P (before ++ (y ∷ after))
all_replaced P x y f [] after h = All-cons P y after (f (All-head P x after h)) (All-tail P x after h)
all_replaced P x y f (b ∷ before) after h =
    All-cons P b (before ++ (y ∷ after)) (All-head P b (before ++ (x ∷ after)) h) (all_replaced P x y f before after (All-tail P b (before ++ (x ∷ after)) h))

all_loads : (n : ℕ) (p : Phase) (who : ℕ) → who < 16 → (ms : List AreaMember) (zs : List ℤ) → All (λ (m : AreaMember). m.bus < n) ms → All (PositionPlaced n) (map (in_phase p) (loads who ms zs))
all_loads n p who h [] [] a = All-nil (PositionPlaced n)
all_loads n p who h [] (z ∷ zs) a = All-nil (PositionPlaced n)
all_loads n p who h (m ∷ ms) [] a = All-nil (PositionPlaced n)
all_loads n p who h (m ∷ ms) (z ∷ zs) a =
    let inside : AreaMember → Type 0 = λ m. m.bus < n in
    All-cons (PositionPlaced n) _ (map (in_phase p) (loads who ms zs)) (h, All-head inside m ms a) (all_loads n p who h ms zs (All-tail inside m ms a))

-- ---- totals within the limit

-- m for o in one phase
phase_changes : (p q : Phase) (x : Phase → ℕ) (o m t : ℕ) → t + one_if_phase p q * o ≡ x q + one_if_phase p q * m → x q ≤ 1000000 → x p + m ≤ 1000000 + o → t ≤ 1000000
phase_changes day_ahead day_ahead x o m t e h k = omega arith
phase_changes day_ahead real_time x o m t e h k = omega arith
phase_changes real_time day_ahead x o m t e h k = omega arith
phase_changes real_time real_time x o m t e h k = omega arith

-- m for o on one side
side_changes : (a s : Side) (x : Side → ℕ) (o m : ℕ) → x s ≤ 1000000 → x a + m ≤ 1000000 + o → x s + one_if_side a s * m ≤ 1000000 + one_if_side a s * o
side_changes Withdrawing Withdrawing x o m h k = omega arith
side_changes Withdrawing Injecting x o m h k = omega arith
side_changes Withdrawing Transacting x o m h k = omega arith
side_changes Injecting Withdrawing x o m h k = omega arith
side_changes Injecting Injecting x o m h k = omega arith
side_changes Injecting Transacting x o m h k = omega arith
side_changes Transacting Withdrawing x o m h k = omega arith
side_changes Transacting Injecting x o m h k = omega arith
side_changes Transacting Transacting x o m h k = omega arith

-- ---- closed phases

nought : (a x : ℕ) → a ≡ 0 → a * x ≡ 0
nought a x e = grind arith

not_not : (a b : ℕ) → (a ≢ b → ⊥) → a ≡ b
not_not a b f = grind arith

-- a call that ends no phase, and leaves what day-ahead counts once that is closed
still : (r s : Register) (p : Phase) → Open r p → s.closings ≡ r.closings → ((side : Side) → one_if_phase p day_ahead ≡ 0 → total s day_ahead side ≡ total r day_ahead side) → Sound r → ClosedBalanced s
still r s day_ahead (in_day_ahead e) c f h = ((λ k. absurd (omega arith)), (λ k. absurd (omega arith)))
still r s real_time (in_real_time e) c f h =
    ((λ k. f Withdrawing refl ∙ h.3.0 (omega arith) ∙ sym (f Injecting refl)), (λ k. absurd (omega arith)))

-- the closing of a phase that balances
closed : (r : Register) (p : Phase) → Open r p → Balanced r p → Sound r → Sound (with_closings r (suc r.closings))
closed r day_ahead (in_day_ahead e) b h = (h.0, h.1, h.2, ((λ k. b), (λ k. absurd (omega arith))))
closed r real_time (in_real_time e) b h = (h.0, h.1, h.2, ((λ k. h.3.0 (omega arith)), (λ k. b)))

-- ---- one call

module _ (r : Register) (p : Phase) (o : Open r p) (h : Sound r) where
  -- a side of the open phase has m for what was there, and every other total stays
  totals_kept : (s : Register) (a : Side) (was m : ℕ) → s.closings ≡ r.closings → total r p a + m ≤ 1000000 + was → ((q : Phase) (side : Side) → total s q side + one_if_phase p q * (one_if_side a side * was) ≡ total r q side + one_if_phase p q * (one_if_side a side * m)) → Limited s × ClosedBalanced s
  totals_kept s a was m same fit sums = (
    (λ q side. phase_changes p q (λ z. total r z side) (one_if_side a side * was) (one_if_side a side * m) (total s q side) (sums q side) (h.2 q side) (side_changes a side (total r p) was m (h.2 p side) fit)),
    still r s p o same (λ side z. let w = sums day_ahead side in let x = nought (one_if_phase p day_ahead) (one_if_side a side * was) z in let y = nought (one_if_phase p day_ahead) (one_if_side a side * m) z in omega arith) h,
  )

  add_positions : (more : List (Kept BusPosition)) (m : ℕ) (a : Side) → All (PositionPlaced r.buses) more → total r p a + m ≤ 1000000 → ((q : Phase) (s : Side) → count_of (one_position q s) more ≡ one_if_phase p q * (one_if_side a s * m)) → Sound (with_positions r (r.positions ++ more))
  add_positions more m a placed fit adds =
      let kept = totals_kept (with_positions r (r.positions ++ more)) a 0 m refl (omega arith) (λ q side. let grown = count_append (one_position q side) r.positions more in let new = adds q side in omega arith) in
      (All-append (PositionPlaced r.buses) r.positions more h.0 placed, h.1, kept.0, kept.1)

  add_transaction : (x : Transaction) → TransactionPlaced r.buses (in_phase p x) → total r p Transacting + tenths x.megawatts ≤ 1000000 → Sound (with_transactions r (r.transactions ++ (in_phase p x ∷ [])))
  add_transaction x placed fit =
      let k : Kept Transaction = in_phase p x in
      let kept = totals_kept (with_transactions r (r.transactions ++ (k ∷ []))) Transacting 0 (tenths x.megawatts) refl (omega arith) (λ q side. let grown = count_push (one_transaction q side) r.transactions k in omega arith) in
      (h.0, All-push (TransactionPlaced r.buses) r.transactions k h.1 placed, kept.0, kept.1)

  change_position : (m : ℕ) (e : BusPosition) (before after : List (Kept BusPosition)) → r.positions ≡ before ++ (in_phase p e ∷ after) → total r p (side_of e.class) + m ≤ 1000000 + tenths e.megawatts → Sound (with_positions r (before ++ (in_phase p (amended_position e m) ∷ after)))
  change_position m e before after is fit =
      let old : Kept BusPosition = in_phase p e in
      let new : Kept BusPosition = in_phase p (amended_position e m) in
      let kept = totals_kept (with_positions r (before ++ (new ∷ after))) (side_of e.class) (tenths e.megawatts) m refl fit (λ q side.
      (let g = one_position q side in
      let one = ap (count_of g) is in
      let two = count_middle g before old after in
      let three = count_middle g before new after in
      omega arith)) in
      (all_replaced (PositionPlaced r.buses) old new (λ q. q) before after (subst (All (PositionPlaced r.buses)) is h.0), h.1, kept.0, kept.1)

  change_transaction : (m : ℕ) (e : Transaction) (before after : List (Kept Transaction)) → r.transactions ≡ before ++ (in_phase p e ∷ after) → total r p Transacting + m ≤ 1000000 + tenths e.megawatts → Sound (with_transactions r (before ++ (in_phase p (amended_transaction e m) ∷ after)))
  change_transaction m e before after is fit =
      let old : Kept Transaction = in_phase p e in
      let new : Kept Transaction = in_phase p (amended_transaction e m) in
      let kept = totals_kept (with_transactions r (before ++ (new ∷ after))) Transacting (tenths e.megawatts) m refl fit (λ q side.
      (let g = one_transaction q side in
      let one = ap (count_of g) is in
      let two = count_middle g before old after in
      let three = count_middle g before new after in
      omega arith)) in
      (h.0, all_replaced (TransactionPlaced r.buses) old new (λ q. q) before after (subst (All (TransactionPlaced r.buses)) is h.1), kept.0, kept.1)

takes_sound : (r : Register) (p : Phase) {a : Call} {b : Answer} {s : Register} → Open r p → Clear (Holds r p a) → Takes r p a b s → Sound r → Sound s
takes_sound r p o clear (posts a c names) h =
    let who : a.participant ≤ 15 = at_most _ _ (λ q. clear ParticipantOutOfRange (post_participant q)) in
    let there : r.buses ≤ a.bus → ⊥ = λ q. clear BusOutOfRange (post_bus q) in
    let fit = at_most _ _ (λ q. clear TotalOverLimit (post_total names q)) in
    add_positions r p o h (in_phase p (position a.participant c a.bus a.amount) ∷ []) a.amount (side_of c) (All-cons (PositionPlaced r.buses) _ [] (omega arith, omega arith) (All-nil (PositionPlaced r.buses))) fit (λ q s. omega arith)
takes_sound r p o clear (transfers a) h =
    let who : a.participant ≤ 15 = at_most _ _ (λ q. clear ParticipantOutOfRange (transfer_participant q)) in
    let from : r.buses ≤ a.source → ⊥ = λ q. clear BusOutOfRange (transfer_source q) in
    let to : r.buses ≤ a.sink → ⊥ = λ q. clear BusOutOfRange (transfer_sink q) in
    let fit = at_most _ _ (λ q. clear TotalOverLimit (transfer_total q)) in
    add_transaction r p o h (transaction a.participant a.source a.sink a.amount) (omega arith, omega arith, omega arith) fit
takes_sound r p o clear (spreads a) h =
    let n = r.buses in
    let who : a.participant ≤ 15 = at_most _ _ (λ q. clear ParticipantOutOfRange (area_participant q)) in
    let inside : (i : ℕ) → i < length a.members → (get_or a.members i nowhere).bus < n =
    λ i l. (let f : n ≤ (get_or a.members i nowhere).bus → ⊥ = λ q. clear BusOutOfRange (area_bus i l q) in omega arith) in
    let all = not_not (whole (shares_by a.members)) 10000 (λ d. clear AreaNotWhole (area_shares d)) in
    let fit = at_most _ _ (λ q. clear TotalOverLimit (area_total q)) in
    add_positions r p o h (map (in_phase p) (area_loads a)) a.amount Withdrawing
    (all_loads n p a.participant (omega arith) a.members _ (All-from_get_or (λ m. m.bus < n) a.members nowhere inside)) fit (λ q s. count_area p q s a all)
takes_sound r p o clear (amends i m e before after is at) h =
    change_position r p o h m e before after is (at_most _ _ (λ q. clear TotalOverLimit (amend_total e (stands before after is at) q)))
takes_sound r p o clear (amends_transaction i m e before after is at) h =
    change_transaction r p o h m e before after is (at_most _ _ (λ q. clear TotalOverLimit (amend_transaction_total e (stands before after is at) q)))
takes_sound r p o clear closes h = closed r p o (not_not _ _ (λ d. clear Unbalanced (close_unbalanced d))) h

pub step_sound : {r s : Register} {a : Call} {b : Answer} → Step r a b s → Sound r → Sound s
step_sound {r} (took {p} o clear t) h = takes_sound r p o clear t h
step_sound (stood o first) h = h

-- ---- a list of calls

pub run_sound : {r s : Register} {calls : List Call} {answers : List Answer} → Run r calls answers s → Sound r → Sound s
run_sound done h = h
run_sound (next step run) h = run_sound run (step_sound step h)

pub fresh_sound : (n rooms roomt : ℕ) → Sound (fresh n rooms roomt)
fresh_sound n rooms roomt = ((λ i d l. absurd (omega arith)), (λ i d l. absurd (omega arith)), (λ p s. omega arith), ((λ k. refl), (λ k. refl)))
