-- The loads of an area: what they are, how they are posted, and what they add to. Assumes nothing.
use Rattle.std.proofs.Common.{◌≡◌, ℕ, suc, ◌+◌, ◌*◌, ◌<◌, ◌≤◌, List, [], ◌∷◌, ◌++◌, map, length, get_or, ℤ, pos, nat_abs, ◌≤ℤ◌, sym, refl, ap, ◌∙◌, subst, mul-zero, mul-add, arith, Ok, Err}
use borrow.Author.Differences.{ints}
use Rattle.refusals.proofs.Numbers.{at_most, none_holds}
use Rattle.refusals.specs.Causes.{number}
use Rattle.refusals.specs.declared.Cause.{Cause}
use Rattle.refusals.specs.declared.Cause.TheVariants.{BusOutOfRange, ParticipantOutOfRange, TotalOverLimit, LedgerFull, AreaNotWhole}
use Rattle.quantities.specs.Sums.{sum_of, count_of, at, atℕ, row_of}
use Rattle.quantities.proofs.SumLaws.{sum_of_row, at_row, length_row}
use Rattle.apportion.specs.Split.{share, shares, whole}
use Rattle.apportion.specs.declared.items.AreaMember.{AreaMember}
use Rattle.apportion.proofs.Laws.{shares_add, share_toward}
use Rattle.areas.specs.Areas.{shares_by, nowhere, loads, MembersPlaced}
use Rattle.areas.proofs.Loads.{length_shares}
use Rattle.positions.specs.declared.classes.Side.{Side}
use Rattle.positions.specs.declared.classes.Side.TheVariants.{Withdrawing}
use Rattle.register.specs.declared.answers.Accepted.TheVariants.{RecordNumber}
use Rattle.positions.specs.Classes.{one_if_side}
use Rattle.register.specs.Register.{Register, Phase, in_phase, Area, area, area_loads, Open, Holds, area_bus, area_participant, area_total, area_room, area_empty, area_shares, total, one_position, spreads, Step, took, stood, with_positions, one_if_phase}

-- ---- what the split gives

-- numbers that are not below nought add to their distances from nought
count_abs : (zs : List ℤ) → ((i : ℕ) → i < length zs → pos 0 ≤ℤ at zs i) → pos (count_of nat_abs zs) ≡ sum_of (λ z. z) zs
count_abs [] h = refl
count_abs (z ∷ zs) h =
    let here : pos 0 ≤ℤ z = h 0 (omega arith) in
    let rest = count_abs zs (λ i l. h (suc i) (omega arith)) in
    omega (arith, ints)

-- the shares of a natural amount add to it
pub shares_count : (a : ℕ) (ws : List ℕ) → 0 < whole ws → count_of nat_abs (shares (pos a) ws) ≡ a
shares_count a ws h =
    let n = length ws in
    let f : ℕ → ℤ = share (pos a) n (atℕ ws) in
    let long = length_row n f in
    let low : (i : ℕ) → i < length (row_of n f) → pos 0 ≤ℤ at (row_of n f) i = λ i l.
    let below : i < n = omega arith in
    subst (λ (z : ℤ). pos 0 ≤ℤ z) (sym (at_row n f i below)) (share_toward (pos a) n (atℕ ws) i h below).0 in
    let abs = count_abs (row_of n f) low in
    let all = sum_of_row n f ∙ shares_add (pos a) n (atℕ ws) h in
    omega (arith, ints)

-- ---- the causes of an area

module _ (r : Register) (p : Phase) where
  pub area_least : (a : Area) (k : ℕ) → (1 < k → MembersPlaced r.buses a.members) → (2 < k → a.participant ≤ 15) → (4 < k → total r p Withdrawing + a.amount ≤ 1000000) → (6 < k → length r.positions + length a.members ≤ r.position_room) → (9 < k → whole (shares_by a.members) ≡ 10000) → (d : Cause) → Holds r p (area a) d → k ≤ number d
  area_least a k buses who most room all d (area_bus i l h) = at_most k 1 (λ q. let f = buses q i l in omega arith)
  area_least a k buses who most room all d (area_participant h) = at_most k 2 (λ q. let f = who q in omega arith)
  area_least a k buses who most room all d (area_total h) = at_most k 4 (λ q. let f = most q in omega arith)
  area_least a k buses who most room all d (area_room h) = at_most k 6 (λ q. let f = room q in omega arith)
  area_least a k buses who most room all d (area_empty h) = at_most k 9 (λ q. let f = all q in let z : whole (shares_by a.members) ≡ 0 = ap (λ (ms : List AreaMember). whole (shares_by ms)) h in omega arith)
  area_least a k buses who most room all d (area_shares h) = at_most k 9 (λ q. h (all q))

module _ {r : Register} {p : Phase} (o : Open r p) (a : Area) where
  pub area_no_bus : (i : ℕ) → i < length a.members → r.buses ≤ (get_or a.members i nowhere).bus → Step r (area a) (Err BusOutOfRange) r
  area_no_bus i l h = stood o (record { holds = area_bus i l h; least = area_least r p a 1 (λ q. absurd (omega arith)) (λ q. absurd (omega arith)) (λ q. absurd (omega arith)) (λ q. absurd (omega arith)) (λ q. absurd (omega arith)) })

  pub area_no_participant : MembersPlaced r.buses a.members → 15 < a.participant → Step r (area a) (Err ParticipantOutOfRange) r
  area_no_participant buses h = stood o (record { holds = area_participant h; least = area_least r p a 2 (λ q. buses) (λ q. absurd (omega arith)) (λ q. absurd (omega arith)) (λ q. absurd (omega arith)) (λ q. absurd (omega arith)) })

  pub area_too_much : MembersPlaced r.buses a.members → a.participant ≤ 15 → 1000000 < total r p Withdrawing + a.amount → Step r (area a) (Err TotalOverLimit) r
  area_too_much buses who h = stood o (record { holds = area_total h; least = area_least r p a 4 (λ q. buses) (λ q. who) (λ q. absurd (omega arith)) (λ q. absurd (omega arith)) (λ q. absurd (omega arith)) })

  pub area_no_room : MembersPlaced r.buses a.members → a.participant ≤ 15 → total r p Withdrawing + a.amount ≤ 1000000 → r.position_room < length r.positions + length a.members → Step r (area a) (Err LedgerFull) r
  area_no_room buses who most h = stood o (record { holds = area_room h; least = area_least r p a 6 (λ q. buses) (λ q. who) (λ q. most) (λ q. absurd (omega arith)) (λ q. absurd (omega arith)) })

  pub area_not_whole : MembersPlaced r.buses a.members → a.participant ≤ 15 → total r p Withdrawing + a.amount ≤ 1000000 → length r.positions + length a.members ≤ r.position_room → (whole (shares_by a.members) ≡ 10000 → ⊥) → Step r (area a) (Err AreaNotWhole) r
  area_not_whole buses who most room h = stood o (record { holds = area_shares h; least = area_least r p a 9 (λ q. buses) (λ q. who) (λ q. most) (λ q. room) (λ q. absurd (omega arith)) })

  pub area_taken : MembersPlaced r.buses a.members → a.participant ≤ 15 → total r p Withdrawing + a.amount ≤ 1000000 → length r.positions + length a.members ≤ r.position_room → whole (shares_by a.members) ≡ 10000 → Step r (area a) (Ok (RecordNumber (length r.positions))) (with_positions r (r.positions ++ map (in_phase p) (area_loads a)))
  area_taken buses who most room all = took o (none_holds {Holds = Holds r p (area a)} (area_least r p a 17 (λ q. buses) (λ q. who) (λ q. most) (λ q. room) (λ q. all))) (spreads a)

-- what the loads of one phase add to a side of a phase
pub count_loads : (p q : Phase) (s : Side) (who : ℕ) (ms : List AreaMember) (zs : List ℤ) → length zs ≡ length ms → count_of (one_position q s) (map (in_phase p) (loads who ms zs)) ≡ one_if_phase p q * (one_if_side Withdrawing s * count_of nat_abs zs)
count_loads p q s who [] [] e = sym (ap (λ z. one_if_phase p q * z) (mul-zero (one_if_side Withdrawing s)) ∙ mul-zero (one_if_phase p q))
count_loads p q s who [] (z ∷ zs) e = absurd (omega arith)
count_loads p q s who (m ∷ ms) [] e = absurd (omega arith)
count_loads p q s who (m ∷ ms) (z ∷ zs) e =
    let w = one_if_side Withdrawing s in
    let rest = count_loads p q s who ms zs (omega arith) in
    let two = mul-add w (nat_abs z) (count_of nat_abs zs) in
    let three = ap (λ x. one_if_phase p q * x) two ∙ mul-add (one_if_phase p q) (w * nat_abs z) (w * count_of nat_abs zs) in
    omega arith

-- the loads of an area add its M
pub count_area : (p q : Phase) (s : Side) (a : Area) → whole (shares_by a.members) ≡ 10000 → count_of (one_position q s) (map (in_phase p) (area_loads a)) ≡ one_if_phase p q * (one_if_side Withdrawing s * a.amount)
count_area p q s a all =
    let some : 0 < whole (shares_by a.members) = omega arith in
    count_loads p q s a.participant a.members (shares (pos a.amount) (shares_by a.members)) (length_shares a.amount a.members)
    ∙ ap (λ z. one_if_phase p q * (one_if_side Withdrawing s * z)) (shares_count a.amount (shares_by a.members) some)
