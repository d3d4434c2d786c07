-- A call on a register has one answer and leaves one register. Assumes nothing.
use Rattle.std.proofs.Common.{◌≡◌, List, [], ◌∷◌, ◌++◌, length, sym, refl, ap, ◌∙◌, subst, arith, Err}
use Rattle.positions.specs.Kinds.{position, amended_position, amended_transaction}
use Rattle.positions.specs.declared.bus_positions.BusPosition.{BusPosition}
use Rattle.positions.specs.declared.transactions.Transaction.{Transaction}
use Rattle.refusals.proofs.Numbers.{one_first}
use Rattle.refusals.specs.Answers.{First, Clear}
use Rattle.register.specs.Register.{Register, Kept, Phase, Call, Open, in_day_ahead, in_real_time, Takes, posts, transfers, spreads, amends, amends_transaction, closes, Step, took, stood, Run, done, next, Holds, in_phase, with_positions, with_transactions, Answer}
use Rattle.register.proofs.Names.{one_name}

one_phase : {r : Register} {p q : Phase} → Open r p → Open r q → p ≡ q
one_phase (in_day_ahead e) (in_day_ahead f) = refl
one_phase (in_day_ahead e) (in_real_time f) = absurd (omega arith)
one_phase (in_real_time e) (in_day_ahead f) = absurd (omega arith)
one_phase (in_real_time e) (in_real_time f) = refl

-- a list has one part before a place, one element there and one part after it
module _ {A : Type 0} where
  pub record Alike (b c : List A) (x y : A) (a d : List A) : Type 0 where
    pub fronts : b ≡ c
    pub middles : x ≡ y
    pub backs : a ≡ d

  alike : (b c : List A) (x y : A) (a d : List A) → b ++ (x ∷ a) ≡ c ++ (y ∷ d) → length b ≡ length c → Alike b c x y a d
  alike [] [] x y a d e l = record { fronts = refl; middles = cc; backs = cc }
  alike [] (z ∷ c) x y a d e l = absurd (omega arith)
  alike (z ∷ b) [] x y a d e l = absurd (omega arith)
  alike (z ∷ b) (t ∷ c) x y a d e l =
      let rest = alike b c x y a d (cc) (omega arith) in
      record { fronts = cc; middles = rest.middles; backs = rest.backs }

abbrev entry_of : {P : Type 0} → Kept P → P
entry_of k = k.entry

pub one_taking : (r : Register) (p : Phase) {a : Call} {b c : Answer} {s t : Register} → Takes r p a b s → Takes r p a c t → (b ≡ c) × (s ≡ t)
one_taking r p (posts a c names) (posts _ d others) =
    (refl, ap (λ x. with_positions r (r.positions ++ (in_phase p (position a.participant x a.bus a.amount) ∷ []))) (one_name names others))
one_taking r p (transfers a) (transfers _) = (refl, refl)
one_taking r p (spreads a) (spreads _) = (refl, refl)
one_taking r p (amends i m e before after is at) (amends _ _ f front rest is' at') =
    let same = alike before front _ _ after rest (sym is ∙ is') (at ∙ sym at') in
    let entries : e ≡ f = ap entry_of same.middles in
    let left : List (Kept BusPosition) → BusPosition → List (Kept BusPosition) → Register =
    λ b x a. with_positions r (b ++ (in_phase p (amended_position x m) ∷ a)) in
    (refl, ap (λ b. left b e after) same.fronts ∙ ap (λ x. left front x after) entries ∙ ap (λ a. left front f a) same.backs)
one_taking r p (amends_transaction i m e before after is at) (amends_transaction _ _ f front rest is' at') =
    let same = alike before front _ _ after rest (sym is ∙ is') (at ∙ sym at') in
    let entries : e ≡ f = ap entry_of same.middles in
    let left : List (Kept Transaction) → Transaction → List (Kept Transaction) → Register =
    λ b x a. with_transactions r (b ++ (in_phase p (amended_transaction x m) ∷ a)) in
    (refl, ap (λ b. left b e after) same.fronts ∙ ap (λ x. left front x after) entries ∙ ap (λ a. left front f a) same.backs)
one_taking r p closes closes = (refl, refl)

-- one answer and one register
pub one_step : (r : Register) {a : Call} {b c : Answer} {s t : Register} → Step r a b s → Step r a c t → (b ≡ c) × (s ≡ t)
one_step r (took {p} {a} o clear t) (took {b} {s} o' clear' t') = one_taking r p t (subst (λ x. Takes r x a b s) (one_phase o' o) t')
one_step r (took {a} o clear t) (stood {c} o' f) = absurd (subst (λ x. Clear (Holds r x a)) (one_phase o o') clear c f.holds)
one_step r (stood {a} {c} o f) (took o' clear t) = absurd (subst (λ x. Clear (Holds r x a)) (one_phase o' o) clear c f.holds)
one_step r (stood {p} {a} {c} o f) (stood {c = d} o' g) =
    let g' : First (Holds r p a) d = subst (λ x. First (Holds r x a) d) (one_phase o' o) g in
    (ap Err (one_first {Holds = Holds r p a} f g'), refl)

-- and a list of calls has one list of answers, and leaves one register
pub one_run : {r : Register} {calls : List Call} {xs ys : List Answer} {s t : Register} → Run r calls xs s → Run r calls ys t → (xs ≡ ys) × (s ≡ t)
one_run done done = (refl, refl)
one_run (next {r} {answers = before} step run) (next {t} {b} {calls} {answers} step' run') =
    let e = one_step r step step' in
    let rest = one_run run (subst (λ x. Run x calls answers t) (sym e.1) run') in
    (ap (λ x. x ∷ before) e.0 ∙ ap (λ xs. b ∷ xs) rest.0, rest.1)
