-- Runs that are joined: one more call at the end, and the two phases of an hour. Assumes nothing.
use Rattle.std.proofs.Common.{◌≡◌, ℕ, ◌+◌, ◌-◌, ◌<◌, ◌≤◌, ◌≢◌, List, [], ◌∷◌, ◌++◌, map, length, get_or, take, drop, set, Some, None, sym, ap, ◌∙◌, subst, append-nil, arith, lit≤, take-add, Ok}
use borrow.Rule.Slice.PartMut.{put_mid}
use Rattle.std.proofs.lemmas.List.{take_all, drop_all, map_more, map-append, take-append-drop, length-take-le, length-drop, length-append, take_more_set, drop-set-lt, drop-drop, drop-append-le}
use lib.Seq.{take-append-add}
use Rattle.call_lists.specs.declared.calls.Call as program
use Rattle.call_lists.specs.declared.calls.Call.TheVariants.{Close}
use Rattle.register.specs.declared.answers.Accepted.TheVariants.{Taken}
use Rattle.refusals.specs.Answers.{Clear, First}
use Rattle.refusals.specs.Causes.{number}
use Rattle.refusals.specs.declared.Cause.{Cause}
use Rattle.refusals.specs.declared.Cause.TheVariants.{RowLength}
use Rattle.register.specs.Weighed.{MakingRefused}
use Rattle.register.proofs.Closings.{making_least}
use Rattle.register.specs.Register.{Register, Phase, Call, close, Step, Run, done, next, Answer}
use Rattle.call_lists.specs.Runs.{call_of, PhaseRun, Replayed, ReplayRefused, other_length, making}

run_join : {r s t : Register} {a b : List Call} {x y : List Answer} → Run r a x s → Run s b y t → Run r (a ++ b) (x ++ y) t
run_join done more = more
run_join (next first rest) more = next first (run_join rest more)

run_push : {r s t : Register} {calls : List Call} {answers : List Answer} (a : Call) (b : Answer) → Run r calls answers s → Step s a b t → Run r (calls ++ (a ∷ [])) (answers ++ (b ∷ [])) t
run_push a b run step = run_join run (next step done)

-- one more call in the loop
pub run_more : {C : Type 0} (f : C → Call) {r s t : Register} (calls : List C) (answers : List Answer) (i : ℕ) (c : C) (b : Answer) → i < length calls → length answers ≡ length calls → Run r (map f (take i calls)) (take i answers) s → Step s (f (get_or calls i c)) b t → Run r (map f (take (i + 1) calls)) (take (i + 1) (set answers i b)) t
run_more f calls answers i c b here same run step =
    let there : i < length answers = omega arith in
    rw (map_more f calls i c here, take_more_set answers i b there) (run_push (f (get_or calls i c)) b run step)

-- a write at i leaves what is behind it as it was before
pub rest_stays : (before answers : List Answer) (i : ℕ) (b : Answer) → drop i answers ≡ drop i before → drop (i + 1) (set answers i b) ≡ drop (i + 1) before
rest_stays before answers i b e =
    drop-set-lt (i + 1) answers i b (omega arith) ∙ sym (drop-drop 1 i answers) ∙ ap (drop 1) e ∙ drop-drop 1 i before

-- a phase that went over: its calls with the closing, as one run
run_over : (r s t : Register) (p : Phase) (calls : List program.Call) (before answers : List Answer) (i : ℕ) → PhaseRun r p calls before (Some i) answers s → Step s close (Ok Taken) t → Run r (map call_of (take (i + 1) calls)) (take (i + 1) answers) t
run_over r s t p calls before answers i h step =
    let one = map_more call_of calls i Close h.0 ∙ ap (λ (a : Call). map call_of (take i calls) ++ (a ∷ [])) h.1 in
    rw (one, h.3) (run_push close (Ok Taken) h.2 step)

-- ---- a whole hour

module _ (r s t : Register) (p : Phase) (calls : List program.Call) (before early all : List Answer) (i : ℕ) (was : PhaseRun r p calls before (Some i) early s) (over : Step s close (Ok Taken) t) where
  -- the calls of the second phase are those behind the closing, and so are their answers
  run_both : (u : Register) (q : Phase) (late : List Answer) → all ≡ take (i + 1) early ++ late → Run t (map call_of (drop (i + 1) calls)) late u → Run r (map call_of calls) all u
  run_both u q late is run =
      let whole : map call_of (take (i + 1) calls) ++ map call_of (drop (i + 1) calls) ≡ map call_of calls =
      sym (map-append call_of (take (i + 1) calls) (drop (i + 1) calls)) ∙ ap (map call_of) (take-append-drop (i + 1) calls) in
      rw (← whole, is) (run_join (run_over r s t p calls before early i was over) run)

  run_twice : (u v : Register) (q : Phase) (lent late : List Answer) (j : ℕ) → length early ≡ length calls → all ≡ take (i + 1) early ++ late → PhaseRun t q (drop (i + 1) calls) lent (Some j) late u → Step u close (Ok Taken) v → (i + 1 + (j + 1) ≤ length calls) × Run r (map call_of (take (i + 1 + (j + 1)) calls)) (take (i + 1 + (j + 1)) all) v
  run_twice u v q lent late j same is then end =
      let n = i + 1 in
      let m = j + 1 in
      let here = was.0 in
      let long = length-take-le n early (omega arith) in
      let left = length-drop n calls in
      let inside = then.0 in
      let run = run_join (run_over r s t p calls before early i was over) (run_over t u v q (drop n calls) lent late j then end) in
      let one : map call_of (take n calls) ++ map call_of (take m (drop n calls)) ≡ map call_of (take (n + m) calls) =
      sym (map-append call_of (take n calls) (take m (drop n calls))) ∙ ap (map call_of) (sym (take-add n m calls)) in
      let two : take (n + m) all ≡ take n early ++ take m late =
      ap (take (n + m)) is ∙ ap (λ (x : ℕ). take (x + m) (take n early ++ late)) (sym long) ∙ take-append-add (take n early) late m in (
        omega arith,
        rw (← one, two) run,
      )

-- a write to all that is behind n leaves what is before it, and then what was written
rest_written : (n : ℕ) (early late : List Answer) → n ≤ length early → put_mid n (length early - n) early late ≡ take n early ++ late
rest_written n early late h =
    let left = length-drop n early in
    let none_left : drop (length early - n) (drop n early) ≡ [] = drop_all (length early - n) (drop n early) (omega arith) in
    ap (λ (zs : List Answer). take n early ++ (late ++ zs)) none_left ∙ ap (λ (zs : List Answer). take n early ++ zs) (append-nil late)

-- what is behind two phases' calls stands as it was before
rest_twice : (n m : ℕ) (before early late all : List Answer) → n ≤ length early → all ≡ take n early ++ late → drop m late ≡ drop m (drop n early) → drop n early ≡ drop n before → drop (n + m) all ≡ drop (n + m) before
rest_twice n m before early late all h is back front =
    let long = length-take-le n early h in
    let split : drop n (take n early ++ late) ≡ late =
    drop-append-le n (take n early) late (omega arith) ∙ ap (λ (xs : List Answer). xs ++ late) (drop_all n (take n early) (omega arith)) in
    sym (drop-drop m n all) ∙ ap (drop m) (ap (drop n) is ∙ split) ∙ back ∙ ap (drop m) front ∙ drop-drop m n before

-- and there are as many answers as before
long_twice : (n : ℕ) (early late all : List Answer) → n ≤ length early → all ≡ take n early ++ late → length late ≡ length (drop n early) → length all ≡ length early
long_twice n early late all h is same =
    let long = length-take-le n early h in
    let left = length-drop n early in
    let both = ap length is ∙ length-append (take n early) late in
    omega arith

-- all calls are made
pub made_all : (r s : Register) (calls : List program.Call) (before after : List Answer) → length before ≡ length calls → length after ≡ length calls → Run r (map call_of calls) after s → s.closings < 2 → Replayed r calls before after None
made_all r s calls before after was same run few =
    let n = length calls in
    record {
      end = s;
      within = omega arith;
      run = rw (take_all n calls (omega arith), take_all n after (omega arith)) run;
      rest = drop_all n after (omega arith) ∙ sym (drop_all n before (omega arith));
      ended = few;
    }

-- the second phase's calls are made on what is behind the first closing
module _ (r s t u : Register) (p q : Phase) (calls : List program.Call) (before early late : List Answer) (i : ℕ) (first : PhaseRun r p calls before (Some i) early s) (over : Step s close (Ok Taken) t) (same : length early ≡ length calls) where
  -- and all of them are made
  pub replayed_open : PhaseRun t q (drop (i + 1) calls) (drop (i + 1) early) None late u → length before ≡ length calls → length late ≡ length (drop (i + 1) early) → u.closings < 2 → Replayed r calls before (put_mid (i + 1) (length early - (i + 1)) early late) None
  replayed_open second was long few =
      let here = first.0 in
      let n = i + 1 in
      let is = rest_written n early late (omega arith) in
      let whole = long_twice n early late _ (omega arith) is long in
      made_all r u calls before _ was (whole ∙ same) (run_both r s t p calls before early _ i first over u q late is second) few

  -- or a second closing ends the hour
  pub replayed_closed : (v : Register) (j : ℕ) → PhaseRun t q (drop (i + 1) calls) (drop (i + 1) early) (Some j) late u → Step u close (Ok Taken) v → v.closings ≡ 2 → Replayed r calls before (put_mid (i + 1) (length early - (i + 1)) early late) (Some (i + 1 + (j + 1)))
  replayed_closed v j second end closed =
      let here = first.0 in
      let n = i + 1 in
      let is = rest_written n early late (omega arith) in
      let both = run_twice r s t p calls before early _ i first over u v q (drop n early) late j same is second end in
      record {
        end = v;
        within = both.0;
        run = both.1;
        rest = rest_twice n (j + 1) before early late _ (omega arith) is second.5 first.5;
        ended = closed;
      }

-- ---- refusals

module _ (places calls n rooms roomt : ℕ) where
  replay_least : (c : Cause) → ReplayRefused places calls n rooms roomt c → 12 ≤ number c
  replay_least c (other_length h) = lit≤ tt
  replay_least c (making h) = let low = making_least n rooms roomt c h in omega arith

  pub replay_length : places ≢ calls → First (ReplayRefused places calls n rooms roomt) RowLength
  replay_length h = record { holds = other_length h; least = replay_least }

  making_after : (c : Cause) → places ≡ calls → First (MakingRefused n rooms roomt) c → (d : Cause) → ReplayRefused places calls n rooms roomt d → number c ≤ number d
  making_after c e f d (other_length h) = absurd (h e)
  making_after c e f d (making h) = f.least d h

  pub replay_making : (c : Cause) → places ≡ calls → First (MakingRefused n rooms roomt) c → First (ReplayRefused places calls n rooms roomt) c
  replay_making c e f = record { holds = making f.holds; least = making_after c e f }

  pub replay_clear : places ≡ calls → Clear (MakingRefused n rooms roomt) → Clear (ReplayRefused places calls n rooms roomt)
  replay_clear e none c (other_length h) = h e
  replay_clear e none c (making h) = none c h

-- a run that began at a register that is r
pub run_from : {q r s : Register} {calls : List Call} {answers : List Answer} → q ≡ r → Run q calls answers s → Run r calls answers s
run_from {s} {calls} {answers} e run = subst (λ (x : Register). Run x calls answers s) e run
