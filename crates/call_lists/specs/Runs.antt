-- The calls that a program makes, as the register is fed them, and what a list of them leaves. Assumes nothing.
use Rattle.std.specs.Prelude.{◌≡◌, ℕ, ◌+◌, ◌<◌, ◌≤◌, ◌≢◌, List, [], ◌∷◌, ◌++◌, map, length, take, drop, Some, None, Option, unwrap_or, slice_index_or, Ok}
use Rattle.refusals.specs.Answers.{Clear}
use Rattle.refusals.specs.declared.Cause.{Cause}
use Rattle.refusals.specs.declared.Cause.TheVariants.{RowLength}
use Rattle.register.specs.declared.answers.Accepted.TheVariants.{Taken}
use Rattle.call_lists.specs.declared.calls.Call as program
use Rattle.call_lists.specs.declared.calls.Call.TheVariants.{Post, PostTransaction, PostArea, AmendPosition, AmendTransaction, Close}
use Rattle.register.specs.Register.{Register, Phase, Call, amend_position, amend_transaction, close, Holds, Step, Run, Answer}
use Rattle.register.specs.Views.{posting, transferring, spreading}
use Rattle.register.specs.Weighed.{MakingRefused}

abbrev pub call_of : program.Call → Call
call_of (Post who kind at_bus m) = posting who kind at_bus m
call_of (PostTransaction who from to m) = transferring who from to m
call_of (PostArea who m members) = spreading who m members.now
call_of (AmendPosition i m) = amend_position i m
call_of (AmendTransaction i m) = amend_transaction i m
call_of Close = close

-- a call is answered, or it is a closing that nothing speaks against and the phase has yet to go over
abbrev pub Called : Register → Phase → Call → Option Answer → Register → Type 0
Called r p a (Some b) s = Step r a b s
Called r p a None s = (a ≡ close) × Clear (Holds s p close) × (s ≡ r)

-- the calls of one phase: those before the closing at i are made, the closing may be taken, and the answers behind it stand as
-- before; or all calls are made
abbrev pub PhaseRun : Register → Phase → List program.Call → List Answer → Option ℕ → List Answer → Register → Type 0
PhaseRun r p calls before (Some i) after s =
    (i < length calls)
    × (call_of (slice_index_or calls i Close) ≡ close)
    × Run r (map call_of (take i calls)) (take i after) s
    × (take (i + 1) after ≡ take i after ++ (Ok Taken ∷ []))
    × Clear (Holds s p close)
    × (drop (i + 1) after ≡ drop (i + 1) before)
PhaseRun r p calls before None after s = Run r (map call_of calls) after s

-- ---- a whole hour

-- the calls that were made: those that closed the hour, or all
abbrev pub made_of : Option ℕ → List program.Call → ℕ
made_of closed calls = unwrap_or closed (length calls)

-- it is closed, or it is not
abbrev pub Ended : Option ℕ → Register → Type 0
Ended (Some _) s = s.closings ≡ 2
Ended None s = s.closings < 2

-- the calls that were made, from the first, and what they leave; the answers behind them stand as before
pub record Replayed (start : Register) (calls : List program.Call) (before after : List Answer) (closed : Option ℕ) : Type 0 where
  pub end : Register
  pub within : made_of closed calls ≤ length calls
  pub run : Run start (map call_of (take (made_of closed calls) calls)) (take (made_of closed calls) after) end
  pub rest : drop (made_of closed calls) after ≡ drop (made_of closed calls) before
  pub ended : Ended closed end

pub data ReplayRefused (places calls n rooms roomt : ℕ) : Cause → Type 0 where
  other_length : places ≢ calls → ReplayRefused places calls n rooms roomt RowLength
  making : {c : Cause} → MakingRefused n rooms roomt c → ReplayRefused places calls n rooms roomt c

-- a list of calls has one list of answers, and leaves one register
abbrev pub OneRun : Type 0
OneRun = (r : Register) (calls : List Call) (xs ys : List Answer) (s t : Register) → Run r calls xs s → Run r calls ys t → (xs ≡ ys) × (s ≡ t)
