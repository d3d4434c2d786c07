use Rattle.std.proofs.Common.{◌+◌, length, drop, refl, ap, ◌∙◌, arith}
use Rattle.std.proofs.lemmas.List.{take_rest}
use Rattle.std.proofs.lemmas.Result.{err_from_is_err_and}
use Rattle.hours.specs.Hours.{register_of}
use Rattle.register.specs.Register.{day_ahead, real_time}
use Rattle.call_lists.specs.Runs.{PhaseRun, OneRun}
use Rattle.register.proofs.Fixed.{one_run}
use Rattle.call_lists.proofs.Pushed.{run_from, made_all, replayed_open, replayed_closed, replay_length, replay_making, replay_clear}
use Rattle.call_lists.proofs.replay.Goals as goal
use Rattle.call_lists.proofs.replay.Goals.{After-make_calls-2}

only : OneRun
only r calls xs ys s t one other = one_run one other

pub returns-then-answers-calls : goal.returns-then-answers-calls
returns-then-answers-calls c = record { answer = replay_length _ _ _ _ _ c.if-answers-calls.true; replayed = refl; fixed = only }

pub returns-in_err-weigh_making : goal.returns-in_err-weigh_making
returns-in_err-weigh_making c =
    let e = err_from_is_err_and c.from_residual.result c.from_residual.ensures.1 in
    rw (e.1, e.2) (record { answer = replay_making _ _ _ _ _ _ c.if-answers-calls.false c.in_err-weigh_making.ensures; replayed = refl; fixed = only })

pub returns-in_default : goal.returns-in_default
returns-in_default c =
    record {
      answer = replay_clear _ _ _ _ _ c.if-answers-calls.false c.in_ok-weigh_making.ensures;
      replayed = made_all _ _ c.args.calls.now c.args.answers.now c.make_calls.new.answers c.if-answers-calls.false (c.make_calls.auto.answers ∙ c.if-answers-calls.false) (run_from c.new-hour.ensures c.in_default.ensures) (omega arith);
      fixed = only;
    }

-- what the second phase's calls are given, and what they leave
second : (c : After-make_calls-2) → PhaseRun (register_of c.close-hour.result) real_time (drop (c.in-Some.first + 1) c.args.calls.now) (drop (c.in-Some.first + 1) c.make_calls.new.answers) c.make_calls-2.result c.make_calls-2.new.answers (register_of c.make_calls-2.new.hour)
second c = rw (take_rest c.args.calls.now (c.in-Some.first + 1), take_rest c.make_calls.new.answers (c.in-Some.first + 1)) at c.make_calls-2.ensures

pub returns-in_default-make_calls : goal.returns-in_default-make_calls
returns-in_default-make_calls c =
    let n = c.in-Some.first + 1 in
    let early = c.make_calls.new.answers in
    let first = rw c.new-hour.ensures at c.in-Some.ensures in
    let late = second (goal.at.returns-in_default-make_calls c).After-make_calls-2 in
    record {
      answer = replay_clear _ _ _ _ _ c.if-answers-calls.false c.in_ok-weigh_making.ensures;
      replayed = replayed_open _ _ _ _ day_ahead real_time _ _ _ _ _ first c.close-hour.ensures (c.make_calls.auto.answers ∙ c.if-answers-calls.false) (rw c.in_default-make_calls.is at late) c.if-answers-calls.false (c.make_calls-2.auto.answers ∙ ap length (take_rest early n)) (omega arith);
      fixed = only;
    }

pub returns : goal.returns
returns c =
    let first = rw c.new-hour.ensures at c.in-Some.ensures in
    let late = second (goal.at.returns c).After-make_calls-2 in
    record {
      answer = replay_clear _ _ _ _ _ c.if-answers-calls.false c.in_ok-weigh_making.ensures;
      replayed = replayed_closed _ _ _ _ day_ahead real_time _ _ _ _ _ first c.close-hour.ensures (c.make_calls.auto.answers ∙ c.if-answers-calls.false) _ c.in-Some-make_calls.second (rw c.in-Some-make_calls.is at late) c.close.ensures refl;
      fixed = only;
    }
