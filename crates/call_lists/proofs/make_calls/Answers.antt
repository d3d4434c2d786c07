use Rattle.std.proofs.Common.{refl, ◌∙◌}
use Rattle.register.specs.Register.{done}
use Rattle.call_lists.specs.Runs.{call_of}
use Rattle.call_lists.proofs.Pushed.{run_more, rest_stays}
use Rattle.call_lists.proofs.make_calls.Goals as goal

pub loop-i-init : goal.loop-i-init
loop-i-init g c = (done, refl)

pub loop-i-preserved : goal.loop-i-preserved
loop-i-preserved g c = (
  run_more call_of c.args.calls.now c.loop-i.answers c.loop-i.i _ c.in-Some.answer c.loop-i-test.true (c.loop-i.auto.answers ∙ c.requires) c.loop-i.invariant.0 c.in-Some.ensures,
  rest_stays c.args.answers.now c.loop-i.answers c.loop-i.i c.in-Some.answer c.loop-i.invariant.1,
)
