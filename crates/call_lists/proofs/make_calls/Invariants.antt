use Rattle.std.proofs.Common.{◌≡◌, map, take, drop}
use Rattle.hours.specs.Hours.{register_of}
use Rattle.register.specs.Register.{Run}
use Rattle.call_lists.specs.Runs.{call_of}
use Rattle.call_lists.proofs.make_calls.Given as goal

abbrev pub invariant-loop-i : goal.invariant-loop-i
invariant-loop-i g l =
    Run (register_of l.initial.hour) (map call_of (take l.i l.calls)) (take l.i l.answers) (register_of l.hour)
    × (drop l.i l.answers ≡ drop l.i l.initial.answers)
