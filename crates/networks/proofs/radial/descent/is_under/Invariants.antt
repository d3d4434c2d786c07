use Rattle.std.proofs.Common.{◌≤◌, ◌↔◌, length}
use Rattle.networks.specs.Descent.{upper, Under}
use Rattle.networks.proofs.radial.descent.is_under.Given as goal

-- the bus reached is under `top` exactly where the first one is
abbrev pub invariant-loop-reached : goal.invariant-loop-reached
invariant-loop-reached l =
    let up = upper l.uppers in
    (l.reached ≤ length l.uppers) × (Under up l.top l.reached ↔ Under up l.top l.bus)

abbrev pub decreases-loop-reached : goal.decreases-loop-reached
decreases-loop-reached l = l.reached
