-- The walk down from where it stands gives what the walk from the top gives.
use Rattle.std.proofs.Common.{◌≡◌}
use Rattle.rules.specs.Echo.{highest}
use Rattle.steps.proofs.echo.highest_from.Given as goal

abbrev pub invariant-loop-i : goal.invariant-loop-i
invariant-loop-i l = highest l.t l.s l.i ≡ highest l.t l.s l.fn.top.0
