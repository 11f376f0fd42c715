-- After so many events the lines of these stand in the slice, the player's controller says the others, and the other bodies are left.
use Rattle.std.specs.Prelude.{◌≡◌}
use Rattle.question.specs.File.{bodies_from}
use Rattle.paper.proofs.Running.{Filled}
use Rattle.paper.proofs.run.run.Given as goal

abbrev pub invariant-loop-line : goal.invariant-loop-line
invariant-loop-line l =
    Filled l.file l.line-index l.lines l.player × (bodies_from l.bodies.file.now l.bodies.next ≡ bodies_from l.file l.line-index)
