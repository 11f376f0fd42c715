-- What is left of the list gives, from here on, what the whole list gives.
use Rattle.std.proofs.Common.{◌≡◌, drop}
use Rattle.rules.specs.Check.{first_bad}
use Rattle.rules.proofs.check.check_frames.Given as goal

abbrev pub invariant-loop-f : goal.invariant-loop-f
invariant-loop-f l = first_bad l.t (drop l.f-index l.frames) ≡ first_bad l.t l.frames
