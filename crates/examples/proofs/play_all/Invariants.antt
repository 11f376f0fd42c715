-- A paper takes at least the 16 bytes of its head, and the measure is the bytes that are left.
use Rattle.std.proofs.Common.{length}
use Rattle.examples.proofs.play_all.Given as goal

abbrev pub invariant-loop-paper : goal.invariant-loop-paper
invariant-loop-paper g l = Unit {0}

abbrev pub decreases-loop-paper : goal.decreases-loop-paper
decreases-loop-paper g l = length l.papers
