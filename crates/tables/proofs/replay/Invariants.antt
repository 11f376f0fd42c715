-- The measure is what is left of the text.
use Rattle.std.proofs.Common.{length}
use Rattle.tables.proofs.replay.Given as goal

abbrev pub decreases-loop-record : goal.decreases-loop-record
decreases-loop-record g l = length l.text
