-- The frames from the i-th on give what all give from the start.
use Rattle.std.proofs.Common.{◌≡◌, ◌-◌}
use Rattle.question.specs.File.{air}
use Rattle.question.specs.Start.{fresh_for}
use Rattle.by_value.specs.Sums.{no_sums, frame_sums}
use Rattle.by_value.proofs.by_value_frames.Given as goal

abbrev pub invariant-loop-frame : goal.invariant-loop-frame
invariant-loop-frame l = frame_sums (256 - l.frame-index) l.frame-index l.frame-items l.snr l.k l.sums ≡ frame_sums 256 0 l.frame-items l.snr (fresh_for (air l.file)) no_sums
