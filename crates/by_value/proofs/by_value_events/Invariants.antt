-- The events that are left give what all give from the start.
use Rattle.std.proofs.Common.{◌≡◌, ◌-◌, length}
use Rattle.question.specs.File.{event_count, air}
use Rattle.question.specs.Start.{fresh_for}
use Rattle.by_value.specs.Sums.{no_sums, event_sums}
use Rattle.by_value.proofs.by_value_events.Given as goal

abbrev pub invariant-loop-body : goal.invariant-loop-body
invariant-loop-body l = event_sums (event_count l.file - length l.yielded) (length l.yielded) l.file l.k l.sums ≡ event_sums (event_count l.file) 0 l.file (fresh_for (air l.file)) no_sums
