-- What is left of the places, from the times now, gives what all places give; and the times alone move.
use Rattle.std.proofs.Common.{◌≡◌, ◌-◌}
use Rattle.ladder.specs.Types.{place_count}
use Rattle.account.specs.State.{with_all_since}
use Rattle.rules.specs.Booking.{passed}
use Rattle.steps.proofs.frames.pass_times.Given as goal

abbrev pub invariant-loop-r : goal.invariant-loop-r
invariant-loop-r l = record {
  alone : l.s ≡ with_all_since l.initial.s l.s.since;
  left : passed (place_count l.t - l.r-index) l.r-index l.t l.air l.s.since ≡ passed (place_count l.t) 0 l.t l.air l.initial.s.since;
}
