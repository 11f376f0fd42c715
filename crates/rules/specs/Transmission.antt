-- "A transmission": `observe_frames`, whole, in the document's order. Definitions only.
use Rattle.std.specs.Prelude.{List, [], ◌∷◌}
use Rattle.limits.specs.Readings.{Reading}
use Rattle.ladder.specs.declared.types.Table.{Table}
use Rattle.account.specs.declared.types.Prices.{Prices}
use Rattle.account.specs.declared.types.State.{State}
use Rattle.rules.specs.Echo.{observe_snr}
use Rattle.rules.specs.Booking.{Frame, booked}
use Rattle.rules.specs.Tries.{Decided, judge_above, own_frames, counted, still, decide}

-- the state that `decide` is given
abbrev pub judged : Table → Prices → State → List Frame → State
judged t p s fs = judge_above 32 0 t p fs (booked t s fs)

unfoldable pub inside : Table → Prices → State → List Frame → Reading → State
inside t p s fs snr = let b = judged t p (observe_snr s snr) fs in counted t p (own_frames fs b.core.trying) b b.core.trying

-- "in order: smooth SNR; empty list stops here."
unfoldable pub observe_frames : Table → Prices → State → List Frame → Reading → Decided
observe_frames t p s [] snr = still (observe_snr s snr)
observe_frames t p s (f ∷ fs) snr = decide t p (inside t p s (f ∷ fs) snr)
