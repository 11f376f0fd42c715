-- The value of the rung at a place at an SNR: that of the rules where that is the smoothed one, and what `first_place` ranks by where it is one reading.
-- Definitions only.
use Rattle.std.specs.Prelude.{ℕ, Float}
use Rattle.limits.specs.Readings.{Reading}
use Rattle.ladder.specs.declared.types.Table.{Table}
use Rattle.ladder.specs.Types.{rung_at}
use Rattle.account.specs.declared.types.Prices.{Prices}
use Rattle.account.specs.declared.types.State.{State}
use Rattle.account.specs.Price.{priced, estimate_at}

abbrev pub place_value : Table → Prices → State → Reading → ℕ → Float
place_value t p s snr i = priced t p (rung_at t i) (estimate_at t s (rung_at t i) snr)
