-- The controller that a question file's events are played on. Definitions only.
use Rattle.std.specs.Prelude.{ℕ, true, false, cond, ◌==◌}
use Rattle.ladder.specs.Tables.{table_of, for_air}
use Rattle.ladder.specs.Airs.{wide_air, narrow_air}
use Rattle.rate.specs.declared.types.RateController.{RateController}
use Rattle.rate.specs.Calls.{fresh_controller}

-- "starts a fresh controller with the air's tables, .. and `for_air`"
unfoldable pub fresh_for : ℕ → RateController
fresh_for n = cond (n == 1) (fresh_controller (for_air (table_of wide_air) true)) (fresh_controller (for_air (table_of narrow_air) false))
