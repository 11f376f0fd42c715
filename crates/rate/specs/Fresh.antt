-- "every fresh controller": of which the theorems about lists of calls speak. Definitions only.
use Rattle.std.specs.Prelude.{◌≡◌, Bool, Ok}
use Rattle.ladder.specs.Tables.{Columns, table_verdict, table_of, for_air}
use Rattle.rate.specs.declared.types.RateController.{RateController}
use Rattle.rate.specs.Calls.{fresh_controller}

-- of any columns that `for_table` does not refuse, with or without `for_air(true)`
pub data Fresh : RateController → Type 0 where
  fresh : (c : Columns) (wide : Bool) → table_verdict c ≡ Ok tt → Fresh (fresh_controller (for_air (table_of c) wide))
