-- Refusals 1 to 5 of "What is turned away", and the table that is made where none applies. Definitions only.
use Rattle.std.specs.Prelude.{Bool, ◌&&◌, cond, List, ℕ, leb, ltb, eqb, length, get_or, None, Result, Ok, Err, Float}
use Rattle.float.specs.Numbers.{f64, f0, f½, f1}
use Rattle.limits.specs.Values.{ok_db, ok_air, ok_bytes}
use Rattle.limits.specs.Refusals.{Verdict, unless, or_else}
use Rattle.limits.specs.declared.refusal.Refusal.{Refusal}
use Rattle.limits.specs.declared.refusal.Refusal.TheVariants.{ColumnSize, ColumnsDiffer, TableValue, FloorCount, EmptyFront}
use Rattle.ladder.specs.Lists.{every, tabulate}
use Rattle.limits.specs.Readings.{Reading, ok_limit}
use Rattle.ladder.specs.Types.{Row, Front, Air, Table, no_row}
use Rattle.ladder.specs.Columns.{ok_size}
use Rattle.ladder.specs.Front.{front_of, front_as}

-- what a table is made of: a column each, and how many rungs are floor
pub record Columns : Type 0 where
  pub thresholds : List Float
  pub payloads : List ℕ
  pub capacities : List ℕ
  pub times : List Float
  pub limits : List Reading
  pub floors : ℕ

-- of the arguments of `table_for`
abbrev pub columns : List Float → List ℕ → List ℕ → List Float → ℕ → List Reading → Columns
columns thresholds payloads capacities times floors limits = record {
  thresholds = thresholds;
  payloads = payloads;
  capacities = capacities;
  times = times;
  limits = limits;
  floors = floors;
}

-- 1: "a table column has 0 or over 32 entries (echo column: over 32)"
abbrev pub ok_sizes : Columns → Bool
ok_sizes c = ok_size (length c.thresholds) && ok_size (length c.payloads) && ok_size (length c.capacities) && ok_size (length c.times) && leb (length c.limits) 32

-- 2: "threshold, payload, capacity, frame-time columns differ in length"
abbrev pub same_sizes : Columns → Bool
same_sizes c = eqb (length c.payloads) (length c.thresholds) && eqb (length c.capacities) (length c.thresholds) && eqb (length c.times) (length c.thresholds)

-- 3: "a table value outside its limits"
abbrev pub ok_values : Columns → Bool
ok_values c = every ok_db c.thresholds && every ok_bytes c.payloads && every ok_bytes c.capacities && every ok_air c.times && every ok_limit c.limits

-- 4: "more floor rungs than rungs"
abbrev pub ok_floors : Columns → Bool
ok_floors c = leb c.floors (length c.thresholds)

-- 5: "the front is empty"
abbrev pub front_of_columns : Columns → List ℕ
front_of_columns c = front_of c.thresholds c.payloads c.times

abbrev pub ok_front : Columns → Bool
ok_front c = leb 1 (length (front_of_columns c))

-- "The lowest applicable number is given"
unfoldable pub table_verdict : Columns → Verdict
table_verdict c =
    or_else (unless (ok_sizes c) ColumnSize)
    (or_else (unless (same_sizes c) ColumnsDiffer)
    (or_else (unless (ok_values c) TableValue)
    (or_else (unless (ok_floors c) FloorCount)
    (unless (ok_front c) EmptyFront))))

-- ---- the table that is made
-- "A short echo column means no limit above it."
abbrev pub limit_at : List Reading → ℕ → Reading
limit_at limits r = get_or limits r None

-- a rung's row; past the last rung the row of a rung outside the table
abbrev pub row_of : Columns → ℕ → Row
row_of c r = cond (ltb r (length c.thresholds)) (record {
  threshold = get_or c.thresholds r f0;
  capacity = get_or c.capacities r 0;
  time = get_or c.times r f1;
  limit = limit_at c.limits r;
}) no_row

unfoldable pub rows_of : Columns → List Row
rows_of c = tabulate 32 0 (row_of c)

-- "Margin and family gain are 1 and 1 after `for_air(true)`, else 3 and 0.5."
abbrev pub prior_margin : Float
prior_margin = f64 0x4008_0000_0000_0000

abbrev pub family_gain : Float
family_gain = f½

abbrev pub wide_prior_margin : Float
wide_prior_margin = f1

abbrev pub wide_family_gain : Float
wide_family_gain = f1

-- a table of its rows, the counts of rungs and of floor rungs, and the front
abbrev pub table_from : List Row → ℕ → ℕ → Front → Table
table_from rows count floors offered = record {
  rows = rows;
  front = offered;
  air = record { count = count; floors = floors; margin = prior_margin; gain = family_gain };
}

unfoldable pub table_of : Columns → Table
table_of c = table_from (rows_of c) (length c.thresholds) c.floors (front_as (front_of_columns c))

-- `for_air(false)` leaves them
abbrev pub air_for : Air → Bool → Air
air_for a wide = record {
  count = a.count;
  floors = a.floors;
  margin = cond wide wide_prior_margin a.margin;
  gain = cond wide wide_family_gain a.gain;
}

abbrev pub for_air : Table → Bool → Table
for_air t wide = record {
  rows = t.rows;
  front = t.front;
  air = air_for t.air wide;
}

-- a table where it is accepted
abbrev pub tabled_if : Verdict → Columns → Result Table Refusal
tabled_if (Ok _) c = Ok (table_of c)
tabled_if (Err why) c = Err why

-- what `table_for` answers
unfoldable pub tabled : Columns → Result Table Refusal
tabled c = tabled_if (table_verdict c) c
