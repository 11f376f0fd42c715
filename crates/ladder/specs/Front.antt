-- "Front and places": the rungs worth offering, from the columns of thresholds, payloads and frame times. Definitions only.
use Rattle.std.specs.Prelude.{◌≡◌, Bool, not, ◌&&◌, List, map, ℕ, ◌-◌, eqb, length, get_or, replicate, Result, Ok, Err, Float}
use Rattle.std.specs.Float.Ieee.{le}
use Rattle.float.specs.Numbers.{◌⊘◌, of_nat, f0, f1}
use Rattle.limits.specs.Values.{ok_db, ok_air, ok_bytes}
use Rattle.limits.specs.Refusals.{Verdict, unless, or_else}
use Rattle.limits.specs.declared.refusal.Refusal.{Refusal}
use Rattle.limits.specs.declared.refusal.Refusal.TheVariants.{ColumnSize, ColumnsDiffer, TableValue}
use Rattle.ladder.specs.Lists.{every, select, some_from, filled}
use Rattle.ladder.specs.Types.{Rung, Front, rung}
use Rattle.ladder.specs.Columns.{ok_size}

-- columns of one length: a row of numbers for each rung
pub record OneLength (thresholds : List Float) (payloads : List ℕ) (times : List Float) : Type 0 where
  pub payload : length payloads ≡ length thresholds
  pub time : length times ≡ length thresholds

-- "of `frames.rs` only `DATA_HEADER` = 3 is used": a frame's data bytes, of its payload
abbrev pub data_header : ℕ
data_header = 3

abbrev pub data_of : ℕ → ℕ
data_of payload = payload - data_header

-- "Worth is (payload less 3, never below 0)/frame time."
abbrev pub worth : ℕ → Float → Float
worth payload time = of_nat (data_of payload) ⊘ time

-- of the rung r
abbrev pub worth_at : List ℕ → List Float → ℕ → Float
worth_at payloads times r = worth (get_or payloads r 0) (get_or times r f1)

-- "another has worth at least as great and threshold at most as high": o is another than r, and has
abbrev pub beats : List Float → List ℕ → List Float → ℕ → ℕ → Bool
beats thresholds payloads times r o = not (eqb o r) && le (worth_at payloads times r) (worth_at payloads times o) && le (get_or thresholds o f0) (get_or thresholds r f0)

-- "A rung is left off if another has ..; two equal rungs remove each other."
unfoldable pub beaten : List Float → List ℕ → List Float → ℕ → Bool
beaten thresholds payloads times r = some_from (length thresholds) 0 (beats thresholds payloads times r)

-- the rungs that are left, ascending
unfoldable pub front_of : List Float → List ℕ → List Float → List ℕ
front_of thresholds payloads times = select (length thresholds) 0 (λ r. not (beaten thresholds payloads times r))

-- the front as an array of 32 with rung 0 past its end
abbrev pub front_rungs : List ℕ → List Rung
front_rungs f = filled (rung 0) (map rung f)

-- and with its count
abbrev pub front_as : List ℕ → Front
front_as f = record { rungs = front_rungs f; count = length f }

-- ---- what the calls that take columns answer
-- refusals 1, 2 and 3, of the columns that are handed over; "The lowest applicable number is given"
unfoldable pub front_verdict : List Float → List ℕ → List Float → Verdict
front_verdict thresholds payloads times =
    or_else (unless (ok_size (length thresholds) && ok_size (length payloads) && ok_size (length times)) ColumnSize)
    (or_else (unless (eqb (length payloads) (length thresholds) && eqb (length times) (length thresholds)) ColumnsDiffer)
    (unless (every ok_db thresholds && every ok_bytes payloads && every ok_air times) TableValue))

-- a front where it is accepted
abbrev pub usable_if : Verdict → List ℕ → Result Front Refusal
usable_if (Ok _) f = Ok (front_as f)
usable_if (Err why) f = Err why

-- what `usable_modes_by_rate` answers. An empty front is no refusal here: only a table is refused for it
unfoldable pub usable_of : List Float → List ℕ → List Float → Result Front Refusal
usable_of thresholds payloads times = usable_if (front_verdict thresholds payloads times) (front_of thresholds payloads times)

-- what `usable_modes_of` answers: every frame time is 1.0
unfoldable pub usable_by_payload : List Float → List ℕ → Result Front Refusal
usable_by_payload thresholds payloads = usable_of thresholds payloads (replicate (length thresholds) f1)
