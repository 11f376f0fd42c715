-- What `rate_usable_modes` and `rate_table_refusal` return, what the first leaves behind its pointer, and how the echo column is handed over.
-- Definitions only.
use Rattle.std.specs.Prelude.{◌&&◌, not, cond, List, ℕ, min, ltb, eqb, ℤ, pos, Float, length, get_or, take, None, Some, Result, Ok, Err}
use Rattle.std.specs.Float.{nan}
use Rattle.limits.specs.Readings.{Reading}
use Rattle.limits.specs.Refusals.{Verdict}
use Rattle.limits.specs.declared.refusal.Refusal.{Refusal}
use Rattle.ladder.specs.declared.types.Rung.{Rung}
use Rattle.ladder.specs.declared.types.Front.{Front}
use Rattle.ladder.specs.Lists.{tabulate}
use Rattle.ladder.specs.Types.{rung}
use Rattle.exports.specs.Status.{minus_number}

-- 0, or minus the refusal's number
abbrev pub verdict_status : Verdict → ℤ
verdict_status (Ok _) = pos 0
verdict_status (Err why) = minus_number why

-- the 32 rungs of a front's array by their numbers
abbrev pub number_at : List Rung → ℕ → ℕ
number_at rungs i = (get_or rungs i (rung 0)).0

unfoldable pub numbers_of : List Rung → List ℕ
numbers_of rungs = tabulate 32 0 (number_at rungs)

-- how many rungs the front has, or minus the refusal's number
abbrev pub usable_status : Result Front Refusal → ℤ
usable_status (Ok front) = pos front.count
usable_status (Err why) = minus_number why

-- of a refused call, what stood there
abbrev pub usable_written : Result Front Refusal → List ℕ → List ℕ
usable_written (Ok front) old = numbers_of front.rungs
usable_written (Err why) old = old

-- entry i of the echo column: missing if its mark is 0 or either slice ends before it
abbrev pub reading_at : List ℕ → List Float → ℕ → Reading
reading_at known limits i = cond (ltb i (length known) && ltb i (length limits) && not (eqb (get_or known i 0) 0)) (Some (get_or limits i nan)) None

unfoldable pub readings_of : List ℕ → List Float → List Reading
readings_of known limits = tabulate 33 0 (reading_at known limits)

-- the echo column, as many entries as there are marks: over 32 all say the same
abbrev pub echo_column : List ℕ → List Float → List Reading
echo_column known limits = take (min (length known) 33) (readings_of known limits)
