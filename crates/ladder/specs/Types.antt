-- How a table is read. A rung is the source's mode, a place its index. Definitions only.
use Rattle.std.specs.Prelude.{Bool, ℕ, None, min, ltb, get_or}
use Rattle.float.specs.Numbers.{f0, f1}
pub use Rattle.ladder.specs.declared.types.Rung.{Rung}
pub use Rattle.ladder.specs.declared.types.Place.{Place}
pub use Rattle.ladder.specs.declared.types.Row.{Row}
pub use Rattle.ladder.specs.declared.types.Front.{Front}
pub use Rattle.ladder.specs.declared.types.Air.{Air}
pub use Rattle.ladder.specs.declared.types.Table.{Table}

abbrev pub rung : ℕ → Rung
rung n = record { 0 = n }

abbrev pub place : ℕ → Place
place n = record { 0 = n }

-- a rung outside the table, as the source's `.get(mode)` has it: capacity 0, frame time 1.0, no limit
abbrev pub no_row : Row
no_row = record { threshold = f0; capacity = 0; time = f1; limit = None }

abbrev pub row : Table → ℕ → Row
row t r = get_or t.rows r no_row

-- an array has 32 entries, so no more than 32 rungs and 32 places are in use, whatever the counts say
abbrev pub rung_count : Table → ℕ
rung_count t = min 32 t.air.count

abbrev pub place_count : Table → ℕ
place_count t = min 32 t.front.count

-- whether a rung is in the table
abbrev pub in_table : Table → ℕ → Bool
in_table t r = ltb r (rung_count t)

-- the rung at a place, both by their numbers
abbrev pub rung_at : Table → ℕ → ℕ
rung_at t i = (get_or t.front.rungs i (rung 0)).0

-- "Rungs under the floor count are floor, the others OFDM."
abbrev pub is_floor : Table → ℕ → Bool
is_floor t r = ltb r t.air.floors
