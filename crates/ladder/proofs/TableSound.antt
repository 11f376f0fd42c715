-- A table that `for_table` does not refuse has a front of its own rungs, each once, and frame times within their limits. Assumes nothing.
use mathlib.Core.Path.{◌≡◌, refl, sym, ap, ◌∙◌, subst}
use mathlib.Core.Bool.{Bool}
use Prim.Native.Nat.{ℕ, ◌<◌, ◌≤◌, min}
use native.Mathlib.Nat.{zero-add}
use native.Mathlib.Omega.{arith}
use lib.Dec.{T}
use lib.ListN.{length, get_or}
use lib.Ieee.{Float}
use borrow.Author.Tests.{lt-ltb}
use Rattle.float.specs.Numbers.{f1}
use Rattle.limits.specs.Values.{ok_air}
use Rattle.std.proofs.Common.{Ok}
use Rattle.ladder.specs.Lists.{every}
use Rattle.ladder.specs.Types.{Row, Table, rung, row, no_row, rung_count, place_count, rung_at}
use Rattle.ladder.specs.Front.{front_rungs}
use Rattle.ladder.specs.Tables.{Columns, table_verdict, front_of_columns, row_of, rows_of, table_of, for_air}
use Rattle.ladder.proofs.Accepted.{accepted_columns, table_sizes, table_lengths, table_values}
use Rattle.ladder.proofs.Entries.{every_get}
use Rattle.ladder.proofs.Tabulating.{tabulate_at}
use Rattle.ladder.proofs.Ascending.{front_below, front_once, front_get}

-- what the laws of the controller ask of its table
pub record TableSound (t : Table) : Type 0 where
  pub on_table : (i : ℕ) → i < place_count t → rung_at t i < rung_count t
  pub once : (i j : ℕ) → i < place_count t → j < place_count t → rung_at t i ≡ rung_at t j → i ≡ j
  pub times : (r : ℕ) → r < rung_count t → T (ok_air (row t r).time)

-- ---- the table that is made
-- a rung of the table has the frame time of its column
row_time : (c : Columns) (r : ℕ) → r < length c.thresholds → (row_of c r).time ≡ get_or c.times r f1
row_time c r h = rw (lt-ltb r (length c.thresholds) h) refl

pub made_sound : (c : Columns) (wide : Bool) → table_verdict c ≡ Ok tt → TableSound (for_air (table_of c) wide)
unfolding table_of rows_of
made_sound c wide e =
    let a = accepted_columns c e in
    let size : length c.thresholds ≤ 32 = (table_sizes c a.sizes).1 in
    let same = (table_lengths c a.same).0.time in
    let held : T (every ok_air c.times) = subst T (sym (table_values c a.values).times) tt in
    let front = front_of_columns c in
    let n = length c.thresholds in
    record {
      on_table = λ (i : ℕ) (g : i < min 32 (length front)).
          let h : i < length front = omega arith in
          let k = front_below c.thresholds c.payloads c.times i h in
          subst (λ (r : ℕ). r < min 32 n) (sym (front_get front i h)) (omega (arith, size));
      once = λ (i j : ℕ) (g : i < min 32 (length front)) (g' : j < min 32 (length front)) (q : (get_or (front_rungs front) i (rung 0)).0 ≡ (get_or (front_rungs front) j (rung 0)).0).
          let h : i < length front = omega arith in
          let k : j < length front = omega arith in
          front_once c.thresholds c.payloads c.times i j h k (sym (front_get front i h) ∙ q ∙ front_get front j k);
      times = λ (r : ℕ) (h : r < min 32 n).
          let k : r < n = omega arith in
          subst (λ (x : Float). T (ok_air x)) (sym (ap (λ (x : Row). x.time) (tabulate_at 32 0 (row_of c) r no_row (omega arith) ∙ ap (row_of c) (zero-add r)) ∙ row_time c r k))
          (every_get ok_air c.times r f1 held (omega (arith, same)));
    }
