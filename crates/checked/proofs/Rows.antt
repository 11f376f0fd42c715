-- The P rows hold: one theorem over the table. Where a row names its numbers antt computes both sides. Two equal rungs have a worth, and it is at least
-- itself, so each beats the other; one rung has no other. A fresh controller is at place 0 already. Assumes nothing.
use Rattle.std.specs.Prelude.{◌≡◌, Bool, true, false, ◌&&◌, List, [], ◌∷◌, ℕ, leb, length, T, Float, Ok, Err}
use mathlib.Core.Path.{refl, ap, ◌∙◌}
use native.Mathlib.Omega.{arith}
use lib.Ieee.{binary64, of_bits, of_int, neg, add, sub, mul, div, lt, le, round}
use lib.Ieee.Bits.{is_true}
use lib.Ieee.Fits.{and_l, and_r}
use lib.Ieee.Positive.{positive, between}
use Rattle.std.proofs.lemmas.Float.{T_from_true}
use Rattle.float.specs.Numbers.{of_nat, f0}
use Rattle.float.proofs.Order.{number, le_left, le_self}
use Rattle.float.proofs.Division.{div_number}
use Rattle.half.specs.Powers.{powers}
use Rattle.half.specs.Power.{descent, series, half}
use Rattle.half.specs.Logistic.{exp, decode_probability, probability}
use Rattle.limits.specs.Values.{f200, f60, milli, ok_db, ok_air}
use Rattle.limits.specs.Refusals.{unless, or_else}
use Rattle.limits.specs.declared.refusal.Refusal.TheVariants.{ColumnSize, ColumnsDiffer, TableValue, FloorCount, EmptyFront}
use Rattle.ladder.specs.Front.{data_of, worth, beaten, front_of}
use Rattle.ladder.specs.Tables.{Columns, ok_sizes, same_sizes, ok_values, ok_floors, ok_front, table_verdict, front_of_columns}
use Rattle.ladder.proofs.Accepted.{table_values}
use Rattle.ladder.proofs.Entries.{every_get}
use Rattle.account.proofs.FullAir.{of_mono}
use Rattle.rules.specs.Echo.{silent}
use Rattle.rate.specs.declared.types.RateController.{RateController}
use Rattle.rate.specs.Calls.{Silence, after, step, verdict, accepted}
use Rattle.rate.specs.Fresh.{Fresh, fresh}
use Rattle.checked.specs.Rows.{equal_rungs, ok_columns, OfEqual, Each, p_rows}

-- ---- within the limits, it is the front that decides
by_front : (c : Columns) → T (ok_columns c) → table_verdict c ≡ unless (ok_front c) EmptyFront
unfolding table_verdict
by_front c = go (ok_sizes c) (same_sizes c) (ok_values c) (ok_floors c)
  where
    go : (a b v f : Bool) → T (a && b && v && f)
        → or_else (unless a ColumnSize) (or_else (unless b ColumnsDiffer) (or_else (unless v TableValue) (or_else (unless f FloorCount) (unless (ok_front c) EmptyFront)))) ≡ unless (ok_front c) EmptyFront
    go true true true true h = refl
    go true true true false h = absurd h
    go true true false f h = absurd h
    go true false v f h = absurd h
    go false b v f h = absurd h

decided_by : (c : Columns) (front : List ℕ) → T (ok_columns c) → front_of_columns c ≡ front → table_verdict c ≡ unless (leb 1 (length front)) EmptyFront
decided_by c front h e = by_front c h ∙ ap (λ (l : List ℕ). unless (leb 1 (length l)) EmptyFront) e

pair_front : (x : Float) (n : ℕ) (t : Float) → le (worth n t) (worth n t) ≡ true → le x x ≡ true → front_of (x ∷ x ∷ []) (n ∷ n ∷ []) (t ∷ t ∷ []) ≡ []
unfolding front_of beaten
pair_front x n t e g = rw (e, g) refl

single_front : (x : Float) (n : ℕ) (t : Float) → front_of (x ∷ []) (n ∷ []) (t ∷ []) ≡ (0 ∷ [])
unfolding front_of beaten
single_front x n t = refl

single : OfEqual 1 (λ c. (table_verdict c ≡ Ok tt) × (front_of_columns c ≡ (0 ∷ [])))
single x n a t limits floors h = let e = single_front x n t in (decided_by (equal_rungs 1 x n a t limits floors) (0 ∷ []) h e, e)

silence : (k : RateController) → Fresh k → (after k (Silence 9 ∷ [])).state.core.place.0 ≡ 0
unfolding after step verdict accepted silent
silence k (fresh c wide e) = refl

-- a frame time is above 0
time_ends : T (positive milli) × T (positive f60)
unfolding of_bits
time_ends = (tt, tt)

time_positive : (t : Float) → T (ok_air t) → T (positive t)
time_positive t h = between milli t f60 time_ends.0 time_ends.1 (and_l (le milli t) (le t f60) h) (and_r (le milli t) (le t f60) h)

worth_number : (n : ℕ) (t : Float) → T (ok_air t) → T (number (worth n t))
worth_number n t h =
    let d = data_of n in div_number binary64 (of_nat d) t (le_left (of_nat d) (of_nat d) (of_mono d d (omega arith))) (time_positive t h)

pair : OfEqual 2 (λ c. table_verdict c ≡ Err EmptyFront)
pair x n a t limits floors h =
    let c = equal_rungs 2 x n a t limits floors in
    let three = ok_sizes c && same_sizes c && ok_values c in
    let w = table_values c (is_true (ok_values c) (and_r (ok_sizes c && same_sizes c) (ok_values c) (and_l three (ok_floors c) h))) in
    let hx : T (ok_db x) = every_get ok_db (x ∷ x ∷ []) 0 f0 (T_from_true _ w.thresholds) (omega arith) in
    let ht : T (ok_air t) = every_get ok_air (t ∷ t ∷ []) 0 f0 (T_from_true _ w.times) (omega arith) in
    decided_by c [] h
    (pair_front x n t (is_true (le (worth n t) (worth n t)) (le_self (worth n t) (worth_number n t ht)))
    (is_true (le x x) (le_self x (le_left x f200 (and_r (le (neg f200) x) (le x f200) hx)))))

pub checked : Each p_rows
unfolding powers descent series half exp decode_probability probability beaten front_of of_bits of_int neg add sub mul div lt le round
checked = (refl, (refl, (refl, (refl, ((pair, refl), (single, (refl, (refl, ((_, refl, refl), (refl, (silence, tt)))))))))))
