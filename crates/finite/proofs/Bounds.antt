-- The ranges of a controller's numbers, and what holds of its table, prices and state: a table that was accepted has it. Assumes nothing.
use mathlib.Core.Path.{◌≡◌}
use mathlib.Core.Bool.{Bool}
use mathlib.Core.List.{List, [], ◌∷◌}
use Prim.Native.Nat.{ℕ, zero, suc, ◌≤◌}
use lib.Dec.{T, ltb, leb→le}
use lib.ListN.{length, get_or}
use lib.Ieee.{Float, of_bits, neg, mul, le}
use lib.Ieee.Fits.{and_l, and_r}
use Rattle.float.specs.Numbers.{of_nat, f0, f1}
use Rattle.limits.specs.Values.{f200, f60, milli, ok_db, ok_air, ok_bytes}
use Rattle.std.specs.Prelude.{Ok, None, Some, Option}
use Rattle.limits.specs.Readings.{Reading, ok_limit, ok_snr}
use Rattle.ladder.specs.declared.types.Row.{Row}
use Rattle.ladder.specs.declared.types.Table.{Table}
use Rattle.ladder.specs.Lists.{every, tabulate}
use Rattle.ladder.specs.Types.{no_row, row}
use Rattle.ladder.specs.Tables.{Columns, table_verdict, row_of, rows_of, prior_margin, family_gain, table_of, for_air}
use Rattle.std.proofs.lemmas.Float.{T_from_true}
use Rattle.ladder.proofs.Cases.{pick}
use Rattle.ladder.proofs.Entries.{All}
use Rattle.ladder.proofs.Accepted.{accepted_columns, Within, table_values}
use Rattle.account.specs.Fixed.{least_offset, most_offset}
use Rattle.account.specs.declared.types.Account.{Account}
use Rattle.account.specs.declared.types.Offsets.{Offsets}
use Rattle.account.specs.declared.types.Tariff.{Tariff}
use Rattle.account.specs.declared.types.State.{State}
use Rattle.account.proofs.FullAir.{TariffSound, IsWait}
use Rattle.finite.specs.Finite.{most_bytes, most_air, most_frames, longest_time}
use Rattle.finite.proofs.Ranges.{Range, ◌to◌, In, scales}

-- ---- the ranges. `In` of `decibels`, `air_times`, `lengths` and `shares` is `ok_db`, `ok_air`, `ok_length` and `ok_share`
abbrev pub decibels : Range
decibels = neg f200 to f200

abbrev pub air_times : Range
air_times = milli to f60

abbrev pub capacities : Range
capacities = of_nat 0 to of_nat 4096

abbrev pub account_bytes : Range
account_bytes = f0 to most_bytes

abbrev pub account_air : Range
account_air = f0 to most_air

abbrev pub account_frames : Range
account_frames = f0 to most_frames

abbrev pub lengths : Range
lengths = f0 to f60

abbrev pub shares : Range
shares = f0 to f1

abbrev pub margins : Range
margins = f0 to prior_margin

abbrev pub offsets : Range
offsets = least_offset to most_offset

-- what a probability less 0 or 1 comes to, and what a family's gain makes of it
abbrev pub surprises : Range
surprises = neg f1 to f1

abbrev pub times : Range
times = f0 to longest_time

-- ---- what holds of each number
pub record RowIn (a : Row) : Type 0 where
  pub threshold : In decibels a.threshold
  pub capacity : a.capacity ≤ 4096
  pub time : In air_times a.time
  pub limit : T (ok_limit a.limit)

pub record TableIn (t : Table) : Type 0 where
  pub rows : (r : ℕ) → RowIn (row t r)
  pub margin : In margins t.air.margin
  pub gain : In shares t.air.gain
  pub moves : T (scales t.air.gain surprises surprises)

pub record GivenIn (p : Tariff) : Type 0 where
  pub floor : In lengths p.floor
  pub ordinary : In lengths p.ordinary
  pub gap : In lengths p.gap
  pub bursts : TariffSound (Some p)

abbrev pub TariffIn : Option Tariff → Type 0
TariffIn None = Unit
TariffIn (Some p) = GivenIn p

pub tariff_sound : (p : Option Tariff) → TariffIn p → TariffSound p
tariff_sound None h = tt
tariff_sound (Some p) h = h.bursts

pub record AccountIn (a : Account) : Type 0 where
  pub bytes : In account_bytes a.bytes
  pub air : In account_air a.air
  pub frames : In account_frames a.frames

pub record OffsetsIn (o : Offsets) : Type 0 where
  pub floor : In offsets o.floor
  pub ofdm : In offsets o.ofdm

-- over the fields, so that a step on any other keeps it as it stands
pub record Fields (accs : List Account) (ts : List Float) (ws : List ℕ) (x e : Reading) (o : Offsets) : Type 0 where
  pub accounts : All AccountIn accs
  pub since : All (In times) ts
  pub wait : All IsWait ws
  pub snr : T (ok_snr x)
  pub echo : T (ok_limit e)
  pub offsets : OffsetsIn o

abbrev pub Held : State → Type 0
Held s = Fields s.accounts s.since s.wait s.core.snr s.core.echo s.core.offsets

-- ---- an entry of a list, whatever its place: past the end it is the default
pub all_any : {A : Type 0} (P : A → Type 0) (l : List A) (i : ℕ) (d : A) → All P l → P d → P (get_or l i d)
all_any P [] i d h k = k
all_any P (x ∷ xs) zero d h k = h.0
all_any P (x ∷ xs) (suc i) d h k = all_any P xs i d h.1 k

every_any : {A : Type 0} (f : A → Bool) (l : List A) (i : ℕ) (d : A) → T (every f l) → T (f d) → T (f (get_or l i d))
every_any f [] i d h k = k
every_any f (x ∷ xs) zero d h k = and_l (f x) (every f xs) h
every_any f (x ∷ xs) (suc i) d h k = every_any f xs i d (and_r (f x) (every f xs) h) k

tabulate_any : {A : Type 0} (P : A → Type 0) (n i : ℕ) (f : ℕ → A) (r : ℕ) (d : A) → ((j : ℕ) → P (f j)) → P d → P (get_or (tabulate n i f) r d)
tabulate_any P zero i f r d h k = k
tabulate_any P (suc n) i f zero d h k = h i
tabulate_any P (suc n) i f (suc r) d h k = tabulate_any P n (suc i) f r d h k

-- ---- a table that was accepted
defaults : T (ok_db f0) × T (ok_air f1) × In margins f1 × In margins prior_margin × In shares f1 × In shares family_gain
unfolding of_bits le neg
defaults = (tt, tt, tt, tt, tt, tt)

gains : T (scales f1 surprises surprises) × T (scales family_gain surprises surprises)
unfolding of_bits le mul neg
gains = (tt, tt)

no_row_in : RowIn no_row
no_row_in = record { threshold = defaults.0; capacity = leb→le 0 4096 tt; time = defaults.1; limit = tt }

module _ (c : Columns) (w : Within c) where
  row_in : (r : ℕ) → RowIn (row_of c r)
  row_in r =
      pick RowIn (ltb r (length c.thresholds)) (record {
        threshold = every_any ok_db c.thresholds r f0 (T_from_true _ w.thresholds) defaults.0;
        capacity = leb→le (get_or c.capacities r 0) 4096 (every_any ok_bytes c.capacities r 0 (T_from_true _ w.capacities) tt);
        time = every_any ok_air c.times r f1 (T_from_true _ w.times) defaults.1;
        limit = every_any ok_limit c.limits r None (T_from_true _ w.limits) tt;
      }) no_row_in

pub made_in : (c : Columns) (wide : Bool) → table_verdict c ≡ Ok tt → TableIn (for_air (table_of c) wide)
unfolding table_of rows_of
made_in c wide e =
    let w = table_values c (accepted_columns c e).values in
    record {
      rows = λ (r : ℕ). tabulate_any RowIn 32 0 (row_of c) r no_row (row_in c w) no_row_in;
      margin = pick (In margins) wide defaults.2 defaults.3;
      gain = pick (In shares) wide defaults.4 defaults.5;
      moves = pick (λ (g : Float). T (scales g surprises surprises)) wide gains.0 gains.1;
    }
