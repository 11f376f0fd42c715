-- The P rows of "Checked examples", as one table: what each says of the definitions that the calls promise. Definitions only; `proofs/Rows.antt` has the one theorem.
use Rattle.std.specs.Prelude.{◌≡◌, Bool, true, false, not, ◌&&◌, ◌||◌, List, [], ◌∷◌, ℕ, eqb, T, Float, length, replicate, Ok, Err}
use Rattle.std.specs.Float.Ieee.{neg, lt}
use Rattle.float.specs.Numbers.{f64, f0, f½, f1, f20}
use Rattle.half.specs.Power.{half, f1022}
use Rattle.half.specs.Logistic.{probability}
use Rattle.limits.specs.declared.refusal.Refusal.{Refusal}
use Rattle.limits.specs.declared.refusal.Refusal.TheVariants.{EmptyFront}
use Rattle.limits.specs.Readings.{Reading}
use Rattle.limits.specs.Refusals.{refusal_number}
use Rattle.ladder.specs.Lists.{select}
use Rattle.ladder.specs.Tables.{Columns, ok_sizes, same_sizes, ok_values, ok_floors, table_verdict, front_of_columns}
use Rattle.rate.specs.declared.types.RateController.{RateController}
use Rattle.rate.specs.Calls.{Call, Silence, after}
use Rattle.rate.specs.Fresh.{Fresh}
use Rattle.ladder.specs.Airs.{wide_air, narrow_air}

-- whether a list has a number
abbrev pub lists : List ℕ → ℕ → Bool
lists [] r = false
lists (x ∷ xs) r = eqb x r || lists xs r

-- n rungs that are all equal, any echo column, and so many floor rungs
abbrev pub equal_rungs : ℕ → Float → ℕ → ℕ → Float → List Reading → ℕ → Columns
equal_rungs n threshold payload capacity time limits floors = record {
  thresholds = replicate n threshold;
  payloads = replicate n payload;
  capacities = replicate n capacity;
  times = replicate n time;
  limits = limits;
  floors = floors;
}

-- none of the causes 1 to 4 applies to the columns
abbrev pub ok_columns : Columns → Bool
ok_columns c = ok_sizes c && same_sizes c && ok_values c && ok_floors c

-- what is said of each table of n equal rungs that is within the limits
abbrev pub OfEqual : ℕ → (Columns → Type 0) → Type 0
OfEqual n P =
    (threshold : Float) (payload capacity : ℕ) (time : Float) (limits : List Reading) (floors : ℕ) → let c = equal_rungs n threshold payload capacity time limits floors in T (ok_columns c) → P c

pub data PRow : Type 0 where
  -- half(t) = r
  half_is : Float → Float → PRow
  -- decode_probability(SNR, threshold, slope) is accepted, and is p
  probability_is : Float → Float → Float → Float → PRow
  -- .. and is above p
  probability_over : Float → Float → Float → Float → PRow
  -- any n equal rungs within the limits are refused for this cause, whose number is m
  equal_refused : ℕ → Refusal → ℕ → PRow
  -- any n equal rungs within the limits are accepted, and this is their front
  equal_front : ℕ → List ℕ → PRow
  -- the front has each rung of the table but these
  front_lacks : Columns → List ℕ → PRow
  -- after these calls the choice of any fresh controller is this place
  place_is : List Call → ℕ → PRow

abbrev pub Says : PRow → Type 0
Says (half_is t r) = half t ≡ r
Says (probability_is snr threshold slope p) = probability snr threshold slope ≡ Ok p
Says (probability_over snr threshold slope p) = (q : Float) × (probability snr threshold slope ≡ Ok q) × (lt p q ≡ true)
Says (equal_refused n why m) = OfEqual n (λ c. table_verdict c ≡ Err why) × (refusal_number why ≡ m)
Says (equal_front n front) = OfEqual n (λ c. (table_verdict c ≡ Ok tt) × (front_of_columns c ≡ front))
Says (place_is calls n) = (k : RateController) → Fresh k → (after k calls).state.core.place.0 ≡ n
Says (front_lacks c gone) = front_of_columns c ≡ select (length c.thresholds) 0 (λ r. not (lists gone r))

abbrev pub Each : List PRow → Type 0
Each [] = Unit
Each (r ∷ rs) = Says r × Each rs

-- 1021.0, and 2^-1021
abbrev pub f1021 : Float
f1021 = f64 0x408f_e800_0000_0000

abbrev pub least : Float
least = f64 0x0020_0000_0000_0000

-- 20.25
abbrev pub f20¼ : Float
f20¼ = f64 0x4034_4000_0000_0000

abbrev pub p_rows : List PRow
p_rows =
    -- "P1 half(0) = 1.0."
    half_is f0 f1 ∷
    -- "P2 half(1) = 0.5."
    half_is f1 f½ ∷
    -- "P3 half(1021) = 2^-1021."
    half_is f1021 least ∷
    -- "P4 half(1022) = 0.0."
    half_is f1022 f0 ∷
    -- "P5 two equal rungs: 5."
    equal_refused 2 EmptyFront 5 ∷
    -- "P6 one rung: front is it."
    equal_front 1 (0 ∷ []) ∷
    -- "P7 wide front lacks just 6 and 13."
    front_lacks wide_air (6 ∷ 13 ∷ []) ∷
    -- "P8 narrow lacks just 8."
    front_lacks narrow_air (8 ∷ []) ∷
    -- "P9 SNR -20, threshold 0, slope 0.5: above 0; -20.25: 0.0."
    probability_over (neg f20) f0 f½ f0 ∷
    probability_is (neg f20¼) f0 f½ f0 ∷
    -- "P10 fresh, silence 9: place 0."
    place_is (Silence 9 ∷ []) 0 ∷
    []
