-- What holds of every controller that calls can leave: each of its numbers is finite and lies within named bounds, and so does what its steps compare;
-- the choice is a place of the front. So no such test meets a NaN, and "v > b" of document 01 is the test "not v <= b" of the Rust. Definitions only.
use Rattle.std.specs.Prelude.{◌≡◌, Bool, not, ◌&&◌, ◌||◌, cond, List, ℕ, suc, ◌<◌, ◌≤◌, T, ltb, Float, Ok, None, Some, Option}
use Rattle.std.specs.Float.Ieee.{neg, le, lt}
use Rattle.std.specs.Float.Ieee.Scale.{finite}
use Rattle.float.specs.Numbers.{f64, ◌⊕◌, ◌⊖◌, ◌⊗◌, ◌⊘◌, within, f0, f1}
use Rattle.half.specs.Logistic.{logistic}
use Rattle.limits.specs.Values.{f200, f60, milli, ok_db}
use Rattle.limits.specs.Readings.{Reading}
use Rattle.ladder.specs.declared.types.Table.{Table}
use Rattle.ladder.specs.Tables.{prior_margin}
use Rattle.ladder.specs.Types.{row, place_count, rung_at}
use Rattle.account.specs.declared.types.Account.{Account}
use Rattle.account.specs.declared.types.Tariff.{Tariff}
use Rattle.account.specs.declared.types.Prices.{Prices}
use Rattle.account.specs.declared.types.Core.{Core}
use Rattle.account.specs.declared.types.State.{State}
use Rattle.account.specs.Fixed.{slope, longest_wait, least_offset, most_offset, enough_frames, wait_tolerance}
use Rattle.account.specs.State.{Trying, account, since_of, wait_of, choice}
use Rattle.account.specs.Price.{offset, prior_p, burst_or, estimate, estimate_at, lossless, priced, value, lossless_price, wait_s}
use Rattle.rules.specs.declared.types.Frame.{Frame}
use Rattle.rules.specs.Echo.{usable, observe_snr}
use Rattle.rules.specs.Booking.{clamp, moved, booked}
use Rattle.rules.specs.Tries.{judge_above, candidate, waited, clean_climb, above, begins}
use Rattle.rules.specs.Transmission.{inside}
use Rattle.rate.specs.declared.types.RateController.{RateController}
use Rattle.rate.specs.Calls.{Call, Frames, verdict, after}
use Rattle.rate.specs.Fresh.{Fresh}

-- ---- a number within its bounds
-- neither an infinity nor a NaN, and from lo to hi
abbrev pub Lies : Float → Float → Float → Type 0
Lies lo hi x = T (finite x) × T (within lo hi x)

-- a reading that is missing has no number
abbrev pub LiesIn : Float → Float → Reading → Type 0
LiesIn lo hi None = Unit
LiesIn lo hi (Some x) = Lies lo hi x

-- ---- the bounds that no document states
-- 73000.0, 1070.0 and 18.0: what an account tends to when every frame is its rung's own, with 4,096 bytes and 60 s, is just below these
abbrev pub most_bytes : Float
most_bytes = f64 0x40f1_d280_0000_0000

abbrev pub most_air : Float
most_air = f64 0x4090_b800_0000_0000

abbrev pub most_frames : Float
most_frames = f64 0x4032_0000_0000_0000

-- 2^120: so long a time since a try grows no further, as what is added is lost in rounding
abbrev pub longest_time : Float
longest_time = f64 0x4770_0000_0000_0000

-- 846.0, -6.0 and 21.0: 200 dB on both sides, an offset of 20 and a margin of 3, over the slope of 0.5; an offset moved by 1 at most, before it is clamped
abbrev pub most_distance : Float
most_distance = f64 0x408a_7000_0000_0000

abbrev pub least_moved : Float
least_moved = f64 0xc018_0000_0000_0000

abbrev pub most_moved : Float
most_moved = f64 0x4035_0000_0000_0000

-- 2^26: above 73,000 bytes and the prior over the shortest air. 2^52: above that times the longest burst, over the shortest
abbrev pub most_rate : Float
most_rate = f64 0x4190_0000_0000_0000

abbrev pub most_value : Float
most_value = f64 0x4330_0000_0000_0000

-- ---- the table, the prices and the state. A rung is any number: past the table's rows the definitions read a blank one, of which the same holds
pub record TableLies (t : Table) : Type 0 where
  pub thresholds : (r : ℕ) → Lies (neg f200) f200 (row t r).threshold
  pub times : (r : ℕ) → Lies milli f60 (row t r).time
  pub limits : (r : ℕ) → LiesIn f0 f1 (row t r).limit
  pub capacities : (r : ℕ) → (row t r).capacity ≤ 4096
  pub margin : Lies f0 prior_margin t.air.margin
  pub gain : Lies f0 f1 t.air.gain

pub record GivenLies (p : Tariff) : Type 0 where
  pub floor : Lies f0 f60 p.floor
  pub ordinary : Lies f0 f60 p.ordinary
  pub gap : Lies f0 f60 p.gap
  pub bursts : (r : ℕ) → burst_or (Some p) r 0 ≤ 1000

-- where no prices are set there is no number
abbrev pub TariffLies : Option Tariff → Type 0
TariffLies None = Unit
TariffLies (Some p) = GivenLies p

pub record AccountLies (a : Account) : Type 0 where
  pub bytes : Lies f0 most_bytes a.bytes
  pub air : Lies f0 most_air a.air
  pub frames : Lies f0 most_frames a.frames

pub record StateLies (s : State) : Type 0 where
  pub accounts : (r : ℕ) → AccountLies (account s r)
  pub times : (r : ℕ) → Lies f0 longest_time (since_of s r)
  pub waits : (r : ℕ) → wait_of s r ≤ longest_wait
  pub snr : LiesIn (neg f200) f200 s.core.snr
  pub echo : LiesIn f0 f1 s.core.echo
  pub floor_offset : Lies least_offset most_offset s.core.offsets.floor
  pub ofdm_offset : Lies least_offset most_offset s.core.offsets.ofdm

-- the rung of a try, if one runs, is that of a place of the front
abbrev pub TriedAt : Table → Trying → Type 0
TriedAt t None = Unit
TriedAt t (Some y) = (i : ℕ) × (i < place_count t) × (rung_at t i ≡ y.rung.0)

-- and so is the choice
pub record OnFront (t : Table) (c : Core) : Type 0 where
  pub place : c.place.0 < place_count t
  pub tried : TriedAt t c.trying

-- ---- what is computed on the way to what is compared
-- "d = (SNR - threshold)/slope" of the prior, whose SNR is less offset and margin
abbrev pub distance : Table → State → ℕ → Float → Float
distance t s r snr = (snr ⊖ offset t s r ⊖ t.air.margin ⊖ (row t r).threshold) ⊘ slope

-- "offset += gain × (p - decoded)", before it is clamped, of a frame and an offset
abbrev pub unclamped : Table → Float → Frame → Float → Float
unclamped t snr f off = off ⊕ t.air.gain ⊗ (prior_p t f.rung.0 off snr ⊖ cond f.decoded f1 f0)

-- ---- what is compared
-- "x > y" and "not x <= y" are one test: a NaN would part them
abbrev pub OneTest : Float → Float → Type 0
OneTest x y = lt y x ≡ not (le x y)

-- Document 01 has ">" throughout; the Rust's `decide` has `<=` in two places, and goes on to the next place, or no further, where it holds.
-- It passes over a place above the choice whose rung's frames are <= 2
abbrev pub rust_candidate : Table → State → ℕ → Bool
rust_candidate t s i = usable t s i && not (ltb s.core.place.0 i && le (account s (rung_at t i)).frames enough_frames)

-- and begins no try where the lossless price of the rung above is <= the choice's value
abbrev pub rust_begins : Table → Prices → State → Bool
rust_begins t p s =
    usable t s (suc s.core.place.0) && not (le (lossless_price t p (above t s)) (value t p s (choice t s))) && (waited t p s (above t s) || clean_climb t p s (above t s))

pub record Compared (t : Table) (p : Prices) (s : State) : Type 0 where
  pub estimates : (r : ℕ) → Lies f0 most_rate (estimate t s r)
  pub values : (r : ℕ) → Lies f0 most_value (value t p s r)
  pub lossless_rates : (r : ℕ) → Lies f0 most_rate (lossless t r)
  pub lossless_prices : (r : ℕ) → Lies f0 most_value (lossless_price t p r)
  -- what `first_mode` and `seed` compare, at every SNR that they accept
  pub first_values : (snr : Float) → T (ok_db snr) → (r : ℕ) → Lies f0 most_value (priced t p r (estimate_at t s r (Some snr)))
  -- the prior's probability, and what it is compared by, at every SNR within the limits: the smoothed one is (`StateLies`)
  pub probabilities : (snr : Float) → T (ok_db snr) → (r : ℕ) → Lies f0 f1 (prior_p t r (offset t s r) snr)
  pub distances : (snr : Float) → T (ok_db snr) → (r : ℕ) → Lies (neg most_distance) most_distance (distance t s r snr)
  pub by_distance : (snr : Float) (r : ℕ) → prior_p t r (offset t s r) snr ≡ logistic (distance t s r snr)
  -- what is clamped, of any frame, SNR and offset within the limits
  pub moves : (snr : Float) → T (ok_db snr) → (f : Frame) (off : Float) → T (within least_offset most_offset off) → Lies least_moved most_moved (unclamped t snr f off)
  pub by_clamp : (snr : Float) (f : Frame) (off : Float) → moved t snr f off ≡ clamp (unclamped t snr f off)
  -- a value against a value, a lossless price against a value, and "over 2 decayed frames"; so the definitions' tests are the Rust's
  pub value_over_value : (r q : ℕ) → OneTest (value t p s r) (value t p s q)
  pub price_over_value : (r q : ℕ) → OneTest (lossless_price t p r) (value t p s q)
  pub frames_over_two : (r : ℕ) → OneTest (account s r).frames enough_frames
  pub candidates : (i : ℕ) → candidate t s i ≡ rust_candidate t s i
  pub beginnings : begins t p s ≡ rust_begins t p s

-- A state with the accounts, offsets and SNR of s, which are all that a value is read from: within a call the place, the try, the echo, times, waits and marks
-- may have moved before values are compared
pub record Alike (s z : State) : Type 0 where
  pub accounts : z.accounts ≡ s.accounts
  pub offsets : z.core.offsets ≡ s.core.offsets
  pub snr : z.core.snr ≡ s.core.snr

-- ---- the claim
-- of one state: its numbers, its waits in seconds, and all that is compared
pub record FiniteAt (t : Table) (p : Prices) (s : State) : Type 0 where
  pub state : StateLies s
  pub front : OnFront t s.core
  pub seconds : (r : ℕ) → Lies f0 longest_time (wait_s t p.tariff s r)
  -- "its time >= wait - 1e-9"
  pub due : (r : ℕ) → Lies (neg wait_tolerance) longest_time (wait_s t p.tariff s r ⊖ wait_tolerance)
  pub compared : (z : State) → Alike s z → Compared t p z

pub record Finite (k : RateController) : Type 0 where
  pub table : TableLies k.table
  pub tariff : TariffLies k.prices.tariff
  -- between the calls
  pub state : FiniteAt k.table k.prices k.state
  -- and inside an accepted call with frames: once its first n rungs are judged, and where `decide` is asked
  pub judging : (fs : List Frame) (snr : Reading) (n : ℕ) → verdict k.table (Frames fs snr) ≡ Ok tt
      → FiniteAt k.table k.prices (judge_above n 0 k.table k.prices fs (booked k.table (observe_snr k.state snr) fs))
  pub deciding : (fs : List Frame) (snr : Reading) → verdict k.table (Frames fs snr) ≡ Ok tt
      → FiniteAt k.table k.prices (inside k.table k.prices k.state fs snr)

-- of every controller that a list of calls leaves of a fresh one, refused calls included
abbrev pub AlwaysFinite : Type 0
AlwaysFinite = (k : RateController) → Fresh k → (calls : List Call) → Finite (after k calls)
