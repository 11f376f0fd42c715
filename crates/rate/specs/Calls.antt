-- The seven kinds of call that change a controller, which are refused (6 to 9), what each leaves and returns, and what a list of them leaves. Definitions only.
use Rattle.std.specs.Prelude.{ℕ, Bool, false, not, ◌&&◌, ◌||◌, List, [], ◌∷◌, length, nat_le, Float, Ok, Err, Some}
use Rattle.limits.specs.Values.{ok_db, ok_length, ok_burst}
use Rattle.limits.specs.Refusals.{unless, or_else, Verdict}
use Rattle.limits.specs.declared.refusal.Refusal.TheVariants.{TooManyFrames, OutsideLimits, TooManyBursts}
use Rattle.limits.specs.Readings.{Reading, ok_snr, ok_echo}
use Rattle.ladder.specs.declared.types.Table.{Table}
use Rattle.ladder.specs.Lists.{every, filled}
use Rattle.account.specs.declared.types.Tariff.{Tariff}
use Rattle.account.specs.declared.types.Prices.{Prices}
use Rattle.account.specs.declared.types.State.{State}
use Rattle.account.specs.State.{runs, fresh_state, unpriced}
use Rattle.rules.specs.declared.types.Frame.{Frame}
use Rattle.rules.specs.Echo.{observe_echo, silent, seed, observe_snr}
use Rattle.rules.specs.Transmission.{observe_frames}
use Rattle.rules.specs.Check.{first_bad}
pub use Rattle.rate.specs.declared.types.RateController.{RateController}
pub use Rattle.rate.specs.declared.types.Answer.{Answer}

-- ---- the fresh controller
abbrev pub fresh_controller : Table → RateController
fresh_controller t = record { table = t; prices = unpriced; state = fresh_state }

-- ---- the calls
pub data Call : Type 0 where
  Frames : List Frame → Reading → Call
  Echo : Reading → Float → Call
  Silence : ℕ → Call
  Snr : Reading → Call
  Seed : Float → Call
  -- floor and ordinary control lengths, gap, burst counts
  Price : Float → Float → Float → List ℕ → Call
  -- own and other: floor?
  Family : Bool → Bool → Call

-- ---- refusals
-- "The lowest applicable number is given, except in frames: 7 first, then the first bad frame (6 before 8), then the SNR."
-- "Silence steps: any u32."
unfoldable pub verdict : Table → Call → Verdict
verdict t (Frames fs snr) = or_else (unless (nat_le (length fs) 256) TooManyFrames) (or_else (first_bad t fs) (unless (ok_snr snr) OutsideLimits))
verdict t (Echo share snr) = unless (ok_echo share snr) OutsideLimits
verdict t (Silence steps) = (Ok tt)
verdict t (Snr snr) = unless (ok_snr snr) OutsideLimits
verdict t (Seed snr) = unless (ok_db snr) OutsideLimits
verdict t (Price floor ordinary gap bursts) =
    or_else (unless (ok_length floor && ok_length ordinary && ok_length gap && every ok_burst bursts) OutsideLimits) (unless (nat_le (length bursts) 32) TooManyBursts)
verdict t (Family own other) = (Ok tt)

-- ---- what an accepted call leaves and returns
abbrev pub with_state : RateController → State → RateController
with_state k s = record k { state = s }

abbrev pub with_prices : RateController → Prices → RateController
with_prices k p = record k { prices = p }

-- "Added: each call returns marks *ended* (a running try was ended) and *begun*.": one ran before, and it does not run on: none runs, or another was begun
abbrev pub done : RateController → State → Bool → Answer
done k s begun = record {
  controller = with_state k s;
  verdict = Ok tt;
  ended = runs k.state.core.trying && (begun || not (runs s.core.trying));
  begun = begun;
}

abbrev pub repriced : RateController → Prices → Answer
repriced k p = record { controller = with_prices k p; verdict = Ok tt; ended = false; begun = false }

abbrev pub tariff_of : Float → Float → Float → List ℕ → Tariff
tariff_of floor ordinary gap bursts =
    record { floor = floor; ordinary = ordinary; gap = gap; bursts = filled 0 bursts; counted = length bursts }

unfoldable pub accepted : RateController → Call → Answer
accepted k (Frames fs snr) = let d = observe_frames k.table k.prices k.state fs snr in done k d.state d.begun
accepted k (Echo share snr) = done k (observe_echo k.table k.prices k.state share snr) false
accepted k (Silence steps) = done k (silent k.table k.state steps) false
accepted k (Snr snr) = done k (observe_snr k.state snr) false
accepted k (Seed snr) = done k (seed k.table k.prices k.state snr) false
accepted k (Price floor ordinary gap bursts) = repriced k (record k.prices { tariff = Some (tariff_of floor ordinary gap bursts) })
accepted k (Family own other) = repriced k (record k.prices { families = Some (record { own_floor = own; other_floor = other }) })

-- "Left as it was: controller": a refused call changes nothing, ends no try and begins none
abbrev pub refused : RateController → Verdict → Answer
refused k v = record { controller = k; verdict = v; ended = false; begun = false }

abbrev pub answered : RateController → Call → Verdict → Answer
answered k c (Ok _) = accepted k c
answered k c (Err why) = refused k (Err why)

-- what a call leaves and returns: each public call promises this
unfoldable pub step : RateController → Call → Answer
step k c = answered k c (verdict k.table c)

-- "The first call gets the fresh controller, each next one what the last left, and nothing else touches it."
unfoldable pub after : RateController → List Call → RateController
after k [] = k
after k (c ∷ cs) = after (step k c).controller cs
