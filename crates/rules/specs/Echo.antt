-- "Echo and silence". Definitions only.
use Rattle.std.specs.Prelude.{Bool, false, not, ◌&&◌, ◌||◌, cond, ℕ, zero, suc, ◌-◌, ltb, Float, None, Some}
use Rattle.std.specs.Float.Ieee.{lt}
use Rattle.float.specs.Numbers.{◌⊕◌, ◌⊗◌}
use Rattle.limits.specs.Readings.{Reading}
use Rattle.ladder.specs.declared.types.Table.{Table}
use Rattle.ladder.specs.Lists.{some_from}
use Rattle.ladder.specs.Types.{row, rung_at, place_count, is_floor}
use Rattle.account.specs.Fixed.{snr_old, snr_new, echo_old, echo_weight, echo_floor}
use Rattle.account.specs.State.{Trying, choice, cancel_try, with_snr, with_echo, with_place}
use Rattle.account.specs.declared.types.Prices.{Prices}
use Rattle.account.specs.declared.types.State.{State}
use Rattle.account.specs.Price.{estimate_at, priced, value}
use Rattle.rules.specs.Lowest.{greatest, best_place}

-- ---- smoothing: "the first reading stands itself"
abbrev pub smooth : Float → Float → Reading → Float → Reading
smooth old new None x = Some x
smooth old new (Some before) x = Some (old ⊗ before ⊕ new ⊗ x)

-- "SNR smooths 0.7 old + 0.3 new"; a missing reading is no news
abbrev pub smooth_snr : Reading → Reading → Reading
smooth_snr before None = before
smooth_snr before (Some x) = smooth snr_old snr_new before x

-- "echo 0.6 old + 0.4 new"
abbrev pub smooth_echo : Reading → Float → Reading
smooth_echo before x = smooth echo_old echo_weight before x

-- "A rung is out only when echo > its limit"
abbrev pub over_limit : Reading → Reading → Bool
over_limit None e = false
over_limit (Some l) None = false
over_limit (Some l) (Some e) = lt l e

abbrev pub echo_out : Table → State → ℕ → Bool
echo_out t s r = over_limit (row t r).limit s.core.echo

-- "a place is usable if it exists and its rung is not out"
abbrev pub usable : Table → State → ℕ → Bool
usable t s i = ltb i (place_count t) && not (echo_out t s (rung_at t i))

-- ---- `observe_echo`
abbrev pub end_if_out : Table → State → Trying → State
end_if_out t s None = s
end_if_out t s (Some y) = cond (echo_out t s y.rung.0) (cancel_try s) s

-- "a choice that is out goes to the lowest of greatest value among allowed places under it, else place 0"
abbrev pub down_if_out : Table → Prices → State → State
down_if_out t p s =
    cond (echo_out t s (choice t s)) (with_place s (best_place (greatest s.core.place.0 0 (usable t s) (λ i. value t p s (rung_at t i)) None))) s

-- "else the echo is smoothed, a try whose rung is now out ends, and a choice that is out .."
abbrev pub echoed : Table → Prices → State → State
echoed t p s = down_if_out t p (end_if_out t s s.core.trying)

-- "`observe_echo`: a missing share or an SNR under -6 changes nothing"
unfoldable pub observe_echo : Table → Prices → State → Reading → Float → State
observe_echo t p s None snr = s
observe_echo t p s (Some x) snr = cond (lt snr echo_floor) s (echoed t p (with_echo s (smooth_echo s.core.echo x)))

-- ---- `silent`: "a try ends; the choice goes to the highest allowed place at or under choice - steps (not below 0), else 0"
abbrev pub highest : Table → State → ℕ → ℕ
highest t s zero = 0
highest t s (suc i) = cond (usable t s (suc i)) (suc i) (highest t s i)

unfoldable pub silent : Table → State → ℕ → State
silent t s steps = with_place (cancel_try s) (highest t s (s.core.place.0 - steps))

-- ---- `first_mode`: "the lowest of greatest priced estimate at the SNR given, over allowed places, else place 0"
abbrev pub first_place : Table → Prices → State → Float → ℕ
first_place t p s snr = best_place (greatest (place_count t) 0 (usable t s) (λ i. priced t p (rung_at t i) (estimate_at t s (rung_at t i) (Some snr))) None)

-- ---- `seed`: "nothing once an SNR is known; else the SNR is taken and the choice is `first_mode`"
abbrev pub seed_at : Table → Prices → State → Float → Reading → State
seed_at t p s snr None = with_place (with_snr s (Some snr)) (first_place t p s snr)
seed_at t p s snr (Some x) = s

unfoldable pub seed : Table → Prices → State → Float → State
seed t p s snr = seed_at t p s snr s.core.snr

-- ---- `observe_snr`
abbrev pub observe_snr : State → Reading → State
observe_snr s snr = with_snr s (smooth_snr s.core.snr snr)

-- ---- `refuses`: "never floor; OFDM when its last frames all failed and the choice is floor, or when the front has OFDM rungs and all are out"
abbrev pub ofdm_at : Table → ℕ → Bool
ofdm_at t i = not (is_floor t (rung_at t i))

unfoldable pub all_out : Table → State → Bool
all_out t s = some_from (place_count t) 0 (ofdm_at t) && not (some_from (place_count t) 0 (λ i. ofdm_at t i && not (echo_out t s (rung_at t i))))

unfoldable pub refuses : Table → State → ℕ → Bool
refuses t s r = not (is_floor t r) && (s.core.failed && is_floor t (choice t s) || all_out t s)
