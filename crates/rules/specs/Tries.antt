-- "A transmission", what is decided then: rungs judged, the running try, and `decide`. Definitions only.
use Rattle.std.specs.Prelude.{Bool, true, false, not, ◌&&◌, ◌||◌, cond, List, ℕ, zero, suc, ◌+◌, ◌*◌, min, leb, ltb, eqb, None, Some}
use Rattle.std.specs.Bool.{beq}
use Rattle.std.specs.Float.Ieee.{le, lt}
use Rattle.float.specs.Numbers.{◌⊖◌, f0}
use Rattle.ladder.specs.declared.types.Table.{Table}
use Rattle.ladder.specs.Types.{rung, rung_at, place_count, is_floor}
use Rattle.account.specs.Fixed.{first_wait, longest_wait, try_frames, try_calls, enough_frames, wait_tolerance}
use Rattle.account.specs.State.{Trying, try_of, Mark, account, since_of, wait_of, choice, with_since, with_wait, with_trying, cancel_try, with_place}
use Rattle.account.specs.declared.types.Prices.{Prices}
use Rattle.account.specs.declared.types.State.{State}
use Rattle.account.specs.Price.{value, lossless_price, wait_s}
use Rattle.rules.specs.Lists.{how_many}
use Rattle.rules.specs.Echo.{usable}
use Rattle.rules.specs.Lowest.{Best, greatest}
use Rattle.rules.specs.Booking.{Frame, at, sent}

-- ---- judging a rung: "Judged better: wait 6; else min(48, 2 × wait), time 0."
abbrev pub better : Table → Prices → State → ℕ → Bool
better t p s r = lt (value t p s (choice t s)) (value t p s r)

-- "min(48, 2 × wait)"
abbrev pub longer : ℕ → ℕ
longer w = min longest_wait (2 * w)

unfoldable pub judge_try : Table → Prices → State → ℕ → State
judge_try t p s r = cond (better t p s r) (with_wait s r first_wait) (with_since (with_wait s r (longer (wait_of s r))) r f0)

-- whether the rung r is being tried
abbrev pub tries : Trying → ℕ → Bool
tries None r = false
tries (Some y) r = eqb y.rung.0 r

-- "The distinct rungs of a transmission are taken from lowest to highest; each above the choice and not tried is judged." Of n rungs from r on.
abbrev pub to_judge : Table → State → List Frame → ℕ → Bool
to_judge t s fs r = sent fs r && ltb (choice t s) r && not (tries s.core.trying r)

unfoldable pub judge_if_sent : Table → Prices → List Frame → State → ℕ → State
judge_if_sent t p fs s r = cond (to_judge t s fs r) (judge_try t p s r) s

unfoldable pub judge_above : ℕ → ℕ → Table → Prices → List Frame → State → State
judge_above zero r t p fs s = s
judge_above (suc n) r t p fs s = judge_above n (suc r) t p fs (judge_if_sent t p fs s r)

-- ---- a running try
-- the place of a rung
abbrev pub place_from : ℕ → ℕ → Table → ℕ → ℕ → ℕ
place_from zero i t r d = d
place_from (suc n) i t r d = cond (eqb (rung_at t i) r) i (place_from n (suc i) t r d)

-- "A won try moves the choice; the next rung, if usable, gets its full wait as time."
unfoldable pub full_wait : Table → Prices → State → State
full_wait t p s =
    let up = rung_at t (suc s.core.place.0) in cond (usable t s (suc s.core.place.0)) (with_since s up (wait_s t p.tariff s up)) s

unfoldable pub won : Table → Prices → State → ℕ → State
won t p s r = full_wait t p (with_place s (place_from (place_count t) 0 t r s.core.place.0))

-- "judged if it had a frame"; the try is off already
unfoldable pub end_probe : Table → Prices → State → ℕ → ℕ → State
end_probe t p s r frames = cond (eqb frames 0) s (cond (better t p s r) (won t p (judge_try t p s r) r) (judge_try t p s r))

-- "A running try counts the call and its own frames; over at 3 frames or 6 calls"
-- its own frames, of a call
abbrev pub own_frames : List Frame → Trying → ℕ
own_frames fs None = 0
own_frames fs (Some y) = how_many (at y.rung.0) fs

-- "over at 3 frames or 6 calls": so many frames of its own, and so many calls before this one
abbrev pub try_over : ℕ → ℕ → Bool
try_over frames calls = leb try_frames frames || leb try_calls (suc calls)

-- n is the call's count of them
unfoldable pub counted : Table → Prices → ℕ → State → Trying → State
counted t p n s None = s
counted t p n s (Some y) =
    cond (try_over (y.frames + n) y.calls)
    (end_probe t p (cancel_try s) y.rung.0 (y.frames + n))
    (with_trying s (try_of y.rung (suc y.calls) (y.frames + n)))

-- ---- `decide`
-- what it leaves, and whether it began a try
pub record Decided : Type 0 where
  pub state : State
  pub begun : Bool

abbrev pub decided : State → Bool → Decided
decided s begun = record { state = s; begun = begun }

abbrev pub still : State → Decided
still s = decided s false

-- "among echo-allowed places at or below the choice, or above with over 2 decayed frames"
abbrev pub candidate : Table → State → ℕ → Bool
candidate t s i = usable t s i && (leb i s.core.place.0 || lt enough_frames (account s (rung_at t i)).frames)

-- "the lowest of greatest value"
unfoldable pub choose : Table → Prices → State → Best
choose t p s = greatest (place_count t) 0 (candidate t s) (λ i. value t p s (rung_at t i)) None

-- "its time >= wait - 1e-9"
abbrev pub waited : Table → Prices → State → ℕ → Bool
waited t p s r = le (wait_s t p.tariff s r ⊖ wait_tolerance) (since_of s r)

-- "`clean_climb` holds: the mark is on the choice, both rungs are of one family, the upper one's wait is 6 and its value > the choice's"
abbrev pub is_on : Mark → ℕ → Bool
is_on None r = false
is_on (Some q) r = eqb q.0 r

unfoldable pub clean_climb : Table → Prices → State → ℕ → Bool
clean_climb t p s r =
    is_on s.core.clean (choice t s) && beq (is_floor t r) (is_floor t (choice t s)) && eqb (wait_of s r) first_wait && better t p s r

-- the rung of the next place
abbrev pub above : Table → State → ℕ
above t s = rung_at t (suc s.core.place.0)

-- "Otherwise the rung above is tried if usable, lossless price > choice's value, and its time >= wait - 1e-9 or `clean_climb` holds"
abbrev pub begins : Table → Prices → State → Bool
begins t p s =
    usable t s (suc s.core.place.0) && lt (value t p s (choice t s)) (lossless_price t p (above t s)) && (waited t p s (above t s) || clean_climb t p s (above t s))

-- "Its time becomes 0."
abbrev pub begin : Table → State → Decided
begin t s = record { state = with_trying (with_since s (above t s) f0) (try_of (rung (above t s)) 0 0); begun = true }

-- "With a try running it also stops, after ending one that is not exactly above."
abbrev pub decide_try : Table → Prices → State → Trying → Decided
decide_try t p s None = cond (begins t p s) (begin t s) (still s)
decide_try t p s (Some y) = still (cond (usable t s (suc s.core.place.0) && eqb (above t s) y.rung.0) s (cancel_try s))

-- "none gives place 0 and ends any try, and `decide` stops"
abbrev pub decide_at : Table → Prices → State → Best → Decided
decide_at t p s None = still (cancel_try (with_place s 0))
decide_at t p s (Some b) = decide_try t p (with_place s b.place.0) s.core.trying

unfoldable pub decide : Table → Prices → State → Decided
decide t p s = decide_at t p s (choose t p s)
