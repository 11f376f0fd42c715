-- A transmission in one pass: what a pass over the frames gathers, and what one frame does to it and to the accounts. The folds of Booking.antt and Tries.antt are what is
-- right: proofs/Booked.antt shows that this one pass gives them all. Definitions only.
use Rattle.std.specs.Prelude.{◌≡◌, Bool, true, false, not, ◌&&◌, ◌||◌, cond, ℕ, suc, ◌<◌, ◌^◌, ltb, T, List, Float, replicate, slice_index_or, drop, ◌++◌, None, Some, unwrap_or}
use Rattle.std.specs.Option.{option_map_or}
use mathlib.Core.List.{foldl}
use Rattle.std.specs.Int.Bits.{bit_or}
use Rattle.std.specs.Float.Ieee.{lt, eq}
use Rattle.float.specs.Numbers.{◌⊕◌, ◌⊗◌, ◌⊘◌, f0, f1}
use Rattle.half.specs.Power.{half}
use Rattle.limits.specs.Readings.{Reading}
use Rattle.ladder.specs.Lists.{tabulate}
use Rattle.ladder.specs.declared.types.Rung.{Rung}
use Rattle.ladder.specs.declared.types.Table.{Table}
use Rattle.ladder.specs.Types.{rung, row, rung_at, rung_count, place_count, is_floor}
use Rattle.account.specs.State.{Mark, Trying}
use Rattle.account.specs.declared.types.Offsets.{Offsets}
use Rattle.account.specs.declared.types.Prices.{Prices}
use Rattle.account.specs.declared.types.State.{State}
use Rattle.account.specs.declared.types.Core.{Core}
use Rattle.account.specs.Fixed.{half_life, try_frames}
use Rattle.rules.specs.Booking.{Frame, at, offset_step, book, passed}
use Rattle.rules.specs.Tries.{Decided, counted, decide}
use Rattle.rules.specs.bridges.Sets.{judge_set}
pub use Rattle.rules.specs.declared.accounts.Fade.{Fade}
pub use Rattle.rules.specs.declared.accounts.Fades.{Fades}
pub use Rattle.rules.specs.declared.marks.Marks.{Marks}
pub use Rattle.rules.specs.declared.pass.Pass.{Pass}

-- ---- "32-bit set": with one rung more; a number past 31 is no digit of it
abbrev pub add_rung : ℕ → ℕ → ℕ
add_rung set r = cond (ltb r 32) (bit_or set (2 ^ r)) set

-- ---- ageing
-- "other rungs age by half(air/(12 × own frame time))"
abbrev pub factor : Float → Float → Float
factor air time = half (air ⊘ (half_life ⊗ time))

-- rungs of one frame time share it: the last one where the frame time is the last one's, above 0; else a new one
abbrev pub fade_at : Float → Float → Fade → Fade
fade_at air time last = cond (lt f0 last.time && eq time last.time) last (record { time = time; by = factor air time })

-- the factors of all rungs in use are those for a frame of so much air
abbrev pub Fading : Table → Float → Fades → Type 0
Fading t air d = (r : ℕ) → r < rung_count t → slice_index_or d.by r f1 ≡ factor air (row t r).time

-- and those kept since a frame are those of its air, if there was one
abbrev pub Kept : Table → Fades → Type 0
Kept t d = T (lt f0 d.air) → Fading t d.air d

-- the factors of the rungs in use for a frame of so much air, over those that stood there
unfoldable pub fades_for : Table → Float → Fades → Fades
fades_for t air d = record { by = tabulate (rung_count t) 0 (λ r. factor air (row t r).time) ++ drop (rung_count t) d.by; air = air }

-- the factors for a frame's air: those kept where it is the air that they are for
unfoldable pub turned : Table → Float → Fades → Fades
turned t air d = cond (lt f0 d.air && eq air d.air) d (fades_for t air d)

abbrev pub turned_all : Table → Fades → List Frame → Fades
turned_all t = foldl (λ d f. turned t f.air d)

abbrev pub no_fades : Fades
no_fades = record { by = replicate 32 f1; air = f0 }

-- ---- offsets: "with SNR known"
abbrev pub offsets_by : Table → Reading → Frame → Offsets → Offsets
offsets_by t None f o = o
offsets_by t (Some snr) f o = offset_step t snr f o

-- ---- marks
abbrev pub no_marks : Marks
no_marks = record { heard = None; alone = None }

-- "a list with OFDM frames sets the failed mark if none of them is decoded, else clears it": whether one was decoded, once one was sent
abbrev pub mark_family : Table → Frame → Marks → Marks
mark_family t f m = cond (is_floor t f.rung.0) m (record m { heard = Some (unwrap_or m.heard false || f.decoded) })

-- "some frame at the choice, and each of them decoded alone": whether each was, once one went there
abbrev pub mark_choice : ℕ → Frame → Marks → Marks
mark_choice here f m = cond (at here f) (record m { alone = Some (unwrap_or m.alone true && (f.decoded && not f.combined)) }) m

-- after the pass: the failed mark, and the clean mark
abbrev pub family_mark : Marks → Bool → Bool
family_mark m failed = option_map_or not m.heard failed

abbrev pub choice_mark : Marks → Rung → Mark
choice_mark m here = cond (unwrap_or m.alone false) (Some here) None

-- ---- the try's own frames: "over at 3 frames", so it counts no further
abbrev pub is_own : Trying → Frame → Bool
is_own None f = false
is_own (Some y) f = at y.rung.0 f

abbrev pub count_own : Trying → Frame → ℕ → ℕ
count_own y f n = cond (is_own y f) (cond (ltb n try_frames) (suc n) n) n

-- ---- the pass: g is what it has gathered
-- before the first frame; the core's SNR is smoothed already
abbrev pub begin_pass : Core → Pass
begin_pass c = record { sent = 0; offsets = c.offsets; air = f0; own = 0; marks = no_marks }

-- the choice's rung, by the core alone
abbrev pub here_of : Table → Core → ℕ
here_of t c = rung_at t c.place.0

-- one frame
unfoldable pub pass_step : Table → Core → Pass → Frame → Pass
pass_step t c g f = record {
  sent = add_rung g.sent f.rung.0;
  offsets = offsets_by t c.snr f g.offsets;
  air = g.air ⊕ f.air;
  own = count_own c.trying f g.own;
  marks = mark_choice (here_of t c) f (mark_family t f g.marks);
}

-- all of them, in order
abbrev pub pass_all : Table → Core → Pass → List Frame → Pass
pass_all t c = foldl (pass_step t c)

-- a state whose accounts alone the frames moved
abbrev pub booked_accounts : Table → List Frame → State → State
booked_accounts t fs s = record s { accounts = book t fs s.accounts }

-- ---- after the pass
abbrev pub finish_core : Table → Core → Pass → Core
finish_core t c g =
    record c { offsets = g.offsets; failed = family_mark g.marks c.failed; clean = choice_mark g.marks (rung (here_of t c)) }

-- what it leaves of the state, the accounts being booked already
unfoldable pub finish_pass : Table → State → Pass → State
finish_pass t s g = record s { since = passed (place_count t) 0 t g.air s.since; core = finish_core t s.core g }

-- then the rungs sent are judged, a running try is counted, and `decide` has the last word
abbrev pub judged_pass : Table → Prices → State → Pass → State
judged_pass t p s g = judge_set g.sent t p (finish_pass t s g)

unfoldable pub decided_pass : Table → Prices → State → Pass → Decided
decided_pass t p s g = decide t p (counted t p g.own (judged_pass t p s g) (judged_pass t p s g).core.trying)
