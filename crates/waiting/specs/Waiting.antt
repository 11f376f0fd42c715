-- Demand 3 and document 01's "The waiting statement": "one claim about the whole list, not one for each call". The words of a clause stand above what says it;
-- "choice, echo, values and the prices set are those that the steps above give for the list so far", so all is read off `step` and `after`. Definitions only.
use Rattle.std.specs.Prelude.{◌≡◌, Bool, true, false, not, ◌&&◌, ◌||◌, cond, List, [], ◌∷◌, ◌++◌, ℕ, suc, ◌≤◌, T, Float, Ok, Err, None, Option}
use Rattle.std.specs.Float.Ieee.{lt}
use Rattle.float.specs.Numbers.{◌⊖◌, ◌⊗◌, of_nat, f0}
use Rattle.float.specs.Sum.{total}
use Rattle.limits.specs.Refusals.{Verdict}
use Rattle.limits.specs.Readings.{Reading}
use Rattle.ladder.specs.Types.{rung_at}
use Rattle.account.specs.declared.types.Tariff.{Tariff}
use Rattle.account.specs.declared.types.State.{State}
use Rattle.account.specs.Fixed.{longest_wait, wait_tolerance}
use Rattle.account.specs.State.{runs}
use Rattle.account.specs.Price.{value, lossless_price, full_air}
use Rattle.rules.specs.declared.types.Frame.{Frame}
use Rattle.rules.specs.Echo.{usable}
use Rattle.rules.specs.Booking.{sent, call_air}
use Rattle.rules.specs.Transmission.{inside}
use Rattle.rate.specs.declared.types.RateController.{RateController}
use Rattle.rate.specs.Calls.{Call, Frames, Echo, Silence, Snr, Seed, Price, Family, step, after}
use Rattle.rate.specs.Fresh.{Fresh}

-- ---- frame calls: "accepted call that carries frames, and frame call means such a call"
abbrev pub taken : Verdict → Bool
taken (Ok _) = true
taken (Err why) = false

-- the frames that a call carries, and the SNR that comes with them
abbrev pub carried_frames : Call → List Frame
carried_frames (Frames fs snr) = fs
carried_frames (Echo share snr) = []
carried_frames (Silence steps) = []
carried_frames (Snr snr) = []
carried_frames (Seed snr) = []
carried_frames (Price floor ordinary gap bursts) = []
carried_frames (Family own other) = []

abbrev pub carried_snr : Call → Reading
carried_snr (Frames fs snr) = snr
carried_snr (Echo share snr) = None
carried_snr (Silence steps) = None
carried_snr (Snr snr) = None
carried_snr (Seed snr) = None
carried_snr (Price floor ordinary gap bursts) = None
carried_snr (Family own other) = None

abbrev pub carries : List Frame → Bool
carries [] = false
carries (f ∷ fs) = true

abbrev pub frame_call : RateController → Call → Bool
frame_call k c = taken (step k c).verdict && carries (carried_frames c)

-- how many of a list's calls are frame calls
unfoldable pub frame_calls : RateController → List Call → ℕ
frame_calls k [] = 0
frame_calls k (c ∷ cs) = let n = frame_calls (step k c).controller cs in cond (frame_call k c) (suc n) n

-- ---- tries, by the marks that the calls return
-- whether one of a list's calls returns *ended*
unfoldable pub some_ended : RateController → List Call → Bool
some_ended k [] = false
some_ended k (c ∷ cs) = (step k c).ended || some_ended (step k c).controller cs

-- "A try runs from the call that returns *begun* to the next one that returns *ended*, which may begin another.": whether one runs after a list, `b` saying
-- whether one ran before it
unfoldable pub runs_after : Bool → RateController → List Call → Bool
runs_after b k [] = b
runs_after b k (c ∷ cs) = runs_after ((step k c).begun || b && not (step k c).ended) (step k c).controller cs

-- ---- "the air sent in it": the call airs of the frame calls, in order; refused calls "add no air or frame"
unfoldable pub call_airs : RateController → List Call → List Float
call_airs k [] = []
call_airs k (c ∷ cs) = let rest = call_airs (step k c).controller cs in cond (frame_call k c) (call_air (carried_frames c) ∷ rest) rest

-- "Call airs are added in order from 0.0"
abbrev pub air_sent : RateController → List Call → Float
air_sent k calls = total f0 (call_airs k calls)

-- "(48 × full-transmission air) - 1e-9, each step rounded", at "the rung above", which "is the next place's"
abbrev pub bound : RateController → Float
bound k = of_nat longest_wait ⊗ full_air k.table k.prices.tariff (rung_at k.table (suc k.state.core.place.0)) ⊖ wait_tolerance

-- ---- a run's conditions, i being the choice at its start and p the prices set then
-- "its conditions hold before and after each call"
pub record Quiet (i : ℕ) (p : Option Tariff) (k : RateController) : Type 0 where
  -- "choice .. stay"
  pub choice_stays : k.state.core.place.0 ≡ i
  -- "and prices stay"
  pub prices_stay : k.prices.tariff ≡ p
  -- "no try is running"; `marks_tell`, below, ties this to the marks
  pub no_try : k.state.core.trying ≡ None
  -- "echo allows the choice"; "echo allows a rung that exists and is not out"
  pub choice_allowed : T (usable k.table k.state i)
  -- "and the rung above"
  pub above_allowed : T (usable k.table k.state (suc i))

-- the state that `decide` is given at a frame call
abbrev pub inside_decide : RateController → Call → State
inside_decide k c = inside k.table k.prices k.state (carried_frames c) (carried_snr c)

-- "at each frame call"
pub record Outbid (i : ℕ) (k : RateController) (c : Call) : Type 0 where
  -- "no frame goes at that rung above"
  pub none_above : T (not (sent (carried_frames c) (rung_at k.table (suc i))))
  -- "and its lossless price beats the choice's value"; "lossless price and value compared inside `decide`"
  pub lossless_beats : T (lt (value k.table k.prices (inside_decide k c) (rung_at k.table i)) (lossless_price k.table k.prices (rung_at k.table (suc i))))

-- "If throughout it ..": before the first call, at each frame call, and after each call
abbrev pub Throughout : ℕ → Option Tariff → RateController → List Call → Type 0
Throughout i p k [] = Quiet i p k
Throughout i p k (c ∷ cs) = Quiet i p k × (T (frame_call k c) → Outbid i k c) × Throughout i p (step k c).controller cs

-- ---- the claim
pub record Waiting (k : RateController) (calls : List Call) : Type 0 where
  -- what the controller holds as its running try is the try that the marks tell of
  pub marks_tell : (before rest : List Call) → calls ≡ before ++ rest → runs (after k before).state.core.trying ≡ runs_after false k before
  -- "Marking *ended* before a try has run .. breaks demands 2 and 3": a call returns *ended* only where a try runs, by the marks before it
  pub ended_ran : (before : List Call) (c : Call) (rest : List Call) → calls ≡ before ++ c ∷ rest → T (step (after k before) c).ended → T (runs_after false k before)
  -- "A try has ended by the sixth later accepted call that carries frames.": c returns *begun*, and `later` has six such calls
  pub tries_end : (before : List Call) (c : Call) (later rest : List Call) → calls ≡ before ++ c ∷ later ++ rest
      → T (step (after k before) c).begun
      → 6 ≤ frame_calls (step (after k before) c).controller later
      → T (some_ended (step (after k before) c).controller later)
  -- "And take any unbroken run in the list with at least one accepted call that carries frames. If throughout it .., then the air sent in it stays under 48 full
  -- transmissions at that rung, less 1e-9 s."
  pub runs_are_short : (before run rest : List Call) → calls ≡ before ++ run ++ rest
      → 1 ≤ frame_calls (after k before) run
      → Throughout (after k before).state.core.place.0 (after k before).prices.tariff (after k before) run
      → T (lt (air_sent (after k before) run) (bound (after k before)))

-- "Take every fresh controller and every list of calls on it: frames, SNR and echo readings, silences, seeds, prices, families, in any order and with any
-- arguments, refused ones included. The first call gets the fresh controller, each next one what the last left, and nothing else touches it. Then two things hold."
abbrev pub Demand3 : Type 0
Demand3 = (k : RateController) → Fresh k → (calls : List Call) → Waiting k calls
