-- What the calls keep of a state: a property that is kept by the few changes of a state of which the steps are made is kept by each step, and by a call.
-- The definitions change a state by a field at a time, so their own shape is all that there is to go by. Assumes nothing.
use mathlib.Core.List.{List, [], ◌∷◌}
use mathlib.Core.Bool.{◌&&◌}
use Prim.Native.Nat.{ℕ, zero, suc, ◌+◌, ◌≤◌}
use native.Mathlib.Omega.{arith}
use lib.Dec.{T, eqb}
use lib.Ieee.{Float, lt}
use Rattle.float.specs.Numbers.{f0}
use Rattle.limits.specs.Readings.{Reading}
use Rattle.std.specs.Prelude.{None, Some}
use Rattle.std.proofs.lemmas.Bool.{cond_both}
use Rattle.std.proofs.lemmas.Float.{T_from_true}
use Rattle.ladder.specs.declared.types.Table.{Table}
use Rattle.ladder.specs.Types.{rung_at, place_count}
use Rattle.ladder.proofs.Cases.{pick}
use Rattle.account.specs.Fixed.{first_wait, longest_wait, echo_floor}
use Rattle.account.specs.State.{Trying, wait_of, choice, with_since, with_wait, with_trying, cancel_try, with_place, with_snr, with_echo}
use Rattle.account.specs.declared.types.Prices.{Prices}
use Rattle.account.specs.declared.types.State.{State}
use Rattle.account.specs.Price.{wait_s}
use Rattle.rules.specs.Lowest.{Best}
use Rattle.rules.specs.Echo.{echo_out, usable, smooth_echo, end_if_out, echoed, observe_echo, seed, seed_at, observe_snr}
use Rattle.rules.specs.Booking.{Frame, booked}
use Rattle.rules.specs.Tries.{Decided, better, longer, judge_try, to_judge, judge_if_sent, judge_above, place_from, full_wait, won, end_probe, try_over, own_frames, counted, begins, above, decide_try, decide_at, decide, choose}
use Rattle.rules.specs.Transmission.{judged, inside, observe_frames}

-- ---- the changes
-- an echo reading, and a seed: another place is chosen, a try ends
pub record KeptByEcho (P : State → Type 0) : Type 0 where
  pub place : (s : State) (i : ℕ) → P s → P (with_place s i)
  pub cancelled : (s : State) → P s → P (cancel_try s)

-- a rung is judged: a wait up to the longest is set, and a time to 0.0
pub record KeptByJudging (P : State → Type 0) : Type 0 where
  pub wait : (s : State) (r w : ℕ) → w ≤ longest_wait → P s → P (with_wait s r w)
  pub zeroed : (s : State) (r : ℕ) → P s → P (with_since s r f0)

-- and a try has ended: the place moves, and the time of the rung above, where it is usable, is set to its full wait
pub record KeptByEnding (t : Table) (p : Prices) (P : State → Type 0) : Type 0 where
  pub judging : KeptByJudging P
  pub place : (s : State) (i : ℕ) → P s → P (with_place s i)
  pub full : (s : State) → T (usable t s (suc s.core.place.0)) → P s → let r = rung_at t (suc s.core.place.0) in P (with_since s r (wait_s t p.tariff s r))

-- and a try begins, counts or ends: all of a transmission
pub record KeptBySteps (t : Table) (p : Prices) (P : State → Type 0) : Type 0 where
  pub ending : KeptByEnding t p P
  pub trying : (s : State) (y : Trying) → P s → P (with_trying s y)

-- ---- echo and seed
module _ (t : Table) (p : Prices) (P : State → Type 0) (k : KeptByEcho P) where
  ended_kept : (s : State) (y : Trying) → P s → P (end_if_out t s y)
  ended_kept s None h = h
  ended_kept s (Some y) h = pick P (echo_out t s y.rung.0) (k.cancelled s h) h

  echoed_kept : (s : State) → P s → P (echoed t p s)
  echoed_kept s h =
      let z = end_if_out t s s.core.trying in
      let l = ended_kept s s.core.trying h in
      pick P (echo_out t z (choice t z)) (k.place z _ l) l

  pub echo_kept : (s : State) (x snr : Float) → P s → P (with_echo s (smooth_echo s.core.echo x)) → P (observe_echo t p s (Some x) snr)
  unfolding observe_echo
  echo_kept s x snr h g = pick P (lt snr echo_floor) h (echoed_kept (with_echo s (smooth_echo s.core.echo x)) g)

  pub seed_kept : (s : State) (snr : Float) → P s → P (with_snr s (Some snr)) → P (seed t p s snr)
  unfolding seed
  seed_kept s snr h g = go s.core.snr
    where
      go : (x : Reading) → P (seed_at t p s snr x)
      go None = k.place (with_snr s (Some snr)) _ g
      go (Some y) = h

-- ---- a transmission
module _ (t : Table) (p : Prices) (P : State → Type 0) (k : KeptByJudging P) where
  judge_kept : (s : State) (r : ℕ) → P s → P (judge_try t p s r)
  unfolding judge_try
  judge_kept s r h =
      let w = longer (wait_of s r) in
      pick P (better t p s r) (k.wait s r first_wait (omega arith) h) (k.zeroed (with_wait s r w) r (k.wait s r w (omega arith) h))

  sent_kept : (fs : List Frame) (s : State) (r : ℕ) → P s → P (judge_if_sent t p fs s r)
  unfolding judge_if_sent
  sent_kept fs s r h = pick P (to_judge t s fs r) (judge_kept s r h) h

  pub above_kept : (n r : ℕ) (fs : List Frame) (s : State) → P s → P (judge_above n r t p fs s)
  unfolding judge_above
  above_kept zero r fs s h = h
  above_kept (suc n) r fs s h = above_kept n (suc r) fs (judge_if_sent t p fs s r) (sent_kept fs s r h)

module _ (t : Table) (p : Prices) (P : State → Type 0) (k : KeptByEnding t p P) where
  full_kept : (s : State) → P s → P (full_wait t p s)
  unfolding full_wait
  full_kept s h = cond_both (usable t s (suc s.core.place.0)) _ _ P (λ e. k.full s (T_from_true _ e) h) (λ e. h)

  won_kept : (s : State) (r : ℕ) → P s → P (won t p s r)
  unfolding won
  won_kept s r h = let i = place_from (place_count t) 0 t r s.core.place.0 in full_kept (with_place s i) (k.place s i h)

  pub end_kept : (s : State) (r frames : ℕ) → P s → P (end_probe t p s r frames)
  unfolding end_probe
  end_kept s r frames h =
      let j = judge_kept t p P k.judging s r h in
      pick P (eqb frames 0) h (pick P (better t p s r) (won_kept (judge_try t p s r) r j) j)

module _ (t : Table) (p : Prices) (P : State → Type 0) (k : KeptBySteps t p P) where
  counted_kept : (n : ℕ) (s : State) (y : Trying) → P s → P (counted t p n s y)
  unfolding counted
  counted_kept n s None h = h
  counted_kept n s (Some y) h =
      pick P (try_over (y.frames + n) y.calls) (end_kept t p P k.ending (cancel_try s) y.rung.0 (y.frames + n) (k.trying s None h)) (k.trying s _ h)

  pub inside_kept : (s : State) (fs : List Frame) (snr : Reading) → P (booked t (observe_snr s snr) fs) → P (inside t p s fs snr)
  unfolding inside
  inside_kept s fs snr h =
      let b = judged t p (observe_snr s snr) fs in
      counted_kept (own_frames fs b.core.trying) b b.core.trying (above_kept t p P k.ending.judging 32 0 fs (booked t (observe_snr s snr) fs) h)

  tried_kept : (s : State) (y : Trying) → P s → P (decide_try t p s y).state
  tried_kept s None h = pick (λ (d : Decided). P d.state) (begins t p s) (k.trying (with_since s (above t s) f0) _ (k.ending.judging.zeroed s (above t s) h)) h
  tried_kept s (Some y) h = pick P (usable t s (suc s.core.place.0) && eqb (above t s) y.rung.0) h (k.trying s None h)

  decide_kept : (s : State) → P s → P (decide t p s).state
  unfolding decide
  decide_kept s h = go (choose t p s)
    where
      go : (b : Best) → P (decide_at t p s b).state
      go None = k.trying (with_place s 0) None (k.ending.place s 0 h)
      go (Some b) = tried_kept (with_place s b.place.0) s.core.trying (k.ending.place s b.place.0 h)

  -- a call with frames: what the frames alone change is booked first
  pub frames_kept : (s : State) (fs : List Frame) (snr : Reading) → P (observe_snr s snr) → P (booked t (observe_snr s snr) fs) → P (observe_frames t p s fs snr).state
  unfolding observe_frames
  frames_kept s [] snr h g = h
  frames_kept s (f ∷ fs) snr h g = decide_kept (inside t p s (f ∷ fs) snr) (inside_kept s (f ∷ fs) snr g)
