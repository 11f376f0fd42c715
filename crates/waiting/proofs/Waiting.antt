-- Demand 3: for every fresh controller and every list of calls. In a run each frame call raises the time of the rung above by its air and finds it short of its wait,
-- and no other call touches either; so the airs, added to that time, stay short of the wait, and added from 0.0 short of the longest. Assumes nothing.
use mathlib.Core.Path.{◌≡◌, refl, sym, ap, ◌∙◌, subst}
use mathlib.Core.Bool.{Bool, true, false, not, ◌&&◌, cond}
use mathlib.Core.List.{List, [], ◌∷◌}
use mathlib.Core.Logic.{◌⊎◌, inl, inr}
use Prim.Native.Nat.{ℕ, suc, ◌<◌, ◌≤◌}
use native.Mathlib.Omega.{arith}
use lib.Dec.{T, ltb, ltb→lt}
use lib.ListN.{get_or}
use lib.Ieee.{Float, lt}
use lib.Ieee.Fits.{and_l}
use Rattle.float.specs.Numbers.{◌⊕◌, f0}
use Rattle.float.specs.Sum.{total}
use Rattle.float.proofs.Monotone.{natural}
use Rattle.float.proofs.Sum.{Naturals}
use Rattle.limits.specs.Refusals.{Verdict}
use Rattle.std.specs.Prelude.{Ok, Option}
use Rattle.limits.specs.Readings.{Reading}
use Rattle.ladder.specs.declared.types.Table.{Table}
use Rattle.ladder.specs.Types.{rung_at, rung_count, place_count}
use Rattle.std.proofs.lemmas.Float.{T_from_true}
use Rattle.account.specs.declared.types.Tariff.{Tariff}
use Rattle.account.specs.declared.types.State.{State}
use Rattle.account.specs.State.{runs, since_of, wait_of}
use Rattle.account.specs.Price.{full_air, wait_s}
use Rattle.account.proofs.FullAir.{full_finite, full_natural}
use Rattle.rules.specs.declared.types.Frame.{Frame}
use Rattle.rules.specs.Echo.{echo_out, usable, silent}
use Rattle.rules.specs.Booking.{call_air}
use Rattle.rules.specs.Tries.{decide}
use Rattle.rules.specs.Transmission.{inside, observe_frames}
use Rattle.rules.proofs.Clock.{Ticks, time_natural, wait_is, inside_ticks, Untimed, echo_untimed, seed_untimed}
use Rattle.rules.proofs.Calm.{inside_given, decide_waits}
use Rattle.rate.specs.declared.types.RateController.{RateController}
use Rattle.rate.specs.declared.types.Answer.{Answer}
use Rattle.rate.specs.Calls.{Call, Frames, Echo, Silence, Snr, Seed, Price, Family, verdict, accepted, step, after}
use Rattle.rate.specs.Fresh.{Fresh, fresh}
use Rattle.waiting.specs.Waiting.{taken, carried_frames, carries, frame_call, frame_calls, call_airs, air_sent, bound, Quiet, Outbid, Throughout, Demand3}
use Rattle.rate.proofs.Stepping.{accepted_says, accepted_step, by_verdict, table_kept}
use Rattle.waiting.proofs.Deadline.{deadline, not_yet, under_longest}
use Rattle.waiting.proofs.Sound.{Sound, call_natural, step_sound, after_sound, fresh_sound}
use Rattle.waiting.proofs.Tries.{tries_end, marks_tell, step_ended}

-- ---- any call but a frame call leaves times and waits; none changes the table
accepted_calm : (k : RateController) (c : Call) → carries (carried_frames c) ≡ false → Untimed k.state (accepted k c).controller.state
unfolding accepted observe_frames silent
accepted_calm k (Frames [] snr) e = (refl, refl)
accepted_calm k (Frames (f ∷ fs) snr) e = absurd (subst T e tt)
accepted_calm k (Echo share snr) e = echo_untimed k.table k.prices k.state share snr
accepted_calm k (Silence steps) e = (refl, refl)
accepted_calm k (Snr snr) e = (refl, refl)
accepted_calm k (Seed snr) e = seed_untimed k.table k.prices k.state snr
accepted_calm k (Price floor ordinary gap bursts) e = (refl, refl)
accepted_calm k (Family own other) e = (refl, refl)

calm : (k : RateController) (c : Call) → frame_call k c ≡ false → Untimed k.state (step k c).controller.state
calm k c =
    by_verdict k c (λ (a : Answer). (taken a.verdict && carries (carried_frames c)) ≡ false → Untimed k.state a.controller.state)
    (λ v e. accepted_calm k c (subst (λ (w : Verdict). (taken w && carries (carried_frames c)) ≡ false) (accepted_says k c) e)) (λ why e. (refl, refl))

-- a frame call carries a first frame, and was accepted
data Carried (k : RateController) : Call → Type 0 where
  carried : (f : Frame) (fs : List Frame) (snr : Reading) → verdict k.table (Frames (f ∷ fs) snr) ≡ Ok tt → Carried k (Frames (f ∷ fs) snr)

was_carried : (k : RateController) (c : Call) → T (frame_call k c) → Carried k c
was_carried k c =
    by_verdict k c (λ (a : Answer). T (taken a.verdict && carries (carried_frames c)) → Carried k c)
    (λ v h. go c v (subst (λ (w : Verdict). T (taken w && carries (carried_frames c))) (accepted_says k c) h)) (λ why h. absurd h)
  where
    go : (c : Call) → verdict k.table c ≡ Ok tt → T (carries (carried_frames c)) → Carried k c
    go (Frames [] snr) v h = absurd h
    go (Frames (f ∷ fs) snr) v h = carried f fs snr v
    go (Echo share snr) v h = absurd h
    go (Silence steps) v h = absurd h
    go (Snr snr) v h = absurd h
    go (Seed snr) v h = absurd h
    go (Price floor ordinary gap bursts) v h = absurd h
    go (Family own other) v h = absurd h

-- ---- a frame call of a run: the time of the rung u rises by the call's air a, its wait stays, and the time is short of it
record Rises (u : ℕ) (k : RateController) (a : Float) (z : State) : Type 0 where
  time : since_of z u ≡ since_of k.state u ⊕ a
  wait : wait_of z u ≡ wait_of k.state u
  early : T (lt (since_of z u) (deadline (wait_of k.state u) (full_air k.table k.prices.tariff u)))

-- a place that is allowed exists, and its rung has an entry
there : (k : RateController) → Sound k → (j : ℕ) → T (usable k.table k.state j) → (j < place_count k.table) × (rung_at k.table j < rung_count k.table) × (rung_at k.table j < 32)
there k s j h =
    let t = k.table in
    let a : j < place_count t = ltb→lt j (place_count t) (and_l (ltb j (place_count t)) (not (echo_out t k.state (rung_at t j))) h) in
    let b = s.table.on_table j a in
    (a, b, omega arith)

module _ (k : RateController) (s : Sound k) (i : ℕ) (p : Option Tariff) (here : Quiet i p k) where
  accepted_rises : (f : Frame) (fs : List Frame) (snr : Reading) → let c = Frames (f ∷ fs) snr in verdict k.table c ≡ Ok tt → Outbid i k c → Quiet i p (accepted k c).controller
      → Rises (rung_at k.table (suc i)) k (call_air (f ∷ fs)) (accepted k c).controller.state
  unfolding accepted observe_frames wait_s
  accepted_rises f fs snr e o next =
      let t = k.table in
      let u = rung_at t (suc i) in
      let q = inside t k.prices k.state (f ∷ fs) snr in
      let z = (decide t k.prices q).state in
      let at = there k s (suc i) here.above_allowed in
      let g = inside_given t s.table k.prices k.state (f ∷ fs) snr (suc i) at.0 (subst (λ (n : ℕ). u < n) (sym s.ticks.since_32) at.2) here.no_try o.none_above in
      let w = decide_waits t k.prices i q (g.place ∙ here.choice_stays) g.trying o.lossless_beats
      (record { place = next.choice_stays; no_try = next.no_try; choice_allowed = next.choice_allowed; above_allowed = next.above_allowed }) in
      let h : Ticks q = inside_ticks t k.prices s.table s.tariff k.state (f ∷ fs) snr (call_natural t (f ∷ fs) snr e) s.ticks in
      let x = full_air t k.prices.tariff u in
      let l : T (lt (since_of q u) (deadline (wait_of q u) x)) =
      not_yet (wait_of q u) x (wait_is q h u at.2) (full_finite t k.prices.tariff s.table s.tariff u at.1) (since_of q u) (time_natural q h u at.2) w.not_due in
      let same : since_of z u ≡ since_of q u = ap (λ (l : List Float). get_or l u f0) w.since in
      record {
        time = same ∙ g.time;
        wait = ap (λ (l : List ℕ). get_or l u 6) w.wait ∙ g.wait;
        early = subst (λ (y : Float). T (lt y (deadline (wait_of k.state u) x))) (sym same) (subst (λ (n : ℕ). T (lt (since_of q u) (deadline n x))) g.wait l);
      }

  rises : (c : Call) → Carried k c → Outbid i k c → Quiet i p (step k c).controller → Rises (rung_at k.table (suc i)) k (call_air (carried_frames c)) (step k c).controller.state
  rises c (carried f fs snr v) o =
      subst (λ (a : Answer). Quiet i p a.controller → Rises (rung_at k.table (suc i)) k (call_air (f ∷ fs)) a.controller.state) (sym (accepted_step k (Frames (f ∷ fs) snr) v)) (accepted_rises f fs snr v o)

-- ---- the airs are at least 0
air_natural : (k : RateController) (c : Call) → Carried k c → natural (call_air (carried_frames c))
air_natural k c (carried f fs snr v) = call_natural k.table (f ∷ fs) snr v

airs_natural : (cs : List Call) (k : RateController) → Naturals (call_airs k cs)
unfolding call_airs
airs_natural [] k = tt
airs_natural (c ∷ cs) k = go (frame_call k c) refl (airs_natural cs (step k c).controller)
  where
    rest : List Float
    rest = call_airs (step k c).controller cs

    go : (b : Bool) → frame_call k c ≡ b → Naturals rest → Naturals (cond b (call_air (carried_frames c) ∷ rest) rest)
    go true e h = (air_natural k c (was_carried k c (T_from_true _ e)), h)
    go false e h = h

-- ---- a run
first : (i : ℕ) (p : Option Tariff) (k : RateController) (cs : List Call) → Throughout i p k cs → Quiet i p k
first i p k [] h = h
first i p k (c ∷ cs) h = h.0

-- The time of the rung above at the end of a run is its time at the start with the airs added, and short of the wait: by the last frame call,
-- of which there is one ahead, or which is past.
module _ (t : Table) (i : ℕ) (p : Option Tariff) (w : ℕ) where
  abbrev u : ℕ
  u = rung_at t (suc i)

  abbrev end : Float
  end = deadline w (full_air t p u)

  abbrev time : RateController → Float
  time k = since_of k.state u

  goes : (cs : List Call) (k : RateController) → k.table ≡ t → wait_of k.state u ≡ w → Sound k → Throughout i p k cs
      → T (lt (time k) end) ⊎ (1 ≤ frame_calls k cs) → T (lt (total (time k) (call_airs k cs)) end)
  unfolding total call_airs frame_calls
  goes [] k e v s h (inl g) = g
  goes [] k e v s h (inr g) = absurd (omega arith)
  goes (c ∷ cs) k e v s h g =
      go (frame_call k c) refl (λ v' g'. goes cs (step k c).controller (table_kept k c ∙ e) v' (step_sound k c s) h.2 g') g
    where
      later : RateController
      later = (step k c).controller

      rest : List Float
      rest = call_airs (step k c).controller cs

      n : ℕ
      n = frame_calls (step k c).controller cs

      Next : Type 0
      Next = wait_of later.state u ≡ w → T (lt (time later) end) ⊎ (1 ≤ n) → T (lt (total (time later) rest) end)

      go : (b : Bool) → frame_call k c ≡ b → Next → T (lt (time k) end) ⊎ (1 ≤ cond b (suc n) n) → T (lt (total (time k) (cond b (call_air (carried_frames c) ∷ rest) rest)) end)
      go true q next g =
          let r : Rises u k (call_air (carried_frames c)) later.state =
          subst (λ (x : Table). Rises (rung_at x (suc i)) k (call_air (carried_frames c)) later.state) e
          (rises k s i p h.0 c (was_carried k c (T_from_true _ q)) (h.1 (T_from_true _ q)) (first i p later cs h.2)) in
          let l1 = subst (λ (x : Table). T (lt (time later) (deadline (wait_of k.state u) (full_air x k.prices.tariff u)))) e r.early in
          let l2 = subst (λ (x : Option Tariff). T (lt (time later) (deadline (wait_of k.state u) (full_air t x u)))) h.0.prices_stay l1 in
          let l3 = subst (λ (m : ℕ). T (lt (time later) (deadline m (full_air t p u)))) v l2 in
          subst (λ (y : Float). T (lt (total y rest) end)) r.time (next (r.wait ∙ v) (inl l3))
      go false q next g =
          let same = calm k c q in
          let x : time later ≡ time k = ap (λ (l : List Float). get_or l u f0) same.0 in
          subst (λ (y : Float). T (lt (total y rest) end)) x (next (ap (λ (l : List ℕ). get_or l u 6) same.1 ∙ v) (carry x g))
        where
          carry : time later ≡ time k → T (lt (time k) end) ⊎ (1 ≤ n) → T (lt (time later) end) ⊎ (1 ≤ n)
          carry x (inl l) = inl (subst (λ (y : Float). T (lt y end)) (sym x) l)
          carry x (inr l) = inr l

runs_short : (k : RateController) → Sound k → (run : List Call) → 1 ≤ frame_calls k run → Throughout k.state.core.place.0 k.prices.tariff k run → T (lt (air_sent k run) (bound k))
runs_short k s run n h =
    let t = k.table in
    let p = k.prices.tariff in
    let i = k.state.core.place.0 in
    let u = rung_at t (suc i) in
    let at = there k s (suc i) (first i p k run h).above_allowed in
    let w = wait_of k.state u in
    under_longest w (full_air t p u) (wait_is k.state s.ticks u at.2) (full_finite t p s.table s.tariff u at.1) (full_natural t p s.table s.tariff u at.1)
    (call_airs k run) (since_of k.state u) (airs_natural run k) (time_natural k.state s.ticks u at.2) (goes t i p w run k refl refl s h (inr n))

fresh_idle : (k : RateController) → Fresh k → runs k.state.core.trying ≡ false
fresh_idle k (fresh c wide e) = refl

-- ---- Demand 3
pub waiting : Demand3
waiting k f calls = record {
  marks_tell = λ before rest e. marks_tell before k false (fresh_idle k f);
  ended_ran = λ before c rest e h. subst T (marks_tell before k false (fresh_idle k f)) (step_ended (after k before) c h);
  tries_end = λ before c later rest e b n. tries_end (after k before) c later b n;
  runs_are_short = λ before run rest e n h. runs_short (after k before) (after_sound before k (fresh_sound k f)) run n h;
}
