-- Tries, over a list of calls: one that runs has counted fewer than six calls, and each frame call ends it or counts one more; and the marks tell whether one runs.
-- Assumes nothing.
use mathlib.Core.Path.{◌≡◌, refl, sym, ap, ◌∙◌, subst}
use mathlib.Core.Bool.{Bool, true, false, not, ◌&&◌, ◌||◌, cond}
use mathlib.Core.List.{List, [], ◌∷◌}
use mathlib.Core.Logic.{◌⊎◌, inl, inr}
use Prim.Native.Nat.{ℕ, suc, ◌+◌, ◌<◌, ◌≤◌}
use native.Mathlib.Omega.{arith}
use lib.Dec.{T}
use lib.Ieee.Fits.{and_l}
use Rattle.limits.specs.Refusals.{Verdict}
use Rattle.ladder.specs.declared.types.Rung.{Rung}
use Rattle.limits.specs.Readings.{Reading}
use Rattle.ladder.proofs.Cases.{or_here, or_there}
use Rattle.account.specs.Fixed.{try_calls}
use Rattle.account.specs.State.{Trying, try_of, runs}
use Rattle.std.specs.Prelude.{None, Some}
use Rattle.rules.specs.declared.types.Frame.{Frame}
use Rattle.rules.specs.Tries.{Decided, decide}
use Rattle.rules.specs.Echo.{observe_echo, silent, seed}
use Rattle.rules.specs.Transmission.{inside, observe_frames}
use Rattle.rules.proofs.Trying.{Goes, Off, echo_rests, seed_keeps_try, frames_idle, frames_running, decide_begun}
use Rattle.rate.specs.declared.types.RateController.{RateController}
use Rattle.rate.specs.declared.types.Answer.{Answer}
use Rattle.rate.specs.Calls.{Call, Frames, Echo, Silence, Snr, Seed, Price, Family, accepted, step, after}
use Rattle.waiting.specs.Waiting.{taken, carried_frames, carries, frame_call, frame_calls, some_ended, runs_after}
use Rattle.rate.proofs.Stepping.{accepted_says, by_verdict}

-- ---- one call on a running try
-- it ends the try, or leaves it with so many calls, fewer than six
abbrev Onward : Rung → ℕ → Bool → Trying → Type 0
Onward r calls ended y = T ended ⊎ Goes r calls y

-- *ended*, of a try that was running
marked : (y : Trying) (r : Rung) (calls frames : ℕ) → y ≡ try_of r calls frames → (b : Bool) → T b → T (runs y && b)
marked y r calls frames e b h = subst (λ (z : Trying). T (runs z && b)) (sym e) h

rests_onward : (y z : Trying) (r : Rung) (calls frames : ℕ) → y ≡ try_of r calls frames → calls < try_calls → (z ≡ None) ⊎ (z ≡ y) → Onward r calls (runs y && (false || not (runs z))) z
rests_onward y z r calls frames e l (inl h) = inl (marked y r calls frames e (false || not (runs z)) (subst (λ (w : Trying). T (false || not (runs w))) (sym h) tt))
rests_onward y z r calls frames e l (inr h) = inr (frames, h ∙ e, l)

decided_onward : (y : Trying) (d : Decided) (r : Rung) (calls calls' frames : ℕ) → y ≡ try_of r calls frames → Off d ⊎ Goes r calls' d.state.core.trying
    → Onward r calls' (runs y && (d.begun || not (runs d.state.core.trying))) d.state.core.trying
decided_onward y d r calls calls' frames e (inl h) = inl (marked y r calls frames e (d.begun || not (runs d.state.core.trying)) h)
decided_onward y d r calls calls' frames e (inr h) = inr h

abbrev counts : Bool → ℕ → ℕ
counts b n = cond b (suc n) n

accepted_onward : (k : RateController) (c : Call) (r : Rung) (calls frames : ℕ) → k.state.core.trying ≡ try_of r calls frames → calls < try_calls
    → Onward r (counts (carries (carried_frames c)) calls) (accepted k c).ended (accepted k c).controller.state.core.trying
unfolding accepted observe_frames silent
accepted_onward k (Frames [] snr) r calls frames e l = inr (frames, e, l)
accepted_onward k (Frames (f ∷ fs) snr) r calls frames e l =
    decided_onward k.state.core.trying (decide k.table k.prices (inside k.table k.prices k.state (f ∷ fs) snr)) r calls (suc calls) frames e
    (frames_running k.table k.prices k.state (f ∷ fs) snr r calls frames e)
accepted_onward k (Echo share snr) r calls frames e l =
    rests_onward k.state.core.trying (observe_echo k.table k.prices k.state share snr).core.trying r calls frames e l (echo_rests k.table k.prices k.state share snr)
accepted_onward k (Silence steps) r calls frames e l = inl (marked k.state.core.trying r calls frames e true tt)
accepted_onward k (Snr snr) r calls frames e l = inr (frames, e, l)
accepted_onward k (Seed snr) r calls frames e l =
    rests_onward k.state.core.trying (seed k.table k.prices k.state snr).core.trying r calls frames e l (inr (seed_keeps_try k.table k.prices k.state snr))
accepted_onward k (Price floor ordinary gap bursts) r calls frames e l = inr (frames, e, l)
accepted_onward k (Family own other) r calls frames e l = inr (frames, e, l)

step_onward : (k : RateController) (c : Call) (r : Rung) (calls frames : ℕ) → k.state.core.trying ≡ try_of r calls frames → calls < try_calls
    → Onward r (counts (frame_call k c) calls) (step k c).ended (step k c).controller.state.core.trying
step_onward k c r calls frames e l =
    by_verdict k c (λ (a : Answer). Onward r (counts (taken a.verdict && carries (carried_frames c)) calls) a.ended a.controller.state.core.trying)
    (λ v. subst (λ (w : Verdict). Onward r (counts (taken w && carries (carried_frames c)) calls) (accepted k c).ended (accepted k c).controller.state.core.trying) (sym (accepted_says k c)) (accepted_onward k c r calls frames e l))
    (λ why. inr (frames, e, l))

-- ---- a list of calls: as many frame calls as are left to the sixth end it
lasts : (calls : List Call) (k : RateController) (r : Rung) (n frames : ℕ) → k.state.core.trying ≡ try_of r n frames → n < 6 → 6 ≤ n + frame_calls k calls → T (some_ended k calls)
unfolding frame_calls some_ended
lasts [] k r n frames e l h = absurd (omega arith)
lasts (c ∷ cs) k r n frames e l h = go (λ (m f : ℕ). lasts cs next r m f) (step_onward k c r n frames e l)
  where
    next : RateController
    next = (step k c).controller

    Later : Type 0
    Later = (m f : ℕ) → next.state.core.trying ≡ try_of r m f → m < 6 → 6 ≤ m + frame_calls next cs → T (some_ended next cs)

    counted : (b : Bool) → 6 ≤ n + cond b (suc (frame_calls next cs)) (frame_calls next cs) → 6 ≤ counts b n + frame_calls next cs
    counted true g = omega arith
    counted false g = g

    go : Later → Onward r (counts (frame_call k c) n) (step k c).ended next.state.core.trying → T ((step k c).ended || some_ended next cs)
    go later (inl o) = or_here (step k c).ended (some_ended next cs) o
    go later (inr q) = or_there (step k c).ended (some_ended next cs) (later (counts (frame_call k c) n) q.0 q.1 q.2 (counted (frame_call k c) h))

-- a call that returns *begun* leaves a try that has counted none
accepted_begun : (k : RateController) (c : Call) → T (accepted k c).begun → (r : Rung) × ((accepted k c).controller.state.core.trying ≡ try_of r 0 0)
unfolding accepted observe_frames
accepted_begun k (Frames [] snr) h = absurd h
accepted_begun k (Frames (f ∷ fs) snr) h = decide_begun k.table k.prices (inside k.table k.prices k.state (f ∷ fs) snr) h
accepted_begun k (Echo share snr) h = absurd h
accepted_begun k (Silence steps) h = absurd h
accepted_begun k (Snr snr) h = absurd h
accepted_begun k (Seed snr) h = absurd h
accepted_begun k (Price floor ordinary gap bursts) h = absurd h
accepted_begun k (Family own other) h = absurd h

step_begun : (k : RateController) (c : Call) → T (step k c).begun → (r : Rung) × ((step k c).controller.state.core.trying ≡ try_of r 0 0)
step_begun k c = by_verdict k c (λ (a : Answer). T a.begun → (r : Rung) × (a.controller.state.core.trying ≡ try_of r 0 0)) (λ e. accepted_begun k c) (λ why h. absurd h)

-- "A try has ended by the sixth later accepted call that carries frames."
pub tries_end : (k : RateController) (c : Call) (later : List Call) → T (step k c).begun → 6 ≤ frame_calls (step k c).controller later → T (some_ended (step k c).controller later)
tries_end k c later b h =
    let s = step_begun k c b in
    lasts later (step k c).controller s.0 0 0 s.1 (omega arith) (omega arith)

-- ---- the marks tell whether a try runs: w before, n after, b *begun*
told : (w b n : Bool) → (T b → T n) → (T n → T (b || w)) → n ≡ (b || w && not (w && (b || not n)))
told w true true f g = refl
told w true false f g = absurd (f tt)
told true false true f g = refl
told true false false f g = refl
told false false true f g = absurd (g tt)
told false false false f g = refl

kept : (w : Bool) → w ≡ (false || w && not false)
kept true = refl
kept false = refl

rests_run : (y z : Trying) → (z ≡ None) ⊎ (z ≡ y) → T (runs z) → T (runs y)
rests_run y z (inl e) h = absurd (subst (λ (x : Trying). T (runs x)) e h)
rests_run y z (inr e) h = subst (λ (x : Trying). T (runs x)) e h

module _ (k : RateController) (fs : List Frame) (snr : Reading) where
  abbrev decided : Decided
  decided = decide k.table k.prices (inside k.table k.prices k.state fs snr)

  begun_runs : T decided.begun → T (runs decided.state.core.trying)
  begun_runs h =
      let q = decide_begun k.table k.prices (inside k.table k.prices k.state fs snr) h in
      subst (λ (y : Trying). T (runs y)) (sym q.1) tt

  begun_or_ran : (y : Trying) → k.state.core.trying ≡ y → T (runs decided.state.core.trying) → T (decided.begun || runs y)
  begun_or_ran None e h = or_here decided.begun false (go decided.begun (runs decided.state.core.trying) (frames_idle k.table k.prices k.state fs snr e) h)
    where
      go : (a b : Bool) → T (a || not b) → T b → T a
      go true b g h = tt
      go false true g h = g
      go false false g h = h
  begun_or_ran (Some y) e h = or_there decided.begun true tt

accepted_tells : (k : RateController) (c : Call) → runs (accepted k c).controller.state.core.trying ≡ ((accepted k c).begun || runs k.state.core.trying && not (accepted k c).ended)
unfolding accepted observe_frames silent
accepted_tells k (Frames [] snr) = told (runs k.state.core.trying) false (runs k.state.core.trying) (λ h. absurd h) (λ h. h)
accepted_tells k (Frames (f ∷ fs) snr) =
    let d = decided k (f ∷ fs) snr in
    told (runs k.state.core.trying) d.begun (runs d.state.core.trying) (begun_runs k (f ∷ fs) snr) (begun_or_ran k (f ∷ fs) snr k.state.core.trying refl)
accepted_tells k (Echo share snr) =
    let z = (observe_echo k.table k.prices k.state share snr).core.trying in
    told (runs k.state.core.trying) false (runs z) (λ h. absurd h) (rests_run k.state.core.trying z (echo_rests k.table k.prices k.state share snr))
accepted_tells k (Silence steps) = told (runs k.state.core.trying) false false (λ h. h) (λ h. absurd h)
accepted_tells k (Snr snr) = told (runs k.state.core.trying) false (runs k.state.core.trying) (λ h. absurd h) (λ h. h)
accepted_tells k (Seed snr) =
    let z = (seed k.table k.prices k.state snr).core.trying in
    told (runs k.state.core.trying) false (runs z) (λ h. absurd h) (rests_run k.state.core.trying z (inr (seed_keeps_try k.table k.prices k.state snr)))
accepted_tells k (Price floor ordinary gap bursts) = kept (runs k.state.core.trying)
accepted_tells k (Family own other) = kept (runs k.state.core.trying)

step_tells : (k : RateController) (c : Call) → runs (step k c).controller.state.core.trying ≡ ((step k c).begun || runs k.state.core.trying && not (step k c).ended)
step_tells k c =
    by_verdict k c (λ (a : Answer). runs a.controller.state.core.trying ≡ (a.begun || runs k.state.core.trying && not a.ended)) (λ e. accepted_tells k c) (λ why. kept (runs k.state.core.trying))

pub marks_tell : (calls : List Call) (k : RateController) (b : Bool) → runs k.state.core.trying ≡ b → runs (after k calls).state.core.trying ≡ runs_after b k calls
unfolding after runs_after
marks_tell [] k b e = e
marks_tell (c ∷ cs) k b e =
    marks_tell cs (step k c).controller ((step k c).begun || b && not (step k c).ended)
    (step_tells k c ∙ ap (λ (w : Bool). (step k c).begun || w && not (step k c).ended) e)

-- ---- *ended* is returned only where a try ran
accepted_ended : (k : RateController) (c : Call) → T (accepted k c).ended → T (runs k.state.core.trying)
unfolding accepted
accepted_ended k (Frames fs snr) h =
    let d = observe_frames k.table k.prices k.state fs snr in and_l (runs k.state.core.trying) (d.begun || not (runs d.state.core.trying)) h
accepted_ended k (Echo share snr) h = and_l (runs k.state.core.trying) (not (runs (observe_echo k.table k.prices k.state share snr).core.trying)) h
accepted_ended k (Silence steps) h = and_l (runs k.state.core.trying) (not (runs (silent k.table k.state steps).core.trying)) h
accepted_ended k (Snr snr) h = and_l (runs k.state.core.trying) (not (runs k.state.core.trying)) h
accepted_ended k (Seed snr) h = and_l (runs k.state.core.trying) (not (runs (seed k.table k.prices k.state snr).core.trying)) h
accepted_ended k (Price floor ordinary gap bursts) h = absurd h
accepted_ended k (Family own other) h = absurd h

pub step_ended : (k : RateController) (c : Call) → T (step k c).ended → T (runs k.state.core.trying)
step_ended k c = by_verdict k c (λ (a : Answer). T a.ended → T (runs k.state.core.trying)) (λ e. accepted_ended k c) (λ why h. absurd h)
