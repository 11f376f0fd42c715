-- What the steps make of a running try. A frame call ends it or leaves it with one call more, fewer than six; where none runs it leaves none or begins one, which
-- has counted nothing; any other step ends it or leaves it. Assumes nothing.
use mathlib.Core.Path.{◌≡◌, refl, sym, ◌∙◌, subst}
use mathlib.Core.Bool.{Bool, true, false, not, ◌&&◌, ◌||◌, cond}
use mathlib.Core.List.{List}
use mathlib.Core.Logic.{◌⊎◌, inl, inr}
use Prim.Native.Nat.{ℕ, suc, ◌+◌, ◌<◌}
use native.Mathlib.Omega.{arith}
use borrow.Author.Tests.{leb-false}
use lib.Dec.{T, leb, eqb}
use lib.Ieee.{Float}
use Rattle.ladder.specs.declared.types.Rung.{Rung}
use Rattle.limits.specs.Readings.{Reading}
use Rattle.std.specs.Prelude.{None, Some}
use Rattle.ladder.specs.declared.types.Table.{Table}
use Rattle.ladder.specs.Types.{rung}
use Rattle.std.proofs.lemmas.Bool.{cond_both, or_parts}
use Rattle.ladder.proofs.Cases.{pick}
use Rattle.account.specs.Fixed.{try_frames, try_calls}
use Rattle.account.specs.State.{Trying, try_of, runs, with_trying, with_place}
use Rattle.account.specs.declared.types.Prices.{Prices}
use Rattle.account.specs.declared.types.State.{State}
use Rattle.rules.specs.Lowest.{Best}
use Rattle.rules.specs.Echo.{usable, observe_echo, seed, seed_at, observe_snr}
use Rattle.rules.specs.Booking.{Frame, booked}
use Rattle.rules.specs.Tries.{try_over, Decided, end_probe, own_frames, counted, begins, above, decide_try, decide_at, decide, choose}
use Rattle.rules.specs.Transmission.{judged, inside}
use Rattle.rules.proofs.Kept.{KeptByJudging, KeptByEnding, echo_kept, above_kept, end_kept}

-- ---- what leaves the try as it was
abbrev Same : Trying → State → Type 0
Same y z = z.core.trying ≡ y

judging_keeps : (y : Trying) → KeptByJudging (Same y)
judging_keeps y = record { wait = λ z r w k h. h; zeroed = λ z r h. h }

ending_keeps : (t : Table) (p : Prices) (y : Trying) → KeptByEnding t p (Same y)
ending_keeps t p y = record { judging = judging_keeps y; place = λ z i h. h; full = λ z u h. h }

pub judged_keeps_try : (t : Table) (p : Prices) (s : State) (fs : List Frame) → (judged t p s fs).core.trying ≡ s.core.trying
unfolding booked
judged_keeps_try t p s fs = above_kept t p (Same s.core.trying) (judging_keeps s.core.trying) 32 0 fs (booked t s fs) refl

end_keeps_try : (t : Table) (p : Prices) (s : State) (r frames : ℕ) → (end_probe t p s r frames).core.trying ≡ s.core.trying
end_keeps_try t p s r frames = end_kept t p (Same s.core.trying) (ending_keeps t p s.core.trying) s r frames refl

pub seed_keeps_try : (t : Table) (p : Prices) (s : State) (snr : Float) → (seed t p s snr).core.trying ≡ s.core.trying
unfolding seed
seed_keeps_try t p s snr = go s.core.snr
  where
    go : (x : Reading) → (seed_at t p s snr x).core.trying ≡ s.core.trying
    go None = refl
    go (Some y) = refl

-- ---- an echo reading ends the try or leaves it
pub echo_rests : (t : Table) (p : Prices) (s : State) (share : Reading) (snr : Float) → let z = observe_echo t p s share snr in (z.core.trying ≡ None) ⊎ (z.core.trying ≡ s.core.trying)
unfolding observe_echo
echo_rests t p s None snr = inr refl
echo_rests t p s (Some x) snr = echo_kept t p Rests (record { place = λ z i h. h; cancelled = λ z h. inl refl }) s x snr (inr refl) (inr refl)
  where
    Rests : State → Type 0
    Rests z = (z.core.trying ≡ None) ⊎ (z.core.trying ≡ s.core.trying)

-- ---- a frame call counts: the try is over, or has so many calls, fewer than six
abbrev pub Goes : Rung → ℕ → Trying → Type 0
Goes r calls y = (frames : ℕ) × (y ≡ try_of r calls frames) × (calls < try_calls)

abbrev Counted : Rung → ℕ → Trying → Type 0
Counted r calls y = (y ≡ None) ⊎ Goes r calls y

count : (t : Table) (p : Prices) (n : ℕ) (s : State) (r : Rung) (calls frames : ℕ) → Counted r (suc calls) (counted t p n s (try_of r calls frames)).core.trying
unfolding counted
count t p n s r calls frames =
    cond_both (try_over (frames + n) calls) _ _ (λ (z : State). Counted r (suc calls) z.core.trying)
    (λ e. inl (end_keeps_try t p (with_trying s None) r.0 (frames + n)))
    (λ e. inr (frames + n, refl, leb-false try_calls (suc calls) (or_parts (leb try_frames (frames + n)) (leb try_calls (suc calls)) e).1))

module _ (t : Table) (p : Prices) (s : State) (fs : List Frame) (snr : Reading) where
  inside_counts : (r : Rung) (calls frames : ℕ) → s.core.trying ≡ try_of r calls frames → Counted r (suc calls) (inside t p s fs snr).core.trying
  unfolding inside
  inside_counts r calls frames e =
      let b = judged t p (observe_snr s snr) fs in
      subst (λ (y : Trying). Counted r (suc calls) (counted t p (own_frames fs b.core.trying) b y).core.trying) (sym (judged_keeps_try t p (observe_snr s snr) fs ∙ e))
      (count t p (own_frames fs b.core.trying) b r calls frames)

  inside_nothing : s.core.trying ≡ None → (inside t p s fs snr).core.trying ≡ None
  unfolding inside counted
  inside_nothing e =
      let b = judged t p (observe_snr s snr) fs in
      let h : b.core.trying ≡ None = judged_keeps_try t p (observe_snr s snr) fs ∙ e in
      subst (λ (y : Trying). (counted t p (own_frames fs b.core.trying) b y).core.trying ≡ None) (sym h) h

-- ---- and `decide` then
-- the try that ran before does not run on
abbrev pub Off : Decided → Type 0
Off d = T (d.begun || not (runs d.state.core.trying))

module _ (t : Table) (p : Prices) where
  tried_idle : (s : State) (y : Trying) → s.core.trying ≡ y → y ≡ None → Off (decide_try t p s y)
  tried_idle s None h e = pick Off (begins t p s) tt (subst (λ (z : Trying). T (false || not (runs z))) (sym h) tt)
  tried_idle s (Some y) h e = let z : ◌≡◌ {A = ℕ} 0 1 = cc in absurd (omega arith)

  tried_running : (s : State) (y : Trying) → s.core.trying ≡ y → Off (decide_try t p s y) ⊎ ((decide_try t p s y).state.core.trying ≡ y)
  tried_running s None h = inl (tried_idle s None h refl)
  tried_running s (Some y) h = go (usable t s (suc s.core.place.0) && eqb (above t s) y.rung.0)
    where
      go : (b : Bool) → let z = cond b s (with_trying s None) in T (false || not (runs z.core.trying)) ⊎ (z.core.trying ≡ try_of y.rung y.calls y.frames)
      go true = inr h
      go false = inl tt

  tried_begun : (s : State) (y : Trying) → T (decide_try t p s y).begun → (r : Rung) × ((decide_try t p s y).state.core.trying ≡ try_of r 0 0)
  tried_begun s None = pick (λ (d : Decided). T d.begun → (r : Rung) × (d.state.core.trying ≡ try_of r 0 0)) (begins t p s) (λ h. (rung (above t s), refl)) (λ h. absurd h)
  tried_begun s (Some y) = λ h. absurd h

  decide_idle : (s : State) → s.core.trying ≡ None → Off (decide t p s)
  unfolding decide
  decide_idle s e = go (choose t p s)
    where
      go : (b : Best) → Off (decide_at t p s b)
      go None = tt
      go (Some b) = tried_idle (with_place s b.place.0) s.core.trying refl e

  decide_running : (s : State) → Off (decide t p s) ⊎ ((decide t p s).state.core.trying ≡ s.core.trying)
  unfolding decide
  decide_running s = go (choose t p s)
    where
      go : (b : Best) → Off (decide_at t p s b) ⊎ ((decide_at t p s b).state.core.trying ≡ s.core.trying)
      go None = inl tt
      go (Some b) = tried_running (with_place s b.place.0) s.core.trying refl

  pub decide_begun : (s : State) → T (decide t p s).begun → (r : Rung) × ((decide t p s).state.core.trying ≡ try_of r 0 0)
  unfolding decide
  decide_begun s = go (choose t p s)
    where
      go : (b : Best) → T (decide_at t p s b).begun → (r : Rung) × ((decide_at t p s b).state.core.trying ≡ try_of r 0 0)
      go None h = absurd h
      go (Some b) h = tried_begun (with_place s b.place.0) s.core.trying h

-- ---- a frame call, whole
module _ (t : Table) (p : Prices) (s : State) (fs : List Frame) (snr : Reading) where
  -- where none ran, one that runs was begun
  pub frames_idle : s.core.trying ≡ None → Off (decide t p (inside t p s fs snr))
  frames_idle e = decide_idle t p (inside t p s fs snr) (inside_nothing t p s fs snr e)

  -- one that ran does not run on, or has counted the call
  pub frames_running : (r : Rung) (calls frames : ℕ) → s.core.trying ≡ try_of r calls frames
      → let d = decide t p (inside t p s fs snr) in Off d ⊎ Goes r (suc calls) d.state.core.trying
  frames_running r calls frames e = go (inside_counts t p s fs snr r calls frames e) (decide_running t p (inside t p s fs snr))
    where
      q : State
      q = inside t p s fs snr

      d : Decided
      d = decide t p q

      go : Counted r (suc calls) q.core.trying → Off d ⊎ (d.state.core.trying ≡ q.core.trying) → Off d ⊎ Goes r (suc calls) d.state.core.trying
      go (inl h) k = inl (decide_idle t p q h)
      go (inr h) (inl k) = inl k
      go (inr h) (inr k) = inr (h.0, k ∙ h.1, h.2)
