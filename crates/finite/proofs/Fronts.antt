-- The choice is a place of the front, and a try's rung stands at one: each step moves the place to one that it found among those that are there, or to 0,
-- and tries the rung of a place that is usable. Assumes nothing.
use mathlib.Core.Path.{refl}
use mathlib.Core.Bool.{Bool, not, ◌&&◌}
use mathlib.Core.List.{List, [], ◌∷◌}
use Prim.Native.Nat.{ℕ, zero, suc, ◌+◌, ◌-◌, ◌<◌, ◌≤◌}
use native.Mathlib.Omega.{arith}
use lib.Dec.{T, ltb, eqb, ltb→lt}
use lib.Ieee.{Float, lt}
use lib.Ieee.Fits.{and_l}
use Rattle.std.specs.Prelude.{None, Some}
use Rattle.std.proofs.lemmas.Bool.{cond_both}
use Rattle.std.proofs.lemmas.Float.{T_from_true}
use Rattle.limits.specs.Readings.{Reading}
use Rattle.ladder.specs.declared.types.Table.{Table}
use Rattle.ladder.specs.Types.{rung_at, place_count}
use Rattle.ladder.proofs.Cases.{pick}
use Rattle.account.specs.Fixed.{echo_floor}
use Rattle.account.specs.State.{Trying, choice, cancel_try, with_place, with_echo}
use Rattle.account.specs.declared.types.Prices.{Prices}
use Rattle.account.specs.declared.types.State.{State}
use Rattle.account.specs.Price.{value, lossless_price}
use Rattle.rules.specs.declared.types.Frame.{Frame}
use Rattle.rules.specs.Lowest.{Best, exceeds, improved, greatest, best_place}
use Rattle.rules.specs.Echo.{smooth_echo, echo_out, usable, end_if_out, echoed, observe_echo, highest, silent, seed, seed_at, observe_snr}
use Rattle.rules.specs.Booking.{booked}
use Rattle.rules.specs.Tries.{Decided, better, judge_try, judge_above, place_from, full_wait, won, end_probe, own_frames, try_over, counted, candidate, choose, above, begins, decide_try, decide_at, decide}
use Rattle.rules.specs.Transmission.{judged, inside, observe_frames}
use Rattle.rules.proofs.Kept.{above_kept}
use Rattle.finite.specs.Finite.{TriedAt, OnFront}

module _ (t : Table) where
  abbrev pub Stands : State → Type 0
  Stands s = OnFront t s.core

  -- ---- places that are found
  usable_below : (s : State) (i : ℕ) → T (usable t s i) → i < place_count t
  usable_below s i h = ltb→lt i (place_count t) (and_l (ltb i (place_count t)) (not (echo_out t s (rung_at t i))) h)

  abbrev Below : Best → Type 0
  Below None = Unit
  Below (Some b) = b.place.0 < place_count t

  greatest_below : (A : ℕ → Bool) (W : ℕ → Float) (n i : ℕ) (b : Best) → i + n ≤ place_count t → Below b → Below (greatest n i A W b)
  unfolding greatest
  greatest_below A W zero i b k h = h
  greatest_below A W (suc n) i b k h = greatest_below A W n (suc i) (improved A W i b) (omega arith) (pick Below (A i && exceeds (W i) b) (omega arith) h)

  best_below : (b : Best) → 0 < place_count t → Below b → best_place b < place_count t
  best_below None k h = k
  best_below (Some b) k h = h

  highest_below : (s : State) (i : ℕ) → 0 < place_count t → highest t s i < place_count t
  highest_below s zero k = k
  highest_below s (suc i) k =
      cond_both (usable t s (suc i)) _ _ (λ (j : ℕ). j < place_count t) (λ e. usable_below s (suc i) (T_from_true _ e)) (λ e. highest_below s i k)

  from_below : (n i r d : ℕ) → i + n ≤ place_count t → d < place_count t → place_from n i t r d < place_count t
  from_below zero i r d k h = h
  from_below (suc n) i r d k h = pick (λ (j : ℕ). j < place_count t) (eqb (rung_at t i) r) (omega arith) (from_below n (suc i) r d (omega arith) h)

  -- ---- one field anew
  some_place : (s : State) → Stands s → 0 < place_count t
  some_place s h = let k = h.place in omega arith

  placed : (s : State) (i : ℕ) → Stands s → i < place_count t → Stands (with_place s i)
  placed s i h k = record { place = k; tried = h.tried }

  untried : (s : State) → Stands s → Stands (cancel_try s)
  untried s h = record { place = h.place; tried = tt }

  pub snr_stands : (s : State) (x : Reading) → Stands s → Stands (observe_snr s x)
  snr_stands s x h = record { place = h.place; tried = h.tried }

  module _ (p : Prices) where
    -- ---- echo, seed, silence
    ended : (s : State) (y : Trying) → Stands s → Stands (end_if_out t s y)
    ended s None h = h
    ended s (Some y) h = pick Stands (echo_out t s y.rung.0) (untried s h) h

    echoed_stands : (s : State) → Stands s → Stands (echoed t p s)
    echoed_stands s h =
        let z = end_if_out t s s.core.trying in
        let l = ended s s.core.trying h in
        let k = l.place in
        let b = greatest z.core.place.0 0 (usable t z) (λ i. value t p z (rung_at t i)) None in
        pick Stands (echo_out t z (choice t z))
        (placed z (best_place b) l (best_below b (some_place z l) (greatest_below (usable t z) (λ i. value t p z (rung_at t i)) z.core.place.0 0 None (omega arith) tt))) l

    pub echo_stands : (s : State) (x snr : Float) → Stands s → Stands (observe_echo t p s (Some x) snr)
    unfolding observe_echo
    echo_stands s x snr h =
        pick Stands (lt snr echo_floor) h (echoed_stands (with_echo s (smooth_echo s.core.echo x)) (record { place = h.place; tried = h.tried }))

    pub seed_stands : (s : State) (snr : Float) → Stands s → Stands (seed t p s snr)
    unfolding seed
    seed_stands s snr h = go s.core.snr
      where
        go : (x : Reading) → Stands (seed_at t p s snr x)
        go None = record { place = best_below _ (some_place s h) (greatest_below (usable t s) _ (place_count t) 0 None (omega arith) tt); tried = h.tried }
        go (Some y) = h

    pub silent_stands : (s : State) (steps : ℕ) → Stands s → Stands (silent t s steps)
    unfolding silent
    silent_stands s steps h = record { place = highest_below s (s.core.place.0 - steps) (some_place s h); tried = tt }

    -- ---- a transmission
    judge_stands : (s : State) (r : ℕ) → Stands s → Stands (judge_try t p s r)
    unfolding judge_try
    judge_stands s r h = pick Stands (better t p s r) h h

    won_stands : (s : State) (r : ℕ) → Stands s → Stands (won t p s r)
    unfolding won full_wait
    won_stands s r h =
        let i = place_from (place_count t) 0 t r s.core.place.0 in
        let z = with_place s i in
        let k = placed s i h (from_below (place_count t) 0 r s.core.place.0 (omega arith) h.place) in pick Stands (usable t z (suc i)) k k

    end_stands : (s : State) (r frames : ℕ) → Stands s → Stands (end_probe t p s r frames)
    unfolding end_probe
    end_stands s r frames h =
        let j = judge_stands s r h in pick Stands (eqb frames 0) h (pick Stands (better t p s r) (won_stands (judge_try t p s r) r j) j)

    counted_stands : (n : ℕ) (s : State) (y : Trying) → Stands s → TriedAt t y → Stands (counted t p n s y)
    unfolding counted
    counted_stands n s None h k = h
    counted_stands n s (Some y) h k =
        pick Stands (try_over (y.frames + n) y.calls) (end_stands (cancel_try s) y.rung.0 (y.frames + n) (untried s h)) (record { place = h.place; tried = k })

    module _ (s : State) (fs : List Frame) (snr : Reading) (h : Stands s) where
      booked_stands : Stands (booked t (observe_snr s snr) fs)
      unfolding booked
      booked_stands = record { place = h.place; tried = h.tried }

      pub judging_stands : (n : ℕ) → Stands (judge_above n 0 t p fs (booked t (observe_snr s snr) fs))
      judging_stands n = above_kept t p Stands (record { wait = λ z r w k g. g; zeroed = λ z r g. g }) n 0 fs (booked t (observe_snr s snr) fs) booked_stands

      pub inside_stands : Stands (inside t p s fs snr)
      unfolding inside
      inside_stands =
          let b = judged t p (observe_snr s snr) fs in
          let k = judging_stands 32 in counted_stands (own_frames fs b.core.trying) b b.core.trying k k.tried

    tried_stands : (s : State) (y : Trying) → Stands s → Stands (decide_try t p s y).state
    tried_stands s None h =
        let up = suc s.core.place.0 in
        let two = usable t s up && lt (value t p s (choice t s)) (lossless_price t p (above t s)) in
        cond_both (begins t p s) _ _ (λ (d : Decided). Stands d.state)
        (λ e. record {
          place = h.place;
          tried = (
            up,
            usable_below s up (and_l (usable t s up) (lt (value t p s (choice t s)) (lossless_price t p (above t s)))
                (and_l two _ (T_from_true _ e))),
            refl,
          );
        })
        (λ e. h)
    tried_stands s (Some y) h = pick Stands (usable t s (suc s.core.place.0) && eqb (above t s) y.rung.0) h (untried s h)

    decide_stands : (s : State) → Stands s → Stands (decide t p s).state
    unfolding decide choose
    decide_stands s h = go (choose t p s) (greatest_below (candidate t s) (λ i. value t p s (rung_at t i)) (place_count t) 0 None (omega arith) tt)
      where
        go : (b : Best) → Below b → Stands (decide_at t p s b).state
        go None k = record { place = some_place s h; tried = tt }
        go (Some b) k = tried_stands (with_place s b.place.0) s.core.trying (placed s b.place.0 h k)

    pub frames_stand : (s : State) (fs : List Frame) (snr : Reading) → Stands s → Stands (observe_frames t p s fs snr).state
    unfolding observe_frames
    frames_stand s [] snr h = snr_stands s snr h
    frames_stand s (f ∷ fs) snr h = decide_stands (inside t p s (f ∷ fs) snr) (inside_stands s (f ∷ fs) snr h)
