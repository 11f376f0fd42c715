-- A frame call with no try before or after it, at the same choice, and with no frame at the rung above: that rung's time rises by the call's air, its wait stays,
-- and where its lossless price beats the choice's value it was not due. Assumes nothing.
use mathlib.Core.Path.{◌≡◌, refl, sym, ap, ◌∙◌, subst}
use mathlib.Core.Bool.{Bool, true, false, not, ◌&&◌, ◌||◌, cond}
use mathlib.Core.List.{List}
use mathlib.Core.Logic.{◌⊎◌, inl, inr, ◌≢◌}
use Prim.Native.Nat.{ℕ, zero, suc, ◌+◌, ◌<◌, ◌≤◌}
use native.Mathlib.Nat.{zero-add, eq-or-lt_of_le}
use native.Mathlib.Omega.{arith}
use lib.Dec.{T, leb, ltb, ltb→lt, le→leb}
use lib.ListN.{length, get_or, set, length-set}
use lib.Seq.{get_or-set_other, get_or-set_same}
use lib.Ieee.{Float, lt}
use lib.Ieee.Fits.{and_l, and_i}
use Rattle.float.specs.Numbers.{◌⊕◌, f0}
use Rattle.limits.specs.Readings.{Reading}
use Rattle.ladder.specs.declared.types.Table.{Table}
use Rattle.ladder.specs.Types.{rung_at, place_count}
use lib.Ieee.Bits.{is_false}
use Rattle.std.proofs.lemmas.Bool.{cond_both, or_parts}
use Rattle.std.proofs.lemmas.Float.{T_from_true}
use Rattle.ladder.proofs.Cases.{pick, or_here, and_rest}
use Rattle.ladder.proofs.TableSound.{TableSound}
use Rattle.account.specs.State.{Trying, since_of, wait_of, choice, with_place}
use Rattle.std.specs.Prelude.{None, Some}
use Rattle.account.specs.declared.types.Prices.{Prices}
use Rattle.account.specs.declared.types.State.{State}
use Rattle.account.specs.Price.{estimate_at, value, lossless_price, wait_s}
use Rattle.rules.specs.Lowest.{Best}
use Rattle.rules.specs.Echo.{echo_out, usable, observe_snr}
use Rattle.rules.specs.Booking.{Frame, sent, call_air, passed, booked}
use Rattle.rules.specs.Tries.{better, judge_try, to_judge, judge_if_sent, judge_above, tries, own_frames, counted, candidate, choose, waited, clean_climb, begins, begin, still, decide_try, decide_at, decide}
use Rattle.rules.specs.Transmission.{judged, inside}
use Rattle.rules.proofs.LowestFound.{finds}
use Rattle.rules.proofs.Trying.{judged_keeps_try}

-- ---- judging other rungs leaves a rung's time and wait, and the choice
record Apart (u : ℕ) (s z : State) : Type 0 where
  time : since_of z u ≡ since_of s u
  wait : wait_of z u ≡ wait_of s u
  place : z.core.place.0 ≡ s.core.place.0

apart_self : (u : ℕ) (s : State) → Apart u s s
apart_self u s = record { time = refl; wait = refl; place = refl }

judge_apart : (t : Table) (p : Prices) (s : State) (r u : ℕ) → u ≢ r → Apart u s (judge_try t p s r)
unfolding judge_try
judge_apart t p s r u n =
    pick (Apart u s) (better t p s r)
    (record { time = refl; wait = get_or-set_other s.wait r u 6 6 n; place = refl })
    (record { time = get_or-set_other s.since r u f0 f0 n; wait = get_or-set_other s.wait r u _ 6 n; place = refl })

sent_apart : (t : Table) (p : Prices) (fs : List Frame) (s : State) (r u : ℕ) → T (not (sent fs u)) → Apart u s (judge_if_sent t p fs s r)
unfolding judge_if_sent
sent_apart t p fs s r u h =
    let b = ltb (choice t s) r in
    let d = not (tries s.core.trying r) in
    cond_both (to_judge t s fs r) _ _ (Apart u s)
    (λ e. judge_apart t p s r u (λ (q : u ≡ r).
    subst T (is_false (sent fs r) (subst (λ (m : ℕ). T (not (sent fs m))) q h)) (and_l (sent fs r) b (and_l (sent fs r && b) d (T_from_true _ e)))))
    (λ e. apart_self u s)

above_apart : (n r : ℕ) (t : Table) (p : Prices) (fs : List Frame) (s : State) (u : ℕ) → T (not (sent fs u)) → Apart u s (judge_above n r t p fs s)
unfolding judge_above
above_apart zero r t p fs s u h = apart_self u s
above_apart (suc n) r t p fs s u h =
    let z = judge_if_sent t p fs s r in
    let a = sent_apart t p fs s r u h in
    let b = above_apart n (suc r) t p fs z u h in
    record { time = b.time ∙ a.time; wait = b.wait ∙ a.wait; place = b.place ∙ a.place }

-- ---- the rung u of place j gets the air once: at j, and at no other place
module _ (t : Table) (ts : TableSound t) (a : Float) (j : ℕ) (h : j < place_count t) where
  abbrev time_at : List Float → Float
  time_at since = get_or since (rung_at t j) f0

  other : (i : ℕ) → i < place_count t → j ≢ i → rung_at t j ≢ rung_at t i
  other i k n e = n (ts.once j i h k e)

  passed_other : (n i : ℕ) (since : List Float) → j < i → i + n ≤ place_count t → time_at (passed n i t a since) ≡ time_at since
  unfolding passed
  passed_other zero i since g k = refl
  passed_other (suc n) i since g k =
      passed_other n (suc i) (set since (rung_at t i) (get_or since (rung_at t i) f0 ⊕ a)) (omega arith) (omega arith)
      ∙ get_or-set_other since (rung_at t i) (rung_at t j) _ f0 (other i (omega arith) (omega arith))

  passed_time : (n i : ℕ) (since : List Float) → i ≤ j → j < i + n → i + n ≤ place_count t → rung_at t j < length since → time_at (passed n i t a since) ≡ time_at since ⊕ a
  unfolding passed
  passed_time zero i since g k m l = absurd (omega arith)
  passed_time (suc n) i since g k m l =
      go (eq-or-lt_of_le g) (λ (q : i < j). passed_time n (suc i) next (omega arith) (omega arith) (omega arith) (subst (λ (z : ℕ). rung_at t j < z) (sym (length-set since (rung_at t i) (get_or since (rung_at t i) f0 ⊕ a))) l))
    where
      next : List Float
      next = set since (rung_at t i) (get_or since (rung_at t i) f0 ⊕ a)

      go : (i ≡ j) ⊎ (i < j) → (i < j → time_at (passed n (suc i) t a next) ≡ time_at next ⊕ a) → time_at (passed n (suc i) t a next) ≡ time_at since ⊕ a
      go (inl e) f =
          passed_other n (suc i) next (omega arith) (omega arith)
          ∙ subst (λ (z : ℕ). get_or (set since (rung_at t z) (get_or since (rung_at t z) f0 ⊕ a)) (rung_at t j) f0 ≡ time_at since ⊕ a) (sym e) (get_or-set_same since (rung_at t j) (time_at since ⊕ a) f0 l)
      go (inr q) f = f q ∙ ap (λ (x : Float). x ⊕ a) (get_or-set_other since (rung_at t i) (rung_at t j) _ f0 (other i (omega arith) (omega arith)))

-- ---- the state that `decide` is given
pub record Given (u : ℕ) (a : Float) (s z : State) : Type 0 where
  pub time : since_of z u ≡ since_of s u ⊕ a
  pub wait : wait_of z u ≡ wait_of s u
  pub place : z.core.place.0 ≡ s.core.place.0
  pub trying : z.core.trying ≡ None

counted_nothing : (t : Table) (p : Prices) (n : ℕ) (s : State) (y : Trying) → y ≡ None → counted t p n s y ≡ s
unfolding counted
counted_nothing t p n s y e = ap (counted t p n s) e

pub inside_given : (t : Table) → TableSound t → (p : Prices) (s : State) (fs : List Frame) (snr : Reading) (j : ℕ) → j < place_count t → rung_at t j < length s.since → s.core.trying ≡ None
    → T (not (sent fs (rung_at t j))) → Given (rung_at t j) (call_air fs) s (inside t p s fs snr)
unfolding inside booked
inside_given t ts p s fs snr j h k e n =
    let u = rung_at t j in
    let b = judged t p (observe_snr s snr) fs in
    let a = above_apart 32 0 t p fs (booked t (observe_snr s snr) fs) u n in
    let y : b.core.trying ≡ None = judged_keeps_try t p (observe_snr s snr) fs ∙ e in
    subst (λ (z : State). Given u (call_air fs) s z) (sym (counted_nothing t p (own_frames fs b.core.trying) b b.core.trying y))
    (record {
      time = a.time ∙ passed_time t ts (call_air fs) j h (place_count t) 0 s.since (omega arith) (omega arith) (omega arith) k;
      wait = a.wait;
      place = a.place;
      trying = y;
    })

-- ---- `decide`
value_place : (t : Table) (p : Prices) (q : State) (j r : ℕ) → value t p (with_place q j) r ≡ value t p q r
unfolding value estimate_at
value_place t p q j r = refl

-- what it leaves in a run, of the choice i
pub record Stays (t : Table) (i : ℕ) (z : State) : Type 0 where
  pub place : z.core.place.0 ≡ i
  pub no_try : z.core.trying ≡ None
  pub choice_allowed : T (usable t z i)
  pub above_allowed : T (usable t z (suc i))

-- what that tells
pub record Waits (t : Table) (p : Prices) (i : ℕ) (q z : State) : Type 0 where
  pub since : z.since ≡ q.since
  pub wait : z.wait ≡ q.wait
  pub not_due : waited t p q (rung_at t (suc i)) ≡ false

module _ (t : Table) (p : Prices) (i : ℕ) (q : State) (here : q.core.place.0 ≡ i) (idle : q.core.trying ≡ None)
    (beaten : T (lt (value t p q (rung_at t i)) (lossless_price t p (rung_at t (suc i))))) where
  -- the choice itself is a candidate, so one is found
  never_none : T (usable t q i) → choose t p q ≢ None
  unfolding choose
  never_none h =
      finds (place_count t) 0 (candidate t q) (λ (j : ℕ). value t p q (rung_at t j)) i (omega arith)
      (subst (λ (n : ℕ). i < n) (sym (zero-add (place_count t))) (ltb→lt i (place_count t) (and_l (ltb i (place_count t)) (not (echo_out t q (rung_at t i))) h)))
      (and_i (usable t q i) _ h (or_here (leb i q.core.place.0) _ (le→leb i q.core.place.0 (omega arith))))

  -- no try begins: of the three conditions it is the wait that fails
  short : (j : ℕ) → j ≡ i → T (usable t q (suc i)) → begins t p (with_place q j) ≡ false → waited t p q (rung_at t (suc i)) ≡ false
  unfolding wait_s
  short j e h b =
      let m = with_place q j in
      let u = rung_at t (suc j) in
      let one = usable t m (suc j) in
      let two = lt (value t p m (rung_at t j)) (lossless_price t p u) in
      let there : T one = subst (λ (n : ℕ). T (usable t q (suc n))) (sym e) h in
      let won : T two = rw (value_place t p q j (rung_at t j)) (subst (λ (n : ℕ). T (lt (value t p q (rung_at t n)) (lossless_price t p (rung_at t (suc n))))) (sym e) beaten) in
      subst (λ (n : ℕ). waited t p q (rung_at t (suc n)) ≡ false) e
      ((or_parts (waited t p m u) (clean_climb t p m u) (and_rest (one && two) (waited t p m u || clean_climb t p m u) (and_i one two there won) b)).0)

  pub decide_waits : Stays t i (decide t p q).state → Waits t p i q (decide t p q).state
  unfolding decide
  decide_waits = go (choose t p q) refl
    where
      begun : (j : ℕ) (b : Bool) → begins t p (with_place q j) ≡ b → Stays t i (cond b (begin t (with_place q j)) (still (with_place q j))).state
          → Waits t p i q (cond b (begin t (with_place q j)) (still (with_place q j))).state
      begun j true e h = let n = h.no_try in let z : ◌≡◌ {A = ℕ} 0 1 = cc in absurd (omega arith)
      begun j false e h = record { since = refl; wait = refl; not_due = short j h.place h.above_allowed e }

      tried : (j : ℕ) (y : Trying) → y ≡ None → Stays t i (decide_try t p (with_place q j) y).state → Waits t p i q (decide_try t p (with_place q j) y).state
      tried j None e h = begun j (begins t p (with_place q j)) refl h
      tried j (Some y) e h = let z : ◌≡◌ {A = ℕ} 0 1 = cc in absurd (omega arith)

      go : (b : Best) → choose t p q ≡ b → Stays t i (decide_at t p q b).state → Waits t p i q (decide_at t p q b).state
      go None e h = absurd (never_none h.choice_allowed e)
      go (Some b) e h = tried b.place.0 q.core.trying idle h
