-- Times since a try are at least 0 and waits are at most 48, for 32 rungs: a transmission keeps both, and no other step touches either. Assumes nothing.
use mathlib.Core.Path.{◌≡◌, refl, sym, ◌∙◌, subst}
use mathlib.Core.Bool.{not}
use mathlib.Core.List.{List}
use Prim.Native.Nat.{ℕ, zero, suc, ◌<◌}
use native.Mathlib.Omega.{arith}
use lib.Dec.{T, ltb, ltb→lt}
use lib.ListN.{length, get_or, set, length-set}
use lib.Ieee.{Float, binary64, of_bits, le}
use lib.Ieee.Fits.{and_l}
use Rattle.float.specs.Numbers.{◌⊕◌, f0}
use Rattle.float.proofs.Monotone.{natural, add_natural}
use Rattle.limits.specs.Readings.{Reading}
use Rattle.std.specs.Prelude.{None, Some}
use Rattle.ladder.specs.declared.types.Table.{Table}
use Rattle.ladder.specs.Types.{rung_at, rung_count, place_count}
use Rattle.ladder.proofs.Entries.{All, all_get, all_set}
use Rattle.ladder.proofs.TableSound.{TableSound}
use Rattle.account.specs.Fixed.{first_wait}
use Rattle.account.specs.State.{since_of, wait_of, with_since, with_wait}
use Rattle.account.specs.declared.types.Prices.{Prices}
use Rattle.account.specs.declared.types.State.{State}
use Rattle.account.specs.Price.{wait_s}
use Rattle.account.proofs.FullAir.{TariffSound, IsWait, seconds_natural}
use Rattle.rules.specs.Echo.{echo_out, usable, observe_echo, seed, observe_snr}
use Rattle.rules.specs.Booking.{Frame, call_air, passed, booked}
use Rattle.rules.specs.Transmission.{inside, observe_frames}
use Rattle.rules.proofs.Kept.{KeptByEcho, KeptBySteps, echo_kept, seed_kept, inside_kept, frames_kept}

-- over the two lists, so that a step on any other field keeps it as it stands
pub record Clock (since : List Float) (wait : List ℕ) : Type 0 where
  pub since_32 : length since ≡ 32
  pub wait_32 : length wait ≡ 32
  pub naturals : All natural since
  pub waits : All IsWait wait

abbrev pub Ticks : State → Type 0
Ticks s = Clock s.since s.wait

pub time_natural : (s : State) → Ticks s → (r : ℕ) → r < 32 → natural (since_of s r)
time_natural s h r k = all_get natural s.since r f0 h.naturals (subst (λ (n : ℕ). r < n) (sym h.since_32) k)

pub wait_is : (s : State) → Ticks s → (r : ℕ) → r < 32 → IsWait (wait_of s r)
wait_is s h r k = all_get IsWait s.wait r first_wait h.waits (subst (λ (n : ℕ). r < n) (sym h.wait_32) k)

pub zero_natural : natural f0
unfolding of_bits le
zero_natural = tt

set_since : (s : State) (r : ℕ) (x : Float) → Ticks s → natural x → Ticks (with_since s r x)
set_since s r x h n = record {
  since_32 = length-set s.since r x ∙ h.since_32;
  wait_32 = h.wait_32;
  naturals = all_set natural s.since r x h.naturals (λ g. n);
  waits = h.waits;
}

set_wait : (s : State) (r w : ℕ) → Ticks s → IsWait w → Ticks (with_wait s r w)
set_wait s r w h n = record {
  since_32 = h.since_32;
  wait_32 = length-set s.wait r w ∙ h.wait_32;
  naturals = h.naturals;
  waits = all_set IsWait s.wait r w h.waits (λ g. n);
}

passed_length : (n i : ℕ) (t : Table) (a : Float) (since : List Float) → length (passed n i t a since) ≡ length since
unfolding passed
passed_length zero i t a since = refl
passed_length (suc n) i t a since =
    let x = get_or since (rung_at t i) f0 ⊕ a in
    passed_length n (suc i) t a (set since (rung_at t i) x) ∙ length-set since (rung_at t i) x

passed_natural : (n i : ℕ) (t : Table) (a : Float) (since : List Float) → natural a → All natural since → All natural (passed n i t a since)
unfolding passed
passed_natural zero i t a since k h = h
passed_natural (suc n) i t a since k h =
    let x = get_or since (rung_at t i) f0 in
    passed_natural n (suc i) t a (set since (rung_at t i) (x ⊕ a)) k
    (all_set natural since (rung_at t i) (x ⊕ a) h (λ g. add_natural binary64 x a (all_get natural since (rung_at t i) f0 h g) k))

booked_ticks : (t : Table) (s : State) (fs : List Frame) → natural (call_air fs) → Ticks s → Ticks (booked t s fs)
unfolding booked
booked_ticks t s fs n h = record {
  since_32 = passed_length (place_count t) 0 t (call_air fs) s.since ∙ h.since_32;
  wait_32 = h.wait_32;
  naturals = passed_natural (place_count t) 0 t (call_air fs) s.since n h.naturals;
  waits = h.waits;
}

-- ---- a transmission
module _ (t : Table) (p : Prices) (ts : TableSound t) (ps : TariffSound p.tariff) where
  -- the full wait of a rung in the table, which one on the front is
  full_ticks : (s : State) → T (usable t s (suc s.core.place.0)) → Ticks s → let r = rung_at t (suc s.core.place.0) in Ticks (with_since s r (wait_s t p.tariff s r))
  full_ticks s u h =
      let up = suc s.core.place.0 in
      let r = rung_at t up in
      let there : r < rung_count t = ts.on_table up (ltb→lt up (place_count t) (and_l (ltb up (place_count t)) (not (echo_out t s r)) u)) in
      set_since s r (wait_s t p.tariff s r) h (seconds_natural t p.tariff s r ts ps there (wait_is s h r (omega arith)))

  ticks_kept : KeptBySteps t p Ticks
  ticks_kept = record {
    ending = record {
      judging = record { wait = λ s r w k h. set_wait s r w h k; zeroed = λ s r h. set_since s r f0 h zero_natural };
      place = λ s i h. h;
      full = full_ticks;
    };
    trying = λ s y h. h;
  }

  pub inside_ticks : (s : State) (fs : List Frame) (snr : Reading) → natural (call_air fs) → Ticks s → Ticks (inside t p s fs snr)
  inside_ticks s fs snr n h = inside_kept t p Ticks ticks_kept s fs snr (booked_ticks t (observe_snr s snr) fs n h)

  pub frames_ticks : (s : State) (fs : List Frame) (snr : Reading) → natural (call_air fs) → Ticks s → Ticks (observe_frames t p s fs snr).state
  frames_ticks s fs snr n h = frames_kept t p Ticks ticks_kept s fs snr h (booked_ticks t (observe_snr s snr) fs n h)

-- ---- the other steps leave the two lists
abbrev pub Untimed : State → State → Type 0
Untimed s z = (z.since ≡ s.since) × (z.wait ≡ s.wait)

untimed_kept : (s : State) → KeptByEcho (Untimed s)
untimed_kept s = record { place = λ z i h. h; cancelled = λ z h. h }

pub echo_untimed : (t : Table) (p : Prices) (s : State) (share : Reading) (snr : Float) → Untimed s (observe_echo t p s share snr)
unfolding observe_echo
echo_untimed t p s None snr = (refl, refl)
echo_untimed t p s (Some x) snr = echo_kept t p (Untimed s) (untimed_kept s) s x snr (refl, refl) (refl, refl)

pub seed_untimed : (t : Table) (p : Prices) (s : State) (snr : Float) → Untimed s (seed t p s snr)
seed_untimed t p s snr = seed_kept t p (Untimed s) (untimed_kept s) s snr (refl, refl) (refl, refl)
