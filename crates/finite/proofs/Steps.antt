-- Every step on a state keeps its numbers within their bounds: smoothing mixes two readings of one range, and a time is set to 0.0 or to a full wait. Assumes nothing.
use mathlib.Core.List.{List}
use Prim.Native.Nat.{ℕ, suc}
use native.Mathlib.Omega.{arith}
use lib.Dec.{T}
use lib.Ieee.{Float, of_bits, of_int, round, neg, add, mul, le}
use Rattle.float.specs.Numbers.{◌⊕◌, ◌⊗◌, of_nat, f0}
use Rattle.limits.specs.Values.{ok_db, ok_share}
use Rattle.limits.specs.Readings.{Reading, ok_snr, ok_limit}
use Rattle.std.specs.Prelude.{None, Some}
use Rattle.ladder.specs.declared.types.Table.{Table}
use Rattle.ladder.specs.Types.{row, rung_at}
use Rattle.ladder.proofs.Entries.{All, all_set}
use Rattle.account.specs.Fixed.{first_wait, longest_wait, snr_old, snr_new, echo_old, echo_weight}
use Rattle.account.specs.State.{wait_of, with_since, with_wait, with_snr, with_echo}
use Rattle.account.specs.declared.types.Prices.{Prices}
use Rattle.account.specs.declared.types.State.{State}
use Rattle.account.specs.Price.{burst_or, full_air, wait_s}
use Rattle.account.proofs.FullAir.{IsWait, bursts_small}
use Rattle.rules.specs.declared.types.Frame.{Frame}
use Rattle.rules.specs.Tries.{judge_above}
use Rattle.rules.specs.Echo.{smooth_snr, smooth_echo, observe_echo, seed, observe_snr}
use Rattle.rules.specs.Booking.{booked}
use Rattle.rules.specs.Transmission.{inside, observe_frames}
use Rattle.rules.proofs.Kept.{KeptByEcho, KeptByJudging, KeptBySteps, echo_kept, seed_kept, above_kept, inside_kept, frames_kept}
use Rattle.finite.proofs.Ranges.{Range, ◌to◌, In, ◌⊠◌, scaled, sums, products, scales, sum_in, product_in, scaled_in, counts}
use Rattle.finite.proofs.Bounds.{decibels, air_times, shares, times, TableIn, TariffIn, tariff_sound, Held, all_any}
use Rattle.finite.proofs.Booking.{FrameIn, zero_time, booked_in}

-- ---- smoothing, by weights whose mix of a range stays in it
abbrev mixes : Float → Float → Range → Type 0
mixes old new a = T (scales old a (scaled old a)) × T (scales new a (scaled new a)) × T (sums (scaled old a) (scaled new a) a)

mixed_in : (old new : Float) (a : Range) (y x : Float) → mixes old new a → In a y → In a x → In a (old ⊗ y ⊕ new ⊗ x)
mixed_in old new a y x e h k =
    sum_in (scaled old a) (scaled new a) a (old ⊗ y) (new ⊗ x) (scaled_in old a (scaled old a) y h e.0) (scaled_in new a (scaled new a) x k e.1) e.2

-- the weights of both
mix_ends : mixes snr_old snr_new decibels × mixes echo_old echo_weight shares
unfolding of_bits neg add mul le
mix_ends = ((tt, tt, tt), (tt, tt, tt))

snr_in : (y x : Reading) → T (ok_snr y) → T (ok_snr x) → T (ok_snr (smooth_snr y x))
snr_in y None h k = h
snr_in None (Some x) h k = k
snr_in (Some y) (Some x) h k = mixed_in snr_old snr_new decibels y x mix_ends.0 h k

echo_in : (y : Reading) (x : Float) → T (ok_limit y) → T (ok_share x) → T (ok_limit (smooth_echo y x))
echo_in None x h k = k
echo_in (Some y) x h k = mixed_in echo_old echo_weight shares y x mix_ends.1 h k

-- ---- one field anew
set_snr : (s : State) (x : Reading) → Held s → T (ok_snr x) → Held (with_snr s x)
set_snr s x h k = record { accounts = h.accounts; since = h.since; wait = h.wait; snr = k; echo = h.echo; offsets = h.offsets }

set_echo : (s : State) (x : Reading) → Held s → T (ok_limit x) → Held (with_echo s x)
set_echo s x h k = record { accounts = h.accounts; since = h.since; wait = h.wait; snr = h.snr; echo = k; offsets = h.offsets }

set_since : (s : State) (r : ℕ) (x : Float) → Held s → In times x → Held (with_since s r x)
set_since s r x h k = record { accounts = h.accounts; since = all_set (In times) s.since r x h.since (λ g. k); wait = h.wait; snr = h.snr; echo = h.echo; offsets = h.offsets }

set_wait : (s : State) (r w : ℕ) → Held s → IsWait w → Held (with_wait s r w)
set_wait s r w h k = record { accounts = h.accounts; since = h.since; wait = all_set IsWait s.wait r w h.wait (λ g. k); snr = h.snr; echo = h.echo; offsets = h.offsets }

-- ---- readings
pub snr_held : (s : State) (x : Reading) → T (ok_snr x) → Held s → Held (observe_snr s x)
snr_held s x k h = set_snr s (smooth_snr s.core.snr x) h (snr_in s.core.snr x h.snr k)

held_echo : KeptByEcho Held
held_echo = record { place = λ s i h. h; cancelled = λ s h. h }

pub echo_held : (t : Table) (p : Prices) (s : State) (x snr : Float) → T (ok_share x) → Held s → Held (observe_echo t p s (Some x) snr)
echo_held t p s x snr k h = echo_kept t p Held held_echo s x snr h (set_echo s (smooth_echo s.core.echo x) h (echo_in s.core.echo x h.echo k))

pub seed_held : (t : Table) (p : Prices) (s : State) (snr : Float) → T (ok_db snr) → Held s → Held (seed t p s snr)
seed_held t p s snr k h = seed_kept t p Held held_echo s snr h (set_snr s (Some snr) h k)

-- ---- a transmission
held_judging : KeptByJudging Held
held_judging = record { wait = λ s r w k h. set_wait s r w h k; zeroed = λ s r h. set_since s r f0 h zero_time }

-- a full wait: up to 48 transmissions of up to 1,000 frames
abbrev full_airs : Range
full_airs = (of_nat 0 to of_nat 1000) ⊠ air_times

wait_ends : T (products (of_nat 0 to of_nat 1000) air_times full_airs) × T (products (of_nat 0 to of_nat longest_wait) full_airs times)
unfolding of_bits of_int round mul le
wait_ends = (tt, tt)

module _ (t : Table) (p : Prices) (ts : TableIn t) (ps : TariffIn p.tariff) where
  pub wait_in : (s : State) (r : ℕ) → Held s → In times (wait_s t p.tariff s r)
  unfolding wait_s full_air
  wait_in s r h =
      let n = burst_or p.tariff r 1 in
      let x = (row t r).time in
      product_in (of_nat 0 to of_nat longest_wait) full_airs times (of_nat (wait_of s r)) (of_nat n ⊗ x)
      (counts 0 (wait_of s r) longest_wait (omega arith) (all_any IsWait s.wait r first_wait h.wait (omega arith)))
      (product_in (of_nat 0 to of_nat 1000) air_times full_airs (of_nat n) x (counts 0 n 1000 (omega arith) (bursts_small p.tariff (tariff_sound p.tariff ps) r 1 (omega arith))) (ts.rows r).time wait_ends.0)
      wait_ends.1

  held_steps : KeptBySteps t p Held
  held_steps = record {
    ending = record {
      judging = held_judging;
      place = λ s i h. h;
      full = λ s u h. let r = rung_at t (suc s.core.place.0) in set_since s r (wait_s t p.tariff s r) h (wait_in s r h);
    };
    trying = λ s y h. h;
  }

  module _ (s : State) (fs : List Frame) (snr : Reading) (k : All FrameIn fs) (x : T (ok_snr snr)) (h : Held s) where
    booked_held : Held (booked t (observe_snr s snr) fs)
    booked_held = booked_in t ts (observe_snr s snr) fs k (snr_held s snr x h)

    pub judging_held : (n : ℕ) → Held (judge_above n 0 t p fs (booked t (observe_snr s snr) fs))
    judging_held n = above_kept t p Held held_judging n 0 fs (booked t (observe_snr s snr) fs) booked_held

    pub inside_held : Held (inside t p s fs snr)
    inside_held = inside_kept t p Held held_steps s fs snr booked_held

    pub frames_held : Held (observe_frames t p s fs snr).state
    frames_held = frames_kept t p Held held_steps s fs snr (snr_held s snr x h) booked_held
