-- What holds of every controller that a list of calls can leave: its table is one that was accepted, burst counts are at most 1,000, times since a try are at
-- least 0 and waits at most 48. A fresh one has it, and each step keeps it. Assumes nothing.
use mathlib.Core.Path.{◌≡◌, sym, subst, subst₂}
use mathlib.Core.Bool.{◌&&◌}
use mathlib.Core.List.{List, [], ◌∷◌}
use Prim.Native.Nat.{ℕ, ◌<◌, ◌≤◌, ◌-◌}
use native.Mathlib.Omega.{arith}
use lib.Dec.{T, leb, leb→le}
use lib.ListN.{length, get_or, replicate, length-replicate, get_or-append}
use lib.Ieee.Fits.{and_l, and_r}
use Rattle.float.specs.Numbers.{f0}
use Rattle.float.proofs.Monotone.{natural}
use Rattle.float.proofs.Sum.{Naturals, total_natural}
use Rattle.limits.specs.Values.{ok_air, ok_length, ok_bytes, ok_burst}
use Rattle.limits.specs.Refusals.{unless, or_else}
use Rattle.limits.specs.declared.refusal.Refusal.TheVariants.{UnknownRung, TooManyFrames, OutsideLimits, TooManyBursts}
use Rattle.std.specs.Prelude.{Ok}
use Rattle.limits.specs.Readings.{Reading, ok_snr}
use Rattle.ladder.specs.declared.types.Table.{Table}
use Rattle.ladder.specs.Lists.{every, filled}
use Rattle.ladder.specs.Types.{in_table}
use Rattle.ladder.proofs.Entries.{all_replicate, every_get}
use Rattle.limits.proofs.Verdicts.{or_else_lem, unless_not}
use Rattle.ladder.proofs.TableSound.{TableSound, made_sound}
use Rattle.account.proofs.FullAir.{TariffSound, IsWait, air_natural}
use Rattle.rules.specs.declared.types.Frame.{Frame}
use Rattle.rules.specs.Echo.{silent}
use Rattle.rules.specs.Booking.{airs, call_air}
use Rattle.rules.proofs.Clock.{Clock, Ticks, zero_natural, frames_ticks, echo_untimed, seed_untimed}
use Rattle.rate.specs.declared.types.RateController.{RateController}
use Rattle.rate.specs.declared.types.Answer.{Answer}
use Rattle.rules.specs.Check.{frame_verdict, first_bad}
use Rattle.rate.specs.Calls.{Call, Frames, Echo, Silence, Snr, Seed, Price, Family, verdict, accepted, step, after}
use Rattle.rate.specs.Fresh.{Fresh, fresh}
use Rattle.rate.proofs.Stepping.{by_verdict}

pub record Sound (k : RateController) : Type 0 where
  pub table : TableSound k.table
  pub tariff : TariffSound k.prices.tariff
  pub ticks : Ticks k.state

-- ---- what is accepted
pub frame_ok : (t : Table) (f : Frame) → frame_verdict t f ≡ Ok tt → T (ok_air f.air) × T (ok_bytes f.capacity)
frame_ok t f e =
    let ok = ok_air f.air && ok_bytes f.capacity in
    let h = unless_not ok OutsideLimits (or_else_lem (unless (in_table t f.rung.0) UnknownRung) (unless ok OutsideLimits) e).1 in
    (and_l (ok_air f.air) (ok_bytes f.capacity) h, and_r (ok_air f.air) (ok_bytes f.capacity) h)

frames_natural : (t : Table) (fs : List Frame) → first_bad t fs ≡ Ok tt → Naturals (airs fs)
frames_natural t [] e = tt
frames_natural t (f ∷ fs) e =
    let a = or_else_lem (frame_verdict t f) (first_bad t fs) e in (air_natural f.air (frame_ok t f a.0).0, frames_natural t fs a.1)

pub call_natural : (t : Table) (fs : List Frame) (snr : Reading) → verdict t (Frames fs snr) ≡ Ok tt → natural (call_air fs)
unfolding verdict
call_natural t fs snr e =
    let last = unless (ok_snr snr) OutsideLimits in
    let a = or_else_lem (unless (leb (length fs) 256) TooManyFrames) (or_else (first_bad t fs) last) e in
    total_natural (airs fs) f0 (frames_natural t fs (or_else_lem (first_bad t fs) last a.1).0) zero_natural

bursts_small : (bursts : List ℕ) → T (every ok_burst bursts) → (r : ℕ) → r < length bursts → get_or (filled 0 bursts) r 0 ≤ 1000
bursts_small bursts h r k =
    subst (λ (n : ℕ). n ≤ 1000) (sym (get_or-append bursts (replicate (32 - length bursts) 0) 0 r k)) (leb→le (get_or bursts r 0) 1000 (every_get ok_burst bursts r 0 h k))

-- ---- every step keeps it
accepted_sound : (k : RateController) (c : Call) → verdict k.table c ≡ Ok tt → Sound k → Sound (accepted k c).controller
unfolding verdict accepted silent
accepted_sound k (Frames fs snr) e h = record {
  table = h.table;
  tariff = h.tariff;
  ticks = frames_ticks k.table k.prices h.table h.tariff k.state fs snr (call_natural k.table fs snr e) h.ticks;
}
accepted_sound k (Echo share snr) e h = record {
  table = h.table;
  tariff = h.tariff;
  ticks = let q = echo_untimed k.table k.prices k.state share snr in subst₂ Clock (sym q.0) (sym q.1) h.ticks;
}
accepted_sound k (Silence steps) e h = record { table = h.table; tariff = h.tariff; ticks = h.ticks }
accepted_sound k (Snr snr) e h = record { table = h.table; tariff = h.tariff; ticks = h.ticks }
accepted_sound k (Seed snr) e h = record {
  table = h.table;
  tariff = h.tariff;
  ticks = let q = seed_untimed k.table k.prices k.state snr in subst₂ Clock (sym q.0) (sym q.1) h.ticks;
}
accepted_sound k (Price floor ordinary gap bursts) e h =
    let a = ok_length floor && ok_length ordinary && ok_length gap in
    let ok = a && every ok_burst bursts in
    let b = unless_not ok OutsideLimits (or_else_lem (unless ok OutsideLimits) (unless (leb (length bursts) 32) TooManyBursts) e).0 in
    record { table = h.table; tariff = bursts_small bursts (and_r a (every ok_burst bursts) b); ticks = h.ticks }
accepted_sound k (Family own other) e h = record { table = h.table; tariff = h.tariff; ticks = h.ticks }

pub step_sound : (k : RateController) (c : Call) → Sound k → Sound (step k c).controller
step_sound k c h = by_verdict k c (λ (a : Answer). Sound a.controller) (λ e. accepted_sound k c e h) (λ why. h)

pub after_sound : (calls : List Call) (k : RateController) → Sound k → Sound (after k calls)
unfolding after
after_sound [] k h = h
after_sound (c ∷ cs) k h = after_sound cs (step k c).controller (step_sound k c h)

-- ---- and a fresh one has it
pub fresh_sound : (k : RateController) → Fresh k → Sound k
fresh_sound k (fresh c wide e) = record {
  table = made_sound c wide e;
  tariff = tt;
  ticks = record {
    since_32 = length-replicate 32 f0;
    wait_32 = length-replicate {A = ℕ} 32 6;
    naturals = all_replicate natural 32 f0 zero_natural;
    waits = all_replicate IsWait 32 6 (omega arith);
  };
}
