-- Whatever calls a fresh controller is given, its numbers stay within their bounds: a fresh one has it, and each step keeps it. So every number is finite, and so is
-- all that is compared. Assumes nothing.
use mathlib.Core.Path.{◌≡◌}
use mathlib.Core.Bool.{Bool, ◌&&◌}
use mathlib.Core.List.{List, [], ◌∷◌}
use Prim.Native.Nat.{◌<◌, ◌≤◌}
use native.Mathlib.Omega.{arith}
use lib.Dec.{T, leb}
use lib.ListN.{length}
use lib.Ieee.{Float, of_bits, neg, sub, le}
use lib.Ieee.Fits.{and_l, and_r}
use Rattle.float.specs.Numbers.{◌⊖◌, f0}
use Rattle.limits.specs.Values.{ok_db, ok_share, ok_length, ok_burst}
use Rattle.limits.specs.Refusals.{unless, or_else}
use Rattle.limits.specs.declared.refusal.Refusal.TheVariants.{TooManyFrames, OutsideLimits, TooManyBursts}
use Rattle.std.specs.Prelude.{Ok, None, Some, Option}
use Rattle.limits.proofs.Verdicts.{or_else_lem, unless_not}
use Rattle.limits.specs.Readings.{Reading, ok_snr, ok_limit}
use Rattle.ladder.specs.declared.types.Table.{Table}
use Rattle.ladder.specs.Lists.{every}
use Rattle.ladder.specs.Types.{row, place_count}
use Rattle.ladder.specs.Tables.{Columns, table_verdict, front_of_columns, table_of, for_air}
use Rattle.ladder.proofs.Accepted.{accepted_columns}
use Rattle.ladder.proofs.Entries.{All, all_replicate}
use Rattle.account.specs.declared.types.Account.{Account}
use Rattle.account.specs.declared.types.Tariff.{Tariff}
use Rattle.account.specs.declared.types.State.{State}
use Rattle.account.specs.Fixed.{first_wait, wait_tolerance}
use Rattle.account.specs.State.{no_account, account, since_of}
use Rattle.account.specs.Price.{wait_s}
use Rattle.account.proofs.FullAir.{TariffSound, bursts_small, IsWait}
use Rattle.rules.specs.declared.types.Frame.{Frame}
use Rattle.rules.specs.Echo.{silent, observe_echo}
use Rattle.rules.specs.Check.{first_bad}
use Rattle.rate.specs.declared.types.RateController.{RateController}
use Rattle.rate.specs.declared.types.Answer.{Answer}
use Rattle.rate.specs.Calls.{Call, Frames, Echo, Silence, Snr, Seed, Price, Family, verdict, accepted, step, after}
use Rattle.rate.proofs.Stepping.{by_verdict}
use Rattle.rate.specs.Fresh.{Fresh, fresh}
use Rattle.waiting.proofs.Sound.{Sound, step_sound, fresh_sound}
use Rattle.finite.specs.Finite.{longest_time, Lies, LiesIn, TableLies, TariffLies, AccountLies, StateLies, OnFront, FiniteAt, Finite, AlwaysFinite}
use Rattle.finite.proofs.Ranges.{Range, ◌to◌, differences, difference_in, In, bounded, in_finite}
use Rattle.finite.proofs.Bounds.{decibels, air_times, account_bytes, account_air, account_frames, lengths, shares, margins, offsets, times, TableIn, TariffIn, AccountIn, Held, all_any, made_in}
use Rattle.finite.proofs.Values.{no_account_in, compared}
use Rattle.finite.proofs.Booking.{FrameIn, frames_in_lem, zero_time}
use Rattle.finite.proofs.Fronts.{snr_stands, echo_stands, seed_stands, silent_stands, judging_stands, inside_stands, frames_stand}
use Rattle.finite.proofs.Steps.{wait_in, snr_held, echo_held, seed_held, judging_held, inside_held, frames_held}

record Kept (k : RateController) : Type 0 where
  table : TableIn k.table
  tariff : TariffIn k.prices.tariff
  state : Held k.state
  front : OnFront k.table k.state.core

-- ---- what is accepted
frames_ok : (t : Table) (fs : List Frame) (snr : Reading) → verdict t (Frames fs snr) ≡ Ok tt → All FrameIn fs × T (ok_snr snr)
unfolding verdict
frames_ok t fs snr e =
    let last = unless (ok_snr snr) OutsideLimits in
    let a = or_else_lem (unless (leb (length fs) 256) TooManyFrames) (or_else (first_bad t fs) last) e in
    let b = or_else_lem (first_bad t fs) last a.1 in
    (frames_in_lem t fs b.0, unless_not (ok_snr snr) OutsideLimits b.1)

-- ---- every step keeps it; of the prices' burst counts `Sound` says it already
keep : (k : RateController) (s : State) → Kept k → Held s → OnFront k.table s.core → Kept (record { table = k.table; prices = k.prices; state = s })
keep k s h g f = record { table = h.table; tariff = h.tariff; state = g; front = f }

accepted_kept : (k : RateController) (c : Call) → verdict k.table c ≡ Ok tt → Kept k → TariffSound (accepted k c).controller.prices.tariff → Kept (accepted k c).controller
unfolding verdict accepted silent observe_echo
accepted_kept k (Frames fs snr) e h b = let ok = frames_ok k.table fs snr e in keep k _ h (frames_held k.table k.prices h.table h.tariff k.state fs snr ok.0 ok.1 h.state) (frames_stand k.table k.prices k.state fs snr h.front)
accepted_kept k (Echo None snr) e h b = h
accepted_kept k (Echo (Some x) snr) e h b =
    keep k _ h (echo_held k.table k.prices k.state x snr (and_l (ok_share x) (ok_db snr) (unless_not (ok_share x && ok_db snr) OutsideLimits e)) h.state)
    (echo_stands k.table k.prices k.state x snr h.front)
accepted_kept k (Silence steps) e h b = keep k _ h h.state (silent_stands k.table k.prices k.state steps h.front)
accepted_kept k (Snr snr) e h b = keep k _ h (snr_held k.state snr (unless_not (ok_snr snr) OutsideLimits e) h.state) (snr_stands k.table k.state snr h.front)
accepted_kept k (Seed snr) e h b = keep k _ h (seed_held k.table k.prices k.state snr (unless_not (ok_db snr) OutsideLimits e) h.state) (seed_stands k.table k.prices k.state snr h.front)
accepted_kept k (Price floor ordinary gap bursts) e h b =
    let two = ok_length floor && ok_length ordinary in
    let three = two && ok_length gap in
    let ok = three && every ok_burst bursts in
    let g = and_l three (every ok_burst bursts) (unless_not ok OutsideLimits (or_else_lem (unless ok OutsideLimits) (unless (leb (length bursts) 32) TooManyBursts) e).0) in
    let l = and_l two (ok_length gap) g in
    record {
      table = h.table;
      tariff = record { floor = and_l (ok_length floor) (ok_length ordinary) l; ordinary = and_r (ok_length floor) (ok_length ordinary) l; gap = and_r two (ok_length gap) g; bursts = b };
      state = h.state;
      front = h.front;
    }
accepted_kept k (Family own other) e h b = record { table = h.table; tariff = h.tariff; state = h.state; front = h.front }

step_kept : (k : RateController) (c : Call) → Sound k → Kept k → Kept (step k c).controller
step_kept k c s h =
    by_verdict k c (λ (a : Answer). Sound a.controller → Kept a.controller) (λ e g. accepted_kept k c e h g.tariff) (λ why g. h) (step_sound k c s)

after_kept : (calls : List Call) (k : RateController) → Sound k → Kept k → Kept (after k calls)
unfolding after
after_kept [] k s h = h
after_kept (c ∷ cs) k s h = after_kept cs (step k c).controller (step_sound k c s) (step_kept k c s h)

-- ---- and a fresh one has it
fresh_ends : In lengths f0 × In offsets f0
unfolding of_bits neg le
fresh_ends = (tt, tt)

-- a front that is not empty has a place 0
has_place : (c : Columns) (wide : Bool) → table_verdict c ≡ Ok tt → 0 < place_count (for_air (table_of c) wide)
unfolding table_of
has_place c wide e = let n : 1 ≤ length (front_of_columns c) = (accepted_columns c e).front in omega arith

fresh_kept : (k : RateController) → Fresh k → Kept k
fresh_kept k (fresh c wide e) = record {
  table = made_in c wide e;
  tariff = tt;
  state = record {
    accounts = all_replicate AccountIn 32 no_account no_account_in;
    since = all_replicate (In times) 32 f0 zero_time;
    wait = all_replicate IsWait 32 6 (omega arith);
    snr = tt;
    echo = tt;
    offsets = record { floor = fresh_ends.1; ofdm = fresh_ends.1 };
  };
  front = record { place = has_place c wide e; tried = tt };
}

-- ---- what lies in one of the ranges is finite
-- a wait less 1e-9
abbrev due_times : Range
due_times = neg wait_tolerance to longest_time

due_ends : T (differences times (wait_tolerance to wait_tolerance) due_times) × T (bounded due_times) × In (wait_tolerance to wait_tolerance) wait_tolerance
unfolding of_bits neg sub le
due_ends = (tt, tt, tt)

ends : T (bounded decibels) × T (bounded air_times) × T (bounded lengths) × T (bounded shares) × T (bounded margins) × T (bounded offsets) × T (bounded times)
unfolding of_bits neg
ends = (tt, tt, tt, tt, tt, tt, tt)

account_ends : T (bounded account_bytes) × T (bounded account_air) × T (bounded account_frames)
unfolding of_bits
account_ends = (tt, tt, tt)

lies : (a : Range) (x : Float) → T (bounded a) → In a x → Lies a.lo a.hi x
lies a x e h = (in_finite a x e h, h)

limit_lies : (x : Reading) → T (ok_limit x) → LiesIn shares.lo shares.hi x
limit_lies None h = tt
limit_lies (Some x) h = lies shares x ends.3 h

snr_lies : (x : Reading) → T (ok_snr x) → LiesIn decibels.lo decibels.hi x
snr_lies None h = tt
snr_lies (Some x) h = lies decibels x ends.0 h

table_lies : (t : Table) → TableIn t → TableLies t
table_lies t h = record {
  thresholds = λ r. lies decibels (row t r).threshold ends.0 (h.rows r).threshold;
  times = λ r. lies air_times (row t r).time ends.1 (h.rows r).time;
  limits = λ r. limit_lies (row t r).limit (h.rows r).limit;
  capacities = λ r. (h.rows r).capacity;
  margin = lies margins t.air.margin ends.4 h.margin;
  gain = lies shares t.air.gain ends.3 h.gain;
}

tariff_lies : (p : Option Tariff) → TariffIn p → TariffLies p
tariff_lies None h = tt
tariff_lies (Some p) h = record {
  floor = lies lengths p.floor ends.2 h.floor;
  ordinary = lies lengths p.ordinary ends.2 h.ordinary;
  gap = lies lengths p.gap ends.2 h.gap;
  bursts = λ r. bursts_small (Some p) h.bursts r 0 (omega arith);
}

account_lies : (a : Account) → AccountIn a → AccountLies a
account_lies a h = record {
  bytes = lies account_bytes a.bytes account_ends.0 h.bytes;
  air = lies account_air a.air account_ends.1 h.air;
  frames = lies account_frames a.frames account_ends.2 h.frames;
}

state_lies : (s : State) → Held s → StateLies s
state_lies s h = record {
  accounts = λ r. account_lies (account s r) (all_any AccountIn s.accounts r no_account h.accounts no_account_in);
  times = λ r. lies times (since_of s r) ends.6 (all_any (In times) s.since r f0 h.since zero_time);
  waits = λ r. all_any IsWait s.wait r first_wait h.wait (omega arith);
  snr = snr_lies s.core.snr h.snr;
  echo = limit_lies s.core.echo h.echo;
  floor_offset = lies offsets s.core.offsets.floor ends.5 h.offsets.floor;
  ofdm_offset = lies offsets s.core.offsets.ofdm ends.5 h.offsets.ofdm;
}

-- ---- the claim
kept_finite : (k : RateController) → Kept k → Finite k
kept_finite k h =
    let t = k.table in
    let p = k.prices in
    let at : (s : State) → Held s → OnFront t s.core → FiniteAt t p s = λ s g f. record {
      state = state_lies s g;
      front = f;
      seconds = λ r. lies times (wait_s t p.tariff s r) ends.6 (wait_in t p h.table h.tariff s r g);
      due = λ r.
          let w = wait_s t p.tariff s r in
          lies due_times (w ⊖ wait_tolerance) due_ends.1
          (difference_in times (wait_tolerance to wait_tolerance) due_times w wait_tolerance (wait_in t p h.table h.tariff s r g) due_ends.2 due_ends.0);
      compared = compared t p s h.table h.tariff g;
    } in
    record {
      table = table_lies t h.table;
      tariff = tariff_lies p.tariff h.tariff;
      state = at k.state h.state h.front;
      judging = λ fs snr n e. let ok = frames_ok t fs snr e in at _ (judging_held t p h.table h.tariff k.state fs snr ok.0 ok.1 h.state n) (judging_stands t p k.state fs snr h.front n);
      deciding = λ fs snr e. let ok = frames_ok t fs snr e in at _ (inside_held t p h.table h.tariff k.state fs snr ok.0 ok.1 h.state) (inside_stands t p k.state fs snr h.front);
    }

pub always_finite : AlwaysFinite
always_finite k f calls = kept_finite (after k calls) (after_kept calls k (fresh_sound k f) (fresh_kept k f))
