-- What frames alone move stays within its bounds. An account ages by a share, and a full one loses more by its own rung's ageing than it then gains; an offset is
-- clamped, and what is clamped is no NaN; what is added to a time at its bound is lost in rounding. Assumes nothing.
use mathlib.Core.Path.{◌≡◌, sym, subst}
use mathlib.Core.Bool.{Bool, ◌&&◌}
use mathlib.Core.List.{List, [], ◌∷◌}
use Prim.Native.Nat.{ℕ, zero, suc, ◌≤◌}
use native.Mathlib.Omega.{arith}
use lib.Dec.{T, leb→le}
use lib.ListN.{get_or, set}
use lib.Ieee.{Float, of_bits, of_int, round, neg, add, mul, div, le, lt}
use Rattle.float.specs.Numbers.{f64, ◌⊕◌, ◌⊗◌, ◌⊘◌, of_nat, f0, f1}
use Rattle.float.specs.Sum.{total}
use Rattle.float.proofs.Order.{number, not_lt}
use Rattle.float.proofs.Rounding.{zero64}
use Rattle.half.specs.Power.{half}
use Rattle.half.proofs.Range.{half_share}
use Rattle.std.specs.Prelude.{Ok, None, Some}
use Rattle.limits.proofs.Verdicts.{or_else_lem}
use Rattle.limits.specs.Readings.{Reading, ok_snr}
use Rattle.ladder.specs.declared.types.Table.{Table}
use Rattle.ladder.specs.Types.{row, rung_at, rung_count, place_count, is_floor}
use Rattle.std.proofs.lemmas.Bool.{cond_both}
use Rattle.std.proofs.lemmas.Float.{T_from_false}
use Rattle.ladder.proofs.Cases.{pick}
use Rattle.ladder.proofs.Entries.{All, all_set}
use Rattle.account.specs.declared.types.Account.{Account}
use Rattle.account.specs.declared.types.Offsets.{Offsets}
use Rattle.account.specs.declared.types.State.{State}
use Rattle.account.specs.State.{no_account}
use Rattle.rules.specs.declared.types.Frame.{Frame}
use Rattle.account.specs.Fixed.{half_life, least_offset, most_offset}
use Rattle.rules.specs.Booking.{at, clamp, moved, offset_step, offsets_from, offsets_at, offsets_after, aged, gained, book_one, book_frame, book, airs, call_air, passed, booked}
use Rattle.rules.specs.Check.{frame_verdict, first_bad}
use Rattle.rules.proofs.Fade.{own_fade_lem}
use Rattle.waiting.proofs.Sound.{frame_ok}
use Rattle.finite.proofs.Ranges.{Range, ◌to◌, In, first, second, third, in_by, in_number, in_natural, widen, holds, ◌⊠◌, ◌÷◌, scaled, sums, products, quotients, scales, sum_in, product_in, quotient_in, scaled_in, counts}
use Rattle.finite.proofs.Bounds.{decibels, air_times, account_bytes, account_air, account_frames, capacities, shares, offsets, times, TableIn, AccountIn, OffsetsIn, Held, all_any}
use Rattle.finite.specs.Finite.{unclamped}
use Rattle.finite.proofs.Values.{share_in, moves, move_ends, unclamped_in, no_account_in}

-- ---- frames that are accepted
pub record FrameIn (f : Frame) : Type 0 where
  pub air : In air_times f.air
  pub capacity : f.capacity ≤ 4096

pub frames_in_lem : (t : Table) (fs : List Frame) → first_bad t fs ≡ Ok tt → All FrameIn fs
frames_in_lem t [] e = tt
frames_in_lem t (f ∷ fs) e =
    let a = or_else_lem (frame_verdict t f) (first_bad t fs) e in
    let ok = frame_ok t f a.0 in
    (record { air = ok.0; capacity = leb→le f.capacity 4096 ok.1 }, frames_in_lem t fs a.1)

-- ---- ageing
-- a frame's own rung ages by half(1/12), 0.9438743126816935
abbrev own_fade : Float
own_fade = f64 0x3fee_3437_e710_1344

abbrev own : Range
own = own_fade to own_fade

own_ends : In own own_fade × T (holds shares own)
unfolding of_bits le
own_ends = (tt, tt)

own_in : In own (half (f1 ⊘ half_life))
own_in = subst (In own) (sym own_fade_lem) own_ends.0

-- a quantity of an account, with what it gains at a time: ageing keeps its range a, and so does the gain g after the own rung's ageing
abbrev lasts : Range → Range → Bool
lasts a g = products a shares a && products a own (a ⊠ own) && sums (a ⊠ own) g a

module _ (a g : Range) (e : T (lasts a g)) (x : Float) (h : In a x) where
  aged_in : (d : Float) → In shares d → In a (x ⊗ d)
  aged_in d k = product_in a shares a x d h k (first (products a shares a) (products a own (a ⊠ own)) (sums (a ⊠ own) g a) e)

  refilled_in : (y : Float) → In g y → In a (x ⊗ half (f1 ⊘ half_life) ⊕ y)
  refilled_in y k =
      sum_in (a ⊠ own) g a (x ⊗ half (f1 ⊘ half_life)) y
      (product_in a own (a ⊠ own) x (half (f1 ⊘ half_life)) h own_in (second (products a shares a) (products a own (a ⊠ own)) (sums (a ⊠ own) g a) e)) k
      (third (products a shares a) (products a own (a ⊠ own)) (sums (a ⊠ own) g a) e)

account_ends : T (lasts account_bytes capacities) × T (lasts account_air air_times) × T (lasts account_frames (f1 to f1)) × In (f1 to f1) f1
unfolding of_bits of_int round add mul le
account_ends = (tt, tt, tt, tt)

account_aged : (d : Float) (a : Account) → In shares d → AccountIn a → AccountIn (aged d a)
account_aged d a k h = record {
  bytes = aged_in account_bytes capacities account_ends.0 a.bytes h.bytes d k;
  air = aged_in account_air air_times account_ends.1 a.air h.air d k;
  frames = aged_in account_frames (f1 to f1) account_ends.2 a.frames h.frames d k;
}

account_gained : (f : Frame) (a : Account) → FrameIn f → AccountIn a → AccountIn (gained f (aged (half (f1 ⊘ half_life)) a))
account_gained f a k h = record {
  bytes = pick (In account_bytes) f.decoded
      (refilled_in account_bytes capacities account_ends.0 a.bytes h.bytes (of_nat f.capacity) (counts 0 f.capacity 4096 (omega arith) k.capacity))
      (aged_in account_bytes capacities account_ends.0 a.bytes h.bytes (half (f1 ⊘ half_life)) (widen own shares (half (f1 ⊘ half_life)) own_ends.1 own_in));
  air = refilled_in account_air air_times account_ends.1 a.air h.air f.air k.air;
  frames = refilled_in account_frames (f1 to f1) account_ends.2 a.frames h.frames f1 account_ends.3;
}

-- the others age by a half-power, which is a share
abbrev ageings : Range
ageings = air_times ÷ scaled half_life air_times

fade_ends : T (scales half_life air_times (scaled half_life air_times)) × T (quotients air_times (scaled half_life air_times) ageings) × T (le zero64 ageings.lo)
unfolding of_bits mul div le
fade_ends = (tt, tt, tt)

fade_in : (air time : Float) → In air_times air → In air_times time → In shares (half (air ⊘ (half_life ⊗ time)))
fade_in air time h k =
    let x = air ⊘ (half_life ⊗ time) in
    share_in (half x) (half_share x (in_natural ageings x fade_ends.2
    (quotient_in air_times (scaled half_life air_times) ageings air (half_life ⊗ time) h (scaled_in half_life air_times (scaled half_life air_times) time k fade_ends.0) fade_ends.1)))

module _ (t : Table) (ts : TableIn t) where
  book_frame_in : (n r : ℕ) (f : Frame) (accounts : List Account) → FrameIn f → All AccountIn accounts → All AccountIn (book_frame n r t f accounts)
  unfolding book_frame
  book_frame_in zero r f accounts k h = h
  book_frame_in (suc n) r f accounts k h =
      let a = get_or accounts r no_account in
      let b = all_any AccountIn accounts r no_account h no_account_in in
      book_frame_in n (suc r) f (set accounts r (book_one t f r a)) k
      (all_set AccountIn accounts r (book_one t f r a) h (λ g.
      pick AccountIn (at r f) (account_gained f a k b) (account_aged (half (f.air ⊘ (half_life ⊗ (row t r).time))) a (fade_in f.air (row t r).time k.air (ts.rows r).time) b)))

  book_in : (fs : List Frame) (accounts : List Account) → All FrameIn fs → All AccountIn accounts → All AccountIn (book t fs accounts)
  unfolding book
  book_in [] accounts k h = h
  book_in (f ∷ fs) accounts k h = book_in fs (book_frame (rung_count t) 0 t f accounts) k.1 (book_frame_in (rung_count t) 0 f accounts k.0 h)

-- ---- offsets
clamp_ends : T (number least_offset) × T (number most_offset) × In offsets least_offset × In offsets most_offset
unfolding of_bits neg le
clamp_ends = (tt, tt, tt, tt)

clamp_in : (x : Float) → T (number x) → In offsets (clamp x)
clamp_in x n =
    cond_both (lt x least_offset) _ _ (In offsets) (λ e. clamp_ends.2)
    (λ e. cond_both (lt most_offset x) _ _ (In offsets) (λ d. clamp_ends.3) (λ d. in_by offsets x (not_lt x least_offset n clamp_ends.0 (T_from_false _ e)) (not_lt most_offset x clamp_ends.1 n (T_from_false _ d))))

module _ (t : Table) (ts : TableIn t) (snr : Float) (hs : In decibels snr) where
  moved_in : (f : Frame) (off : Float) → In offsets off → In offsets (moved t snr f off)
  moved_in f off h = let x = unclamped t snr f off in clamp_in x (in_number moves x move_ends.2 (unclamped_in t ts snr hs f off h))

  step_in : (f : Frame) (o : Offsets) → OffsetsIn o → OffsetsIn (offset_step t snr f o)
  step_in f o h =
      pick OffsetsIn f.combined h
      (pick OffsetsIn (is_floor t f.rung.0) (record { floor = moved_in f o.floor h.floor; ofdm = h.ofdm }) (record { floor = h.floor; ofdm = moved_in f o.ofdm h.ofdm }))

  from_in : (fs : List Frame) (o : Offsets) → OffsetsIn o → OffsetsIn (offsets_from t snr fs o)
  from_in [] o h = h
  from_in (f ∷ fs) o h = from_in fs (offset_step t snr f o) (step_in f o h)

offsets_in : (t : Table) → TableIn t → (fs : List Frame) (o : Offsets) (snr : Reading) → T (ok_snr snr) → OffsetsIn o → OffsetsIn (offsets_at t snr fs o)
offsets_in t ts fs o None k h = h
offsets_in t ts fs o (Some x) k h = from_in t ts x k fs o h

-- ---- the call's air, and the times since a try: 2^60 and 60 add up to 2^60, and 2^120 and 2^60 to 2^120
abbrev call_airs : Range
call_airs = f0 to f64 0x43b0_0000_0000_0000

time_ends : T (sums call_airs air_times call_airs) × T (sums times call_airs times) × In call_airs f0 × In times f0
unfolding of_bits add le
time_ends = (tt, tt, tt, tt)

pub zero_time : In times f0
zero_time = time_ends.3

total_in : (fs : List Frame) (s : Float) → All FrameIn fs → In call_airs s → In call_airs (total s (airs fs))
unfolding total
total_in [] s h k = k
total_in (f ∷ fs) s h k = total_in fs (s ⊕ f.air) h.1 (sum_in call_airs air_times call_airs s f.air k h.0.air time_ends.0)

passed_in : (n i : ℕ) (t : Table) (a : Float) (since : List Float) → In call_airs a → All (In times) since → All (In times) (passed n i t a since)
unfolding passed
passed_in zero i t a since k h = h
passed_in (suc n) i t a since k h =
    let x = get_or since (rung_at t i) f0 in
    passed_in n (suc i) t a (set since (rung_at t i) (x ⊕ a)) k
    (all_set (In times) since (rung_at t i) (x ⊕ a) h (λ g. sum_in times call_airs times x a (all_any (In times) since (rung_at t i) f0 h zero_time) k time_ends.1))

-- ---- all of it
pub booked_in : (t : Table) → TableIn t → (s : State) (fs : List Frame) → All FrameIn fs → Held s → Held (booked t s fs)
unfolding booked offsets_after
booked_in t ts s fs k h = record {
  accounts = book_in t ts fs s.accounts k h.accounts;
  since = passed_in (place_count t) 0 t (call_air fs) s.since (total_in fs f0 k time_ends.2) h.since;
  wait = h.wait;
  snr = h.snr;
  echo = h.echo;
  offsets = offsets_in t ts fs s.core.offsets s.core.snr h.snr h.offsets;
}
