-- Every value and price is finite and at least 0: an estimate's divisor is at least two frame times, and a price's at least the burst's air. Assumes nothing.
use mathlib.Core.Path.{◌≡◌, refl, sym, ap, subst}
use mathlib.Core.Bool.{Bool, true, false, not, ◌&&◌, ◌||◌, cond}
use Prim.Native.Nat.{ℕ, zero, suc, ◌≤◌}
use native.Mathlib.Omega.{arith}
use lib.Dec.{T, leb, ltb, eqb, leb→le, ltb→lt, lt→ltb, nleb→lt}
use lib.Ieee.{Float, of_bits, of_int, round, neg, add, sub, mul, div, le, lt}
use lib.Ieee.Positive.{positive}
use Rattle.float.specs.Numbers.{◌⊕◌, ◌⊖◌, ◌⊗◌, ◌⊘◌, of_nat, f0, f1}
use Rattle.float.proofs.Order.{number}
use Rattle.float.proofs.Share.{Share}
use Rattle.half.specs.Logistic.{logistic, decode_probability}
use Rattle.half.proofs.Range.{probability_share, from_share}
use Rattle.limits.specs.Values.{ok_db}
use Rattle.limits.specs.Readings.{Reading, ok_snr}
use Rattle.std.specs.Prelude.{Option, None, Some}
use Rattle.ladder.specs.declared.types.Row.{Row}
use Rattle.ladder.specs.declared.types.Table.{Table}
use Rattle.ladder.specs.Types.{row, rung_at, is_floor}
use Rattle.std.proofs.lemmas.Bool.{cond_both}
use Rattle.ladder.proofs.Cases.{pick}
use Rattle.ladder.proofs.Entries.{All}
use Rattle.account.specs.declared.types.Account.{Account}
use Rattle.account.specs.declared.types.Families.{Families}
use Rattle.account.specs.declared.types.Tariff.{Tariff}
use Rattle.account.specs.declared.types.Prices.{Prices}
use Rattle.account.specs.declared.types.State.{State}
use Rattle.account.specs.Fixed.{prior_weight, slope, enough_frames}
use Rattle.account.specs.State.{no_account, account, choice}
use Rattle.account.specs.Price.{offset, prior_p_at, prior_p, prior_of, estimate_by, estimate_at, lossless, own_floor, other_floor, control, burst_or, overhead_of, priced_of, priced_by, priced, value, lossless_price}
use Rattle.account.proofs.FullAir.{bursts_small}
use Rattle.rules.specs.declared.types.Frame.{Frame}
use Rattle.rules.specs.Echo.{usable}
use Rattle.rules.specs.Tries.{waited, clean_climb, above}
use Rattle.finite.specs.Finite.{OneTest, most_distance, least_moved, most_moved, most_rate, most_value, distance, unclamped, Lies, Compared, Alike}
use Rattle.finite.proofs.Ranges.{Range, ◌to◌, In, bounded, in_by, in_finite, in_number, widen, ◌⊞◌, ◌⊟◌, ◌⊠◌, scaled, holds, sums, differences, products, quotients, scales, divides, divided_in, sum_in, difference_in, product_in, quotient_in, scaled_in, counts, opposite, one_test}
use Rattle.finite.proofs.Bounds.{decibels, air_times, account_bytes, account_air, account_frames, capacities, lengths, shares, margins, offsets, surprises, RowIn, TableIn, GivenIn, TariffIn, AccountIn, OffsetsIn, Held, all_any}

-- ---- a probability
pub share_in : (p : Float) → Share p → In shares p
share_in p h = let g = from_share p h in in_by shares p g.0 g.1

-- the SNR less the offset, and less the margin
abbrev less_offset : Range
less_offset = decibels ⊟ offsets

abbrev less_margin : Range
less_margin = less_offset ⊟ margins

prior_p_ends : T (differences decibels offsets less_offset) × T (differences less_offset margins less_margin) × T (bounded less_margin) × T (bounded decibels) × T (positive slope) × T (bounded shares)
unfolding of_bits neg sub le
prior_p_ends = (tt, tt, tt, tt, tt, tt)

-- and less the threshold, over the slope
abbrev distances : Range
distances = neg most_distance to most_distance

distance_ends : T (differences less_margin decibels (less_margin ⊟ decibels)) × T (divides slope (less_margin ⊟ decibels) distances) × T (bounded distances)
unfolding of_bits neg sub div le
distance_ends = (tt, tt, tt)

-- the SNR that the prior takes
module _ (margin off snr : Float) (hm : In margins margin) (ho : In offsets off) (hs : In decibels snr) where
  margin_in : In less_margin (snr ⊖ off ⊖ margin)
  margin_in = difference_in less_offset margins less_margin (snr ⊖ off) margin (difference_in decibels offsets less_offset snr off hs ho prior_p_ends.0) hm prior_p_ends.1

  module _ (threshold : Float) (ht : In decibels threshold) where
    pub prior_p_in : In shares (prior_p_at threshold margin off snr)
    prior_p_in =
        share_in (prior_p_at threshold margin off snr)
        (probability_share (snr ⊖ off ⊖ margin) threshold slope (in_number less_margin (snr ⊖ off ⊖ margin) prior_p_ends.2 margin_in) (in_finite decibels threshold prior_p_ends.3 ht) prior_p_ends.4)

    distance_in : In distances ((snr ⊖ off ⊖ margin ⊖ threshold) ⊘ slope)
    distance_in =
        divided_in slope (less_margin ⊟ decibels) distances (snr ⊖ off ⊖ margin ⊖ threshold)
        (difference_in less_margin decibels (less_margin ⊟ decibels) (snr ⊖ off ⊖ margin) threshold margin_in ht distance_ends.0) distance_ends.1

-- ---- the prior
abbrev priors : Range
priors = f0 to of_nat 4096

prior_ends : T (products capacities shares priors) × In priors f0
unfolding of_bits of_int round mul le
prior_ends = (tt, tt)

prior_in_lem : (a : Row) (margin off : Float) (snr : Reading) → RowIn a → In margins margin → In offsets off → T (ok_snr snr) → In priors (prior_of a margin off snr)
prior_in_lem a margin off None h hm ho hs = prior_ends.1
prior_in_lem a margin off (Some snr) h hm ho hs =
    product_in capacities shares priors (of_nat a.capacity) (prior_p_at a.threshold margin off snr)
    (counts 0 a.capacity 4096 (omega arith) h.capacity) (prior_p_in margin off snr hm ho hs a.threshold h.threshold) prior_ends.0

-- ---- the estimate
abbrev rates : Range
rates = f0 to most_rate

-- twice a prior and a frame time, and with an account's bytes and air
abbrev twice_prior : Range
twice_prior = scaled prior_weight priors

abbrev twice_time : Range
twice_time = scaled prior_weight air_times

abbrev delivered : Range
delivered = account_bytes ⊞ twice_prior

abbrev spent : Range
spent = account_air ⊞ twice_time

estimate_ends : T (scales prior_weight priors twice_prior) × T (sums account_bytes twice_prior delivered) × T (scales prior_weight air_times twice_time) × T (sums account_air twice_time spent) × T (quotients delivered spent rates)
unfolding of_bits of_int round add mul div le
estimate_ends = (tt, tt, tt, tt, tt)

estimate_in : (a : Account) (prior time : Float) → AccountIn a → In priors prior → In air_times time → In rates (estimate_by a prior time)
estimate_in a prior time h hp ht =
    quotient_in delivered spent rates (a.bytes ⊕ prior_weight ⊗ prior) (a.air ⊕ prior_weight ⊗ time)
    (sum_in account_bytes twice_prior delivered a.bytes (prior_weight ⊗ prior) h.bytes (scaled_in prior_weight priors twice_prior prior hp estimate_ends.0) estimate_ends.1)
    (sum_in account_air twice_time spent a.air (prior_weight ⊗ time) h.air (scaled_in prior_weight air_times twice_time time ht estimate_ends.2) estimate_ends.3)
    estimate_ends.4

lossless_ends : T (quotients capacities air_times rates)
unfolding of_bits of_int round div le
lossless_ends = tt

-- ---- the price
abbrev values : Range
values = f0 to most_value

abbrev overheads : Range
overheads = lengths ⊞ lengths ⊞ lengths

abbrev bursts : Range
bursts = (of_nat 1 to of_nat 1000) ⊠ air_times

overhead_ends : T (sums lengths lengths (lengths ⊞ lengths)) × T (sums (lengths ⊞ lengths) lengths overheads)
unfolding of_bits add le
overhead_ends = (tt, tt)

burst_ends : T (products (of_nat 1 to of_nat 1000) air_times bursts) × T (products rates bursts (rates ⊠ bursts)) × T (sums bursts overheads (bursts ⊞ overheads))
unfolding of_bits of_int round add mul le
burst_ends = (tt, tt, tt)

price_ends : T (quotients (rates ⊠ bursts) (bursts ⊞ overheads) values) × T (holds values rates)
unfolding of_bits of_int round add mul div le
price_ends = (tt, tt)

overhead_in : (p : Tariff) (families : Option Families) (floor : Bool) → GivenIn p → In overheads (overhead_of p families floor)
overhead_in p families floor h =
    let own = control p (own_floor families floor) in
    let other = control p (other_floor families floor) in
    sum_in (lengths ⊞ lengths) lengths overheads (own ⊕ other) p.gap
    (sum_in lengths lengths (lengths ⊞ lengths) own other (pick (In lengths) (own_floor families floor) h.floor h.ordinary) (pick (In lengths) (other_floor families floor) h.floor h.ordinary) overhead_ends.0)
    h.gap overhead_ends.1

at_least_one : (n : ℕ) → T (not (eqb n 0)) → 1 ≤ n
at_least_one zero h = absurd h
at_least_one (suc n) h = omega arith

priced_in : (n : ℕ) (time over x : Float) → n ≤ 1000 → In air_times time → In overheads over → In rates x → In values (priced_of n time over x)
priced_in n time over x hn ht ho hx =
    let a = of_nat n ⊗ time in
    cond_both (eqb n 0) _ _ (In values) (λ e. widen rates values x price_ends.1 hx)
    (λ e.
    let b = product_in (of_nat 1 to of_nat 1000) air_times bursts (of_nat n) time (counts 1 n 1000 (at_least_one n (subst (λ (z : Bool). T (not z)) (sym e) tt)) hn) ht burst_ends.0 in
    quotient_in (rates ⊠ bursts) (bursts ⊞ overheads) values (x ⊗ a) (a ⊕ over)
    (product_in rates bursts (rates ⊠ bursts) x a hx b burst_ends.1) (sum_in bursts overheads (bursts ⊞ overheads) a over b ho burst_ends.2) price_ends.0)

-- ---- what is clamped: an offset, moved by a family's gain of a surprise
abbrev pub moves : Range
moves = least_moved to most_moved

pub move_ends : T (differences shares shares surprises) × T (sums offsets surprises moves) × T (bounded moves) × In shares f0 × In shares f1
unfolding of_bits neg add sub le
move_ends = (tt, tt, tt, tt, tt)

pub unclamped_in : (t : Table) → TableIn t → (snr : Float) → In decibels snr → (f : Frame) (off : Float) → In offsets off → In moves (unclamped t snr f off)
unfolding prior_p
unclamped_in t ts snr hs f off h =
    let r = f.rung.0 in
    let p = prior_p t r off snr in
    let y = p ⊖ cond f.decoded f1 f0 in
    let g = scaled_in t.air.gain surprises surprises y
    (difference_in shares shares surprises p (cond f.decoded f1 f0) (prior_p_in t.air.margin off snr ts.margin h hs (row t r).threshold (ts.rows r).threshold)
    (pick (In shares) f.decoded move_ends.4 move_ends.3) move_ends.0)
    ts.moves in
    sum_in offsets surprises moves off (t.air.gain ⊗ y) h g move_ends.1

-- ---- of a rung
pub no_account_in : AccountIn no_account
unfolding of_bits le
no_account_in = record { bytes = tt; air = tt; frames = tt }

compared_ends : T (bounded rates) × T (bounded values) × T (bounded account_frames) × T (bounded (enough_frames to enough_frames)) × In (enough_frames to enough_frames) enough_frames
unfolding of_bits le
compared_ends = (tt, tt, tt, tt, tt)

-- the Rust's test turns away what is above and has too few frames
at_or_below : (i h : ℕ) → leb i h ≡ not (ltb h i)
at_or_below i h = opposite (leb i h) (ltb h i) (λ a b. omega (arith, leb→le i h a, ltb→lt h i b)) (λ a. lt→ltb h i (nleb→lt i h a))

neither : (a b c d : Bool) → a ≡ not b → c ≡ not d → (a || c) ≡ not (b && d)
neither a b c d e g = rw (e, g) (go b)
  where
    go : (b : Bool) → (not b || not d) ≡ not (b && d)
    go true = refl
    go false = refl

rate_lies : (x : Float) → In rates x → Lies f0 most_rate x
rate_lies x k = (in_finite rates x compared_ends.0 k, k)

value_lies : (x : Float) → In values x → Lies f0 most_value x
value_lies x k = (in_finite values x compared_ends.1 k, k)

value_number : (x : Float) → In values x → T (number x)
value_number x k = in_number values x compared_ends.1 k

module _ (t : Table) (p : Prices) (s : State) (ts : TableIn t) (ps : TariffIn p.tariff) (ha : All AccountIn s.accounts) (ho : OffsetsIn s.core.offsets) (hs : T (ok_snr s.core.snr)) where
  account_in : (r : ℕ) → AccountIn (account s r)
  account_in r = all_any AccountIn s.accounts r no_account ha no_account_in

  offset_in : (r : ℕ) → In offsets (offset t s r)
  offset_in r = pick (In offsets) (is_floor t r) ho.floor ho.ofdm

  probability_lies : (snr : Float) → T (ok_db snr) → (r : ℕ) → Lies f0 f1 (prior_p t r (offset t s r) snr)
  unfolding prior_p
  probability_lies snr k r =
      let p = prior_p t r (offset t s r) snr in
      let h = prior_p_in t.air.margin (offset t s r) snr ts.margin (offset_in r) k (row t r).threshold (ts.rows r).threshold in (in_finite shares p prior_p_ends.5 h, h)

  distance_lies : (snr : Float) → T (ok_db snr) → (r : ℕ) → Lies (neg most_distance) most_distance (distance t s r snr)
  distance_lies snr k r =
      let d = distance t s r snr in
      let h = distance_in t.air.margin (offset t s r) snr ts.margin (offset_in r) k (row t r).threshold (ts.rows r).threshold in (in_finite distances d distance_ends.2 h, h)

  by_distance : (snr : Float) (r : ℕ) → prior_p t r (offset t s r) snr ≡ logistic (distance t s r snr)
  unfolding prior_p decode_probability
  by_distance snr r = refl

  unclamped_lies : (snr : Float) → T (ok_db snr) → (f : Frame) (off : Float) → In offsets off → Lies least_moved most_moved (unclamped t snr f off)
  unclamped_lies snr k f off h = let g = unclamped_in t ts snr k f off h in (in_finite moves (unclamped t snr f off) move_ends.2 g, g)

  estimate_at_in : (r : ℕ) (snr : Reading) → T (ok_snr snr) → In rates (estimate_at t s r snr)
  unfolding estimate_at
  estimate_at_in r snr k =
      let off = offset t s r in
      estimate_in (account s r) (prior_of (row t r) t.air.margin off snr) (row t r).time (account_in r)
      (prior_in_lem (row t r) t.air.margin off snr (ts.rows r) ts.margin (offset_in r) k) (ts.rows r).time

  lossless_in : (r : ℕ) → In rates (lossless t r)
  unfolding lossless
  lossless_in r = quotient_in capacities air_times rates (of_nat (row t r).capacity) (row t r).time (counts 0 (row t r).capacity 4096 (omega arith) (ts.rows r).capacity) (ts.rows r).time lossless_ends

  price_in : (r : ℕ) (x : Float) → In rates x → In values (priced t p r x)
  unfolding priced
  price_in r x k = go p.tariff ps
    where
      go : (q : Option Tariff) → TariffIn q → In values (priced_by q p.families t r x)
      go None h = widen rates values x price_ends.1 k
      go (Some q) h =
          priced_in (burst_or (Some q) r 0) (row t r).time (overhead_of q p.families (is_floor t r)) x (bursts_small (Some q) h.bursts r 0 (omega arith)) (ts.rows r).time
          (overhead_in q p.families (is_floor t r) h) k

  value_in : (r : ℕ) → In values (value t p s r)
  unfolding value
  value_in r = price_in r (estimate_at t s r s.core.snr) (estimate_at_in r s.core.snr hs)

  lossless_price_in : (r : ℕ) → In values (lossless_price t p r)
  unfolding lossless_price
  lossless_price_in r = price_in r (lossless t r) (lossless_in r)

  price_test : (r q : ℕ) → OneTest (lossless_price t p r) (value t p s q)
  price_test r q = one_test (lossless_price t p r) (value t p s q) (value_number (lossless_price t p r) (lossless_price_in r)) (value_number (value t p s q) (value_in q))

  frames_test : (r : ℕ) → OneTest (account s r).frames enough_frames
  frames_test r = one_test (account s r).frames enough_frames (in_number account_frames (account s r).frames compared_ends.2 (account_in r).frames) (in_number (enough_frames to enough_frames) enough_frames compared_ends.3 compared_ends.4)

  rung_compared : Compared t p s
  rung_compared =
      let here = s.core.place.0 in
      record {
        estimates = λ r. rate_lies (estimate_at t s r s.core.snr) (estimate_at_in r s.core.snr hs);
        values = λ r. value_lies (value t p s r) (value_in r);
        lossless_rates = λ r. rate_lies (lossless t r) (lossless_in r);
        lossless_prices = λ r. value_lies (lossless_price t p r) (lossless_price_in r);
        first_values = λ snr k r. value_lies (priced t p r (estimate_at t s r (Some snr))) (price_in r (estimate_at t s r (Some snr)) (estimate_at_in r (Some snr) k));
        probabilities = probability_lies;
        distances = distance_lies;
        by_distance = by_distance;
        moves = unclamped_lies;
        by_clamp = λ snr f off. refl;
        value_over_value = λ r q. one_test (value t p s r) (value t p s q) (value_number (value t p s r) (value_in r)) (value_number (value t p s q) (value_in q));
        price_over_value = price_test;
        frames_over_two = frames_test;
        candidates = λ i.
            let x = (account s (rung_at t i)).frames in
            ap (λ (b : Bool). usable t s i && b) (neither (leb i here) (ltb here i) (lt enough_frames x) (le x enough_frames) (at_or_below i here) (frames_test (rung_at t i)));
        beginnings = ap (λ (b : Bool). usable t s (suc here) && b && (waited t p s (above t s) || clean_climb t p s (above t s))) (price_test (above t s) (choice t s));
      }

pub compared : (t : Table) (p : Prices) (s : State) → TableIn t → TariffIn p.tariff → Held s → (z : State) → Alike s z → Compared t p z
compared t p s ts ps h z a =
    rung_compared t p z ts ps (subst (All AccountIn) (sym a.accounts) h.accounts) (subst OffsetsIn (sym a.offsets) h.offsets) (subst (λ (x : Reading). T (ok_snr x)) (sym a.snr) h.snr)
