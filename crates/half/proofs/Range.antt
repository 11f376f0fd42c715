-- `half`, and so a probability, lies from 0 to 1. What is left after the steps is at most the last step, so the series is a share (`Rattle.float.proofs.Share`), and so
-- are the table's entries, the powers of two and their products. Assumes nothing.
use Rattle.std.proofs.Common.{◌≡◌, ℕ, zero, suc, ◌+◌, ◌*◌, ◌/◌, ◌^◌, ◌<◌, min, Bool, true, false, cond, not, ◌&&◌, T, sym, refl, subst, arith, lit<, pow_pos}
use lib.Ieee.{Float, nan, binary64, neg, sub, mul, div, le, lt, of_bits, fits}
use lib.Ieee.Fits.{and_l, and_r}
use lib.Ieee.Scale.{finite}
use lib.Ieee.Positive.{positive, between}
use Rattle.float.specs.Numbers.{f64, ◌⊕◌, ◌⊖◌, ◌⊗◌, ◌⊘◌, f0, f½, f1, f2, f5}
use Rattle.std.proofs.lemmas.Float.{one_f64_is, T_from_true}
use Rattle.float.proofs.Table.{every, at}
use Rattle.float.proofs.Order.{number, le_le, le_left, le_right, lt_le, not_le}
use Rattle.float.proofs.Rounding.{zero64, neg_number}
use Rattle.float.proofs.Monotone.{natural, sub_mono, sub_number, zero_is, finite_number, between_limits}
use Rattle.float.proofs.Exact.{grows}
use Rattle.float.proofs.Division.{div_number}
use Rattle.float.proofs.Share.{one64, plain, plain_natural, Share, UpTo, Small, share_small, round_share, mul_small, mul_share, less_share, div_plain, div_small, mul_up, one_by, neg_natural, inverse_from_one}
use Rattle.half.specs.Powers.{powers, power_at}
use Rattle.half.specs.Power.{f512, f1022, ln2, f3, f4, descent, whole_steps, part_steps, level, series_in, series, inverse_power, joined, half}
use Rattle.limits.specs.Values.{f200, eighth, f16, ok_db, ok_slope}
use Rattle.half.specs.Logistic.{log2e, f9, f40, exp, logistic, decode_probability, ok_arguments, FromZeroToOne}
use Rattle.half.proofs.Powers.{sized}

-- ---- the series, for u from 0 to 1
abbrev Divisor : Float → Type 0
Divisor k = T (positive k) × T (le (one64 ⊘ k) one64)

divisors : Divisor f2 × Divisor f3 × Divisor f4 × Divisor f5
unfolding of_bits div le
divisors = ((tt, tt), (tt, tt), (tt, tt), (tt, tt))

from_one : (x : Float) → Small x → Share (f1 ⊖ x)
from_one x h = subst (λ (o : Float). Share (o ⊖ x)) (sym one_f64_is) (less_share x h)

level_share : (v rest : Float) → Small v → Share rest → Share (level v rest)
level_share v rest h k = from_one (v ⊗ rest) (mul_small v rest h (share_small rest k))

divided : (u k : Float) → Small u → Divisor k → Small (u ⊘ k)
divided u k h q = div_small u k h q.0 q.1

pub series_share : (u : Float) → Small u → Share (series_in u)
series_share u h =
    let a = f1 ⊖ u ⊘ f5 in
    let b = level (u ⊘ f4) a in
    let c = level (u ⊘ f3) b in
    let d = level (u ⊘ f2) c in
    let ha : Share a = from_one (u ⊘ f5) (divided u f5 h divisors.3) in
    let hb : Share b = level_share (u ⊘ f4) a (divided u f4 h divisors.2) ha in
    let hc : Share c = level_share (u ⊘ f3) b (divided u f3 h divisors.1) hb in
    let hd : Share d = level_share (u ⊘ f2) c (divided u f2 h divisors.0) hc in
    level_share u d h hd

-- ---- the steps: with what is left at most twice the next step, what is left after it is at most that step
module _ (r s d : Float) (n : natural r) (h : T (le r d)) (fs : T (finite s)) (twice : T (le (d ⊖ s) s)) (none : natural (s ⊖ s)) where
  step_in : (b : Bool) → (T b → T (le s r)) → (T (not b) → T (le r s)) → UpTo s (cond b (r ⊖ s) r)
  step_in true y z =
      let N = sub_number binary64 r s (le_left r d h) fs in (
        le_le zero64 (s ⊖ s) (r ⊖ s) none (sub_mono binary64 s r s (y tt) (le_right zero64 (s ⊖ s) none) N),
        le_le (r ⊖ s) (d ⊖ s) s (sub_mono binary64 r d s h N (sub_number binary64 d s (le_right r d h) fs)) twice,
      )
  step_in false y z = (n, z tt)

-- what antt computes of a step s with d before it: it is finite, d less it is at most it, and it less it is 0
abbrev halves : Float → Float → Bool
halves s d = le (d ⊖ s) s

abbrev cancels : Float → Bool
cancels s = le zero64 (s ⊖ s)

abbrev right : Float → Float → Bool
right s d = finite s && (halves s d && cancels s)

unfoldable fine : ℕ → Float → Float → Bool
fine zero s d = true
fine (suc left) s d = right s d && fine left (s ⊗ f½) s

-- the last step
unfoldable final : ℕ → Float → Float → Float
final zero s d = d
final (suc left) s d = final left (s ⊗ f½) s

descent_in : (left : ℕ) (s d : Float) (w : ℕ) (r : Float) (k : ℕ) → T (fine left s d) → UpTo d r → UpTo (final left s d) (descent left s w r k).0
unfolding descent fine final
descent_in zero s d w r k t h = h
descent_in (suc left) s d w r k t h =
    let a = and_l (right s d) (fine left (s ⊗ f½) s) t in
    let fs = and_l (finite s) (halves s d && cancels s) a in
    let b = and_r (finite s) (halves s d && cancels s) a in
    descent_in left (s ⊗ f½) s (w / 2) (cond (le s r) (r ⊖ s) r) (cond (le s r) (k + w) k) (and_r (right s d) (fine left (s ⊗ f½) s) t)
    (step_in r s d h.0 h.1 fs (and_l (halves s d) (cancels s) b) (and_r (halves s d) (cancels s) b)
    (le s r) (λ (u : T (le s r)). u) (λ (u : T (not (le s r))). lt_le r s (not_le r s (le_right zero64 r h.0) (finite_number s fs) u)))

-- from 512, with what is left at most 1024, down to 1; from 1/2, with what is left at most 1, down to 1/256
abbrev f1024 : Float
f1024 = f64 0x4090_0000_0000_0000

abbrev pub last_step : Float
last_step = f64 0x3f70_0000_0000_0000

steps_fine : T (fine 10 f512 f1024) × T (fine 8 f½ one64)
unfolding fine of_bits mul sub le
steps_fine = (tt, tt)

steps_end : (final 10 f512 f1024 ≡ one64) × (final 8 f½ one64 ≡ last_step)
unfolding final of_bits mul
steps_end = (refl, refl)

pub rest_in : (t : Float) → natural t → T (le t f1024) → UpTo last_step (part_steps t).0
rest_in t n h =
    let a = subst (λ (z : Float). UpTo z (whole_steps t).0) steps_end.0 (descent_in 10 f512 f1024 512 t 0 steps_fine.0 (n, h)) in
    subst (λ (z : Float). UpTo z (part_steps t).0) steps_end.1 (descent_in 8 f½ one64 128 (whole_steps t).0 0 steps_fine.1 a)

-- ---- j is below 256
counted : (b : Bool) (k w B : ℕ) → k + 2 * w < B + min w 1 → cond b (k + w) k + 2 * (w / 2) < B + min (w / 2) 1
counted true k w B h = omega arith
counted false k w B h = omega arith

pub count_below : (left : ℕ) (s : Float) (w : ℕ) (r : Float) (k B : ℕ) → k + 2 * w < B + min w 1 → (descent left s w r k).1 < B
unfolding descent
count_below zero s w r k B h = omega arith
count_below (suc left) s w r k B h = count_below left (s ⊗ f½) (w / 2) (cond (le s r) (r ⊖ s) r) (cond (le s r) (k + w) k) B (counted (le s r) k w B h)

below_256 : (t : Float) → (part_steps t).1 < 256
below_256 t = count_below 8 f½ 128 (whole_steps t).0 0 256 (lit< tt)

-- ---- the table's entries, the powers of two, and `half`
shares : ℕ → Float → Bool
shares j x = plain x && le x one64

table_shares : T (every nan shares 0 powers)
unfolding shares powers of_bits le
table_shares = tt

pub power_share : (j : ℕ) → j < 256 → Share (power_at j)
unfolding shares
power_share j h =
    let t = at nan shares powers table_shares j (subst (λ (n : ℕ). j < n) (sym sized) h) in
    (and_l (plain (power_at j)) (le (power_at j) one64) t, and_r (plain (power_at j)) (le (power_at j) one64) t)

pub inverse_share : (n : ℕ) → Share (inverse_power n)
inverse_share n = round_share 1 (2 ^ n) (pow_pos n) (pow_pos n)

ln2_small : Small ln2
unfolding of_bits le
ln2_small = (tt, tt)

last_small : T (le last_step one64)
unfolding of_bits le
last_small = tt

rest_share : (r : Float) → UpTo last_step r → Share (series r)
unfolding series
rest_share r h = series_share (r ⊗ ln2) (mul_small r ln2 (h.0, le_le r last_step one64 h.1 last_small) ln2_small)

zero_share : Share f0
unfolding of_bits le
zero_share = (tt, tt)

end_number : T (number f1022)
unfolding of_bits
end_number = tt

end_below : T (le f1022 f1024)
unfolding of_bits le
end_below = tt

-- "t finite and >= 0": and an infinity
pub half_share : (t : Float) → natural t → Share (half t)
unfolding half
half_share t n = go (le f1022 t) (λ (u : T (not (le f1022 t))). u)
  where
    go : (b : Bool) → (T (not b) → T (not (le f1022 t))) → Share (cond b f0 (joined (part_steps t) (whole_steps t).1))
    go true y = zero_share
    go false y =
        let h = le_le t f1022 f1024 (lt_le t f1022 (not_le t f1022 (le_right zero64 t n) end_number (y tt))) end_below in
        let p = part_steps t in
        mul_share (power_at p.1 ⊗ series p.0) (inverse_power (whole_steps t).1)
        (mul_share (power_at p.1) (series p.0) (power_share p.1 (below_256 t)) (rest_share p.0 (rest_in t n h)))
        (inverse_share (whole_steps t).1)

-- ---- `exp` of what is no NaN has its sign clear. It can be an infinity
log2e_positive : T (positive log2e)
unfolding of_bits
log2e_positive = tt

pub exp_plain : (y : Float) → T (number y) → T (plain (exp y))
unfolding exp
exp_plain y p = go (le y f0) (λ (u : T (le y f0)). u) (λ (u : T (not (le y f0))). u)
  where
    go : (b : Bool) → (T b → T (le y f0)) → (T (not b) → T (not (le y f0))) → T (plain (cond b (half (neg y ⊗ log2e)) (f1 ⊘ half (y ⊗ log2e))))
    go true a b = (half_share (neg y ⊗ log2e) (mul_up (neg y) log2e (neg_natural y (subst (λ (z : Float). T (le y z)) zero_is (a tt))) log2e_positive)).0
    go false a b =
        let n : natural y = lt_le zero64 y (not_le zero64 y tt p (subst (λ (z : Float). T (not (le y z))) zero_is (b tt))) in
        subst (λ (o : Float). T (plain (o ⊘ half (y ⊗ log2e)))) (sym one_f64_is) (one_by (half (y ⊗ log2e)) (half_share (y ⊗ log2e) (mul_up y log2e n log2e_positive)))

-- ---- the logistic
nine_positive : T (positive f9)
unfolding of_bits
nine_positive = tt

one_fits : T (fits binary64 one64)
unfolding fits
one_fits = tt

pub logistic_share : (d : Float) → T (number d) → Share (logistic d)
logistic_share d p = go (lt d (neg f40))
  where
    go : (b : Bool) → Share (cond b f0 (f1 ⊘ (f1 ⊕ exp (neg d) ⊘ f9)))
    go true = zero_share
    go false =
        let v = exp (neg d) ⊘ f9 in
        let n : natural v = plain_natural v (div_plain binary64 (exp (neg d)) f9 (exp_plain (neg d) (neg_number d p)) nine_positive) in
        subst (λ (o : Float). Share (o ⊘ (o ⊕ v))) (sym one_f64_is) (inverse_from_one (one64 ⊕ v) (grows binary64 one64 v one_fits (plain_natural one64 tt) n))

-- at any SNR that is no NaN, any finite threshold and any slope above 0: so at every one that the prior hands over
pub probability_share : (snr threshold slope : Float) → T (number snr) → T (finite threshold) → T (positive slope) → Share (decode_probability snr threshold slope)
unfolding decode_probability
probability_share snr threshold slope p q r = logistic_share ((snr ⊖ threshold) ⊘ slope) (div_number binary64 (snr ⊖ threshold) slope (sub_number binary64 snr threshold p q) r)

-- ---- as document 01 says it: "It lies from 0 to 1."
pub from_share : (p : Float) → Share p → FromZeroToOne p
from_share p h = (subst (λ (z : Float). T (le z p)) (sym zero_is) (plain_natural p h.0), subst (λ (z : Float). T (le p z)) (sym one_f64_is) h.1)

pub half_from_zero_to_one : (t : Float) → T (le f0 t) → FromZeroToOne (half t)
half_from_zero_to_one t n = from_share (half t) (half_share t (subst (λ (z : Float). T (le z t)) zero_is n))

pub probability_from_zero_to_one : (snr threshold slope : Float) → T (number snr) → T (finite threshold) → T (positive slope) → FromZeroToOne (decode_probability snr threshold slope)
probability_from_zero_to_one snr threshold slope p q r = from_share (decode_probability snr threshold slope) (probability_share snr threshold slope p q r)

-- what is within its limits is a number, and a slope there is above 0
limit_ends : T (finite (neg f200)) × T (finite f200) × T (positive eighth) × T (positive f16)
unfolding of_bits neg
limit_ends = (tt, tt, tt, tt)

db_finite : (x : Float) → T (ok_db x) → T (finite x)
db_finite x h = between_limits (neg f200) x f200 limit_ends.0 limit_ends.1 (and_l (le (neg f200) x) (le x f200) h) (and_r (le (neg f200) x) (le x f200) h)

slope_positive : (x : Float) → T (ok_slope x) → T (positive x)
slope_positive x h = between eighth x f16 limit_ends.2 limit_ends.3 (and_l (le eighth x) (le x f16) h) (and_r (le eighth x) (le x f16) h)

pub accepted_from_zero_to_one : (snr threshold slope : Float) → ok_arguments snr threshold slope ≡ true → FromZeroToOne (decode_probability snr threshold slope)
accepted_from_zero_to_one snr threshold slope e =
    let ok = T_from_true (ok_arguments snr threshold slope) e in
    let two = and_l (ok_db snr && ok_db threshold) (ok_slope slope) ok in
    probability_from_zero_to_one snr threshold slope
    (finite_number snr (db_finite snr (and_l (ok_db snr) (ok_db threshold) two))) (db_finite threshold (and_r (ok_db snr) (ok_db threshold) two))
    (slope_positive slope (and_r (ok_db snr && ok_db threshold) (ok_slope slope) ok))
