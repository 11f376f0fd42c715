-- A float above 0 and below 2 ^ n / 2 ^ l is q / 2 ^ (l + d) for some d, with q of no more digits than the format keeps: the places of its own exponent,
-- or the first l where it has fewer. Assumes nothing.
use Rattle.std.proofs.Common.{◌≡◌, ℕ, zero, suc, ◌+◌, ◌-◌, ◌*◌, ◌^◌, ◌<◌, ◌≤◌, false, T, ℤ, pos, negsuc, sym, ap, ◌∙◌, le_of_eq, lt_of_lt_of_le, le_of_suc-le-suc, lt_of_le_of_lt, add-zero, mul_assoc, mul_comm, lt_of_mul-lt-mul_right, lt_of_not-le, mul-one, not-le_of_lt, arith, pow_pos, pow_mono, pow-add}
use native.Mathlib.Decide.{dec_le}
use lib.Pow.{pow-lt}
use lib.Ieee.{Float, fin, binary64, round, up, down, fits}
use lib.Ieee.Fits.{down_pos}
use lib.Ieee.Scale.{round_same}
use lib.Ieee.Positive.{positive}
use Rattle.float.proofs.Exact.{digits}
use Rattle.half.proofs.Fraction.{own, F}

-- x is q / 2 ^ (l + d), exactly, and below 2 ^ n / 2 ^ l
pub record Places (l n : ℕ) (x : Float) : Type 0 where
  pub d : ℕ
  pub q : ℕ
  pub is : x ≡ F (l + d) q
  pub fine : l + d ≤ 1074
  pub digits : q < 2 ^ 53
  pub small : q < 2 ^ n * 2 ^ d

module _ (l n m : ℕ) (e : ℤ) (t : T (fits binary64 (fin false m e))) (h : m * up e * 2 ^ l < 2 ^ n * down e) where
  -- at most l places
  few : (i : ℕ) → down e * 2 ^ i ≡ 2 ^ l → l ≤ 1074 → n ≤ 53 → Places l n (fin false m e)
  few i g L N =
      let q = m * up e * 2 ^ i in
      let v : m * up e * 2 ^ l ≡ q * down e = ap (λ (z : ℕ). m * up e * z) (sym g ∙ mul_comm (down e) (2 ^ i)) ∙ sym (mul_assoc (m * up e) (2 ^ i) (down e)) in
      let s : q < 2 ^ n = lt_of_mul-lt-mul_right _ (lt_of_le_of_lt (le_of_eq (sym v)) h) in
      record {
        d = 0;
        q = q;
        is = own binary64 false m e t ∙ round_same binary64 false (m * up e) (down e) q (2 ^ (l + 0)) (down_pos e) (pow_pos (l + 0)) (ap (λ (z : ℕ). m * up e * 2 ^ z) (add-zero l) ∙ v);
        fine = omega arith;
        digits = lt_of_lt_of_le s (pow_mono N);
        small = lt_of_lt_of_le s (le_of_eq (sym (mul-one (2 ^ n))));
      }

  -- l + d places
  many : (d : ℕ) → down e ≡ 2 ^ (l + d) → l + d ≤ 1074 → m * up e < 2 ^ 53 → Places l n (fin false m e)
  many d g L M =
      record {
        d = d;
        q = m * up e;
        is = own binary64 false m e t ∙ ap (λ (z : ℕ). round binary64 false (m * up e) z) g;
        fine = L;
        digits = M;
        small = lt_of_mul-lt-mul_right _ (lt_of_lt_of_le h (le_of_eq (ap (λ (z : ℕ). 2 ^ n * z) (g ∙ pow-add 2 l d ∙ mul_comm (2 ^ l) (2 ^ d)) ∙ sym (mul_assoc (2 ^ n) (2 ^ d) (2 ^ l)))));
      }

pub places : (l n m : ℕ) (e : ℤ) → l ≤ 1074 → n ≤ 53 → T (positive (fin false m e)) → T (fits binary64 (fin false m e)) → m * up e * 2 ^ l < 2 ^ n * down e → Places l n (fin false m e)
places l n zero e L N p t h = absurd p
places l n (suc m) (pos k) L N p t h = few l n (suc m) (pos k) t h l (omega arith) L N
places l n (suc m) (negsuc k) L N p t h =
    elim (dec_le l (suc k)) [
      | yes y ↦
          let g : l + (suc k - l) ≡ suc k = omega arith in
          let r : suc k ≤ 1074 = le_of_suc-le-suc (lt_of_not-le (λ (z : 1075 ≤ suc k). not-le_of_lt (pow-lt z) (digits binary64 false m (negsuc k) t).1)) in
          many l n (suc m) (negsuc k) t h (suc k - l) (ap (λ (z : ℕ). 2 ^ z) (sym g)) (omega arith) (lt_of_le_of_lt (le_of_eq (mul-one (suc m))) (digits binary64 false m (negsuc k) t).0)
      | no z ↦
          let w = lt_of_not-le z in
          let g : suc k + (l - suc k) ≡ l = omega arith in
          few l n (suc m) (negsuc k) t h (l - suc k) (sym (pow-add 2 (suc k) (l - suc k)) ∙ ap (λ (z : ℕ). 2 ^ z) g) L N
    ]
