-- What the steps of `descent` take off, all at once. Steps from 2 ^ (n - 1) / 2 ^ l down to 1 / 2 ^ l take off r = q / 2 ^ (l + d), which is below twice the first, the
-- largest multiple of 1 / 2 ^ l up to r, since every subtraction is exact. From what is below the last step, and from a NaN, they take nothing. Assumes nothing.
use Rattle.std.proofs.Common.{◌≡◌, ℕ, zero, suc, ◌+◌, ◌-◌, ◌*◌, ◌/◌, ◌%◌, ◌^◌, ◌<◌, ◌≤◌, Bool, true, false, cond, not, ◌&&◌, T, eqb, ltb, sym, refl, ap, ◌∙◌, subst, le_of_eq, lt_of_lt_of_le, mod-eq_of_lt, mul_assoc, one-mul, lt_of_not-le, arith, eqb→eq, ltb→lt, T_not, pow_pos}
use native.Mathlib.Nat.{div-eq_of_lt, add-mul-mod_self_right, add-mul-div_right, pow-succ'}
use lib.Dec.{not_T}
use lib.Ieee.{Float, binary64, round, le, mul, of_bits}
use lib.Ieee.Bits.{is_false}
use lib.Ieee.Fits.{and_l, and_r}
use lib.Ieee.Exact.{HasValue}
use Rattle.float.specs.Numbers.{◌⊖◌, ◌⊗◌, f½}
use Rattle.float.proofs.Same.{same, same→eq}
use Rattle.float.proofs.Order.{le_le}
use Rattle.half.specs.Power.{f512, descent}
use Rattle.half.proofs.Fraction.{F, F-value, widen, le_at, at_le, sub_at}

-- ---- the steps, tested by computing: the n that are left are w / 2 ^ l with w from 2 ^ (n - 1) down to 1
abbrev weighs : ℕ → Float → ℕ → Bool
weighs l s w = same s (F l w)

abbrev power : ℕ → ℕ → Bool
power n w = eqb w (2 ^ n) && ltb w (2 ^ 53)

unfoldable pub halving : ℕ → ℕ → Float → ℕ → Bool
halving l zero s w = true
halving l (suc n) s w = weighs l s w && power n w && halving l n (s ⊗ f½) (w / 2)

pub halvings : T (halving 0 10 f512 512) × T (halving 8 8 f½ 128)
unfolding halving of_bits mul round
halvings = (tt, tt)

-- ---- what they leave of q / 2 ^ k, with 2 ^ d units in 1 / 2 ^ l, and c with the weights of those taken
abbrev pub after : ℕ → ℕ → ℕ → ℕ → Float × ℕ
after d k q c = (F k (q % 2 ^ d), c + q / 2 ^ d)

pair : {x y : Float} {m n : ℕ} → x ≡ y → m ≡ n → ◌≡◌ {A = Float × ℕ} (x, m) (y, n)
pair p r = λ i. (p i, r i)

-- a step taken off changes nothing of it
less : (d k w q c : ℕ) → w * 2 ^ d ≤ q → after d k (q - w * 2 ^ d) (c + w) ≡ after d k q c
less d k w q c h =
    let r = q - w * 2 ^ d in
    let g : r + w * 2 ^ d ≡ q = omega arith in
    let a : r % 2 ^ d ≡ q % 2 ^ d = sym (add-mul-mod_self_right r w (2 ^ d)) ∙ ap (λ (z : ℕ). z % 2 ^ d) g in
    let b : r / 2 ^ d + w ≡ q / 2 ^ d = sym (add-mul-div_right r w (pow_pos d)) ∙ ap (λ (z : ℕ). z / 2 ^ d) g in
    pair (ap (F k) a) (omega arith)

-- one step s, of w × 2 ^ d units, and the steps after it by what they do below s
module _ (d k w q c : ℕ) (s : Float) (v : HasValue s false (w * 2 ^ d) (2 ^ k)) (r : HasValue (F k q) false q (2 ^ k)) (Q : q < 2 ^ 53) (h : q < 2 * (w * 2 ^ d))
    (later : Float → ℕ → Float × ℕ) (does : (m b : ℕ) → m < 2 ^ 53 → m < w * 2 ^ d → later (F k m) b ≡ after d k m b) where
  one_step : (b : Bool) → (T b → T (le s (F k q))) → (T (not b) → T (not (le s (F k q)))) → later (cond b (F k q ⊖ s) (F k q)) (cond b (c + w) c) ≡ after d k q c
  one_step true y n =
      let g = at_le s (F k q) (w * 2 ^ d) q (2 ^ k) (pow_pos k) v r (y tt) in
      ap (λ (x : Float). later x (c + w)) (sub_at (F k q) s q (w * 2 ^ d) (2 ^ k) (pow_pos k) r v binary64 g) ∙ does (q - w * 2 ^ d) (c + w) (omega arith) (omega arith) ∙ less d k w q c g
  one_step false y n = does q c Q (lt_of_not-le (λ (g : w * 2 ^ d ≤ q). T_not (le s (F k q)) (n tt) (le_at s (F k q) (w * 2 ^ d) q (2 ^ k) (pow_pos k) v r g)))

twice : (w n d : ℕ) → w ≡ 2 ^ n → 2 ^ suc n * 2 ^ d ≡ 2 * (w * 2 ^ d)
twice w n d e = ap (λ (z : ℕ). z * 2 ^ d) (pow-succ' 2 n) ∙ mul_assoc 2 (2 ^ n) (2 ^ d) ∙ ap (λ (z : ℕ). 2 * (z * 2 ^ d)) (sym e)

module _ (l d k : ℕ) (e : l + d ≡ k) (K : k ≤ 1074) where
  step_value : (s : Float) (w : ℕ) → T (weighs l s w) → w < 2 ^ 53 → HasValue s false (w * 2 ^ d) (2 ^ k)
  step_value s w t h =
      subst (λ (z : ℕ). HasValue s false (w * 2 ^ d) (2 ^ z)) e
      (widen s w l d (subst (λ (z : Float). HasValue z false w (2 ^ l)) (sym (same→eq s (F l w) t)) (F-value l w (omega arith) h)))

  pub all_taken : (n : ℕ) (s : Float) (w q c : ℕ) → T (halving l n s w) → q < 2 ^ 53 → q < 2 ^ n * 2 ^ d → descent n s w (F k q) c ≡ after d k q c
  unfolding descent halving
  all_taken zero s w q c t Q h =
      let g = lt_of_lt_of_le h (le_of_eq (one-mul (2 ^ d))) in
      pair (ap (F k) (sym (mod-eq_of_lt g))) (omega (arith, div-eq_of_lt g))
  all_taken (suc n) s w q c t Q h =
      let a = and_l (weighs l s w && power n w) (halving l n (s ⊗ f½) (w / 2)) t in
      let p = and_r (weighs l s w) (power n w) a in
      let is : w ≡ 2 ^ n = eqb→eq w (2 ^ n) (and_l (eqb w (2 ^ n)) (ltb w (2 ^ 53)) p) in
      let v = step_value s w (and_l (weighs l s w) (power n w) a) (ltb→lt w (2 ^ 53) (and_r (eqb w (2 ^ n)) (ltb w (2 ^ 53)) p)) in
      one_step d k w q c s v (F-value k q K Q) Q (omega (arith, twice w n d is)) (descent n (s ⊗ f½) (w / 2))
      (λ (m b : ℕ) (M : m < 2 ^ 53) (g : m < w * 2 ^ d). all_taken n (s ⊗ f½) (w / 2) m b (and_r (weighs l s w && power n w) (halving l n (s ⊗ f½) (w / 2)) t) M (lt_of_lt_of_le g (le_of_eq (ap (λ (z : ℕ). z * 2 ^ d) is))))
      (le s (F k q)) (λ (u : T (le s (F k q))). u) (λ (u : T (not (le s (F k q)))). u)

-- ---- none is taken from what is not at least the last, o: each is at least o
unfoldable pub from : Float → ℕ → Float → Bool
from o zero s = true
from o (suc n) s = le o s && from o n (s ⊗ f½)

pub none_taken : (o : Float) (n : ℕ) (s : Float) (w : ℕ) (r : Float) (c : ℕ) → T (from o n s) → T (not (le o r)) → descent n s w r c ≡ (r, c)
unfolding descent from
none_taken o zero s w r c t h = refl
none_taken o (suc n) s w r c t h =
    let e : le s r ≡ false = is_false (le s r) (not_T (le s r) (λ (u : T (le s r)). T_not (le o r) h (le_le o s r (and_l (le o s) (from o n (s ⊗ f½)) t) u))) in
    rw e (none_taken o n (s ⊗ f½) (w / 2) r c (and_r (le o s) (from o n (s ⊗ f½)) t) h)
