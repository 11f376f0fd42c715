-- Rounding keeps the order of signed fractions (P - N) / c, so sums, differences and products of finite values do: each is one rounding. Assumes nothing.
use mathlib.Core.Path.{◌≡◌, refl, sym, ap, ◌∙◌, subst}
use mathlib.Core.Logic.{◌⊎◌, inl, inr}
use Prim.Native.Nat.{ℕ, zero, suc, ◌+◌, ◌-◌, ◌*◌, ◌^◌, ◌≤◌, ◌<◌, zero-le}
use native.Mathlib.Nat.{le_refl, le_of_eq, le_trans, zero-mul, mul-zero, mul_comm, mul-sub, mul-le-mul_right, eq_of_mul-eq-mul_right, not-le_of_lt}
use native.Mathlib.Omega.{arith}
use mathlib.Core.Bool.{Bool, true, false, not, cond}
use lib.Dec.{T, ltb, ltb→lt, nltb→le}
use lib.IntN.{pos}
use lib.Pow.{pow_pos}
use lib.Ieee.{Float, nan, inf, fin, Format, binary32, binary64, prec, low, emax, unlike, up, down, odd, units, round, neg, sum, add, mul, le}
use lib.Ieee.Fits.{round_is}
use lib.Ieee.Order.{round_mono}
use lib.Ieee.Scale.{round_same, finite}
use lib.Ieee.Positive.{den}
use Rattle.float.proofs.Order.{P, N, P-mul, N-mul, plus, minus, number, Le, le→LE, LE→le, le_le, le_left, le_right}

-- ---- `neg` turns the order round
pub neg_number : (x : Float) → T (number x) → T (number (neg x))
unfolding neg
neg_number nan p = p
neg_number (inf s) p = tt
neg_number (fin s m e) p = tt

P-not : (s : Bool) (a : ℕ) → P (not s) a ≡ N s a
P-not true a = refl
P-not false a = refl

N-not : (s : Bool) (a : ℕ) → N (not s) a ≡ P s a
N-not true a = refl
N-not false a = refl

neg_LE : (x y : Float) → T (number x) → T (number y) → Le x y → Le (neg y) (neg x)
unfolding neg
neg_LE nan y p q h = absurd p
neg_LE (inf s) nan p q h = absurd q
neg_LE (inf true) (inf true) p q h = inr (refl, le_refl 0)
neg_LE (inf true) (inf false) p q h = inl (omega arith)
neg_LE (inf false) (inf true) p q h = elim h [ inl u ↦ absurd (omega arith) | inr u ↦ absurd (omega arith) ]
neg_LE (inf false) (inf false) p q h = inr (refl, le_refl 0)
neg_LE (inf true) (fin t n d) p q h = elim h [ inl u ↦ inl (omega arith) | inr u ↦ absurd (omega arith) ]
neg_LE (inf false) (fin t n d) p q h = elim h [ inl u ↦ absurd (omega arith) | inr u ↦ absurd (omega arith) ]
neg_LE (fin s m e) nan p q h = absurd q
neg_LE (fin s m e) (inf true) p q h = elim h [ inl u ↦ absurd (omega arith) | inr u ↦ absurd (omega arith) ]
neg_LE (fin s m e) (inf false) p q h = elim h [ inl u ↦ inl (omega arith) | inr u ↦ absurd (omega arith) ]
neg_LE (fin s m e) (fin t n d) p q h = elim h [ inl u ↦ absurd (omega arith) | inr u ↦ inr (refl, simp (P-not, N-not) (omega arith)) ]

pub neg_le : (x y : Float) → T (le x y) → T (le (neg y) (neg x))
neg_le x y h = LE→le (neg y) (neg x) (neg_number y (le_right x y h)) (neg_number x (le_left x y h)) (neg_LE x y (le_left x y h) (le_right x y h) (le→LE x y h))

-- ---- a negative fraction's rounding
odd_neg : (d : ℕ) (q k l : ℕ) → odd d true q k l ≡ neg (odd d false q k l)
unfolding odd neg
odd_neg d zero k l = refl
odd_neg d (suc q) k l = refl

units_neg : (f : Format) (q k : ℕ) → units f true q k ≡ neg (units f false q k)
unfolding units
units_neg f q k = go (ltb (q * 2 ^ k) (2 ^ (low f + suc (emax f))))
  where
    go : (b : Bool) → cond b (odd (suc (prec f)) true q k (low f)) (inf true) ≡ neg (cond b (odd (suc (prec f)) false q k (low f)) (inf false))
    go true = odd_neg (suc (prec f)) q k (low f)
    go false = unfold neg in refl

pub round_neg : (f : Format) (a c : ℕ) → round f true a c ≡ neg (round f false a c)
round_neg f a c = round_is f true a c ∙ units_neg f _ _ ∙ ap neg (sym (round_is f false a c))

-- ---- zero
abbrev pub zero64 : Float
zero64 = fin false 0 (pos 0)

round_zero_one : (f : Format) → round f false 0 1 ≡ zero64
unfolding round
round_zero_one binary32 = refl
round_zero_one binary64 = refl

pub round_zero : (f : Format) (c : ℕ) → 0 < c → round f false 0 c ≡ zero64
round_zero f c C = round_same f false 0 c 0 1 C (pow_pos 0) (sym (zero-mul c)) ∙ round_zero_one f

round_at_least : (f : Format) (a c : ℕ) → 0 < c → T (le zero64 (round f false a c))
round_at_least f a c C = subst (λ (z : Float). T (le z (round f false a c))) (round_zero f 1 (pow_pos 0)) (round_mono f 0 1 a c (pow_pos 0) C (le_trans (le_of_eq (zero-mul c)) zero-le))

-- ---- x is (P - N) / c, rounded: where P is N, to either zero
abbrev pub Rounds : Format → ℕ → ℕ → ℕ → Float → Type 0
Rounds f p n c x = ((n ≤ p) × (x ≡ round f false (p - n) c)) ⊎ ((p ≤ n) × (x ≡ round f true (n - p) c))

pub sub_mul : (a b c : ℕ) → (a - b) * c ≡ a * c - b * c
sub_mul a b c = mul_comm (a - b) c ∙ mul-sub c a b ∙ ap (λ (z : ℕ). z - c * b) (mul_comm c a) ∙ ap (λ (z : ℕ). a * c - z) (mul_comm c b)

differences : (p n c p' n' c' : ℕ) → n ≤ p → n' ≤ p' → p * c' + n' * c ≤ p' * c + n * c' → (p - n) * c' ≤ (p' - n') * c
differences p n c p' n' c' h k l =
    let a = mul-le-mul_right c' h in
    let b = mul-le-mul_right c k in
    simp sub_mul (omega arith)

both_zero : (p n c p' n' c' : ℕ) → 0 < c → 0 < c' → n ≤ p → p' ≤ n' → p * c' + n' * c ≤ p' * c + n * c' → (p - n ≡ 0) × (n' - p' ≡ 0)
both_zero p n c p' n' c' C C' h k l =
    let a = mul-le-mul_right c' h in
    let b = mul-le-mul_right c k in
    let e : p ≡ n = eq_of_mul-eq-mul_right c' C' p n (omega arith) in
    let g : p' ≡ n' = eq_of_mul-eq-mul_right c C p' n' (omega arith) in
    (omega arith, omega arith)

pub rounds_mono : (f : Format) (p n c p' n' c' : ℕ) (x x' : Float) → 0 < c → 0 < c' → Rounds f p n c x → Rounds f p' n' c' x' → p * c' + n' * c ≤ p' * c + n * c' → T (le x x')
rounds_mono f p n c p' n' c' x x' C C' (inl u) (inl v) h =
    rw (u.1, v.1) (round_mono f (p - n) c (p' - n') c' C C' (differences p n c p' n' c' u.0 v.0 h))
rounds_mono f p n c p' n' c' x x' C C' (inl u) (inr v) h =
    let z = both_zero p n c p' n' c' C C' u.0 v.0 h in
    let a : x ≡ zero64 = u.1 ∙ ap (λ (k : ℕ). round f false k c) z.0 ∙ round_zero f c C in
    let b : x' ≡ neg zero64 = v.1 ∙ ap (λ (k : ℕ). round f true k c') z.1 ∙ round_neg f 0 c' ∙ ap neg (round_zero f c' C') in
    rw (a, b) (unfold le neg in tt)
rounds_mono f p n c p' n' c' x x' C C' (inr u) (inl v) h =
    let a : T (le (neg (round f false (n - p) c)) (neg zero64)) = neg_le zero64 (round f false (n - p) c) (round_at_least f (n - p) c C) in
    let b : T (le (neg zero64) zero64) = unfold le neg in tt in
    rw (u.1, v.1, round_neg) (le_le (neg (round f false (n - p) c)) zero64 (round f false (p' - n') c') (le_le (neg (round f false (n - p) c)) (neg zero64) zero64 a b) (round_at_least f (p' - n') c' C'))
rounds_mono f p n c p' n' c' x x' C C' (inr u) (inr v) h =
    rw (u.1, v.1, round_neg f (n - p) c, round_neg f (n' - p') c')
    (neg_le (round f false (n' - p') c') (round f false (n - p) c) (round_mono f (n' - p') c' (n - p) c C' C (differences n' p' c' n p c v.0 u.0 (omega arith))))

-- ---- a sum is one rounding
as_plus : (f : Format) (p n a c : ℕ) (x : Float) → n ≤ p → a ≡ p - n → x ≡ round f false a c → Rounds f p n c x
as_plus f p n a c x h e g = inl (h, g ∙ ap (λ (k : ℕ). round f false k c) e)

as_minus : (f : Format) (p n a c : ℕ) (x : Float) → p ≤ n → a ≡ n - p → x ≡ round f true a c → Rounds f p n c x
as_minus f p n a c x h e g = inr (h, g ∙ ap (λ (k : ℕ). round f true k c) e)

-- less a magnitude that is no larger
pub sum_less : (f : Format) (a b c : ℕ) → b ≤ a → sum f false a true b c ≡ round f false (a - b) c
unfolding sum
sum_less f a b c h = go (ltb a b) (ltb→lt a b)
  where
    go : (t : Bool) → (T t → a < b) → cond t (round f true (b - a) c) (round f false (a - b) c) ≡ round f false (a - b) c
    go true k = absurd (not-le_of_lt (k tt) h)
    go false k = refl

sum_rounds : (f : Format) (s : Bool) (a : ℕ) (t : Bool) (b c : ℕ) → Rounds f (P s a + P t b) (N s a + N t b) c (sum f s a t b c)
unfolding sum
sum_rounds f false a false b c = as_plus f (a + b) 0 (a + b) c (round f false (a + b) c) zero-le (omega arith) refl
sum_rounds f true a true b c = as_minus f 0 (a + b) (a + b) c (round f true (a + b) c) zero-le (omega arith) refl
sum_rounds f false a true b c = go (ltb a b) (ltb→lt a b) (nltb→le a b)
  where
    go : (u : Bool) → (T u → a < b) → (T (not u) → b ≤ a) → Rounds f (a + 0) (0 + b) c (cond u (round f true (b - a) c) (round f false (a - b) c))
    go true l g = let h = l tt in as_minus f (a + 0) (0 + b) (b - a) c (round f true (b - a) c) (omega arith) (omega arith) refl
    go false l g = let h = g tt in as_plus f (a + 0) (0 + b) (a - b) c (round f false (a - b) c) (omega arith) (omega arith) refl
sum_rounds f true a false b c = go (ltb a b) (ltb b a) (ltb→lt a b) (nltb→le a b) (nltb→le b a)
  where
    go : (u v : Bool) → (T u → a < b) → (T (not u) → b ≤ a) → (T (not v) → a ≤ b) → Rounds f (0 + b) (a + 0) c (cond u (round f false (b - a) c) (round f v (a - b) c))
    go true v l g k = let h = l tt in as_plus f (0 + b) (a + 0) (b - a) c (round f false (b - a) c) (omega arith) (omega arith) refl
    go false true l g k = let h = g tt in as_minus f (0 + b) (a + 0) (a - b) c (round f true (a - b) c) (omega arith) (omega arith) refl
    go false false l g k = let h = g tt in let i = k tt in as_plus f (0 + b) (a + 0) (a - b) c (round f false (a - b) c) (omega arith) (omega arith) refl

pub add_rounds : (f : Format) (x y : Float) → T (finite x) → T (finite y) → Rounds f (plus x * den y + plus y * den x) (minus x * den y + minus y * den x) (den x * den y) (add f x y)
unfolding add
add_rounds f nan y p q = absurd p
add_rounds f (inf s) y p q = absurd p
add_rounds f (fin s m e) nan p q = absurd q
add_rounds f (fin s m e) (inf t) p q = absurd q
add_rounds f (fin s m e) (fin t n d) p q =
    rw (← P-mul s (m * up e) (down d), ← P-mul t (n * up d) (down e), ← N-mul s (m * up e) (down d), ← N-mul t (n * up d) (down e))
    (sum_rounds f s (m * up e * down d) t (n * up d * down e) (down e * down d))

-- ---- a product is one rounding
pub mul_rounds : (f : Format) (x y : Float) → T (finite x) → T (finite y) → Rounds f (plus x * plus y + minus x * minus y) (plus x * minus y + minus x * plus y) (den x * den y) (mul f x y)
unfolding mul
mul_rounds f nan y p q = absurd p
mul_rounds f (inf s) y p q = absurd p
mul_rounds f (fin s m e) nan p q = absurd q
mul_rounds f (fin s m e) (inf t) p q = absurd q
mul_rounds f (fin s m e) (fin t n d) p q = go s t (m * up e) (n * up d) (down e * down d)
  where
    go : (s t : Bool) (a b c : ℕ) → Rounds f (P s a * P t b + N s a * N t b) (P s a * N t b + N s a * P t b) c (round f (unlike s t) (a * b) c)
    go false false a b c = simp (zero-mul, mul-zero) (as_plus f (a * b + 0) (0 + 0) (a * b) c (round f false (a * b) c) (omega arith) (omega arith) refl)
    go false true a b c = simp (zero-mul, mul-zero) (as_minus f (0 + 0) (a * b + 0) (a * b) c (round f true (a * b) c) (omega arith) (omega arith) refl)
    go true false a b c = simp (zero-mul, mul-zero) (as_minus f (0 + 0) (0 + a * b) (a * b) c (round f true (a * b) c) (omega arith) (omega arith) refl)
    go true true a b c = simp (zero-mul, mul-zero) (as_plus f (0 + a * b) (0 + 0) (a * b) c (round f false (a * b) c) (omega arith) (omega arith) refl)
