-- Floats with a clear sign as fractions a / c: those that fit and are the same fraction are equal, their order is that of the fractions, a difference and a product are
-- one rounding, and q / 2 ^ k with no more digits than the format keeps is exact. Assumes nothing.
use Rattle.std.proofs.Common.{◌≡◌, ℕ, ◌+◌, ◌-◌, ◌*◌, ◌/◌, ◌^◌, ◌<◌, ◌≤◌, min, Bool, true, false, cond, T, ℤ, sym, refl, ap, ◌∙◌, inl, inr, true≢false, lt_of_lt_of_le, lt_irrefl, mul-le-mul_right, mul_assoc, mul_comm, mul-pos, mul_right_comm, le_of_mul-le-mul_right, arith, pow_pos, pow_mono, pow-add, shl_lt}
use native.Mathlib.Nat.{mul-mul-mul_comm}
use lib.Ieee.{Float, nan, inf, fin, Format, binary64, prec, low, up, down, size, hid, top, round, sum, sub, mul, le, fits, of_bits, to_bits, to_unsigned}
use lib.Ieee.Fits.{down_pos, round-fits}
use lib.Ieee.Bits.{of_bits-to_bits}
use lib.Ieee.Exact.{HasValue, round_exact}
use lib.Ieee.Nearest.{div_same}
use lib.Ieee.Order.{transfer, le_of_values}
use lib.Ieee.Scale.{round_same}
use Rattle.float.proofs.Order.{le→LE}
use Rattle.float.proofs.Rounding.{sub_mul, sum_less}
use Rattle.float.proofs.Exact.{exact}

-- ---- one fraction, one float
-- the bit pattern goes by how many of the format's smallest values a float has
abbrev pattern : Format → Bool → ℕ → ℕ
pattern f s n = cond s (top f) 0 + (size n - prec f) * hid f + n / 2 ^ (size n - prec f)

bits_at : (f : Format) (x : Float) (s : Bool) (a c : ℕ) → 0 < c → HasValue x s a c → to_bits f x ≡ pattern f s (a * 2 ^ low f / c)
unfolding to_bits
bits_at f nan s a c C h = absurd h
bits_at f (inf t) s a c C h = absurd h
bits_at f (fin t m e) s a c C h =
    ap (λ (b : Bool). pattern f b (m * up e * 2 ^ low f / down e)) h.0
    ∙ ap (pattern f s) (div_same (m * up e * 2 ^ low f) (down e) (a * 2 ^ low f) c (down_pos e) C
    (mul_right_comm (m * up e) (2 ^ low f) c ∙ ap (λ (z : ℕ). z * 2 ^ low f) h.1 ∙ mul_right_comm a (down e) (2 ^ low f)))

unique : (f : Format) (x y : Float) (s : Bool) (a c : ℕ) → 0 < c → T (fits f x) → T (fits f y) → HasValue x s a c → HasValue y s a c → x ≡ y
unique f x y s a c C p q h k =
    sym (of_bits-to_bits f x p) ∙ ap (of_bits f) (bits_at f x s a c C h ∙ sym (bits_at f y s a c C k)) ∙ of_bits-to_bits f y q

-- a value that the format holds is its own rounding
pub own : (f : Format) (s : Bool) (m : ℕ) (e : ℤ) → T (fits f (fin s m e)) → fin s m e ≡ round f s (m * up e) (down e)
own f s m e t = unique f (fin s m e) (round f s (m * up e) (down e)) s (m * up e) (down e) (down_pos e) t (round-fits f s (m * up e) (down e)) (refl, refl) (exact f s m e t)

-- ---- two fractions over c
shape : (x : Float) (a c : ℕ) → HasValue x false a c → (m : ℕ) × (e : ℤ) × (x ≡ fin false m e) × (m * up e * c ≡ a * down e)
shape nan a c h = absurd h
shape (inf s) a c h = absurd h
shape (fin true m e) a c h = absurd (true≢false h.0)
shape (fin false m e) a c h = (m, e, refl, h.1)

pub crossed : (m : ℕ) (e : ℤ) (n : ℕ) (d : ℤ) → T (le (fin false m e) (fin false n d)) → m * up e * down d ≤ n * up d * down e
crossed m e n d l = elim (le→LE (fin false m e) (fin false n d) l) [ inl u ↦ absurd (lt_irrefl 1 u) | inr u ↦ let v = u.1 in omega arith ]

opened : (f : Format) (m : ℕ) (e : ℤ) (n : ℕ) (d : ℤ) → sub f (fin false m e) (fin false n d) ≡ sum f false (m * up e * down d) true (n * up d * down e) (down e * down d)
unfolding sub
opened f m e n d = refl

-- (x dd - y de) / (de dd) is (a - b) / c
over : (x y de dd a b c : ℕ) → x * c ≡ a * de → y * c ≡ b * dd → (x * dd - y * de) * c ≡ (a - b) * (de * dd)
over x y de dd a b c h k =
    sub_mul (x * dd) (y * de) c
    ∙ ap (λ (z : ℕ). z - y * de * c) (mul_right_comm x dd c ∙ ap (λ (z : ℕ). z * dd) h ∙ mul_assoc a de dd)
    ∙ ap (λ (z : ℕ). a * (de * dd) - z) (mul_right_comm y de c ∙ ap (λ (z : ℕ). z * de) k ∙ mul_assoc b dd de ∙ ap (λ (z : ℕ). b * z) (mul_comm dd de))
    ∙ sym (sub_mul a b (de * dd))

module _ (x y : Float) (a b c : ℕ) (C : 0 < c) (h : HasValue x false a c) (k : HasValue y false b c) where
  pub le_at : a ≤ b → T (le x y)
  le_at l = le_of_values x y a c b c C C h k (mul-le-mul_right c l)

  pub at_le : T (le x y) → a ≤ b
  at_le l =
      let u = shape x a c h in
      let v = shape y b c k in
      le_of_mul-le-mul_right (transfer a b c c (u.0 * up u.1) (v.0 * up v.1) (down u.1) (down v.1) (down_pos u.1) (down_pos v.1) (sym u.3) (sym v.3) (crossed u.0 u.1 v.0 v.1 (rw (u.2, v.2) at l))) C

  pub sub_at : (f : Format) → b ≤ a → sub f x y ≡ round f false (a - b) c
  sub_at f l =
      let u = shape x a c h in
      let v = shape y b c k in
      let X = u.0 * up u.1 in
      let Y = v.0 * up v.1 in
      let D = down u.1 in
      let E = down v.1 in
      ap (λ (z : Float). sub f z y) u.2 ∙ ap (λ (z : Float). sub f (fin false u.0 u.1) z) v.2
      ∙ opened f u.0 u.1 v.0 v.1
      ∙ sum_less f (X * E) (Y * D) (D * E) (transfer Y X E D b a c c C C v.3 u.3 (mul-le-mul_right c l))
      ∙ round_same f false (X * E - Y * D) (D * E) (a - b) c (mul-pos (down_pos u.1) (down_pos v.1)) C (over X Y D E a b c u.3 v.3)

-- a product
multiplied : (f : Format) (m : ℕ) (e : ℤ) (n : ℕ) (d : ℤ) → mul f (fin false m e) (fin false n d) ≡ round f false (m * up e * (n * up d)) (down e * down d)
unfolding mul
multiplied f m e n d = refl

pub mul_at : (f : Format) (x y : Float) (a b c c' : ℕ) → 0 < c → 0 < c' → HasValue x false a c → HasValue y false b c' → mul f x y ≡ round f false (a * b) (c * c')
mul_at f x y a b c c' C C' h k =
    let u = shape x a c h in
    let v = shape y b c' k in
    let X = u.0 * up u.1 in
    let Y = v.0 * up v.1 in
    let D = down u.1 in
    let E = down v.1 in
    ap (λ (z : Float). mul f z y) u.2 ∙ ap (λ (z : Float). mul f (fin false u.0 u.1) z) v.2
    ∙ multiplied f u.0 u.1 v.0 v.1
    ∙ round_same f false (X * Y) (D * E) (a * b) (c * c') (mul-pos (down_pos u.1) (down_pos v.1)) (mul-pos C C')
    (mul-mul-mul_comm X Y c c' ∙ ap (λ (z : ℕ). z * (Y * c')) u.3 ∙ ap (λ (z : ℕ). a * D * z) v.3 ∙ mul-mul-mul_comm a D b E)

-- the whole part, as an integer
uncapped : (a c : ℕ) → a < c → min a (c - 1) ≡ a
uncapped a c h = omega arith

pub whole_at : (x : Float) (a c : ℕ) → 0 < c → HasValue x false a c → a / c < 2 ^ 64 → to_unsigned 64 x ≡ a / c
unfolding to_unsigned
whole_at nan a c C h l = absurd h
whole_at (inf s) a c C h l = absurd h
whole_at (fin true m e) a c C h l = absurd (true≢false h.0)
whole_at (fin false m e) a c C h l = ap (λ (z : ℕ). min z (2 ^ 64 - 1)) (div_same (m * up e) (down e) a c (down_pos e) C h.1) ∙ uncapped (a / c) (2 ^ 64) l

-- the same size over a larger power of two
pub widen : (x : Float) (a l d : ℕ) → HasValue x false a (2 ^ l) → HasValue x false (a * 2 ^ d) (2 ^ (l + d))
widen nan a l d h = h
widen (inf s) a l d h = h
widen (fin s m e) a l d h = (h.0, ap (λ (z : ℕ). m * up e * z) (pow-add 2 l d) ∙ sym (mul_assoc (m * up e) (2 ^ l) (2 ^ d)) ∙ ap (λ (z : ℕ). z * 2 ^ d) h.1 ∙ mul_right_comm a (down e) (2 ^ d))

-- ---- the float q / 2 ^ k
abbrev pub F : ℕ → ℕ → Float
F k q = round binary64 false q (2 ^ k)

-- it is exact where q has no more digits than the format keeps
pub F-value : (k q : ℕ) → k ≤ 1074 → q < 2 ^ 53 → HasValue (F k q) false q (2 ^ k)
F-value k q K Q =
    let j = 1074 - k in
    let e : j + k ≡ 1074 = omega arith in
    let s : 53 + j ≤ 2098 = omega arith in
    round_exact binary64 false q (2 ^ k) q j (pow_pos k) Q (lt_of_lt_of_le (shl_lt 53 j Q) (pow_mono s))
    (ap (λ (z : ℕ). q * z) (ap (λ (z : ℕ). 2 ^ z) (sym e) ∙ pow-add 2 j k) ∙ sym (mul_assoc q (2 ^ j) (2 ^ k)))
