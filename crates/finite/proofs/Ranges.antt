-- Ranges of floats: what lies between two finite ends, and the ranges of sums, products, differences and quotients. Rounding keeps the order, so an operation's
-- result lies between the results at the ends, and that those lie in a range is one test that antt computes. Assumes nothing.
use mathlib.Core.Path.{◌≡◌, refl}
use mathlib.Core.Bool.{Bool, true, false, not, ◌&&◌}
use Prim.Native.Nat.{ℕ, ◌+◌, ◌*◌, ◌≤◌}
use native.Mathlib.Nat.{zero-mul, mul_comm, mul_assoc, mul_left_comm, add-mul, mul-le-mul_right, mul-pos}
use native.Mathlib.Omega.{arith}
use lib.Dec.{T}
use lib.Ieee.{Float, nan, inf, fin, binary64, neg, le, lt}
use lib.Ieee.Fits.{and_i, and_l, and_r}
use lib.Ieee.Scale.{finite}
use lib.Ieee.Positive.{den, den_pos, positive, positive-finite, between}
use Rattle.std.proofs.lemmas.Float.{lt_irrefl}
use Rattle.float.specs.Numbers.{◌⊕◌, ◌⊖◌, ◌⊗◌, ◌⊘◌, of_nat, within}
use Rattle.float.proofs.Order.{plus, minus, number, le→LE, le_le, lt_le_lt, not_lt}
use Rattle.float.proofs.Rounding.{rounds_mono, mul_rounds, neg_le, zero64}
use Rattle.float.proofs.Monotone.{natural, cross, no_minus, add_mono_finite, sub_is, neg_finite, mul_mono_finite, between_limits, finite_number}
use Rattle.float.proofs.Division.{plus_pos, div_rounds, div_mono}
use Rattle.account.proofs.FullAir.{of_mono}

-- ---- two laws of order more
-- a factor that is at least 0 keeps the order of values of either sign
factors : (pc dc px nx dx px' nx' dx' : ℕ) → px * dx' + nx' * dx ≤ px' * dx + nx * dx' → pc * px * (dc * dx') + pc * nx' * (dc * dx) ≤ pc * px' * (dc * dx) + pc * nx * (dc * dx')
factors pc dc px nx dx px' nx' dx' h =
    let u = simp (add-mul, mul_assoc, mul_comm, mul_left_comm) at (mul-le-mul_right (pc * dc) h) in
    simp (mul_assoc, mul_comm, mul_left_comm) (omega arith)

scale_mono : (c x x' : Float) → T (finite c) → natural c → T (finite x) → T (finite x') → T (le x x') → T (le (c ⊗ x) (c ⊗ x'))
scale_mono c x x' fc nc fx fx' h =
    rounds_mono binary64 (plus c * plus x + minus c * minus x) (plus c * minus x + minus c * plus x) (den c * den x) (plus c * plus x' + minus c * minus x') (plus c * minus x' + minus c * plus x') (den c * den x')
    (c ⊗ x) (c ⊗ x') (mul-pos (den_pos c) (den_pos x)) (mul-pos (den_pos c) (den_pos x')) (mul_rounds binary64 c x fc fx) (mul_rounds binary64 c x' fc fx')
    (simp (no_minus c fc nc, zero-mul) (omega (arith, factors (plus c) (den c) (plus x) (minus x) (den x) (plus x') (minus x') (den x') (cross x x' fx fx' (le→LE x x' h)))))

-- a greater divisor gives a smaller quotient
divisors : (px dx py dy py' dy' : ℕ) → py * dy' ≤ py' * dy → px * dy' * (py * dx) ≤ px * dy * (py' * dx)
divisors px dx py dy py' dy' h =
    let u = simp (mul_assoc, mul_comm, mul_left_comm) at (mul-le-mul_right (px * dx) h) in
    simp (mul_assoc, mul_comm, mul_left_comm) (omega arith)

no_minus_positive : (y : Float) → T (positive y) → minus y ≡ 0
no_minus_positive nan q = refl
no_minus_positive (inf s) q = refl
no_minus_positive (fin true n d) q = absurd q
no_minus_positive (fin false n d) q = refl

div_anti : (x y y' : Float) → T (finite x) → natural x → T (positive y) → T (positive y') → T (le y y') → T (le (x ⊘ y') (x ⊘ y))
div_anti x y y' fx nx q q' h =
    let zx = no_minus x fx nx in
    let zy = no_minus_positive y q in
    let zy' = no_minus_positive y' q' in
    let g : plus y * den y' ≤ plus y' * den y = omega (arith, simp (zy, zy', zero-mul) at (cross y y' (positive-finite y q) (positive-finite y' q') (le→LE y y' h))) in
    rounds_mono binary64 (plus x * den y') (minus x * den y') (plus y' * den x) (plus x * den y) (minus x * den y) (plus y * den x) (x ⊘ y') (x ⊘ y)
    (mul-pos (plus_pos y' q') (den_pos x)) (mul-pos (plus_pos y q) (den_pos x)) (div_rounds binary64 x y' fx q') (div_rounds binary64 x y fx q)
    (simp (zx, zero-mul) (omega (arith, divisors (plus x) (den x) (plus y) (den y) (plus y') (den y') g)))

-- ---- of two numbers, one is above the other exactly where it is not at most the other
pub opposite : (a b : Bool) → (T a → T b → ⊥) → (T (not a) → T b) → a ≡ not b
opposite true true h k = absurd (h tt tt)
opposite true false h k = refl
opposite false true h k = refl
opposite false false h k = absurd (k tt)

pub one_test : (x y : Float) → T (number x) → T (number y) → lt y x ≡ not (le x y)
one_test x y p q = opposite (lt y x) (le x y) (λ h k. lt_irrefl y (lt_le_lt y x y h k)) (not_lt y x q p)

-- ---- ranges
pub record Range : Type 0 where
  pub lo : Float
  pub hi : Float

infixl 50 ◌to◌
abbrev pub ◌to◌ : Float → Float → Range
◌to◌ lo hi = record { lo = lo; hi = hi }

abbrev pub In : Range → Float → Type 0
In a x = T (within a.lo a.hi x)

-- the ends are finite
abbrev pub bounded : Range → Bool
bounded a = finite a.lo && finite a.hi

-- and at least 0
abbrev pub upward : Range → Bool
upward a = bounded a && le zero64 a.lo

-- the range b holds the range a
abbrev pub holds : Range → Range → Bool
holds b a = le b.lo a.lo && le a.hi b.hi

module _ (a : Range) (x : Float) where
  from_lo : In a x → T (le a.lo x)
  from_lo h = and_l (le a.lo x) (le x a.hi) h

  up_to_hi : In a x → T (le x a.hi)
  up_to_hi h = and_r (le a.lo x) (le x a.hi) h

  pub in_by : T (le a.lo x) → T (le x a.hi) → In a x
  in_by h k = and_i (le a.lo x) (le x a.hi) h k

  module _ (e : T (bounded a)) where
    lo_finite : T (finite a.lo)
    lo_finite = and_l (finite a.lo) (finite a.hi) e

    hi_finite : T (finite a.hi)
    hi_finite = and_r (finite a.lo) (finite a.hi) e

    pub in_finite : In a x → T (finite x)
    in_finite h = between_limits a.lo x a.hi lo_finite hi_finite (from_lo h) (up_to_hi h)

    pub in_number : In a x → T (number x)
    in_number h = finite_number x (in_finite h)

pub in_natural : (a : Range) (x : Float) → T (le zero64 a.lo) → In a x → natural x
in_natural a x n h = le_le zero64 a.lo x n (from_lo a x h)

pub widen : (a b : Range) (x : Float) → T (holds b a) → In a x → In b x
widen a b x e h =
    let l = le b.lo a.lo in
    let u = le a.hi b.hi in
    in_by b x (le_le b.lo a.lo x (and_l l u e) (from_lo a x h)) (le_le x a.hi b.hi (up_to_hi a x h) (and_r l u e))

-- ---- the operations, each with the range of its results and the test that a range c holds it
infixl 60 ◌⊞◌ ◌⊟◌
infixl 70 ◌⊠◌ ◌÷◌
abbrev pub ◌⊞◌ : Range → Range → Range
◌⊞◌ a b = (a.lo ⊕ b.lo) to (a.hi ⊕ b.hi)

abbrev pub ◌⊟◌ : Range → Range → Range
◌⊟◌ a b = (a.lo ⊖ b.hi) to (a.hi ⊖ b.lo)

-- of values that are at least 0
abbrev pub ◌⊠◌ : Range → Range → Range
◌⊠◌ a b = (a.lo ⊗ b.lo) to (a.hi ⊗ b.hi)

abbrev pub ◌÷◌ : Range → Range → Range
◌÷◌ a b = (a.lo ⊘ b.hi) to (a.hi ⊘ b.lo)

-- by a factor that is at least 0
abbrev pub scaled : Float → Range → Range
scaled k a = (k ⊗ a.lo) to (k ⊗ a.hi)

abbrev pub sums : Range → Range → Range → Bool
sums a b c = bounded a && bounded b && holds c (a ⊞ b)

abbrev pub differences : Range → Range → Range → Bool
differences a b c = bounded a && bounded b && holds c (a ⊟ b)

abbrev pub products : Range → Range → Range → Bool
products a b c = upward a && upward b && holds c (a ⊠ b)

abbrev pub quotients : Range → Range → Range → Bool
quotients a b c = upward a && (positive b.lo && positive b.hi) && holds c (a ÷ b)

abbrev pub scales : Float → Range → Range → Bool
scales k a c = (finite k && le zero64 k) && bounded a && holds c (scaled k a)

-- the three parts of such a test
module _ (p q r : Bool) (e : T (p && q && r)) where
  pub first : T p
  first = and_l p q (and_l (p && q) r e)

  pub second : T q
  second = and_r p q (and_l (p && q) r e)

  pub third : T r
  third = and_r (p && q) r e

module _ (a b c : Range) (x y : Float) (h : In a x) (k : In b y) where
  pub sum_in : T (sums a b c) → In c (x ⊕ y)
  sum_in e =
      let A = first (bounded a) (bounded b) (holds c (a ⊞ b)) e in
      let B = second (bounded a) (bounded b) (holds c (a ⊞ b)) e in
      let fx = in_finite a x A h in
      let fy = in_finite b y B k in
      widen (a ⊞ b) c (x ⊕ y) (third (bounded a) (bounded b) (holds c (a ⊞ b)) e)
      (in_by (a ⊞ b) (x ⊕ y)
      (add_mono_finite binary64 a.lo x b.lo y (lo_finite a x A) fx (lo_finite b y B) fy (from_lo a x h) (from_lo b y k))
      (add_mono_finite binary64 x a.hi y b.hi fx (hi_finite a x A) fy (hi_finite b y B) (up_to_hi a x h) (up_to_hi b y k)))

  pub difference_in : T (differences a b c) → In c (x ⊖ y)
  difference_in e =
      let A = first (bounded a) (bounded b) (holds c (a ⊟ b)) e in
      let B = second (bounded a) (bounded b) (holds c (a ⊟ b)) e in
      let fx = in_finite a x A h in
      let fy = neg_finite y (in_finite b y B k) in
      widen (a ⊟ b) c (x ⊖ y) (third (bounded a) (bounded b) (holds c (a ⊟ b)) e)
      (in_by (a ⊟ b) (x ⊖ y)
      (rw (sub_is binary64 a.lo b.hi, sub_is binary64 x y)
      (add_mono_finite binary64 a.lo x (neg b.hi) (neg y) (lo_finite a x A) fx (neg_finite b.hi (hi_finite b y B)) fy (from_lo a x h) (neg_le y b.hi (up_to_hi b y k))))
      (rw (sub_is binary64 a.hi b.lo, sub_is binary64 x y)
      (add_mono_finite binary64 x a.hi (neg y) (neg b.lo) fx (hi_finite a x A) fy (neg_finite b.lo (lo_finite b y B)) (up_to_hi a x h) (neg_le b.lo y (from_lo b y k)))))

  pub product_in : T (products a b c) → In c (x ⊗ y)
  product_in e =
      let u = first (upward a) (upward b) (holds c (a ⊠ b)) e in
      let v = second (upward a) (upward b) (holds c (a ⊠ b)) e in
      let A = and_l (bounded a) (le zero64 a.lo) u in
      let B = and_l (bounded b) (le zero64 b.lo) v in
      let na = and_r (bounded a) (le zero64 a.lo) u in
      let nb = and_r (bounded b) (le zero64 b.lo) v in
      let fx = in_finite a x A h in
      let fy = in_finite b y B k in
      widen (a ⊠ b) c (x ⊗ y) (third (upward a) (upward b) (holds c (a ⊠ b)) e)
      (in_by (a ⊠ b) (x ⊗ y)
      (mul_mono_finite binary64 a.lo x b.lo y (lo_finite a x A) fx (lo_finite b y B) fy na nb (from_lo a x h) (from_lo b y k))
      (mul_mono_finite binary64 x a.hi y b.hi fx (hi_finite a x A) fy (hi_finite b y B) (in_natural a x na h) (in_natural b y nb k) (up_to_hi a x h) (up_to_hi b y k)))

  pub quotient_in : T (quotients a b c) → In c (x ⊘ y)
  quotient_in e =
      let u = first (upward a) (positive b.lo && positive b.hi) (holds c (a ÷ b)) e in
      let v = second (upward a) (positive b.lo && positive b.hi) (holds c (a ÷ b)) e in
      let A = and_l (bounded a) (le zero64 a.lo) u in
      let na = and_r (bounded a) (le zero64 a.lo) u in
      let pl = and_l (positive b.lo) (positive b.hi) v in
      let ph = and_r (positive b.lo) (positive b.hi) v in
      let py = between b.lo y b.hi pl ph (from_lo b y k) (up_to_hi b y k) in
      let fx = in_finite a x A h in
      widen (a ÷ b) c (x ⊘ y) (third (upward a) (positive b.lo && positive b.hi) (holds c (a ÷ b)) e)
      (in_by (a ÷ b) (x ⊘ y)
      (le_le (a.lo ⊘ b.hi) (a.lo ⊘ y) (x ⊘ y)
      (div_anti a.lo y b.hi (lo_finite a x A) na py ph (up_to_hi b y k)) (div_mono binary64 a.lo x y (lo_finite a x A) fx py (from_lo a x h)))
      (le_le (x ⊘ y) (x ⊘ b.lo) (a.hi ⊘ b.lo)
      (div_anti x b.lo y fx (in_natural a x na h) pl py (from_lo b y k)) (div_mono binary64 x a.hi b.lo fx (hi_finite a x A) pl (up_to_hi a x h))))

pub scaled_in : (f : Float) (a c : Range) (x : Float) → In a x → T (scales f a c) → In c (f ⊗ x)
scaled_in f a c x h e =
    let u = first (finite f && le zero64 f) (bounded a) (holds c (scaled f a)) e in
    let A = second (finite f && le zero64 f) (bounded a) (holds c (scaled f a)) e in
    let ff = and_l (finite f) (le zero64 f) u in
    let nf = and_r (finite f) (le zero64 f) u in
    let fx = in_finite a x A h in
    widen (scaled f a) c (f ⊗ x) (third (finite f && le zero64 f) (bounded a) (holds c (scaled f a)) e)
    (in_by (scaled f a) (f ⊗ x) (scale_mono f a.lo x ff nf (lo_finite a x A) fx (from_lo a x h)) (scale_mono f x a.hi ff nf fx (hi_finite a x A) (up_to_hi a x h)))

-- by a divisor above 0, of values of either sign
abbrev pub divides : Float → Range → Range → Bool
divides y a c = positive y && bounded a && holds c ((a.lo ⊘ y) to (a.hi ⊘ y))

pub divided_in : (y : Float) (a c : Range) (x : Float) → In a x → T (divides y a c) → In c (x ⊘ y)
divided_in y a c x h e =
    let b = (a.lo ⊘ y) to (a.hi ⊘ y) in
    let q = first (positive y) (bounded a) (holds c b) e in
    let A = second (positive y) (bounded a) (holds c b) e in
    let fx = in_finite a x A h in
    widen b c (x ⊘ y) (third (positive y) (bounded a) (holds c b) e)
    (in_by b (x ⊘ y) (div_mono binary64 a.lo x y (lo_finite a x A) fx q (from_lo a x h)) (div_mono binary64 x a.hi y fx (hi_finite a x A) q (up_to_hi a x h)))

-- ---- a number as f64
pub counts : (m n k : ℕ) → m ≤ n → n ≤ k → In (of_nat m to of_nat k) (of_nat n)
counts m n k h l = in_by (of_nat m to of_nat k) (of_nat n) (of_mono m n h) (of_mono n k l)
