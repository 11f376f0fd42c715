-- Values from 0 to 1. A share is such a value with its sign clear (so not -0, whose inverse is negative): products, differences from 1 and quotients
-- by a number from 1 up are shares again, and a product with one is no larger. Assumes nothing.
use mathlib.Core.Path.{◌≡◌, refl, sym, ap, ◌∙◌, subst}
use mathlib.Core.Logic.{inl, inr}
use Prim.Native.Nat.{ℕ, zero, suc, ◌+◌, ◌-◌, ◌*◌, ◌^◌, ◌≤◌, ◌<◌, zero-le}
use native.Mathlib.Nat.{le_refl, le_of_eq, le_trans, zero-mul, mul-zero, mul-one, one-mul, mul_assoc, mul_right_comm, add-mul, mul-le-mul_left, mul-pos, lt_of_lt_of_le}
use native.Mathlib.Omega.{arith}
use mathlib.Core.Bool.{Bool, true, false, not, cond}
use lib.Dec.{T, ltb, eqb, eqb→eq}
use lib.IntN.{ℤ, pos}
use lib.Pow.{pow_pos}
use lib.Ieee.{Float, nan, inf, fin, Format, binary64, prec, low, emax, up, down, odd, units, round, neg, sum, add, sub, mul, div, le, fits}
use lib.Ieee.Fits.{round_is, down_pos}
use lib.Ieee.Order.{round_mono, le_of_values}
use lib.Ieee.Scale.{finite}
use lib.Ieee.Positive.{den, den_pos, positive}
use Rattle.float.proofs.Order.{P, plus, minus, le→LE, LE→le, le_le}
use Rattle.float.proofs.Rounding.{sum_less, rounds_mono, mul_rounds, neg_le, zero64, round_zero}
use Rattle.float.proofs.Monotone.{natural, cross, no_minus, add_mono_finite, sub_is, neg_finite, mul_mono_finite, mul_natural, rounds_natural}
use Rattle.float.proofs.Exact.{exact}
use Rattle.float.proofs.Division.{nonzero, plus_pos, div_rounds, div_mono}

abbrev pub one64 : Float
one64 = fin false 1 (pos 0)

-- the sign is clear
abbrev pub plain : Float → Bool
plain nan = false
plain (inf s) = not s
plain (fin s m e) = not s

pub plain_natural : (x : Float) → T (plain x) → natural x
unfolding le
plain_natural nan p = absurd p
plain_natural (inf true) p = absurd p
plain_natural (inf false) p = tt
plain_natural (fin true m e) p = absurd p
plain_natural (fin false m e) p = LE→le zero64 (fin false m e) tt tt (inr (refl, simp (zero-mul) zero-le))

abbrev pub Share : Float → Type 0
Share x = T (plain x) × T (le x one64)

-- from 0 to d, -0 included
abbrev pub UpTo : Float → Float → Type 0
UpTo d x = natural x × T (le x d)

abbrev pub Small : Float → Type 0
Small x = UpTo one64 x

pub share_small : (x : Float) → Share x → Small x
share_small x h = (plain_natural x h.0, h.1)

pub small_finite : (x : Float) → Small x → T (finite x)
unfolding le
small_finite nan h = absurd h.0
small_finite (inf true) h = absurd h.0
small_finite (inf false) h = absurd h.1
small_finite (fin s m e) h = tt

-- ---- a rounding of a fraction that is not negative
odd_plain : (d : ℕ) (q k l : ℕ) → T (plain (odd d false q k l))
unfolding odd
odd_plain d zero k l = tt
odd_plain d (suc q) k l = tt

units_plain : (f : Format) (q k : ℕ) → T (plain (units f false q k))
unfolding units
units_plain f q k = go (ltb (q * 2 ^ k) (2 ^ (low f + suc (emax f))))
  where
    go : (b : Bool) → T (plain (cond b (odd (suc (prec f)) false q k (low f)) (inf false)))
    go true = odd_plain (suc (prec f)) q k (low f)
    go false = tt

round_plain : (f : Format) (a c : ℕ) → T (plain (round f false a c))
round_plain f a c = subst (λ (z : Float). T (plain z)) (sym (round_is f false a c)) (units_plain f _ _)

round_one : round binary64 false 1 1 ≡ one64
unfolding round
round_one = refl

-- a / c rounded, for a ≤ c
pub round_share : (a c : ℕ) → 0 < c → a ≤ c → Share (round binary64 false a c)
round_share a c C h = (round_plain binary64 a c, subst (λ (z : Float). T (le (round binary64 false a c) z)) round_one (round_mono binary64 a c 1 1 C (pow_pos 0) (omega arith)))

-- ---- products
mul_plain : (f : Format) (x y : Float) → T (finite x) → T (finite y) → T (plain x) → T (plain y) → T (plain (mul f x y))
unfolding mul
mul_plain f nan y p q h k = absurd p
mul_plain f (inf s) y p q h k = absurd p
mul_plain f (fin s m e) nan p q h k = absurd q
mul_plain f (fin s m e) (inf t) p q h k = absurd q
mul_plain f (fin true m e) (fin t n d) p q h k = absurd h
mul_plain f (fin false m e) (fin true n d) p q h k = absurd k
mul_plain f (fin false m e) (fin false n d) p q h k = round_plain f (m * up e * (n * up d)) (down e * down d)

one_by_one : mul binary64 one64 one64 ≡ one64
unfolding mul
one_by_one = refl

one_number : T (le one64 one64)
unfolding le
one_number = tt

pub mul_small : (x y : Float) → Small x → Small y → Small (mul binary64 x y)
mul_small x y h k =
    let fx = small_finite x h in
    let fy = small_finite y k in
    (mul_natural binary64 x y fx fy h.0 k.0, subst (λ (z : Float). T (le (mul binary64 x y) z)) one_by_one (mul_mono_finite binary64 x one64 y one64 fx tt fy tt h.0 k.0 h.1 k.1))

pub mul_share : (x y : Float) → Share x → Share y → Share (mul binary64 x y)
mul_share x y h k =
    (mul_plain binary64 x y (small_finite x (share_small x h)) (small_finite y (share_small y k)) h.0 k.0, (mul_small x y (share_small x h) (share_small y k)).1)

-- ---- 1 - x
sum_plain : (a b c : ℕ) → b ≤ a → T (plain (sum binary64 false a true b c))
sum_plain a b c h = rw (sum_less binary64 a b c h) (round_plain binary64 (a - b) c)

less_plain : (x : Float) → T (finite x) → T (le x one64) → T (plain (sub binary64 one64 x))
unfolding sub
less_plain nan p k = absurd p
less_plain (inf s) p k = absurd p
less_plain (fin true m e) p k = round_plain binary64 (1 * 1 * down e + m * up e * 1) (1 * down e)
less_plain (fin false m e) p k =
    let g = cross (fin false m e) one64 tt tt (le→LE (fin false m e) one64 k) in
    sum_plain (1 * 1 * down e) (m * up e * 1) (1 * down e) (omega (arith, simp (zero-mul, mul-one, one-mul) at g, one-mul (down e), mul-one (m * up e)))

one_less_zero : add binary64 one64 (neg zero64) ≡ one64
unfolding add neg
one_less_zero = refl

pub less_share : (x : Float) → Small x → Share (sub binary64 one64 x)
less_share x h =
    let fx = small_finite x h in (
      less_plain x fx h.1,
      subst (λ (z : Float). T (le (sub binary64 one64 x) z)) one_less_zero
          (subst (λ (z : Float). T (le z (add binary64 one64 (neg zero64)))) (sym (sub_is binary64 one64 x))
          (add_mono_finite binary64 one64 one64 (neg x) (neg zero64) tt tt (neg_finite x fx) (neg_finite zero64 tt) one_number (neg_le zero64 x h.0))),
    )

-- ---- x / y for a y above 0
pub div_plain : (f : Format) (x y : Float) → T (plain x) → T (positive y) → T (plain (div f x y))
unfolding div
div_plain f nan y p q = absurd p
div_plain f (inf true) y p q = absurd p
div_plain f (fin true m e) y p q = absurd p
div_plain f (inf false) nan p q = absurd q
div_plain f (inf false) (inf t) p q = absurd q
div_plain f (inf false) (fin true n d) p q = absurd q
div_plain f (inf false) (fin false n d) p q = tt
div_plain f (fin false m e) nan p q = absurd q
div_plain f (fin false m e) (inf t) p q = absurd q
div_plain f (fin false m e) (fin true n d) p q = absurd q
div_plain f (fin false m e) (fin false n d) p q = go (eqb n 0) (nonzero n q)
  where
    go : (b : Bool) → (T b → ⊥) → T (plain (cond b (cond (eqb m 0) nan (inf false)) (round f false (m * up e * down d) (n * up d * down e))))
    go true z = absurd (z tt)
    go false z = round_plain f (m * up e * down d) (n * up d * down e)

pub div_small : (x y : Float) → Small x → T (positive y) → T (le (div binary64 one64 y) one64) → Small (div binary64 x y)
div_small x y h q k =
    let fx = small_finite x h in (
      rounds_natural binary64 (plus x * den y) (minus x * den y) (plus y * den x) (div binary64 x y) (mul-pos (plus_pos y q) (den_pos x)) (simp (no_minus x fx h.0, zero-mul) zero-le) (div_rounds binary64 x y fx q),
      le_le (div binary64 x y) (div binary64 one64 y) one64 (div_mono binary64 x one64 y fx tt q h.1) k,
    )

-- ---- products that may be infinite
pub mul_up : (x c : Float) → natural x → T (positive c) → natural (mul binary64 x c)
unfolding mul le
mul_up nan c h q = absurd h
mul_up (inf true) c h q = absurd h
mul_up (inf false) nan h q = absurd q
mul_up (inf false) (inf t) h q = absurd q
mul_up (inf false) (fin true n d) h q = absurd q
mul_up (inf false) (fin false n d) h q = go (eqb n 0) (nonzero n q)
  where
    go : (b : Bool) → (T b → ⊥) → natural (cond b nan (inf false))
    go true z = absurd (z tt)
    go false z = tt
mul_up (fin s m e) nan h q = absurd q
mul_up (fin s m e) (inf t) h q = absurd q
mul_up (fin s m e) (fin true n d) h q = absurd q
mul_up (fin s m e) (fin false n d) h q = mul_natural binary64 (fin s m e) (fin false n d) tt tt h (plain_natural (fin false n d) tt)

pub one_by : (x : Float) → Share x → T (plain (div binary64 one64 x))
unfolding div le
one_by nan h = absurd h.0
one_by (inf true) h = absurd h.0
one_by (inf false) h = absurd h.1
one_by (fin true n d) h = absurd h.0
one_by (fin false n d) h = go (eqb n 0)
  where
    go : (b : Bool) → T (plain (cond b (inf false) (round binary64 false (1 * 1 * down d) (n * up d * 1))))
    go true = tt
    go false = round_plain binary64 (1 * 1 * down d) (n * up d * 1)

pub neg_natural : (y : Float) → T (le y zero64) → natural (neg y)
neg_natural y h = le_le zero64 (neg zero64) (neg y) (unfold le neg in tt) (neg_le y zero64 h)

-- ---- 1 / x for x from 1 up, an infinity included
one_over : (s : Bool) (n : ℕ) (d : ℤ) → T (le one64 (fin s n d)) → 1 * 1 * down d ≤ P s (n * up d) * 1
one_over s n d h = let g = cross one64 (fin s n d) tt tt (le→LE one64 (fin s n d) h) in omega (arith, simp (zero-mul, mul-one, one-mul) at g, simp (one-mul) at (le_refl (1 * 1 * down d)), mul-one (P s (n * up d)), one-mul (down d))

never : (d : ℤ) (a : ℕ) → 1 * 1 * down d ≤ a → a ≡ 0 → ⊥
never d a h e = omega (arith, down_pos d, one-mul (down d))

pub inverse_from_one : (x : Float) → T (le one64 x) → Share (div binary64 one64 x)
unfolding div le
inverse_from_one nan h = absurd h
inverse_from_one (inf true) h = absurd h
inverse_from_one (inf false) h = (tt, tt)
inverse_from_one (fin true n d) h = absurd (never d (0 * 1) (one_over true n d h) refl)
inverse_from_one (fin false n d) h = go (eqb n 0) (eqb→eq n 0)
  where
    k : 1 * 1 * down d ≤ n * up d * 1
    k = one_over false n d h

    go : (b : Bool) → (T b → n ≡ 0) → Share (cond b (inf false) (round binary64 false (1 * 1 * down d) (n * up d * 1)))
    go true z = absurd (never d (n * up d * 1) (one_over false n d h) (ap (λ (m : ℕ). m * up d * 1) (z tt) ∙ ap (λ (m : ℕ). m * 1) (zero-mul (up d))))
    go false z = round_share (1 * 1 * down d) (n * up d * 1) (lt_of_lt_of_le (lt_of_lt_of_le (down_pos d) (le_of_eq (sym (one-mul (down d))))) (one_over false n d h)) (one_over false n d h)

-- ---- a product with such a value is no larger than a number that the format holds
smaller : (a e pd dd : ℕ) → pd ≤ dd → a * pd * e ≤ a * (e * dd)
smaller a e pd dd h = le_trans (le_of_eq (mul_right_comm a pd e ∙ mul_assoc a e pd)) (mul-le-mul_left a (mul-le-mul_left e h))

pub shrinks : (x d : Float) → T (fits binary64 x) → T (finite x) → natural x → Small d → T (le (mul binary64 x d) x)
shrinks nan d t fx nx h = absurd fx
shrinks (inf s) d t fx nx h = absurd fx
shrinks (fin true m e) d t fx nx h =
    let x = fin true m e in
    let fd = small_finite d h in
    le_le (mul binary64 x d) zero64 x
    (rounds_mono binary64 (plus x * plus d + minus x * minus d) (plus x * minus d + minus x * plus d) (den x * den d) 0 0 1 (mul binary64 x d) zero64 (mul-pos (den_pos x) (den_pos d)) (pow_pos 0)
    (mul_rounds binary64 x d tt fd) (inl (le_refl 0, sym (round_zero binary64 1 (pow_pos 0)))) (simp (no_minus d fd h.0, zero-mul, mul-zero) zero-le))
    nx
shrinks (fin false m e) d t fx nx h =
    let x = fin false m e in
    let a = m * up e in
    let r = round binary64 false a (down e) in
    let fd = small_finite d h in
    let z = no_minus d fd h.0 in
    let g : plus d ≤ den d = omega (arith, simp (z, zero-mul, mul-one, one-mul) at (cross d one64 fd tt (le→LE d one64 h.1))) in
    le_le (mul binary64 x d) r x
    (rounds_mono binary64 (a * plus d + 0 * minus d) (a * minus d + 0 * plus d) (down e * den d) a 0 (down e) (mul binary64 x d) r (mul-pos (down_pos e) (den_pos d)) (down_pos e)
    (mul_rounds binary64 x d tt fd) (inl (zero-le, ap (λ (k : ℕ). round binary64 false k (down e)) (omega arith)))
    (simp (z, zero-mul, mul-zero, add-mul) (omega (arith, smaller a (down e) (plus d) (den d) g))))
    (le_of_values r x a (down e) a (down e) (down_pos e) (down_pos e) (exact binary64 false m e t) (refl, refl) (le_refl (a * down e)))
