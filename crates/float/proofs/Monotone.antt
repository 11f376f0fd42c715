-- Sums, differences and products keep the order. Assumes nothing.
use mathlib.Core.Path.{◌≡◌, refl, sym, subst}
use mathlib.Core.Logic.{inl, inr}
use Prim.Native.Nat.{ℕ, zero, suc, ◌+◌, ◌-◌, ◌*◌, ◌^◌, ◌≤◌, ◌<◌, zero-le}
use native.Mathlib.Nat.{le_refl, le_of_eq, le_trans, zero-mul, mul-zero, mul-one, mul_comm, mul_assoc, mul_left_comm, add-mul, mul-le-mul_right, mul-pos, mul-le-mul, mul-mul-mul_comm}
use native.Mathlib.Omega.{arith}
use mathlib.Core.Bool.{Bool, true, false, cond}
use lib.Dec.{T, ltb}
use lib.Pow.{pow_pos}
use lib.IntN.{ℤ}
use lib.Ieee.{Float, nan, inf, fin, Format, binary64, of_bits, prec, low, emax, odd, units, round, neg, add, sub, mul, le}
use lib.Ieee.Fits.{round_is}
use lib.Ieee.Scale.{finite}
use lib.Ieee.Positive.{den, den_pos}
use Rattle.float.proofs.Order.{plus, minus, number, cross≤, Le, le→LE, le_le, le_self, le_left, le_right}
use Rattle.float.proofs.Rounding.{Rounds, rounds_mono, add_rounds, mul_rounds, zero64, round_zero}

pub cross : (x y : Float) → T (finite x) → T (finite y) → Le x y → cross≤ x y
cross nan y p q h = absurd p
cross (inf s) y p q h = absurd p
cross (fin s m e) nan p q h = absurd q
cross (fin s m e) (inf t) p q h = absurd q
cross (fin s m e) (fin t n d) p q h = elim h [ inl u ↦ absurd (omega arith) | inr u ↦ u.1 ]

-- ---- the sum, of finite values: in both arguments
sums : (pa na da pa' na' da' pb nb db pb' nb' db' : ℕ) → pa * da' + na' * da ≤ pa' * da + na * da' → pb * db' + nb' * db ≤ pb' * db + nb * db'
    → (pa * db + pb * da) * (da' * db') + (na' * db' + nb' * da') * (da * db) ≤ (pa' * db' + pb' * da') * (da * db) + (na * db + nb * da) * (da' * db')
sums pa na da pa' na' da' pb nb db pb' nb' db' h k =
    let u = simp (add-mul, mul_assoc, mul_comm) at (mul-le-mul_right (db * db') h) in
    let v = simp (add-mul, mul_assoc, mul_comm, mul_left_comm) at (mul-le-mul_right (da * da') k) in
    simp (add-mul, mul_assoc, mul_comm, mul_left_comm) (omega arith)

pub add_mono_finite : (f : Format) (a a' b b' : Float) → T (finite a) → T (finite a') → T (finite b) → T (finite b') → T (le a a') → T (le b b') → T (le (add f a b) (add f a' b'))
add_mono_finite f a a' b b' fa fa' fb fb' h k =
    rounds_mono f (plus a * den b + plus b * den a) (minus a * den b + minus b * den a) (den a * den b) (plus a' * den b' + plus b' * den a') (minus a' * den b' + minus b' * den a') (den a' * den b')
    (add f a b) (add f a' b') (mul-pos (den_pos a) (den_pos b)) (mul-pos (den_pos a') (den_pos b')) (add_rounds f a b fa fb) (add_rounds f a' b' fa' fb')
    (sums (plus a) (minus a) (den a) (plus a') (minus a') (den a') (plus b) (minus b) (den b) (plus b') (minus b') (den b') (cross a a' fa fa' (le→LE a a' h)) (cross b b' fb fb' (le→LE b b' k)))

-- ---- and of all that are no NaN
pub bottom : (y : Float) → T (number y) → T (le (inf true) y)
unfolding le
bottom nan p = absurd p
bottom (inf true) p = tt
bottom (inf false) p = tt
bottom (fin t n d) p = tt

pub top : (x : Float) → T (number x) → T (le x (inf false))
unfolding le
top nan p = absurd p
top (inf true) p = tt
top (inf false) p = tt
top (fin t n d) p = tt

absorbed : (f : Format) (y : Float) (t : Bool) → T (number (add f y (inf t))) → add f y (inf t) ≡ inf t
unfolding add
absorbed f nan t p = absurd p
absorbed f (inf true) true p = refl
absorbed f (inf true) false p = absurd p
absorbed f (inf false) true p = absurd p
absorbed f (inf false) false p = refl
absorbed f (fin s m e) t p = refl

add_nan : (f : Format) (y : Float) → T (number (add f y nan)) → ⊥
unfolding add
add_nan f nan p = p
add_nan f (inf s) p = p
add_nan f (fin s m e) p = p

same_side : (x y z : Float) → x ≡ z → y ≡ z → T (number z) → T (le x y)
same_side x y z p q n = rw (p, q) (le_self z n)

stays : (f : Format) (s t : Bool) (n : ℕ) (d : ℤ) → add f (inf s) (fin t n d) ≡ inf s
unfolding add
stays f s t n d = refl

no_le : (f : Format) (t : Bool) (n : ℕ) (d : ℤ) → T (le (inf false) (fin t n d)) → ⊥
unfolding le
no_le f t n d h = h

no_le' : (f : Format) (t : Bool) (n : ℕ) (d : ℤ) → T (le (fin t n d) (inf true)) → ⊥
unfolding le
no_le' f t n d h = h

pub add_mono : (f : Format) (a b c : Float) → T (le a b) → T (number (add f a c)) → T (number (add f b c)) → T (le (add f a c) (add f b c))
add_mono f a b nan h p q = absurd (add_nan f a p)
add_mono f a b (inf t) h p q = same_side (add f a (inf t)) (add f b (inf t)) (inf t) (absorbed f a t p) (absorbed f b t q) tt
add_mono f nan b (fin t n d) h p q = absurd (le_left nan b h)
add_mono f (inf true) b (fin t n d) h p q = rw (stays f true t n d) (bottom (add f b (fin t n d)) q)
add_mono f (inf false) nan (fin t n d) h p q = absurd (le_right (inf false) nan h)
add_mono f (inf false) (inf s) (fin t n d) h p q = rw (stays f false t n d, stays f s t n d) h
add_mono f (inf false) (fin s m e) (fin t n d) h p q = absurd (no_le f s m e h)
add_mono f (fin s m e) nan (fin t n d) h p q = absurd (le_right (fin s m e) nan h)
add_mono f (fin s m e) (inf true) (fin t n d) h p q = absurd (no_le' f s m e h)
add_mono f (fin s m e) (inf false) (fin t n d) h p q = rw (stays f false t n d) (top (add f (fin s m e) (fin t n d)) p)
add_mono f (fin s m e) (fin s' m' e') (fin t n d) h p q = add_mono_finite f (fin s m e) (fin s' m' e') (fin t n d) (fin t n d) tt tt tt tt h (le_self (fin t n d) tt)

-- ---- the difference, in its left argument: whatever its sign
pub sub_is : (f : Format) (x y : Float) → sub f x y ≡ add f x (neg y)
unfolding sub
sub_is f x y = refl

pub sub_mono : (f : Format) (a b c : Float) → T (le a b) → T (number (sub f a c)) → T (number (sub f b c)) → T (le (sub f a c) (sub f b c))
sub_mono f a b c h p q =
    rw (sub_is f a c, sub_is f b c) (add_mono f a b (neg c) h (rw (sub_is f a c) at p) (rw (sub_is f b c) at q))

-- ---- values that are at least 0
abbrev pub natural : Float → Type 0
natural x = T (le zero64 x)

pub no_minus : (x : Float) → T (finite x) → natural x → minus x ≡ 0
no_minus nan p h = absurd p
no_minus (inf s) p h = absurd p
no_minus (fin false m e) p h = refl
no_minus (fin true m e) p h =
    let g = cross zero64 (fin true m e) tt tt (le→LE zero64 (fin true m e) h) in
    omega (arith, simp (zero-mul, mul-one) at g)

odd_number : (d : ℕ) (s : Bool) (q k l : ℕ) → T (number (odd d s q k l))
unfolding odd
odd_number d s zero k l = tt
odd_number d s (suc q) k l = tt

units_number : (f : Format) (s : Bool) (q k : ℕ) → T (number (units f s q k))
unfolding units
units_number f s q k = go (ltb (q * 2 ^ k) (2 ^ (low f + suc (emax f))))
  where
    go : (b : Bool) → T (number (cond b (odd (suc (prec f)) s q k (low f)) (inf s)))
    go true = odd_number (suc (prec f)) s q k (low f)
    go false = tt

pub round_number : (f : Format) (s : Bool) (a c : ℕ) → T (number (round f s a c))
round_number f s a c = subst (λ (z : Float). T (number z)) (sym (round_is f s a c)) (units_number f s _ _)

rounds_number : (f : Format) (p n c : ℕ) (x : Float) → Rounds f p n c x → T (number x)
rounds_number f p n c x (inl u) = rw u.1 (round_number f false (p - n) c)
rounds_number f p n c x (inr u) = rw u.1 (round_number f true (n - p) c)

pub rounds_natural : (f : Format) (p n c : ℕ) (x : Float) → 0 < c → n ≤ p → Rounds f p n c x → natural x
rounds_natural f p n c x C h r =
    rounds_mono f 0 0 1 p n c zero64 x (pow_pos 0) C (inl (le_refl 0, sym (round_zero f 1 (pow_pos 0)))) r (simp (zero-mul, mul-one) (omega arith))

pub add_number : (f : Format) (x y : Float) → T (finite x) → T (finite y) → T (number (add f x y))
add_number f x y p q = rounds_number f (plus x * den y + plus y * den x) (minus x * den y + minus y * den x) (den x * den y) (add f x y) (add_rounds f x y p q)

pub mul_number : (f : Format) (x y : Float) → T (finite x) → T (finite y) → T (number (mul f x y))
mul_number f x y p q = rounds_number f (plus x * plus y + minus x * minus y) (plus x * minus y + minus x * plus y) (den x * den y) (mul f x y) (mul_rounds f x y p q)

add_natural_finite : (f : Format) (x y : Float) → T (finite x) → T (finite y) → natural x → natural y → natural (add f x y)
add_natural_finite f x y p q h k =
    rounds_natural f (plus x * den y + plus y * den x) (minus x * den y + minus y * den x) (den x * den y) (add f x y) (mul-pos (den_pos x) (den_pos y))
    (simp (no_minus x p h, no_minus y q k, zero-mul) zero-le) (add_rounds f x y p q)

pub add_natural : (f : Format) (x y : Float) → natural x → natural y → natural (add f x y)
unfolding add le
add_natural f nan y h k = absurd h
add_natural f (inf true) y h k = absurd h
add_natural f (inf false) nan h k = absurd k
add_natural f (inf false) (inf true) h k = absurd k
add_natural f (inf false) (inf false) h k = tt
add_natural f (inf false) (fin t n d) h k = tt
add_natural f (fin s m e) nan h k = absurd k
add_natural f (fin s m e) (inf true) h k = absurd k
add_natural f (fin s m e) (inf false) h k = tt
add_natural f (fin s m e) (fin t n d) h k = add_natural_finite f (fin s m e) (fin t n d) tt tt h k

pub mul_natural : (f : Format) (x y : Float) → T (finite x) → T (finite y) → natural x → natural y → natural (mul f x y)
mul_natural f x y p q h k =
    rounds_natural f (plus x * plus y + minus x * minus y) (plus x * minus y + minus x * plus y) (den x * den y) (mul f x y) (mul-pos (den_pos x) (den_pos y))
    (simp (no_minus x p h, no_minus y q k, zero-mul, mul-zero) zero-le) (mul_rounds f x y p q)

-- ---- the product of values that are at least 0
products : (px dx px' dx' py dy py' dy' : ℕ) → px * dx' ≤ px' * dx → py * dy' ≤ py' * dy → px * py * (dx' * dy') ≤ px' * py' * (dx * dy)
products px dx px' dx' py dy py' dy' h k = le_trans (le_of_eq (mul-mul-mul_comm px py dx' dy')) (le_trans (mul-le-mul h k) (le_of_eq (mul-mul-mul_comm px' dx py' dy)))

pub mul_mono_finite : (f : Format) (x x' y y' : Float) → T (finite x) → T (finite x') → T (finite y) → T (finite y') → natural x → natural y → T (le x x') → T (le y y') → T (le (mul f x y) (mul f x' y'))
mul_mono_finite f x x' y y' fx fx' fy fy' nx ny h k =
    let zx = no_minus x fx nx in
    let zy = no_minus y fy ny in
    let zx' = no_minus x' fx' (le_le zero64 x x' nx h) in
    let zy' = no_minus y' fy' (le_le zero64 y y' ny k) in
    let a : plus x * den x' ≤ plus x' * den x = omega (arith, simp (zx, zx', zero-mul) at (cross x x' fx fx' (le→LE x x' h))) in
    let b : plus y * den y' ≤ plus y' * den y = omega (arith, simp (zy, zy', zero-mul) at (cross y y' fy fy' (le→LE y y' k))) in
    rounds_mono f (plus x * plus y + minus x * minus y) (plus x * minus y + minus x * plus y) (den x * den y) (plus x' * plus y' + minus x' * minus y') (plus x' * minus y' + minus x' * plus y') (den x' * den y')
    (mul f x y) (mul f x' y') (mul-pos (den_pos x) (den_pos y)) (mul-pos (den_pos x') (den_pos y')) (mul_rounds f x y fx fy) (mul_rounds f x' y' fx' fy')
    (simp (zx, zx', zy, zy', zero-mul, mul-zero, add-mul) (omega (arith, products (plus x) (den x) (plus x') (den x') (plus y) (den y) (plus y') (den y') a b)))

-- ---- an infinity less a finite value is no NaN
pub neg_finite : (x : Float) → T (finite x) → T (finite (neg x))
unfolding neg
neg_finite nan p = p
neg_finite (inf s) p = p
neg_finite (fin s m e) p = tt

add_any : (f : Format) (x y : Float) → T (number x) → T (finite y) → T (number (add f x y))
add_any f nan y p q = absurd p
add_any f (inf s) nan p q = absurd q
add_any f (inf s) (inf t) p q = absurd q
add_any f (inf s) (fin t n d) p q = rw (stays f s t n d) tt
add_any f (fin s m e) y p q = add_number f (fin s m e) y tt q

pub sub_number : (f : Format) (x y : Float) → T (number x) → T (finite y) → T (number (sub f x y))
sub_number f x y p q = rw (sub_is f x y) (add_any f x (neg y) p (neg_finite y q))

pub finite_number : (x : Float) → T (finite x) → T (number x)
finite_number nan p = p
finite_number (inf s) p = absurd p
finite_number (fin s m e) p = tt

-- ---- what lies between two finite values is finite, whatever its sign: the limits of an argument
pub between_limits : (lo x hi : Float) → T (finite lo) → T (finite hi) → T (le lo x) → T (le x hi) → T (finite x)
unfolding le
between_limits nan x hi p q h k = absurd p
between_limits (inf s) x hi p q h k = absurd p
between_limits (fin s m e) nan hi p q h k = absurd h
between_limits (fin s m e) (inf true) hi p q h k = absurd h
between_limits (fin s m e) (inf false) nan p q h k = absurd q
between_limits (fin s m e) (inf false) (inf t) p q h k = absurd q
between_limits (fin s m e) (inf false) (fin t n d) p q h k = absurd k
between_limits (fin s m e) (fin t n d) hi p q h k = tt

-- ---- the code's 0.0
pub zero_is : of_bits binary64 0 ≡ zero64
unfolding of_bits
zero_is = refl
