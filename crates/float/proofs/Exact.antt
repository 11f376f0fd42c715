-- A value that the format holds is its own rounding, so a sum with a value that is at least 0 is no smaller. Assumes nothing.
use mathlib.Core.Path.{◌≡◌, refl, sym, ap, ◌∙◌}
use mathlib.Core.Logic.{inl, inr}
use Prim.Native.Nat.{ℕ, zero, suc, ◌+◌, ◌-◌, ◌*◌, ◌%◌, ◌^◌, ◌≤◌, ◌<◌, zero-le}
use native.Mathlib.Nat.{le_refl, le_of_eq, le_trans, lt_of_lt_of_le, le_of_suc-le-suc, lt_of_not-le, lt_of_le_of_lt, not-le_of_lt, zero-mul, mul-one, mul_comm, mul_assoc, add-mul, mul-le-mul_left, mul-lt-mul_of_pos_right, mul-pos}
use native.Mathlib.Omega.{arith}
use mathlib.Core.Bool.{Bool, true, false, ◌&&◌}
use lib.Dec.{T, ltb, leb, eqb, ltb→lt, leb→le}
use lib.IntN.{ℤ, pos, negsuc}
use lib.Pow.{pow-add, pow_pos, pow_mono, pow-lt}
use lib.Ieee.{Float, nan, inf, fin, Format, prec, emax, low, up, down, round, add, le, fits}
use lib.Ieee.Fits.{and_l, and_r, reach, down_pos}
use lib.Ieee.Exact.{HasValue, round_exact}
use lib.Ieee.Order.{le_of_values}
use lib.Ieee.Scale.{finite}
use lib.Ieee.Positive.{den, den_pos}
use Rattle.float.proofs.Order.{plus, minus, LE→le, le_le}
use Rattle.float.proofs.Rounding.{rounds_mono, add_rounds, zero64}
use Rattle.float.proofs.Monotone.{natural, no_minus, add_natural}

-- what `fits` says of the digits and of the exponent
pub digits : (f : Format) (s : Bool) (m : ℕ) (e : ℤ) → T (fits f (fin s (suc m) e)) → (suc m < 2 ^ prec f) × (down e ≤ 2 ^ low f) × (suc m * up e < 2 ^ suc (emax f) * down e)
unfolding fits
digits f s m e t =
    let a : Bool = eqb (suc m % 2) 1 in
    let b : Bool = ltb (suc m) (2 ^ prec f) in
    let c : Bool = leb (down e) (2 ^ low f) in
    let d : Bool = ltb (suc m * up e) (2 ^ suc (emax f) * down e) in (
      ltb→lt (suc m) (2 ^ prec f) (and_r a b (and_l (a && b) c (and_l (a && b && c) d t))),
      leb→le (down e) (2 ^ low f) (and_r (a && b) c (and_l (a && b && c) d t)),
      ltb→lt (suc m * up e) (2 ^ suc (emax f) * down e) (and_r (a && b && c) d t),
    )

-- the exponent's power of two, in units of the format's smallest value
exact_at : (f : Format) (s : Bool) (m : ℕ) (e : ℤ) → m < 2 ^ prec f → down e ≤ 2 ^ low f → m * up e < 2 ^ suc (emax f) * down e → HasValue (round f s (m * up e) (down e)) s (m * up e) (down e)
exact_at f s m (pos k) a b c =
    round_exact f s (m * 2 ^ k) 1 m (k + low f) (pow_pos 0) a
    (lt_of_le_of_lt (le_of_eq (ap (λ (z : ℕ). m * z) (pow-add 2 k (low f)) ∙ sym (mul_assoc m (2 ^ k) (2 ^ low f))))
    (lt_of_lt_of_le (mul-lt-mul_of_pos_right (lt_of_lt_of_le c (le_of_eq (mul-one (2 ^ suc (emax f))))) (pow_pos (low f))) (le_of_eq (mul_comm (2 ^ suc (emax f)) (2 ^ low f) ∙ sym (pow-add 2 (low f) (suc (emax f)))))))
    (mul_assoc m (2 ^ k) (2 ^ low f) ∙ ap (λ (z : ℕ). m * z) (sym (pow-add 2 k (low f))) ∙ sym (mul-one (m * 2 ^ (k + low f))))
exact_at f s m (negsuc k) a b c =
    let l = low f in
    let h : suc k ≤ l = le_of_suc-le-suc (lt_of_not-le (λ (g : suc l ≤ suc k). not-le_of_lt (pow-lt g) b)) in
    let j = l - suc k in
    let e : 2 ^ l ≡ 2 ^ j * 2 ^ suc k = ap (λ (z : ℕ). 2 ^ z) (omega arith) ∙ pow-add 2 j (suc k) in
    round_exact f s (m * 1) (2 ^ suc k) m j (pow_pos (suc k)) a
    (lt_of_lt_of_le (mul-lt-mul_of_pos_right (lt_of_lt_of_le a (pow_mono (reach f))) (pow_pos j))
    (le_trans (mul-le-mul_left (2 ^ suc (emax f)) (pow_mono (less j l (suc k) refl))) (le_of_eq (mul_comm (2 ^ suc (emax f)) (2 ^ l) ∙ sym (pow-add 2 l (suc (emax f)))))))
    (ap (λ (z : ℕ). z * 2 ^ l) (mul-one m) ∙ ap (λ (z : ℕ). m * z) e ∙ sym (mul_assoc m (2 ^ j) (2 ^ suc k)))
  where
    less : (j l k : ℕ) → j ≡ l - k → j ≤ l
    less j l k h = omega arith

-- m is 0
exact_zero : (f : Format) (s : Bool) (e : ℤ) → HasValue (round f s (0 * up e) (down e)) s (0 * up e) (down e)
exact_zero f s e =
    round_exact f s (0 * up e) (down e) 0 0 (down_pos e) (pow_pos (prec f)) (lt_of_le_of_lt (le_of_eq (zero-mul (2 ^ 0))) (pow_pos (low f + suc (emax f))))
    (ap (λ (z : ℕ). z * 2 ^ low f) (zero-mul (up e)) ∙ zero-mul (2 ^ low f) ∙ sym (zero-mul (down e)))

-- a value that the format holds, rounded, is the same number
pub exact : (f : Format) (s : Bool) (m : ℕ) (e : ℤ) → T (fits f (fin s m e)) → HasValue (round f s (m * up e) (down e)) s (m * up e) (down e)
exact f s zero e t = exact_zero f s e
exact f s (suc m) e t = let d = digits f s m e t in exact_at f s (suc m) e d.0 d.1 d.2

-- a ≤ a + c
grows_finite : (f : Format) (m : ℕ) (e : ℤ) (c : Float) → T (fits f (fin false m e)) → T (finite c) → natural c → T (le (fin false m e) (add f (fin false m e) c))
grows_finite f m e c t p n =
    let x = fin false m e in
    let a = m * up e in
    let r = round f false a (down e) in
    le_le x r (add f x c)
    (le_of_values x r a (down e) a (down e) (down_pos e) (down_pos e) (refl, refl) (exact f false m e t) (le_refl (a * down e)))
    (rounds_mono f a 0 (down e) (a * den c + plus c * down e) (0 * den c + minus c * down e) (down e * den c) r (add f x c) (down_pos e) (mul-pos (down_pos e) (den_pos c))
    (inl (zero-le, ap (λ (z : ℕ). round f false z (down e)) (omega arith))) (add_rounds f x c tt p)
    (simp (no_minus c p n, zero-mul) (bigger a (down e) (den c) (plus c))))
  where
    bigger : (a d dc pc : ℕ) → a * (d * dc) + 0 ≤ (a * dc + pc * d) * d + 0
    bigger a d dc pc = simp add-mul (omega (arith, ap (λ (z : ℕ). a * z) (mul_comm d dc) ∙ sym (mul_assoc a dc d)))

below_zero : (f : Format) (m : ℕ) (e : ℤ) → T (le (fin true m e) zero64)
below_zero f m e = LE→le (fin true m e) zero64 tt tt (inr (refl, simp (zero-mul) zero-le))

pub grows : (f : Format) (a c : Float) → T (fits f a) → natural a → natural c → T (le a (add f a c))
unfolding add le
grows f nan c t h k = absurd h
grows f (inf true) c t h k = absurd h
grows f (inf false) nan t h k = absurd k
grows f (inf false) (inf true) t h k = absurd k
grows f (inf false) (inf false) t h k = tt
grows f (inf false) (fin u n d) t h k = tt
grows f (fin s m e) nan t h k = absurd k
grows f (fin s m e) (inf true) t h k = absurd k
grows f (fin s m e) (inf false) t h k = tt
grows f (fin false m e) (fin u n d) t h k = grows_finite f m e (fin u n d) t tt k
grows f (fin true m e) (fin u n d) t h k = le_le (fin true m e) zero64 (add f (fin true m e) (fin u n d)) (below_zero f m e) (add_natural f (fin true m e) (fin u n d) h k)
