-- Division by a value above 0 is one rounding, and keeps the order. Assumes nothing.
use mathlib.Core.Path.{ap}
use mathlib.Core.Logic.{inl, inr}
use Prim.Native.Nat.{ℕ, ◌+◌, ◌*◌, ◌≤◌, ◌<◌, zero-le}
use native.Mathlib.Nat.{zero-mul, mul_comm, mul_assoc, mul_left_comm, add-mul, mul-le-mul_right, mul-pos}
use native.Mathlib.Omega.{arith}
use mathlib.Core.Bool.{Bool, true, false, cond}
use lib.Dec.{T, ltb, eqb, ltb→lt, eqb→eq}
use lib.Ieee.{Float, nan, inf, fin, Format, unlike, up, down, round, div, le}
use lib.Ieee.Fits.{up_pos}
use lib.Ieee.Scale.{finite}
use lib.Ieee.Positive.{den, den_pos, positive}
use Rattle.float.proofs.Order.{P, N, plus, minus, number, le→LE}
use Rattle.float.proofs.Rounding.{Rounds, rounds_mono}
use Rattle.float.proofs.Monotone.{cross, round_number}

pub nonzero : (n : ℕ) → T (ltb 0 n) → T (eqb n 0) → ⊥
nonzero n h e = let a = ltb→lt 0 n h in let b = eqb→eq n 0 e in omega arith

pub div_rounds : (f : Format) (x y : Float) → T (finite x) → T (positive y) → Rounds f (plus x * den y) (minus x * den y) (plus y * den x) (div f x y)
unfolding div
div_rounds f nan y p q = absurd p
div_rounds f (inf s) y p q = absurd p
div_rounds f (fin s m e) nan p q = absurd q
div_rounds f (fin s m e) (inf t) p q = absurd q
div_rounds f (fin s m e) (fin true n d) p q = absurd q
div_rounds f (fin s m e) (fin false n d) p q = go (eqb n 0) (nonzero n q) s
  where
    go : (b : Bool) → (T b → ⊥) → (s : Bool) → Rounds f (P s (m * up e) * down d) (N s (m * up e) * down d) (n * up d * down e) (cond b (cond (eqb m 0) nan (inf (unlike s false))) (round f (unlike s false) (m * up e * down d) (n * up d * down e)))
    go true z s = absurd (z tt)
    go false z false = simp zero-mul (inl (zero-le, ap (λ (k : ℕ). round f false k (n * up d * down e)) (omega arith)))
    go false z true = simp zero-mul (inr (zero-le, ap (λ (k : ℕ). round f true k (n * up d * down e)) (omega arith)))

pub plus_pos : (y : Float) → T (positive y) → 0 < plus y
plus_pos nan q = absurd q
plus_pos (inf s) q = absurd q
plus_pos (fin true n d) q = absurd q
plus_pos (fin false n d) q = mul-pos (ltb→lt 0 n q) (up_pos d)

-- in the numerator
quotients : (px nx dx px' nx' dx' py dy : ℕ) → px * dx' + nx' * dx ≤ px' * dx + nx * dx' → px * dy * (py * dx') + nx' * dy * (py * dx) ≤ px' * dy * (py * dx) + nx * dy * (py * dx')
quotients px nx dx px' nx' dx' py dy h =
    let u = simp (add-mul, mul_assoc, mul_comm) at (mul-le-mul_right (dy * py) h) in
    simp (mul_assoc, mul_comm, mul_left_comm) (omega arith)

pub div_mono : (f : Format) (x x' y : Float) → T (finite x) → T (finite x') → T (positive y) → T (le x x') → T (le (div f x y) (div f x' y))
div_mono f x x' y fx fx' q h =
    rounds_mono f (plus x * den y) (minus x * den y) (plus y * den x) (plus x' * den y) (minus x' * den y) (plus y * den x') (div f x y) (div f x' y)
    (mul-pos (plus_pos y q) (den_pos x)) (mul-pos (plus_pos y q) (den_pos x')) (div_rounds f x y fx q) (div_rounds f x' y fx' q)
    (quotients (plus x) (minus x) (den x) (plus x') (minus x') (den x') (plus y) (den y) (cross x x' fx fx' (le→LE x x' h)))

-- ---- no NaN comes of it
pub div_number : (f : Format) (x y : Float) → T (number x) → T (positive y) → T (number (div f x y))
unfolding div
div_number f nan y p q = absurd p
div_number f (inf s) nan p q = absurd q
div_number f (inf s) (inf t) p q = absurd q
div_number f (inf s) (fin t n d) p q = tt
div_number f (fin s m e) nan p q = absurd q
div_number f (fin s m e) (inf t) p q = absurd q
div_number f (fin s m e) (fin true n d) p q = absurd q
div_number f (fin s m e) (fin false n d) p q = go (eqb n 0) (nonzero n q)
  where
    go : (b : Bool) → (T b → ⊥) → T (number (cond b (cond (eqb m 0) nan (inf (unlike s false))) (round f (unlike s false) (m * up e * down d) (n * up d * down e))))
    go true z = absurd (z tt)
    go false z = round_number f (unlike s false) (m * up e * down d) (n * up d * down e)
