-- The rule of the table H, tested once over all of its entries by 256th powers of whole numbers, and carried to each entry. Assumes nothing.
use Rattle.std.proofs.Common.{◌≡◌, ℕ, zero, suc, ◌+◌, ◌-◌, ◌*◌, ◌/◌, ◌^◌, ◌<◌, ◌≤◌, Bool, true, false, ◌&&◌, T, eqb, ltb, length, ℤ, pos, sym, refl, subst, lt_of_lt_of_le, le_of_suc-le-suc, le_of_lt, le_antisymm, lt_of_not-le, not-le_of_lt, arith, eqb→eq, ltb→lt}
use native.Mathlib.Nat.{pow-le-pow_left}
use lib.Ieee.{Float, nan, inf, fin, up, down, of_bits}
use Rattle.half.specs.Powers.{powers, power_at, Nearest}
use lib.Ieee.Fits.{and_l, and_r}
use Rattle.float.proofs.Table.{every, at}

-- m, for a value m / 2 ^ 53
abbrev whole : ℕ → ℤ → ℕ
whole m e = m * up e * 2 ^ 53 / down e

-- the three tests at one entry, for j above 0
abbrev exact : ℕ → ℤ → Bool
exact m e = eqb (m * up e * 2 ^ 53) (whole m e * down e)

abbrev under : ℕ → ℕ → Bool
under j w = ltb ((2 * w - 1) ^ 256) (2 ^ (13824 - j))

abbrev over : ℕ → ℕ → Bool
over j w = ltb (2 ^ (13824 - j)) ((2 * w + 1) ^ 256)

unfoldable right : ℕ → Float → Bool
right zero x = true
right (suc j) nan = false
right (suc j) (inf s) = false
right (suc j) (fin true m e) = false
right (suc j) (fin false m e) = exact m e && (under (suc j) (whole m e) && over (suc j) (whole m e))

-- the test, over the whole table
passes : T (every nan right 0 powers)
unfolding right powers of_bits
passes = tt

-- what the test says of one entry
holds : (j : ℕ) (x : Float) → T (right (suc j) x) → Nearest (suc j) x
unfolding right
holds j nan t = absurd t
holds j (inf s) t = absurd t
holds j (fin true m e) t = absurd t
holds j (fin false m e) t =
    let w = whole m e in
    let rest = and_r (exact m e) (under (suc j) w && over (suc j) w) t in
    record {
      m = w;
      value = (refl, eqb→eq (m * up e * 2 ^ 53) (w * down e) (and_l (exact m e) (under (suc j) w && over (suc j) w) t));
      below = ltb→lt ((2 * w - 1) ^ 256) (2 ^ (13824 - suc j)) (and_l (under (suc j) w) (over (suc j) w) rest);
      above = ltb→lt (2 ^ (13824 - suc j)) ((2 * w + 1) ^ 256) (and_r (under (suc j) w) (over (suc j) w) rest);
    }

pub sized : length powers ≡ 256
unfolding powers
sized = refl

pub first : power_at 0 ≡ fin false 1 (pos 0)
unfolding powers of_bits
first = refl

-- the rule, at each entry but the first
pub nearest : (j : ℕ) → suc j < 256 → Nearest (suc j) (power_at (suc j))
nearest j h = holds j (power_at (suc j)) (at nan right powers passes (suc j) (subst (λ (n : ℕ). suc j < n) (sym sized) h))

-- ---- the rule pins the entry down: two numbers that meet it at j are the same
apart : (a b : ℕ) → a < b → 2 * a + 1 ≤ 2 * b - 1
apart a b h = omega arith

never : (j a b : ℕ) → 2 ^ (13824 - j) < (2 * a + 1) ^ 256 → (2 * b - 1) ^ 256 < 2 ^ (13824 - j) → a < b → ⊥
never j a b h k l = not-le_of_lt (lt_of_lt_of_le k (le_of_lt h)) (pow-le-pow_left (apart a b l) 256)

pub unique : (j : ℕ) (x y : Float) (p : Nearest j x) (q : Nearest j y) → p.m ≡ q.m
unique j x y p q = le_antisymm (le_of_suc-le-suc (lt_of_not-le (never j q.m p.m q.above p.below))) (le_of_suc-le-suc (lt_of_not-le (never j p.m q.m p.above q.below)))
