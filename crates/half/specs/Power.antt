-- "half(t), for inner use only, t finite and >= 0": the half-power, step by step. Definitions only.
use Rattle.std.specs.Prelude.{ℕ, zero, suc, ◌+◌, ◌/◌, ◌^◌, false, cond, Float}
use Rattle.std.specs.Float.{binary64}
use Rattle.std.specs.Float.Ieee.{round, le}
use Rattle.float.specs.Numbers.{f64, ◌⊖◌, ◌⊗◌, ◌⊘◌, f0, f½, f1, f2, f5}
use Rattle.half.specs.Powers.{power_at}

-- 512.0, the first whole step
abbrev pub f512 : Float
f512 = f64 0x4080_0000_0000_0000

-- 1022.0, from which on the half-power is 0.0
abbrev pub f1022 : Float
f1022 = f64 0x408f_f000_0000_0000

-- 0.6931471805599453
abbrev pub ln2 : Float
ln2 = f64 0x3fe6_2e42_fefa_39ef

-- 3.0 and 4.0
abbrev pub f3 : Float
f3 = f64 0x4008_0000_0000_0000

abbrev pub f4 : Float
f4 = f64 0x4010_0000_0000_0000

-- "r = t; for s = 512, 256, .. 1, then 1/2, 1/4, .. 1/256: if r >= s, subtract s."
-- `left` steps are left, s is the next, of weight w; r is what is left, and k the sum of the weights of the steps taken.
unfoldable pub descent : ℕ → Float → ℕ → Float → ℕ → Float × ℕ
descent zero s w r k = (r, k)
descent (suc left) s w r k = descent left (s ⊗ f½) (w / 2) (cond (le s r) (r ⊖ s) r) (cond (le s r) (k + w) k)

-- 512 to 1: "Whole steps sum to n"
abbrev pub whole_steps : Float → Float × ℕ
whole_steps t = descent 10 f512 512 t 0

-- 1/2 to 1/256: "j is 256 times the sum of the fractional ones"
abbrev pub part_steps : Float → Float × ℕ
part_steps t = descent 8 f½ 128 (whole_steps t).0 0

-- 1 - v × rest, one level of q
abbrev pub level : Float → Float → Float
level v rest = f1 ⊖ v ⊗ rest

-- "q = 1 - u×(1 - u/2×(1 - u/3×(1 - u/4×(1 - u/5)))), innermost first, u/k divided before multiplying"
abbrev pub series_in : Float → Float
series_in u = level u (level (u ⊘ f2) (level (u ⊘ f3) (level (u ⊘ f4) (f1 ⊖ u ⊘ f5))))

-- "u = r × 0.6931471805599453"
unfoldable pub series : Float → Float
series r = series_in (r ⊗ ln2)

-- 2^-n: the fraction 1/2^n, rounded, which is exact for n up to 1074
abbrev pub inverse_power : ℕ → Float
inverse_power n = round binary64 false 1 (2 ^ n)

-- "Result (H[j] × q) × 2^-n.": of r and j together, and n
abbrev pub joined : Float × ℕ → ℕ → Float
joined p n = power_at p.1 ⊗ series p.0 ⊗ inverse_power n

-- "0.0 if t >= 1022. Otherwise .."
unfoldable pub half : Float → Float
half t = cond (le f1022 t) f0 (joined (part_steps t) (whole_steps t).1)
