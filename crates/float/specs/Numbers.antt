-- f64 arithmetic by short names, and the constants that several crates use. Definitions only.
use Rattle.std.specs.Prelude.{Bool, ◌&&◌, ℕ, pos, Float}
use Rattle.std.specs.Float.{binary64}
use Rattle.std.specs.Float.Ieee.{of_bits, of_int, add, sub, mul, div, le}

-- the f64 of a bit pattern: a literal of the code stands so in a goal
abbrev pub f64 : ℕ → Float
f64 n = of_bits binary64 n

infixl 60 ◌⊕◌ ◌⊖◌
infixl 70 ◌⊗◌ ◌⊘◌
-- "Rounding is IEEE 754 binary64, in the written order": each operation rounds once
abbrev pub ◌⊕◌ : Float → Float → Float
◌⊕◌ x y = add binary64 x y

abbrev pub ◌⊖◌ : Float → Float → Float
◌⊖◌ x y = sub binary64 x y

abbrev pub ◌⊗◌ : Float → Float → Float
◌⊗◌ x y = mul binary64 x y

abbrev pub ◌⊘◌ : Float → Float → Float
◌⊘◌ x y = div binary64 x y

-- a u32 `as f64`
abbrev pub of_nat : ℕ → Float
of_nat n = of_int binary64 (pos n)

-- "ends included, NaN and infinities outside": a comparison with a NaN is false, and the ends are finite
abbrev pub within : Float → Float → Float → Bool
within lo hi x = le lo x && le x hi

-- 0.0
abbrev pub f0 : Float
f0 = f64 0

-- 0.5
abbrev pub f½ : Float
f½ = f64 0x3fe0_0000_0000_0000

-- 1.0
abbrev pub f1 : Float
f1 = f64 0x3ff0_0000_0000_0000

-- 2.0
abbrev pub f2 : Float
f2 = f64 0x4000_0000_0000_0000

-- 5.0 and 20.0
abbrev pub f5 : Float
f5 = f64 0x4014_0000_0000_0000

abbrev pub f20 : Float
f20 = f64 0x4034_0000_0000_0000
