-- "Little-endian": the numbers that stand at the start of a list of bytes, the lowest byte first. What stands further on is at the start of the list
-- with the bytes before it dropped. A byte past the end reads as 0. Definitions only.
use Rattle.std.specs.Prelude.{Bool, ◌&&◌, ◌||◌, cond, List, ℕ, ◌+◌, ◌*◌, ◌^◌, eqb, get_or, drop, Float, None, Some}
use Rattle.float.specs.Numbers.{f64}
use Rattle.limits.specs.Readings.{Reading}

abbrev pub byte : List ℕ → ℕ → ℕ
byte s i = get_or s i 0

-- "u16", "u32"
unfoldable pub le16 : List ℕ → ℕ
le16 s = byte s 0 + byte s 1 * 256

unfoldable pub le32 : List ℕ → ℕ
le32 s = byte s 0 + byte s 1 * 256 + byte s 2 * 65536 + byte s 3 * 16777216

-- the eight bytes of an f64
unfoldable pub le64 : List ℕ → ℕ
le64 s = le32 s + le32 (drop 4 s) * 2 ^ 32

-- "f64 bits": every pattern is a value, a NaN's the NaN
unfoldable pub le_f64 : List ℕ → Float
le_f64 s = f64 (le64 s)

-- "A reading is one byte 0/1 and f64 bits, zero if missing.": whether nine bytes have that form, and the reading
unfoldable pub ok_reading : List ℕ → Bool
ok_reading s = eqb (byte s 0) 1 || eqb (byte s 0) 0 && eqb (le64 (drop 1 s)) 0

unfoldable pub reading_of : List ℕ → Reading
reading_of s = cond (eqb (byte s 0) 1) (Some (le_f64 (drop 1 s))) None
