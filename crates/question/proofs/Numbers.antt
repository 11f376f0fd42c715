-- Numbers by their bytes as std reads them, of the first bytes of a list. Assumes nothing.
use mathlib.Core.Path.{◌≡◌, refl}
use mathlib.Core.List.{List}
use Prim.Native.Nat.{ℕ, ◌<◌}
use native.Mathlib.Omega.{arith}
use lib.ListN.{get_or}
use Rattle.std.specs.Int.{w16, w32, w64, from_le_bytes}
use Rattle.std.proofs.lemmas.List.{get_or-drop}
use Rattle.question.specs.Bytes.{byte, le16, le32, le64}
use Rattle.question.specs.Body.{first_of}
use Rattle.question.proofs.Over.{filled_read}

first_at : (n i : ℕ) (s : List ℕ) → i < n → get_or (first_of n 0 s) i 0 ≡ byte s i
unfolding first_of
first_at n i s h = filled_read 0 s n i h

pub le16_first : (s : List ℕ) → from_le_bytes w16 (first_of 2 0 s) ≡ le16 s
unfolding le16
le16_first s = rw (first_at 2 0 s (omega arith), first_at 2 1 s (omega arith)) refl

pub le32_first : (s : List ℕ) → from_le_bytes w32 (first_of 4 0 s) ≡ le32 s
unfolding le32
le32_first s = rw (first_at 4 0 s (omega arith), first_at 4 1 s (omega arith), first_at 4 2 s (omega arith), first_at 4 3 s (omega arith)) refl

pub le64_first : (s : List ℕ) → from_le_bytes w64 (first_of 8 0 s) ≡ le64 s
unfolding le64 le32
le64_first s =
    omega (
      arith,
      first_at 8 0 s (omega arith),
      first_at 8 1 s (omega arith),
      first_at 8 2 s (omega arith),
      first_at 8 3 s (omega arith),
      first_at 8 4 s (omega arith),
      first_at 8 5 s (omega arith),
      first_at 8 6 s (omega arith),
      first_at 8 7 s (omega arith),
      get_or-drop 4 s 0 0,
      get_or-drop 4 s 1 0,
      get_or-drop 4 s 2 0,
      get_or-drop 4 s 3 0,
    )
