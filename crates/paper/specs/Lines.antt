-- The bytes of a number, of a field and of a line. Definitions only.
use Rattle.std.specs.Prelude.{ℕ, zero, suc, ◌+◌, ◌/◌, ◌%◌, cond, List, [], ◌∷◌, ◌++◌, nat_lt}

-- "Fields are decimal": the digits of n in ASCII, the highest first. The first argument only bounds how many there are, and n itself does.
unfoldable pub digits : ℕ → ℕ → List ℕ
digits zero n = (48 + n % 10) ∷ []
digits (suc d) n = cond (nat_lt n 10) ((48 + n) ∷ []) (digits d (n / 10) ++ ((48 + n % 10) ∷ []))

unfoldable pub decimal : ℕ → List ℕ
unfolding digits
decimal n = digits n n

-- a field: a number, `-`, or the word `refused`
pub data Cell : Type 0 where
  Number : ℕ → Cell
  Dash : Cell
  Word : Cell

-- its bytes
abbrev pub cell_bytes : Cell → List ℕ
cell_bytes (Number n) = decimal n
cell_bytes Dash = 45 ∷ []
cell_bytes Word = 114 ∷ 101 ∷ 102 ∷ 117 ∷ 115 ∷ 101 ∷ 100 ∷ []

-- a field, and the byte after it
unfoldable pub ended : Cell → ℕ → List ℕ
ended c end = cell_bytes c ++ (end ∷ [])

-- "parted by one space; each line ends in LF"
unfoldable pub cells_bytes : List Cell → List ℕ
cells_bytes [] = []
cells_bytes (c ∷ []) = ended c 10
cells_bytes (c ∷ d ∷ cs) = ended c 32 ++ cells_bytes (d ∷ cs)
