-- What is asked of the size of one column of a table. Definitions only.
use Rattle.std.specs.Prelude.{Bool, ◌&&◌, ℕ, leb}

-- 1: "a table column has 0 or over 32 entries"
abbrev pub ok_size : ℕ → Bool
ok_size n = leb 1 n && leb n 32
