-- What `paper_sheet` and `paper_mark` return, and what the second leaves behind its pointers. Definitions only.
use Rattle.std.specs.Prelude.{ℕ, min, ℤ, pos, Result, Ok, Err}
use Rattle.limits.specs.declared.refusal.Refusal.{Refusal}
use Rattle.paper.specs.declared.types.Score.{Score}
use Rattle.exports.specs.Status.{minus_number}

-- the sheet's length, or minus the refusal's number; a length past 32 bits does not occur
abbrev pub sheet_status : Result ℕ Refusal → ℤ
sheet_status (Ok n) = pos (min 4294967295 n)
sheet_status (Err why) = minus_number why

-- 0, or minus the refusal's number
abbrev pub mark_status : Result Score Refusal → ℤ
mark_status (Ok s) = pos 0
mark_status (Err why) = minus_number why

-- of a refused call, what stood there
abbrev pub right_after : Result Score Refusal → ℕ → ℕ
right_after (Ok s) old = s.right
right_after (Err why) old = old

abbrev pub counted_after : Result Score Refusal → ℕ → ℕ
counted_after (Ok s) old = s.counted
counted_after (Err why) old = old
