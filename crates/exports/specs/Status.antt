-- What a refused call returns to C. Definitions only.
use Rattle.std.specs.Prelude.{ℕ, ℤ, pos, neg_ℤ, Result, Ok, Err}
use Rattle.limits.specs.declared.refusal.Refusal.{Refusal}
use Rattle.limits.specs.Refusals.{refusal_number}

-- minus the paper's number
abbrev pub minus_number : Refusal → ℤ
minus_number why = neg_ℤ (pos (refusal_number why))

-- what C is told of a number, or of a refusal
abbrev pub status : Result ℕ Refusal → ℤ
status (Ok n) = pos n
status (Err why) = minus_number why
