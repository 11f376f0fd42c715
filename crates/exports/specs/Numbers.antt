-- What `rate_decode_probability` returns, and what it leaves behind its pointer. Definitions only.
use Rattle.std.specs.Prelude.{ℤ, pos, Float, Result, Ok, Err}
use Rattle.limits.specs.declared.refusal.Refusal.{Refusal}
use Rattle.exports.specs.Status.{minus_number}

abbrev pub status_of : Result Float Refusal → ℤ
status_of (Ok p) = pos 0
status_of (Err why) = minus_number why

-- of a refused call, what stood there
abbrev pub written_of : Result Float Refusal → Float → Float
written_of (Ok p) old = p
written_of (Err why) old = old
