-- "What is turned away": this paper's number for each cause. Definitions only.
use Rattle.std.specs.Prelude.{Bool, cond, ℕ, Result, Ok, Err}
pub use Rattle.limits.specs.declared.refusal.Refusal.{Refusal}
pub use Rattle.limits.specs.declared.refusal.Refusal.TheVariants.{ColumnSize, ColumnsDiffer, TableValue, FloorCount, EmptyFront, UnknownRung, TooManyFrames, OutsideLimits, TooManyBursts, FileHeader, FilePairs, FileBody, SheetRoom, AnswerCount}

abbrev pub refusal_number : Refusal → ℕ
-- "a table column has 0 or over 32 entries (echo column: over 32)"
refusal_number ColumnSize = 1
-- "threshold, payload, capacity, frame-time columns differ in length"
refusal_number ColumnsDiffer = 2
-- "a table value outside its limits"
refusal_number TableValue = 3
-- "more floor rungs than rungs"
refusal_number FloorCount = 4
-- "the front is empty"
refusal_number EmptyFront = 5
-- "rung not in the table (a frame, `value`, `estimate`)"
refusal_number UnknownRung = 6
-- "over 256 frames"
refusal_number TooManyFrames = 7
-- "a reading, air, capacity, price, gap, burst count or `decode_probability` argument outside its limits"
refusal_number OutsideLimits = 8
-- "over 32 burst counts"
refusal_number TooManyBursts = 9
-- "question file under 8 or over 65,536 bytes, unknown air, over 1,000 events"
refusal_number FileHeader = 10
-- "pairs break their rule or run past the file"
refusal_number FilePairs = 11
-- "a body breaks its kind's form"
refusal_number FileBody = 12
-- "the whole sheet is longer than the output slice"
refusal_number SheetRoom = 13
-- "answer count differs from event count"
refusal_number AnswerCount = 14

-- what a call says of its arguments
abbrev pub Verdict : Type 0
Verdict = Result Unit Refusal

-- refused, unless the test holds
abbrev pub unless : Bool → Refusal → Verdict
unless ok why = cond ok (Ok tt) (Err why)

-- of two tests in a row the first that refuses decides
abbrev pub or_else : Verdict → Verdict → Verdict
or_else (Ok _) later = later
or_else (Err why) later = Err why
