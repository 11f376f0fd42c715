-- The sheet of a question file, as the list of its bytes, and its marking: what the two calls return and leave, refused or not. Definitions only.
use Rattle.std.specs.Prelude.{ℕ, suc, ◌+◌, Bool, true, false, cond, List, [], ◌∷◌, ◌++◌, length, ◌==◌, nat_le, Option, None, Some, Result, Ok, Err}
use Rattle.limits.specs.Refusals.{refusal_number, unless, or_else, Verdict}
use Rattle.limits.specs.declared.refusal.Refusal.{Refusal}
use Rattle.limits.specs.declared.refusal.Refusal.TheVariants.{SheetRoom, AnswerCount}
use Rattle.ladder.specs.Lists.{tabulate}
use Rattle.rate.specs.declared.types.RateController.{RateController}
use Rattle.rate.specs.declared.types.Answer.{Answer}
use Rattle.ladder.specs.declared.types.Rung.{Rung}
use Rattle.rate.specs.Calls.{Call, step}
use Rattle.rate.specs.Reads.{choice_of, probing_of, ofdm_refused}
use Rattle.question.specs.Body.{call_of}
use Rattle.question.specs.File.{event_count, air, body_at, file_verdict}
use Rattle.question.specs.Start.{fresh_for}
use Rattle.paper.specs.Lines.{Cell, Number, Dash, Word, cells_bytes}
use Rattle.question.specs.Over.{over}
pub use Rattle.paper.specs.declared.types.Outcome.{Outcome}
pub use Rattle.paper.specs.declared.types.Score.{Score}

-- ---- the calls of the events
unfoldable pub call_at : List ℕ → ℕ → Call
call_at s i = call_of (body_at s i)

unfoldable pub calls_of : List ℕ → List Call
calls_of s = tabulate (event_count s) 0 (call_at s)

-- ---- a line
-- what is said of an event: choice, tried rung, OFDM refused, ended and begun, or its refusal
abbrev pub Line : Type 0
Line = Result Outcome Refusal

abbrev pub line_by : Answer → Verdict → Line
line_by a (Ok _) =
    Ok (record { choice = choice_of a.controller; tried = probing_of a.controller; ofdm_refused = ofdm_refused a.controller; ended = a.ended; begun = a.begun })
line_by a (Err why) = Err why

unfoldable pub line_of : Answer → Line
line_of a = line_by a a.verdict

-- "tried rung or `-`"
abbrev pub tried_cell : Option Rung → Cell
tried_cell None = Dash
tried_cell (Some r) = Number r.0

-- 1 where it holds, 0 where not
abbrev pub flag_cell : Bool → Cell
flag_cell true = Number 1
flag_cell false = Number 0

-- "event (from 1), choice, tried rung or `-`, OFDM refused, ended, begun; or event, `refused`, number"
abbrev pub cells_of : ℕ → Line → List Cell
cells_of event (Ok o) = Number event ∷ Number o.choice.0 ∷ tried_cell o.tried ∷ flag_cell o.ofdm_refused ∷ flag_cell o.ended ∷ flag_cell o.begun ∷ []
cells_of event (Err why) = Number event ∷ Word ∷ Number (refusal_number why) ∷ []

unfoldable pub line_bytes : ℕ → Line → List ℕ
line_bytes event l = cells_bytes (cells_of event l)

-- "A refused file prints one line, `refused` and the number."
abbrev pub refused_cells : Refusal → List Cell
refused_cells why = Word ∷ Number (refusal_number why) ∷ []

unfoldable pub refused_bytes : Refusal → List ℕ
refused_bytes why = cells_bytes (refused_cells why)

-- ---- the sheet
-- "Each line goes after the bytes already written": the lines of the calls, the first of which is event e, each on what the last left
unfoldable pub lines_from : RateController → ℕ → List Call → List ℕ
lines_from k e [] = []
lines_from k e (c ∷ cs) = line_bytes e (line_of (step k c)) ++ lines_from (step k c).controller (suc e) cs

unfoldable pub sheet_of : List ℕ → List ℕ
sheet_of s = lines_from (fresh_for (air s)) 1 (calls_of s)

-- 13: "the whole sheet is longer than the output slice"
abbrev pub room_verdict : List ℕ → List ℕ → Verdict
room_verdict s out = unless (nat_le (length (sheet_of s)) (length out)) SheetRoom

-- after 10, 11 and 12
unfoldable pub sheet_verdict : List ℕ → List ℕ → Verdict
sheet_verdict s out = or_else (file_verdict s) (room_verdict s out)

-- "The library call returns the sheet's length"
abbrev pub sheet_by : List ℕ → Verdict → Result ℕ Refusal
sheet_by s (Ok _) = Ok (length (sheet_of s))
sheet_by s (Err why) = Err why

unfoldable pub sheet_answer : List ℕ → List ℕ → Result ℕ Refusal
sheet_answer s out = sheet_by s (sheet_verdict s out)

-- "bytes of the output slice past the sheet stay"; refused: "Left as it was: output slice"
abbrev pub left_by : List ℕ → List ℕ → Verdict → List ℕ
left_by s out (Ok _) = over (sheet_of s) out
left_by s out (Err why) = out

unfoldable pub sheet_left : List ℕ → List ℕ → List ℕ
sheet_left s out = left_by s out (sheet_verdict s out)

-- what the program prints
abbrev pub printed_by : List ℕ → Verdict → List ℕ
printed_by s (Ok _) = sheet_of s
printed_by s (Err why) = refused_bytes why

unfoldable pub printed : List ℕ → List ℕ → List ℕ
printed s out = printed_by s (sheet_verdict s out)

-- a text that has room in a slice, else nothing
unfoldable pub fitting : List ℕ → List ℕ → List ℕ
fitting text out = cond (nat_le (length text) (length out)) text []

-- what the program's buffer takes of it; where `refused` and a number have room that is all of it (proofs/Printed.antt)
unfoldable pub printed_in : List ℕ → List ℕ → List ℕ
printed_in s out = fitting (printed s out) out

-- ---- marking
-- "right if it equals the choice after that event; refused events don't count"
abbrev pub scored_by : Score → Answer → ℕ → Verdict → Score
scored_by m a x (Ok _) = record { right = m.right + cond (x == (choice_of a.controller).0) 1 0; counted = m.counted + 1 }
scored_by m a x (Err why) = m

unfoldable pub scored : Score → Answer → ℕ → Score
scored m a x = scored_by m a x a.verdict

-- "one answer byte an event": the calls from k on with their answers, added to m
unfoldable pub score_from : Score → RateController → List Call → List ℕ → Score
score_from m k [] xs = m
score_from m k (c ∷ cs) [] = m
score_from m k (c ∷ cs) (x ∷ xs) = score_from (scored m (step k c) x) (step k c).controller cs xs

-- "It returns right and counted."
unfoldable pub score_of : List ℕ → List ℕ → Score
score_of s answers = score_from (record { right = 0; counted = 0 }) (fresh_for (air s)) (calls_of s) answers

-- 14: "answer count differs from event count"; "Marking tests 10, 11, 12, 14."
unfoldable pub mark_verdict : List ℕ → List ℕ → Verdict
mark_verdict s answers = or_else (file_verdict s) (unless (length answers == event_count s) AnswerCount)

abbrev pub marked_by : List ℕ → List ℕ → Verdict → Result Score Refusal
marked_by s answers (Ok _) = Ok (score_of s answers)
marked_by s answers (Err why) = Err why

unfoldable pub mark_answer : List ℕ → List ℕ → Result Score Refusal
mark_answer s answers = marked_by s answers (mark_verdict s answers)
