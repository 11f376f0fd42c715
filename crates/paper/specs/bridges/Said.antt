-- What is said of each event of a file, and the sheet's text and the score by that alone: proofs/Said.antt shows that they are `sheet_of` and `score_of`.
-- Definitions only.
use Rattle.std.specs.Prelude.{ℕ, suc, ◌+◌, cond, List, [], ◌∷◌, ◌++◌, ◌==◌, Ok, Err}
use Rattle.rate.specs.declared.types.RateController.{RateController}
use Rattle.rate.specs.Calls.{Call, step}
use Rattle.question.specs.File.{air}
use Rattle.question.specs.Start.{fresh_for}
use Rattle.paper.specs.Lines.{Cell}
use Rattle.paper.specs.Sheet.{Line, Outcome, Score, calls_of, line_of, flag_cell, line_bytes}

-- of calls from a controller on, each on what the last left
unfoldable pub said_from : RateController → List Call → List Line
said_from k [] = []
said_from k (c ∷ cs) = line_of (step k c) ∷ said_from (step k c).controller cs

unfoldable pub said : List ℕ → List Line
said s = said_from (fresh_for (air s)) (calls_of s)

-- the lines' bytes, the first of which is event e
unfoldable pub text_from : ℕ → List Line → List ℕ
text_from e [] = []
text_from e (l ∷ ls) = line_bytes e l ++ text_from (suc e) ls

-- the last three fields of an answered event's line
abbrev pub flag_cells : Outcome → List Cell
flag_cells o = flag_cell o.ofdm_refused ∷ flag_cell o.ended ∷ flag_cell o.begun ∷ []

-- the score with the answer to one line more
abbrev pub scored_line : Score → Line → ℕ → Score
scored_line m (Ok o) x = record { right = m.right + cond (x == o.choice.0) 1 0; counted = m.counted + 1 }
scored_line m (Err why) x = m

unfoldable pub score_lines : Score → List Line → List ℕ → Score
score_lines m [] xs = m
score_lines m (l ∷ ls) [] = m
score_lines m (l ∷ ls) (x ∷ xs) = score_lines (scored_line m l x) ls xs
