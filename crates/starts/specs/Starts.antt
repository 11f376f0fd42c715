-- The controllers that callers get, and the one that a paper starts with, are fresh: the theorems about lists of calls speak of them. Definitions only.
use Rattle.std.specs.Prelude.{◌≡◌, Bool, List, ℕ, Ok}
use Rattle.ladder.specs.Tables.{Columns}
use Rattle.rate.specs.declared.types.RateController.{RateController}
use Rattle.rate.specs.Reads.{made, for_air_of}
use Rattle.rate.specs.Fresh.{Fresh}
use Rattle.waiting.specs.Waiting.{Waiting}
use Rattle.question.specs.File.{air}
use Rattle.question.specs.Start.{fresh_for}
use Rattle.paper.specs.Sheet.{calls_of}

-- what a paper's events are played on, as in `sheet_of` and `score_of`
abbrev pub start : List ℕ → RateController
start s = fresh_for (air s)

pub record Starts : Type 0 where
  -- what `for_table` answers, where it refuses nothing
  pub made_fresh : (c : Columns) (k : RateController) → made c ≡ Ok k → Fresh k
  -- and `for_air` of a fresh one, on or off
  pub for_air_fresh : (k : RateController) → Fresh k → (wide : Bool) → Fresh (for_air_of k wide)
  -- "starts a fresh controller with the air's tables, .. and `for_air`", whatever the air's number
  pub start_fresh : (n : ℕ) → Fresh (fresh_for n)
  -- so demand 3 holds of the calls of every question file. (It holds of those that are turned away too, of which no sheet tells.)
  pub papers_wait : (s : List ℕ) → Waiting (start s) (calls_of s)
