-- What is written is the text of the lines before this one, and the slice past it is as it was.
use Rattle.std.specs.Prelude.{◌+◌, drop}
use Rattle.question.proofs.Over.{Partly}
use Rattle.paper.specs.bridges.Said.{text_from}
use Rattle.paper.proofs.sheet.write_lines.Given as goal

abbrev pub invariant-loop-i : goal.invariant-loop-i
invariant-loop-i l = Partly (text_from 1 l.lines) (text_from (l.i + 1) (drop l.i l.lines)) l.initial.out l.len l.out
