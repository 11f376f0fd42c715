-- What is left of lines and answers, scored on top of the score so far, gives the whole score; and neither count is past the lines read, so none wraps.
use Rattle.std.specs.Prelude.{◌≡◌, ◌≤◌, length, drop}
use Rattle.paper.specs.bridges.Said.{score_lines}
use Rattle.paper.proofs.mark.score_all.Given as goal

abbrev pub invariant-loop-line : goal.invariant-loop-line
invariant-loop-line l =
    (l.m.right ≤ length l.yielded)
    × (l.m.counted ≤ length l.yielded)
    × (score_lines l.m (drop (length l.yielded) l.lines) (drop (length l.yielded) l.answers) ≡ score_lines (record { right = 0; counted = 0 }) l.lines l.answers)
