-- The chain adds the lengths of the lines, one after the other: the check does no induction over lines, and does not put the adapters' facts together.
use Rattle.std.proofs.Common.{◌≡◌, ℕ, ◌+◌, List, [], ◌∷◌, length, refl, ap, ◌∙◌, add-one, length-append, rules, tests}
use Rattle.std.specs.List.{sum_by, enumerate_from}
use Rattle.std.proofs.lemmas.List.Sums.{sum_by-cons}
use Rattle.std.proofs.lemmas.Iterator.{YieldsList-from_slice, YieldsList-from_map}
use Rattle.std.proofs.lemmas.Iterator.Consumers.{YieldsList-at, YieldsList-from_enumerate, sum_by_from_yields_List}
use Rattle.paper.specs.Sheet.{Line, line_bytes}
use Rattle.paper.specs.bridges.Said.{text_from}
use Rattle.paper.proofs.sheet.measure_lines.Goals as goal

-- of a line by its index
abbrev length_at : ℕ × Line → ℕ
length_at p = length (line_bytes (p.0 + 1) p.1)

lengths : (lines : List Line) (i : ℕ) → sum_by length_at (enumerate_from i lines) ≡ length (text_from (i + 1) lines)
unfolding text_from
lengths [] i = refl
lengths (l ∷ ls) i =
    sum_by-cons length_at (i, l) (enumerate_from (i + 1) ls)
    ∙ rw (← add-one (i + 1), length-append) (ap (λ n. length (line_bytes (i + 1) l) + n) (lengths ls (i + 1)))

pub returns : goal.returns
returns c =
    let lines = c.args.lines.now in
    sum_by_from_yields_List length_at (enumerate_from 0 lines) c.map.result c.sum.result c.sum.ensures.ran
    (YieldsList-from_map _ length_at (YieldsList-at c.map.ensures.source (YieldsList-from_enumerate (YieldsList-from_slice lines cc) (cc))) c.map.ensures.closure (λ x r q k. search (rules, tests)))
    ∙ lengths lines 0
