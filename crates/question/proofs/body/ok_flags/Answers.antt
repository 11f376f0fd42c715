-- The frames are chunks of 12 bytes, and each has known flags: which list `chunks_exact` yields the check does not find.
use mathlib.Core.Path.{◌∙◌}
use native.Mathlib.Omega.{arith}
use borrow.Author.Rules.{rules}
use borrow.Author.Tests.{tests}
use Rattle.std.proofs.lemmas.Iterator.Search.{all_from_yields_List}
use Rattle.question.specs.Body.{frame_count}
use Rattle.question.proofs.Bodies.{known_flags, flags_all}
use Rattle.question.proofs.Chunks.{chunks_all}
use Rattle.question.proofs.body.ok_flags.Goals as goal

pub returns : goal.returns
returns c =
    let b = c.args.body.now in
    let it = c.chunks_exact in
    all_from_yields_List known_flags c.all.new.self _ c.all.result c.all.ensures.ran
    (chunks_all b 10 12 (frame_count b) it.result it.ensures.size (it.ensures.rest ∙ c.past.ensures) (omega arith) (omega arith)) (λ x r q k. search (rules, tests))
    ∙ flags_all b
