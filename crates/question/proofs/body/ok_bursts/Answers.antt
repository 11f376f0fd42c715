-- The burst counts are chunks of 2 bytes, and each is within its limit: which list `chunks_exact` yields the check does not find.
use mathlib.Core.Path.{◌∙◌}
use native.Mathlib.Omega.{arith}
use borrow.Author.Rules.{rules}
use borrow.Author.Tests.{tests}
use Rattle.std.proofs.lemmas.Iterator.Search.{all_from_yields_List}
use Rattle.question.specs.Body.{burst_count}
use Rattle.question.proofs.Bodies.{known_burst, bursts_all}
use Rattle.question.proofs.Chunks.{chunks_all}
use Rattle.question.proofs.body.ok_bursts.Goals as goal

pub returns : goal.returns
returns c =
    let b = c.args.body.now in
    let it = c.chunks_exact in
    all_from_yields_List known_burst c.all.new.self _ c.all.result c.all.ensures.ran
    (chunks_all b 25 2 (burst_count b) it.result it.ensures.size (it.ensures.rest ∙ c.past.ensures) (omega arith) (omega arith)) (λ x r q k. search (rules, tests))
    ∙ bursts_all b
