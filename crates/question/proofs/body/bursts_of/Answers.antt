-- The array has at each place what the list has: what the closure answers at every place the check does not hand on to the lemma.
use borrow.Author.Rules.{rules}
use Rattle.question.specs.Body.{bursts_in}
use Rattle.question.proofs.Bodies.{first_made}
use Rattle.question.proofs.body.bursts_of.Goals as goal

pub returns : goal.returns
returns c =
    first_made 0 (bursts_in c.args.body.now) c.from_fn.result 32 c.from_fn.ensures.items (λ i y q k. search rules)
