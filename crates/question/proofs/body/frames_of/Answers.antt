-- The array has at each place what the list has: what the closure answers at every place the check does not hand on to the lemma.
use borrow.Author.Rules.{rules}
use Rattle.question.specs.Body.{frames_in, no_frame}
use Rattle.question.proofs.Bodies.{first_made}
use Rattle.question.proofs.body.frames_of.Goals as goal

pub returns : goal.returns
returns g c =
    first_made no_frame (frames_in c.args.body.now) c.from_fn.result g.row.N c.from_fn.ensures.items (λ i y q k. search rules)
