-- What is made of the chunk that `get` finds, or what stands past the last: the check does not hand both cases of `map_or` on to the lemma.
use borrow.Author.Rules.{rules}
use Rattle.question.proofs.Bodies.{burst_got}
use Rattle.question.proofs.body.burst_at.Goals as goal

pub returns : goal.returns
returns c = burst_got c.args.body.now c.args.i c.get.result c.map_or.result (search rules) (λ e. search rules) (λ x e. search rules)
