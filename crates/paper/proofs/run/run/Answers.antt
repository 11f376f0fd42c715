-- Each turn of the loop is the next event: the check does not find that the body which comes is the next in the file's order.
use Rattle.std.proofs.Common.{◌≡◌, ◌+◌, ◌<◌, refl, sym, ◌∙◌, arith}
use Rattle.question.specs.File.{event_count, body_at, bodies_from}
use Rattle.question.proofs.Events.{bodies_next}
use Rattle.paper.proofs.Running.{filled_next}
use Rattle.paper.proofs.run.run.Goals as goal

pub loop-line-preserved : goal.loop-line-preserved
loop-line-preserved c =
    let file = c.args.file.now in
    let l = c.loop-line in
    let few : l.line-index < event_count file = omega (arith, c.loop-line-test.true, c.requires) in
    let both = sym c.in-Some.ensures.steps ∙ l.invariant.1 ∙ bodies_next file l.line-index few in
    let this : c.in-Some.body.now ≡ body_at file l.line-index = cc in
    let left : bodies_from c.next.new.self.file.now c.next.new.self.next ≡ bodies_from file (l.line-index + 1) = cc in
    (rw (c.line_of.ensures, c.controller.ensures) (filled_next file l.line-index l.lines l.player c.in-Some.body.now _ _ few this c.play-reply.ensures refl l.invariant.0), left)
