-- Each turn is one event of the definition: that what the reader yields is the body of the next number the check does not find.
use Rattle.std.proofs.Common.{length, ap, sym, ◌∙◌}
use Rattle.std.proofs.lemmas.List.{length_push}
use Rattle.by_value.specs.Sums.{Sums}
use Rattle.by_value.proofs.Bodies.{next_body, no_more}
use Rattle.by_value.proofs.Turns.{event_turn, event_end}
use Rattle.by_value.proofs.by_value_events.Goals as goal

pub loop-body-preserved : goal.loop-body-preserved
loop-body-preserved c =
    let l = c.loop-body in
    let file = c.args.file.now in
    let here = next_body file c.into_iter-body-iterator.result l.body-iterator c.next.new.self (cc) l.yielded l.yielded_by _ c.next.ensures.steps c.in-Some.body c.in-Some.is in
    rw (length_push l.yielded c.in-Some.body, c.add-sums.ensures, c.choice.ensures, c.answer_event.ensures)
    (event_turn l.k l.sums file (length l.yielded) c.in-Some.body.now here.0 here.1 ∙ l.invariant)

pub returns : goal.returns
returns c =
    let l = c.loop-body in
    let file = c.args.file.now in
    let none_left = no_more file c.into_iter-body-iterator.result l.body-iterator c.next.new.self (cc) l.yielded l.yielded_by _ c.next.ensures.steps c.in-None.is in
    ap (λ (s : Sums). s.placed) (sym (event_end l.k l.sums file (length l.yielded) none_left) ∙ l.invariant)
