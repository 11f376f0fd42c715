-- Of the bodies that the reader gives, each has its kind's form: which list a reader yields the check does not find.
use mathlib.Core.Path.{◌∙◌}
use borrow.Author.Rules.{rules}
use borrow.Author.Tests.{tests}
use Rattle.std.proofs.lemmas.Iterator.Search.{all_from_yields_List}
use Rattle.std.proofs.lemmas.Iterator.Consumers.{YieldsList-from_first}
use mathlib.Core.List.{List}
use Prim.Native.Nat.{ℕ}
use Rattle.question.specs.declared.reader.Reader.{Reader}
use Rattle.question.specs.Body.{ok_body}
use Rattle.question.specs.File.{bodies_from}
use Rattle.question.proofs.Events.{bodies_good}
use Rattle.question.proofs.verdict.ok_bodies.Goals as goal

pub returns : goal.returns
returns c =
    let file = c.args.file.now in
    let left : Reader → List (List ℕ) = λ r. bodies_from r.file.now r.next in
    all_from_yields_List ok_body c.all.new.self _ c.all.result c.all.ensures.ran (YieldsList-from_first (λ x. x.now) left (bodies_from file 0) (rw (c.new.ensures.file, c.new.ensures.first))) (λ x b q k. search (rules, tests))
    ∙ bodies_good file
