-- The value that is found with the best place is the choice's, once that place is taken: with `chosen` named on the function the search gives up at its limit.
use mathlib.Core.Path.{sym, ◌∙◌}
use Rattle.steps.proofs.Decided.{chosen}
use Rattle.steps.proofs.decide.decide.Goals as goal

pub decide_try-requires : goal.decide_try-requires
decide_try-requires c = chosen c.args.terms.table.now c.args.terms.prices.now c.args.s.now c.in-Some.found.place c.in-Some.found.value (sym c.choose_place.ensures ∙ c.in-Some.is)
