-- What is left of the walk gives what the whole walk gives.
use Rattle.std.proofs.Common.{◌≡◌, ◌-◌}
use Rattle.ladder.specs.Types.{place_count}
use Rattle.rules.specs.Lowest.{greatest}
use Rattle.rules.specs.Tries.{candidate, choose}
use Rattle.rules.proofs.Greatest.{value_of_place}
use Rattle.steps.proofs.decide.choose_place.Given as goal

abbrev pub invariant-loop-i : goal.invariant-loop-i
invariant-loop-i l = greatest (place_count l.terms.table.now - l.i) l.i (candidate l.terms.table.now l.s) (value_of_place l.terms.table.now l.terms.prices.now l.s) l.best ≡ choose l.terms.table.now l.terms.prices.now l.s
