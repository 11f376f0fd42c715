-- What is left of the set, judged, gives what the whole set gives; the set loses one rung at each turn.
use Rattle.std.proofs.Common.{◌≡◌, ◌^◌, ◌<◌}
use lib.Count.{ones}
use Rattle.rules.specs.bridges.Sets.{judge_set}
use Rattle.steps.proofs.judge.judge_sent.Given as goal

abbrev pub invariant-loop-left : goal.invariant-loop-left
invariant-loop-left l = record { fits : l.left < 2 ^ 32; judged : judge_set l.left l.terms.table.now l.terms.prices.now l.s ≡ judge_set l.sent l.terms.table.now l.terms.prices.now l.initial.s }

abbrev pub decreases-loop-left : goal.decreases-loop-left
decreases-loop-left l = ones l.left
