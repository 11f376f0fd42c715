-- The factors of the rungs before this one are right, and the last one may be carried on.
use Rattle.std.proofs.Common.{◌≡◌, ◌<◌, ℕ, slice_index_or}
use Rattle.float.specs.Numbers.{f1}
use Rattle.ladder.specs.Types.{row}
use Rattle.rules.specs.bridges.Pass.{factor}
use Rattle.rules.proofs.Fade.{Carried}
use Rattle.rules.proofs.accounts.Fades.fill.Given as goal

abbrev pub invariant-loop-i : goal.invariant-loop-i
invariant-loop-i l =
    record { carried : Carried l.air l.fade; filled : (r : ℕ) → r < l.i → slice_index_or l.by-items r f1 ≡ factor l.air (row l.t r).time }
