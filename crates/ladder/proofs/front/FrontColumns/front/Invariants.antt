-- The array holds the rungs before this one that no other beats, ascending, and its count is how many they are.
use Prim.Native.Nat.{◌-◌, ◌≤◌}
use lib.ListN.{length}
use Rattle.ladder.specs.Front.{beaten}
use Rattle.ladder.proofs.Filling.{Filling}
use Rattle.ladder.proofs.front.FrontColumns.front.Given as goal

abbrev pub invariant-loop-m : goal.invariant-loop-m
invariant-loop-m l =
    (l.m ≤ length l.self.thresholds.now) × Filling (beaten l.self.thresholds.now l.self.payloads.now l.self.times.now) (length l.self.thresholds.now) l.m l.rungs l.places

abbrev pub decreases-loop-m : goal.decreases-loop-m
decreases-loop-m l = length l.self.thresholds.now - l.m
