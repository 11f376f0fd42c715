-- The offers before this one stand in the array.
use Rattle.std.proofs.Common.{◌≡◌, ◌<◌, ℕ, slice_index_or}
use Rattle.ladder.specs.bridges.Worths.{offer_at, no_offer}
use Rattle.ladder.proofs.front.FrontColumns.offers.Given as goal

abbrev pub invariant-loop-m : goal.invariant-loop-m
invariant-loop-m l =
    (r : ℕ) → r < l.m → slice_index_or l.offer-items r no_offer ≡ offer_at l.self.thresholds.now l.self.payloads.now l.self.times.now r
