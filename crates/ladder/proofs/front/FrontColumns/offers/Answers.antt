-- At the loop's end each offer is right; that entries which are each right are the list of them the check does not find.
use Rattle.std.proofs.Common.{◌≡◌, ◌≤◌, arith, ℕ, List, sym, ap, ◌∙◌, ◌++◌, length, replicate}
use lib.ListN.{length-take}
use native.Mathlib.Nat.{zero-add}
use Rattle.ladder.specs.bridges.Worths.{Offer, offer_at, no_offer, offers_of}
use Rattle.ladder.specs.Lists.{tabulate}
use Rattle.ladder.proofs.Arrays.{entry_made, rest_equal}
use Rattle.ladder.proofs.Tabulating.{listed, length_tabulate}
use Rattle.ladder.proofs.front.FrontColumns.offers.Goals as goal

pub loop-m-init : goal.loop-m-init
loop-m-init c r h = absurd (omega (arith, h))

pub loop-m-preserved : goal.loop-m-preserved
loop-m-preserved c =
    let a = c.args.self.now in
    let l = c.loop-m in
    entry_made (offer_at a.thresholds.now a.payloads.now a.times.now) no_offer l.offer-items l.m c.offer_at.result (omega arith) c.offer_at.ensures l.invariant

pub returns : goal.returns
unfolding offers_of
returns c =
    let a = c.args.self.now in
    let l = c.loop-m in
    let n : ℕ = length a.thresholds.now in
    let offer : ℕ → Offer = offer_at a.thresholds.now a.payloads.now a.times.now in
    let room : n ≤ 32 = c.requires in
    let long : length l.offer-items ≡ n = l.auto.offer-items ∙ length-take n (replicate 32 no_offer) ∙ omega (arith, room) in
    let each : l.offer-items ≡ tabulate n 0 offer = listed offer n 0 l.offer-items no_offer long (λ k h. l.invariant k (omega (arith, h)) ∙ ap offer (sym (zero-add k))) in
    let many : length (tabulate n 0 offer) ≡ n = length_tabulate n 0 offer in
    rw (each, many) (ap (λ (rest : List Offer). tabulate n 0 offer ++ rest) (rest_equal n no_offer))
