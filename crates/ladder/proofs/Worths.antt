-- A front by the rungs' offers, each worth divided once, is the front of the rules. Assumes nothing.
use mathlib.Core.Path.{◌≡◌, refl, ap, ◌∙◌}
use mathlib.Core.Bool.{Bool, true, false, not, ◌&&◌}
use mathlib.Core.List.{List}
use Prim.Native.Nat.{ℕ, zero, suc, ◌<◌}
use native.Mathlib.Nat.{zero-add}
use native.Mathlib.Numerals.{add-one}
use lib.Dec.{eqb}
use lib.Ieee.{Float, le}
use lib.ListN.{length, get_or, take}
use lib.Seq.{take_at}
use Rattle.std.specs.List.{list_any, enumerate_from}
use Rattle.float.specs.Numbers.{f0}
use Rattle.ladder.specs.Lists.{tabulate, some_from}
use Rattle.ladder.specs.Front.{worth_at, beats, beaten}
use Rattle.ladder.specs.bridges.Worths.{Offer, offer_at, offers_of, beats_with, beaten_with}
use Rattle.ladder.proofs.Ranges.{some_agree}
use Rattle.ladder.proofs.Tabulating.{length_tabulate, tabulate_at}

and_assoc : (a b c : Bool) → (a && (b && c)) ≡ (a && b && c)
and_assoc true b c = refl
and_assoc false b c = refl

-- a test of what is tabulated, and of its number
any_tabulate : {A : Type 0} (p : ℕ × A → Bool) (f : ℕ → A) (n i : ℕ) → list_any p (enumerate_from i (tabulate n i f)) ≡ some_from n i (λ k. p (k, f k))
any_tabulate p f zero i = refl
any_tabulate p f (suc n) i = rw (add-one i, any_tabulate p f n (suc i)) refl

module _ (thresholds : List Float) (payloads : List ℕ) (times : List Float) where
  pub beats_by_worths : (r o : ℕ) → (not (eqb o r) && beats_with (offer_at thresholds payloads times o) (offer_at thresholds payloads times r)) ≡ beats thresholds payloads times r o
  beats_by_worths r o =
      and_assoc (not (eqb o r)) (le (worth_at payloads times r) (worth_at payloads times o)) (le (get_or thresholds o f0) (get_or thresholds r f0))

  -- the first offers, as many as there are rungs
  abbrev taken : List Offer
  taken = take (length thresholds) (offers_of thresholds payloads times)

  taken_is : taken ≡ tabulate (length thresholds) 0 (offer_at thresholds payloads times)
  unfolding offers_of
  taken_is = take_at (tabulate (length thresholds) 0 (offer_at thresholds payloads times)) _ (length thresholds) (length_tabulate (length thresholds) 0 (offer_at thresholds payloads times))

  -- r is beaten among them
  module _ (r : ℕ) (inside : r < length thresholds) (d : Offer) where
    pub beaten_by_worths : beaten_with taken r (get_or taken r d) ≡ beaten thresholds payloads times r
    unfolding beaten
    beaten_by_worths =
        let offer = offer_at thresholds payloads times in
        let n = length thresholds in
        let mine : get_or (tabulate n 0 offer) r d ≡ offer r = tabulate_at n 0 offer r d inside ∙ ap offer (zero-add r) in
        let test = λ (p : ℕ × Offer). not (eqb p.0 r) && beats_with p.1 (offer r) in
        rw (taken_is, mine) (any_tabulate test offer n 0 ∙ some_agree (λ k. test (k, offer k)) (beats thresholds payloads times r) n 0 (λ k less. beats_by_worths r k))

  -- as many offers are compared as there are rungs
  pub offers_taken : length taken ≡ length thresholds
  offers_taken = ap length taken_is ∙ length_tabulate (length thresholds) 0 (offer_at thresholds payloads times)
