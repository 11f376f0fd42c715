-- A walk over places by `greatest`: its from_start, one one_place, its end, that what it finds has the value of its place, and that places from which on none is
-- allowed need no walk. Assumes nothing.
use mathlib.Core.Path.{◌≡◌, refl, sym, ap, ◌∙◌}
use mathlib.Core.Bool.{Bool, true, false, ◌&&◌, cond}
use Prim.Native.Nat.{ℕ, zero, suc, ◌+◌, ◌-◌, ◌<◌, ◌≤◌, min}
use native.Mathlib.Omega.{arith}
use native.Mathlib.Numerals.{add-one}
use lib.Dec.{ltb}
use lib.Ieee.{Float}
use borrow.Author.Tests.{ltb-true, ltb-false}
use Rattle.ladder.proofs.Ranges.{left, none_left}
use Rattle.ladder.specs.declared.types.Table.{Table}
use Rattle.ladder.specs.Types.{place, rung_at}
use Rattle.account.specs.declared.types.Prices.{Prices}
use Rattle.account.specs.declared.types.State.{State}
use Rattle.account.specs.Price.{value}
use Rattle.ladder.proofs.Cases.{pick}
use Rattle.std.specs.Prelude.{None, Some}
use Rattle.rules.specs.Lowest.{Best, found, exceeds, greatest, improved}

-- the value of the rung at a place
abbrev pub value_of_place : Table → Prices → State → ℕ → Float
value_of_place t p s i = value t p s (rung_at t i)

module _ (A : ℕ → Bool) (W : ℕ → Float) where
  pub from_start : (n : ℕ) (b : Best) → greatest (n - 0) 0 A W b ≡ greatest n 0 A W b
  from_start n b = let q : n - 0 ≡ n = omega arith in ap (λ (k : ℕ). greatest k 0 A W b) q

  pub one_place : (n i : ℕ) (b z : Best) → i < n → z ≡ improved A W i b → greatest (n - (i + 1)) (i + 1) A W z ≡ greatest (n - i) i A W b
  unfolding greatest
  one_place n i b z h q =
      let m = n - (i + 1) in
      ap (λ (k : ℕ). greatest m k A W z) (add-one i) ∙ ap (greatest m (suc i) A W) q ∙ sym (ap (λ (k : ℕ). greatest k i A W b) (left h))

  pub at_end : (n i : ℕ) (b : Best) → n ≤ i → b ≡ greatest (n - i) i A W b
  unfolding greatest
  at_end n i b h = sym (ap (λ (k : ℕ). greatest k i A W b) (none_left h))

  -- what is found has the value of its place
  abbrev pub Valued : Best → Type 0
  Valued None = Unit
  Valued (Some b) = b.value ≡ W b.place.0

  pub valued : (n i : ℕ) (b : Best) → Valued b → Valued (greatest n i A W b)
  unfolding greatest
  valued zero i b h = h
  valued (suc n) i b h = valued n (suc i) (improved A W i b) (pick Valued (A i && exceeds (W i) b) refl h)

  module _ (m : ℕ) (far : (j : ℕ) → m ≤ j → A j ≡ false) where
    idle : (n i : ℕ) (b : Best) → m ≤ i → greatest n i A W b ≡ b
    unfolding greatest
    idle zero i b h = refl
    idle (suc n) i b h =
        ap (greatest n (suc i) A W) (ap (λ (u : Bool). cond (u && exceeds (W i) b) (found (place i) (W i)) b) (far i h)) ∙ idle n (suc i) b (omega arith)

    pub capped : (n i : ℕ) (b : Best) → greatest (min (m - i) n) i A W b ≡ greatest n i A W b
    unfolding greatest
    capped zero i b = let q : min (m - i) 0 ≡ 0 = omega arith in ap (λ (k : ℕ). greatest k i A W b) q
    capped (suc n) i b = go (ltb i m) refl (capped n (suc i) (improved A W i b))
      where
        go : (u : Bool) → ltb i m ≡ u → greatest (min (m - suc i) n) (suc i) A W (improved A W i b) ≡ greatest n (suc i) A W (improved A W i b)
            → greatest (min (m - i) (suc n)) i A W b ≡ greatest (suc n) i A W b
        go true h e = let q : min (m - i) (suc n) ≡ suc (min (m - suc i) n) = omega (arith, ltb-true i m h) in ap (λ (k : ℕ). greatest k i A W b) q ∙ e
        go false h e =
            let q : min (m - i) (suc n) ≡ 0 = omega (arith, ltb-false i m h) in
            ap (λ (k : ℕ). greatest k i A W b) q ∙ sym (idle (suc n) i b (ltb-false i m h))

    -- a walk over the n places from 0 on that ends where none is allowed any more
    pub start_capped : (n : ℕ) (b : Best) → greatest (min m n - 0) 0 A W b ≡ greatest n 0 A W b
    start_capped n b = let q : min m n - 0 ≡ min (m - 0) n = omega arith in ap (λ (k : ℕ). greatest k 0 A W b) q ∙ capped n 0 b
