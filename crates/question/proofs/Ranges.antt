-- Tests of all the numbers from one up to another, and the list that is made of them. Assumes nothing.
use mathlib.Core.Path.{◌≡◌, refl, ap}
use mathlib.Core.Bool.{Bool}
use mathlib.Core.List.{[], ◌∷◌}
use Prim.Native.Nat.{ℕ, zero, suc, ◌+◌, ◌-◌, ◌≤◌, ◌<◌}
use native.Mathlib.Numerals.{add-one}
use native.Mathlib.Omega.{arith}
use Rattle.std.specs.List.{list_all}
use Rattle.ladder.specs.Lists.{tabulate}
use Rattle.ladder.proofs.Ranges.{left, none_left}
use Rattle.question.specs.Body.{all_from}

-- ---- whether all pass
-- tests that agree at each number agree on all
pub all_same : (n i : ℕ) (f g : ℕ → Bool) → ((j : ℕ) → f j ≡ g j) → all_from n i f ≡ all_from n i g
unfolding all_from
all_same zero i f g e = refl
all_same (suc n) i f g e = rw (e i, all_same n (suc i) f g e)

-- ---- the list that is made
pub all_tabulate : {A : Type 0} (n i : ℕ) (f : ℕ → A) (g : A → Bool) → list_all g (tabulate n i f) ≡ all_from n i (λ j. g (f j))
unfolding all_from
all_tabulate zero i f g = refl
all_tabulate (suc n) i f g = rw (all_tabulate n (suc i) f g)

-- what is left of it at i: at first all, then one less, in the end none
module _ {A : Type 0} (f : ℕ → A) (n : ℕ) where
  pub tabulate_all : tabulate (n - 0) 0 f ≡ tabulate n 0 f
  tabulate_all = let q : n - 0 ≡ n = omega arith in ap (λ m. tabulate m 0 f) q

  pub tabulate_next : (i : ℕ) → i < n → tabulate (n - i) i f ≡ f i ∷ tabulate (n - (i + 1)) (i + 1) f
  tabulate_next i h = rw (left h, add-one i) refl

  pub tabulate_none : (i : ℕ) → n ≤ i → tabulate (n - i) i f ≡ []
  tabulate_none i h = rw (none_left h) refl
