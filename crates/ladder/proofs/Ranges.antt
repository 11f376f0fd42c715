-- The ranges of specs/Lists.antt as a loop walks them: what the numbers from i on come to, one number at a time. Assumes nothing.
use mathlib.Core.Path.{◌≡◌, refl}
use mathlib.Core.Bool.{Bool, true, false}
use mathlib.Core.List.{[], ◌∷◌}
use Prim.Native.Nat.{ℕ, zero, suc, ◌+◌, ◌-◌, ◌<◌, ◌≤◌}
use native.Mathlib.Numerals.{add-one}
use native.Mathlib.Omega.{arith}
use Rattle.ladder.specs.Lists.{select, some_from}

-- how many numbers are left at i
module _ {n i : ℕ} where
  pub left : i < n → n - i ≡ suc (n - (i + 1))
  left h = omega arith

  pub none_left : n ≤ i → n - i ≡ 0
  none_left h = omega arith

module _ (f : ℕ → Bool) (n i : ℕ) where
  -- `r` is what the test said of i
  module _ (r : Bool) (h : i < n) (e : r ≡ f i) where
    pub select_here : r ≡ true → select (n - i) i f ≡ i ∷ select (n - (i + 1)) (i + 1) f
    select_here q = rw (left h, ← e, q, add-one i) refl

    pub select_later : r ≡ false → select (n - i) i f ≡ select (n - (i + 1)) (i + 1) f
    select_later q = rw (left h, ← e, q, add-one i) refl

  pub select_nothing : n ≤ i → select (n - i) i f ≡ []
  select_nothing h = rw (none_left h) refl

-- tests that agree on a range
pub some_agree : (f g : ℕ → Bool) (n i : ℕ) → ((k : ℕ) → k < i + n → f k ≡ g k) → some_from n i f ≡ some_from n i g
some_agree f g zero i h = refl
some_agree f g (suc n) i h = rw (h i (omega arith), some_agree f g n (suc i) (λ k less. h k (omega arith))) refl
