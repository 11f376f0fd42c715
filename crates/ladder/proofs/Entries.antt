-- Facts that hold of each entry of a list: read off at an entry, and kept by a store. Assumes nothing.
use mathlib.Core.Bool.{Bool}
use mathlib.Core.List.{List, [], ◌∷◌}
use Prim.Native.Nat.{ℕ, zero, suc, ◌<◌}
use native.Mathlib.Nat.{not-suc-le-zero, le_of_suc-le-suc}
use native.Mathlib.Omega.{arith}
use lib.Dec.{T}
use lib.ListN.{length, get_or, set, replicate}
use Rattle.ladder.specs.Lists.{every}
use lib.Ieee.Fits.{and_l, and_r}

module _ {A : Type 0} (P : A → Type 0) where
  abbrev pub All : List A → Type 0
  All [] = Unit
  All (x ∷ xs) = P x × All xs

  pub all_get : (l : List A) (i : ℕ) (d : A) → All l → i < length l → P (get_or l i d)
  all_get [] i d h k = absurd (not-suc-le-zero k)
  all_get (x ∷ xs) zero d h k = h.0
  all_get (x ∷ xs) (suc i) d h k = all_get xs i d h.1 (le_of_suc-le-suc k)

  -- the new entry is asked of only where it is stored
  pub all_set : (l : List A) (i : ℕ) (a : A) → All l → (i < length l → P a) → All (set l i a)
  all_set [] i a h k = tt
  all_set (x ∷ xs) zero a h k = (k (omega arith), h.1)
  all_set (x ∷ xs) (suc i) a h k = (h.0, all_set xs i a h.1 (λ (g : i < length xs). k (omega arith)))

  pub all_replicate : (n : ℕ) (a : A) → P a → All (replicate n a)
  all_replicate zero a h = tt
  all_replicate (suc n) a h = (h, all_replicate n a h)

pub every_get : {A : Type 0} (f : A → Bool) (l : List A) (r : ℕ) (d : A) → T (every f l) → r < length l → T (f (get_or l r d))
every_get f [] r d h k = absurd (not-suc-le-zero k)
every_get f (x ∷ xs) zero d h k = and_l (f x) (every f xs) h
every_get f (x ∷ xs) (suc r) d h k = every_get f xs r d (and_r (f x) (every f xs) h) (le_of_suc-le-suc k)
