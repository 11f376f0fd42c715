-- Sums left to right of values that are at least 0: the sum from 0.0 is at most the same sum from any s >= 0. Assumes nothing.
use mathlib.Core.List.{List, [], ◌∷◌}
use lib.Dec.{T}
use lib.Ieee.{Float, binary64, le}
use Rattle.float.specs.Numbers.{◌⊕◌}
use Rattle.float.specs.Sum.{total}
use Rattle.float.proofs.Order.{le_le, le_self, le_right}
use Rattle.float.proofs.Rounding.{zero64}
use Rattle.float.proofs.Monotone.{natural, add_mono, add_natural}

-- each is at least 0, and no NaN
abbrev pub Naturals : List Float → Type 0
Naturals [] = Unit
Naturals (x ∷ xs) = natural x × Naturals xs

pub total_natural : (xs : List Float) (s : Float) → Naturals xs → natural s → natural (total s xs)
unfolding total
total_natural [] s h n = n
total_natural (x ∷ xs) s h n = total_natural xs (s ⊕ x) h.1 (add_natural binary64 s x n h.0)

pub total_mono : (xs : List Float) (s s' : Float) → Naturals xs → natural s → T (le s s') → T (le (total s xs) (total s' xs))
unfolding total
total_mono [] s s' h n k = k
total_mono (x ∷ xs) s s' h n k =
    let n' = le_le zero64 s s' n k in
    let p = add_natural binary64 s x n h.0 in
    let q = add_natural binary64 s' x n' h.0 in
    total_mono xs (s ⊕ x) (s' ⊕ x) h.1 p (add_mono binary64 s s' x k (le_right zero64 (s ⊕ x) p) (le_right zero64 (s' ⊕ x) q))

pub from_zero : (xs : List Float) (s : Float) → Naturals xs → natural s → T (le (total zero64 xs) (total s xs))
from_zero xs s h n = total_mono xs zero64 s h (le_self zero64 tt) n
