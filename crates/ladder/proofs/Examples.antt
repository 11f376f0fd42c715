-- Fronts of small tables, by computation, for slips that the two airs' own fronts do not show. Assumes nothing.
use mathlib.Core.Path.{◌≡◌, refl}
use mathlib.Core.List.{List, [], ◌∷◌}
use Prim.Native.Nat.{ℕ}
use lib.Ieee.{Float, of_bits, of_int, neg, le, div, round}
use Rattle.float.specs.Numbers.{f0, f1}
use Rattle.ladder.specs.Front.{beaten, front_of}
use Rattle.ladder.specs.Airs.{floor_time, ordinary_time}

-- two rungs
abbrev front : Float → Float → ℕ → ℕ → Float → Float → List ℕ
front t u p q x y = front_of (t ∷ u ∷ []) (p ∷ q ∷ []) (x ∷ y ∷ [])

-- 72 data bytes in 5.36 s are worth more than 12 in 1.054 s; 75 payload bytes would be worth less than 15
counts_data : front f0 (neg f1) 75 15 floor_time ordinary_time ≡ 0 ∷ 1 ∷ []
unfolding of_bits of_int neg le div round front_of beaten
counts_data = refl

-- of two that are worth the same the one with the lower threshold stays
same_worth : front f0 f1 10 10 f1 f1 ≡ 0 ∷ []
unfolding of_bits of_int neg le div round front_of beaten
same_worth = refl

-- of two with one threshold the one that is worth more stays
same_threshold : front f0 f0 10 11 f1 f1 ≡ 1 ∷ []
unfolding of_bits of_int neg le div round front_of beaten
same_threshold = refl

-- a payload under the header's 3 bytes is worth 0, and no less
no_data : front f0 f1 0 3 f1 f1 ≡ 0 ∷ []
unfolding of_bits of_int neg le div round front_of beaten
no_data = refl
