-- "the lowest of greatest value": how it is found, place by place, and what it is. Definitions only.
use Rattle.std.specs.Prelude.{◌≡◌, Bool, true, not, ◌&&◌, cond, ℕ, zero, suc, ◌<◌, T, Option, None, Some, Float}
use Rattle.std.specs.Float.Ieee.{lt}
use Rattle.ladder.specs.declared.types.Place.{Place}
use Rattle.ladder.specs.Types.{place}
pub use Rattle.rules.specs.declared.lowest.Found.{Found}

-- the best place found so far and its value, if there is one
abbrev pub Best : Type 0
Best = Option Found

abbrev pub found : Place → Float → Best
found i x = Some (record { place = i; value = x })

-- of n places from i on, those allowed; `best` is what was found before
abbrev pub exceeds : Float → Best → Bool
exceeds x None = true
exceeds x (Some b) = lt b.value x

abbrev pub improved : (ℕ → Bool) → (ℕ → Float) → ℕ → Best → Best
improved allowed value i best = cond (allowed i && exceeds (value i) best) (found (place i) (value i)) best

unfoldable pub greatest : ℕ → ℕ → (ℕ → Bool) → (ℕ → Float) → Best → Best
greatest zero i allowed value best = best
greatest (suc n) i allowed value best = greatest n (suc i) allowed value (improved allowed value i best)

-- "else place 0"
abbrev pub best_place : Best → ℕ
best_place None = 0
best_place (Some b) = b.place.0

-- ---- what is found (`lowest_of_greatest` of proofs/LowestFound.antt, for values that are numbers; `decides_lowest` of the crate finite: in every call they are)
module _ (allowed : ℕ → Bool) (value : ℕ → Float) where
  -- of the m lowest places p is the lowest of greatest value, x: it is allowed, no allowed place has a greater value, and each allowed one under it has less
  pub record Lowest (m p : ℕ) (x : Float) : Type 0 where
    pub below : p < m
    pub is_allowed : T (allowed p)
    pub its_value : x ≡ value p
    pub none_greater : (j : ℕ) → j < m → T (allowed j) → T (not (lt x (value j)))
    pub lower_less : (j : ℕ) → j < p → T (allowed j) → T (lt (value j) x)

  -- of the m lowest places none is allowed, or one is the lowest of greatest value
  abbrev pub BestOf : ℕ → Best → Type 0
  BestOf m None = (j : ℕ) → j < m → T (not (allowed j))
  BestOf m (Some b) = Lowest m b.place.0 b.value
