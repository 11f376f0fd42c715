-- The numbers that `select` picks are below its end, each above the one before, and so none comes twice; and what that says of a front. Assumes nothing.
use mathlib.Core.Path.{◌≡◌, refl, sym, subst, ap, ◌∙◌}
use mathlib.Core.Bool.{Bool, true, false, not, cond}
use mathlib.Core.List.{List, [], ◌∷◌, map}
use Prim.Native.Nat.{ℕ, zero, suc, ◌+◌, ◌<◌, ◌≤◌}
use native.Mathlib.Nat.{not-suc-le-zero, le_of_suc-le-suc}
use native.Mathlib.Omega.{arith}
use lib.Dec.{ltb}
use lib.Ieee.{Float}
use lib.ListN.{length, get_or, length-map, get_or-append, get_or-map}
use borrow.Author.Tests.{ltb-true, ltb-false}
use Rattle.ladder.specs.Lists.{select}
use Rattle.ladder.specs.Types.{Rung, rung}
use Rattle.ladder.specs.Front.{beaten, front_of, front_rungs}

-- each entry is at least i, above the one before, and below m
abbrev Rising : ℕ → ℕ → List ℕ → Type 0
Rising i m [] = Unit
Rising i m (x ∷ xs) = (i ≤ x) × (x < m) × Rising (suc x) m xs

from_lower : (i m : ℕ) (l : List ℕ) → Rising (suc i) m l → Rising i m l
from_lower i m [] h = tt
from_lower i m (x ∷ xs) h = (omega (arith, h.0), h.1, h.2)

picked : (b : Bool) (i m : ℕ) (l : List ℕ) → i < m → Rising (suc i) m l → Rising i m (cond b (i ∷ l) l)
picked true i m l h k = (omega arith, h, k)
picked false i m l h k = from_lower i m l k

rising : (n i m : ℕ) (f : ℕ → Bool) → i + n ≤ m → Rising i m (select n i f)
rising zero i m f h = tt
rising (suc n) i m f h = picked (f i) i m (select n (suc i) f) (omega arith) (rising n (suc i) m f (omega arith))

entry_from : (i m : ℕ) (l : List ℕ) (a : ℕ) → Rising i m l → a < length l → (i ≤ get_or l a 0) × (get_or l a 0 < m)
entry_from i m [] a h k = absurd (not-suc-le-zero k)
entry_from i m (x ∷ xs) zero h k = (h.0, h.1)
entry_from i m (x ∷ xs) (suc a) h k = let g = entry_from (suc x) m xs a h.2 (le_of_suc-le-suc k) in (omega (arith, h.0), g.1)

entries_ascend : (i m : ℕ) (l : List ℕ) (a b : ℕ) → Rising i m l → a < b → b < length l → get_or l a 0 < get_or l b 0
entries_ascend i m [] a b h k g = absurd (not-suc-le-zero g)
entries_ascend i m (x ∷ xs) a zero h k g = absurd (not-suc-le-zero k)
entries_ascend i m (x ∷ xs) zero (suc b) h k g = (entry_from (suc x) m xs b h.2 (le_of_suc-le-suc g)).0
entries_ascend i m (x ∷ xs) (suc a) (suc b) h k g = entries_ascend (suc x) m xs a b h.2 (le_of_suc-le-suc k) (le_of_suc-le-suc g)

module _ (n : ℕ) (f : ℕ → Bool) where
  all_rise : Rising 0 n (select n 0 f)
  all_rise = rising n 0 n f (omega arith)

  pub select_below : (a : ℕ) → a < length (select n 0 f) → get_or (select n 0 f) a 0 < n
  select_below a h = (entry_from 0 n (select n 0 f) a all_rise h).1

  pub select_ascends : (a b : ℕ) → a < b → b < length (select n 0 f) → get_or (select n 0 f) a 0 < get_or (select n 0 f) b 0
  select_ascends a b = entries_ascend 0 n (select n 0 f) a b all_rise

  pub select_once : (a b : ℕ) → a < length (select n 0 f) → b < length (select n 0 f) → get_or (select n 0 f) a 0 ≡ get_or (select n 0 f) b 0 → a ≡ b
  select_once a b ha hb e = go (ltb a b) refl (ltb b a) refl
    where
      go : (s : Bool) → ltb a b ≡ s → (t : Bool) → ltb b a ≡ t → a ≡ b
      go true p t q = let h = select_ascends a b (ltb-true a b p) hb in absurd (omega arith)
      go false p true q = let h = select_ascends b a (ltb-true b a q) ha in absurd (omega arith)
      go false p false q = omega (arith, ltb-false a b p, ltb-false b a q)

-- ---- a front's rungs
module _ (thresholds : List Float) (payloads : List ℕ) (times : List Float) where
  abbrev stays : ℕ → Bool
  stays r = not (beaten thresholds payloads times r)

  pub front_below : (a : ℕ) → a < length (front_of thresholds payloads times) → get_or (front_of thresholds payloads times) a 0 < length thresholds
  unfolding front_of
  front_below = select_below (length thresholds) stays

  pub front_ascends : (a b : ℕ) → a < b → b < length (front_of thresholds payloads times) → get_or (front_of thresholds payloads times) a 0 < get_or (front_of thresholds payloads times) b 0
  unfolding front_of
  front_ascends = select_ascends (length thresholds) stays

  -- no rung stands at two places
  pub front_once : (a b : ℕ) → a < length (front_of thresholds payloads times) → b < length (front_of thresholds payloads times) → get_or (front_of thresholds payloads times) a 0 ≡ get_or (front_of thresholds payloads times) b 0 → a ≡ b
  unfolding front_of
  front_once = select_once (length thresholds) stays

-- the rung at a place of the array is the front's
pub front_get : (f : List ℕ) (a : ℕ) → a < length f → (get_or (front_rungs f) a (rung 0)).0 ≡ get_or f a 0
front_get f a h =
    let k : a < length (map rung f) = subst (λ (n : ℕ). a < n) (sym (length-map f rung)) h in
    ap (λ (r : Rung). r.0) (get_or-append (map rung f) _ (rung 0) a k ∙ get_or-map rung f a 0)
