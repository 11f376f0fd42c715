-- A front as a loop fills it: the rungs selected so far stand at the array's start, and with those still to come they are all. Assumes nothing.
use mathlib.Core.Path.{◌≡◌, refl, sym, ap, ◌∙◌}
use mathlib.Core.Bool.{Bool, true, false, not}
use mathlib.Core.List.{List, [], ◌∷◌, ◌++◌, map, append-nil}
use Prim.Native.Nat.{ℕ, ◌+◌, ◌-◌, ◌<◌, ◌≤◌}
use native.Mathlib.Omega.{arith}
use lib.ListN.{length, set, length-append, length-map}
use lib.Seq.{append_snoc}
use Rattle.std.proofs.lemmas.List.{map_push}
use Rattle.ladder.specs.Lists.{select, filled}
use Rattle.ladder.specs.Types.{Rung, Front, rung}
use Rattle.ladder.specs.Front.{front_rungs, front_as}
use Rattle.ladder.proofs.Arrays.{filled_next}
use Rattle.ladder.proofs.Ranges.{select_here, select_later, select_nothing}

module _ (out : ℕ → Bool) (n : ℕ) where
  -- whether a number stays
  abbrev stays : ℕ → Bool
  stays k = not (out k)

  pub record Filling (i : ℕ) (rungs : List Rung) (count : ℕ) : Type 0 where
    pub chosen : List ℕ
    pub array : rungs ≡ front_rungs chosen
    pub counted : count ≡ length chosen
    pub within : count ≤ i
    pub rest : chosen ++ select (n - i) i stays ≡ select n 0 stays

  module _ (i : ℕ) (rungs : List Rung) (count : ℕ) (so_far : Filling i rungs count) where
    module _ (r : Bool) (h : i < n) (e : r ≡ out i) where
      pub filling_takes : n ≤ 32 → not r ≡ true → Filling (i + 1) (set rungs count (rung i)) (count + 1)
      filling_takes small q =
          let xs = so_far.chosen in
          let full : count ≡ length (map rung xs) = so_far.counted ∙ sym (length-map xs rung) in
          record {
            chosen = xs ++ i ∷ [];
            array = ap (λ (l : List Rung). set l count (rung i)) so_far.array ∙ ap (λ (k : ℕ). set (front_rungs xs) k (rung i)) full ∙ filled_next (rung 0) (rung i) (map rung xs) (omega (arith, so_far.within)) ∙ ap (filled (rung 0)) (sym (map_push rung xs i));
            counted = omega (arith, length-append xs (i ∷ []), so_far.counted);
            within = omega (arith, so_far.within);
            rest = append_snoc xs i _ ∙ ap (λ (l : List ℕ). xs ++ l) (sym (select_here stays n i (not r) h (ap not e) q)) ∙ so_far.rest;
          }

      pub filling_leaves : not r ≡ false → Filling (i + 1) rungs count
      filling_leaves q = record {
        chosen = so_far.chosen;
        array = so_far.array;
        counted = so_far.counted;
        within = omega (arith, so_far.within);
        rest = ap (λ (l : List ℕ). so_far.chosen ++ l) (sym (select_later stays n i (not r) h (ap not e) q)) ∙ so_far.rest;
      }

    pub filling_ends : n ≤ i → ◌≡◌ {A = Front} (record { rungs = rungs; count = count }) (front_as (select n 0 stays))
    filling_ends h =
        let all : so_far.chosen ≡ select n 0 stays = sym (append-nil so_far.chosen) ∙ ap (λ (l : List ℕ). so_far.chosen ++ l) (sym (select_nothing stays n i h)) ∙ so_far.rest in
        rw (so_far.array, so_far.counted, all) refl
