-- "the lowest of greatest value": `greatest` finds an allowed place where there is one; none that is allowed has a greater value, and each lower one has less.
-- By induction on the places passed: what was found is so of these. Assumes nothing.
use mathlib.Core.Path.{◌≡◌, refl, sym, subst}
use mathlib.Core.Bool.{Bool, true, false, not, ◌&&◌, cond}
use mathlib.Core.Logic.{◌⊎◌, inl, inr, ◌≢◌}
use Prim.Native.Nat.{ℕ, zero, suc, ◌+◌, ◌<◌, ◌≤◌}
use native.Mathlib.Nat.{eq-or-lt_of_le, le_of_suc-le-suc, add-zero, add-suc, suc-add, zero-add}
use native.Mathlib.Omega.{arith}
use lib.Dec.{T, T_not, not_T}
use lib.Ieee.{Float, lt}
use lib.Ieee.Fits.{and_i}
use Rattle.std.proofs.lemmas.Float.{lt_irrefl, lt_trans}
use Rattle.float.proofs.Order.{number, le_lt, not_lt}
use Rattle.ladder.specs.declared.types.Place.{Place}
use Rattle.ladder.specs.Types.{place}
use Rattle.std.proofs.lemmas.Bool.{cond_both}
use Rattle.std.proofs.lemmas.Float.{T_from_true}
use Rattle.ladder.proofs.Cases.{pick}
use Rattle.std.specs.Prelude.{None, Some}
use Rattle.rules.specs.Lowest.{Best, found, Lowest, BestOf, exceeds, improved, greatest}

-- ---- one is found where one is allowed
found_stays : (n i : ℕ) (allowed : ℕ → Bool) (value : ℕ → Float) (j : Place) (x : Float) → greatest n i allowed value (found j x) ≢ None
unfolding greatest
found_stays zero i allowed value j x = λ (e : found j x ≡ None). let z : ◌≡◌ {A = ℕ} 0 1 = cc in absurd (omega arith)
found_stays (suc n) i allowed value j x =
    pick (λ (b : Best). greatest n (suc i) allowed value b ≢ None) (allowed i && exceeds (value i) (found j x))
    (found_stays n (suc i) allowed value (place i) (value i)) (found_stays n (suc i) allowed value j x)

pub finds : (n i : ℕ) (allowed : ℕ → Bool) (value : ℕ → Float) (j : ℕ) → i ≤ j → j < i + n → T (allowed j) → greatest n i allowed value None ≢ None
unfolding greatest
finds zero i allowed value j h k a = absurd (omega arith)
finds (suc n) i allowed value j h k a =
    cond_both (allowed i && true) _ _ (λ (b : Best). greatest n (suc i) allowed value b ≢ None)
    (λ e. found_stays n (suc i) allowed value (place i) (value i))
    (λ e. finds n (suc i) allowed value j (later e (eq-or-lt_of_le h)) (omega arith) a)
  where
    later : (allowed i && true) ≡ false → (i ≡ j) ⊎ (i < j) → suc i ≤ j
    later e (inl q) = absurd (subst T e (and_i (allowed i) true (subst (λ (m : ℕ). T (allowed m)) (sym q) a) tt))
    later e (inr g) = g

-- ---- which one is found
never_less : (x : Float) → T (not (lt x x))
never_less x = not_T (lt x x) (lt_irrefl x)

never_both : (x y : Float) → T (lt x y) → T (not (lt y x))
never_both x y h = not_T (lt y x) (λ (k : T (lt y x)). lt_irrefl x (lt_trans x y x h k))

-- what holds of each number below m, and of m, holds of each below suc m
with_last : (P : ℕ → Type 0) (m : ℕ) → ((j : ℕ) → j < m → P j) → P m → (j : ℕ) → j < suc m → P j
with_last P m h k j l = go (eq-or-lt_of_le (le_of_suc-le-suc l))
  where
    go : (j ≡ m) ⊎ (j < m) → P j
    go (inl e) = subst P (sym e) k
    go (inr g) = h j g

module _ (allowed : ℕ → Bool) (value : ℕ → Float) (numbers : (j : ℕ) → T (allowed j) → T (number (value j))) where
  -- one place more
  grown : (m : ℕ) (b : Best) → BestOf allowed value m b → BestOf allowed value (suc m) (improved allowed value m b)
  grown m None h = go (allowed m) refl
    where
      go : (a : Bool) → allowed m ≡ a → BestOf allowed value (suc m) (cond (a && true) (found (place m) (value m)) None)
      go true e = record {
        below = omega arith;
        is_allowed = T_from_true _ e;
        its_value = refl;
        none_greater =
            with_last (λ (j : ℕ). T (allowed j) → T (not (lt (value m) (value j)))) m (λ (j : ℕ) (g : j < m) (a : T (allowed j)). absurd (T_not (allowed j) (h j g) a)) (λ (a : T (allowed m)). never_less (value m));
        lower_less = λ (j : ℕ) (g : j < m) (a : T (allowed j)). absurd (T_not (allowed j) (h j g) a);
      }
      go false e = with_last (λ (j : ℕ). T (not (allowed j))) m h (subst (λ (a : Bool). T (not a)) (sym e) tt)
  grown m (Some f) h = go (allowed m) refl (lt f.value (value m)) refl
    where
      -- what is below m has less than a greater value at m
      less : T (lt f.value (value m)) → (j : ℕ) → j < m → T (allowed j) → T (lt (value j) (value m))
      less k j g a =
          le_lt (value j) f.value (value m) (not_lt f.value (value j) (subst (λ (y : Float). T (number y)) (sym h.its_value) (numbers f.place.0 h.is_allowed)) (numbers j a) (h.none_greater j g a)) k

      kept : (T (allowed m) → T (not (lt f.value (value m)))) → Lowest allowed value (suc m) f.place.0 f.value
      kept k = record {
        below = omega (arith, h.below);
        is_allowed = h.is_allowed;
        its_value = h.its_value;
        none_greater = with_last (λ (j : ℕ). T (allowed j) → T (not (lt f.value (value j)))) m h.none_greater k;
        lower_less = h.lower_less;
      }

      go : (a : Bool) → allowed m ≡ a → (b : Bool) → lt f.value (value m) ≡ b → BestOf allowed value (suc m) (cond (a && b) (found (place m) (value m)) (Some f))
      go true e true k = record {
        below = omega arith;
        is_allowed = T_from_true _ e;
        its_value = refl;
        none_greater =
            with_last (λ (j : ℕ). T (allowed j) → T (not (lt (value m) (value j)))) m (λ (j : ℕ) (g : j < m) (a : T (allowed j)). never_both (value j) (value m) (less (T_from_true _ k) j g a)) (λ (a : T (allowed m)). never_less (value m));
        lower_less = less (T_from_true _ k);
      }
      go true e false k = kept (λ (a : T (allowed m)). subst (λ (z : Bool). T (not z)) (sym k) tt)
      go false e b k = kept (λ (a : T (allowed m)). absurd (subst T e a))

  go_on : (n m : ℕ) (b : Best) → BestOf allowed value m b → BestOf allowed value (m + n) (greatest n m allowed value b)
  unfolding greatest
  go_on zero m b h = rw (add-zero m) h
  go_on (suc n) m b h = rw (add-suc m n, ← suc-add m n) (go_on n (suc m) (improved allowed value m b) (grown m b h))

  pub lowest_of_greatest : (n : ℕ) → BestOf allowed value n (greatest n 0 allowed value None)
  lowest_of_greatest n = subst (λ (m : ℕ). BestOf allowed value m (greatest n 0 allowed value None)) (zero-add n) (go_on n 0 None (λ (j : ℕ) (g : j < 0). absurd (omega arith)))
