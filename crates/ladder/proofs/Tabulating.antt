-- An array that `array::from_fn` makes: it has at each place what the closure answers. Assumes nothing.
use mathlib.Core.Path.{◌≡◌, refl, sym, ap, subst, ◌∙◌}
use mathlib.Core.List.{List, [], ◌∷◌}
use Prim.Native.Nat.{ℕ, zero, suc, ◌+◌, ◌<◌}
use native.Mathlib.Nat.{zero-add, add-zero, suc-add, add-suc, not-suc-le-zero, le_of_suc-le-suc}
use native.Mathlib.Omega.{arith}
use lib.ListN.{length, get_or}
use Rattle.std.specs.Array.{IsFromFnResult, IsFromFnResultFrom}
use denote.Param.Members.{Mut, Called}
use Rattle.ladder.specs.Lists.{tabulate}

-- a list that has f at each place
pub listed : {A : Type 0} (f : ℕ → A) (n i : ℕ) (l : List A) (d : A) → length l ≡ n → ((k : ℕ) → k < n → get_or l k d ≡ f (i + k)) → l ≡ tabulate n i f
listed f zero i [] d e h = refl
listed f zero i (x ∷ xs) d e h = absurd (omega arith)
listed f (suc n) i [] d e h = absurd (omega arith)
listed f (suc n) i (x ∷ xs) d e h =
    let first : x ≡ f i = h 0 (omega arith) ∙ ap f (add-zero i) in
    let rest = listed f n (suc i) xs d (omega arith) (λ k g. h (suc k) (omega arith) ∙ ap f (add-suc i k ∙ sym (suc-add i k))) in
    rw (first, rest) refl

-- what `array::from_fn` makes with a closure that answers h and keeps nothing
module _ {F A : Type 0} {g : Mut F (ℕ × Unit {0}) A} {f : F} (h : ℕ → A) (said : (i : ℕ) (y : A) (q : F) → Called g f (i, tt) y q → (q ≡ f) × (y ≡ h i)) where
  each_call : (l : List A) (n i k : ℕ) (d : A) → IsFromFnResultFrom g f l i n → k < n → get_or l (i + k) d ≡ h (i + k)
  each_call l zero i k d w less = absurd (not-suc-le-zero less)
  each_call l (suc n) i zero d w less = ap (λ (j : ℕ). get_or l j d) (add-zero i) ∙ w.2.1 d ∙ (said i w.1 w.0 w.3).1 ∙ ap h (sym (add-zero i))
  each_call l (suc n) i (suc k) d w less =
      let rest : IsFromFnResultFrom g f l (i + 1) n = subst (λ (q : F). IsFromFnResultFrom g q l (i + 1) n) (said i w.1 w.0 w.3).0 w.4 in
      let next : i + suc k ≡ i + 1 + k = omega arith in
      ap (λ (j : ℕ). get_or l j d) next ∙ each_call l n (i + 1) k d rest (le_of_suc-le-suc less) ∙ ap h (sym next)

  pub made_at : (l : List A) (n k : ℕ) (d : A) → IsFromFnResult g f l n → k < n → get_or l k d ≡ h k
  made_at l n k d w less = ap (λ (j : ℕ). get_or l j d) (sym (zero-add k)) ∙ each_call l n 0 k d w.each less ∙ ap h (zero-add k)

  pub tabulated : (l : List A) (n : ℕ) (d : A) → IsFromFnResult g f l n → l ≡ tabulate n 0 h
  tabulated l n d w = listed h n 0 l d w.long (λ k less. made_at l n k d w less ∙ ap h (sym (zero-add k)))

-- how long a table is, and what stands at a place of it
pub length_tabulate : {A : Type 0} (n i : ℕ) (f : ℕ → A) → length (tabulate n i f) ≡ n
length_tabulate zero i f = refl
length_tabulate (suc n) i f = ap suc (length_tabulate n (suc i) f)

pub tabulate_at : {A : Type 0} (n i : ℕ) (f : ℕ → A) (r : ℕ) (d : A) → r < n → get_or (tabulate n i f) r d ≡ f (i + r)
tabulate_at zero i f r d h = absurd (not-suc-le-zero h)
tabulate_at (suc n) i f zero d h = ap f (sym (add-zero i))
tabulate_at (suc n) i f (suc r) d h = tabulate_at n (suc i) f r d (le_of_suc-le-suc h) ∙ ap f (suc-add i r ∙ sym (add-suc i r))
