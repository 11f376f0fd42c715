-- The front as a slice: what a search over its rungs comes to, place by place. Assumes nothing.
use Rattle.std.specs.Prelude.{◌≡◌, ℕ, zero, suc, ◌+◌, ◌-◌, ◌<◌, ◌≤◌, Bool, true, false, ◌&&◌, not, cond, eqb, min, List, [], ◌∷◌, length, get_or, take, Some, unwrap_or, Float}
use Rattle.std.specs.List.{list_any, position_from}
use Rattle.std.specs.Option.{option_map}
use Rattle.std.proofs.lemmas.List.{get_or-take, length-take}
use mathlib.Core.Path.{refl, ap, sym, ◌∙◌}
use native.Mathlib.Nat.{zero-add, add-zero, add-suc, suc-add}
use native.Mathlib.Numerals.{add-one}
use native.Mathlib.Omega.{arith}
use borrow.Author.Tests.{le-ltb, lt-ltb}
use Rattle.ladder.specs.declared.types.Table.{Table}
use Rattle.ladder.specs.declared.types.Rung.{Rung}
use Rattle.ladder.specs.declared.types.Place.{Place}
use Rattle.ladder.specs.Lists.{some_from}
use Rattle.ladder.specs.Types.{rung, place, rung_at, place_count}
use Rattle.account.specs.declared.types.State.{State}
use Rattle.rules.specs.Echo.{echo_out, usable}
use Rattle.rules.specs.Lowest.{Best, greatest}
use Rattle.rules.specs.Tries.{place_from}
use Rattle.rules.proofs.Greatest.{start_capped}

-- a list has at k what a function of numbers has at i + k
abbrev Along : {A : Type 0} → (ℕ → A) → ℕ → ℕ → A → List A → Type 0
Along F n i d l = (k : ℕ) → k < n → F (i + k) ≡ get_or l k d

module _ {A : Type 0} (F : ℕ → A) (n i : ℕ) (d x : A) (l : List A) (h : Along F (suc n) i d (x ∷ l)) where
  here : F i ≡ x
  here = ap F (sym (add-zero i)) ∙ h 0 (omega arith)

  later : Along F n (suc i) d l
  later k less = ap F (suc-add i k ∙ sym (add-suc i k)) ∙ h (suc k) (omega arith)

any_along : {A : Type 0} (f : A → Bool) (F : ℕ → A) (n i : ℕ) (d : A) (l : List A) → n ≤ length l → Along F n i d l → list_any f (take n l) ≡ some_from n i (λ k. f (F k))
any_along f F zero i d l long h = refl
any_along f F (suc n) i d [] long h = absurd (omega arith)
any_along f F (suc n) i d (x ∷ l) long h = rw (here F n i d x l h, any_along f F n (suc i) d l (omega arith) (later F n i d x l h)) refl

-- the place of a rung: the first place where it stands, else d
place_along : (t : Table) (r n i : ℕ) (d : Place) (l : List Rung) → n ≤ length l → Along (λ k. get_or t.front.rungs k (rung 0)) n i (rung 0) l
    → (unwrap_or (option_map place (position_from (λ x. eqb x.0 r) i (take n l))) d).0 ≡ place_from n i t r d.0
place_along t r zero i d l long h = refl
place_along t r (suc n) i d [] long h = absurd (omega arith)
place_along t r (suc n) i d (x ∷ l) long h =
    let e = ap (λ (y : Rung). y.0) (here (λ k. get_or t.front.rungs k (rung 0)) n i (rung 0) x l h) in
    rw e (go (eqb x.0 r) (place_along t r n (suc i) d l (omega arith) (later (λ k. get_or t.front.rungs k (rung 0)) n i (rung 0) x l h)))
  where
    go : (b : Bool) → (unwrap_or (option_map place (position_from (λ y. eqb y.0 r) (suc i) (take n l))) d).0 ≡ place_from n (suc i) t r d.0
        → (unwrap_or (option_map place (cond b (Some i) (position_from (λ y. eqb y.0 r) (i + 1) (take n l)))) d).0 ≡ cond b i (place_from n (suc i) t r d.0)
    go true e = refl
    go false e = ap (λ (k : ℕ). (unwrap_or (option_map place (position_from (λ y. eqb y.0 r) k (take n l))) d).0) (add-one i) ∙ e

module _ (t : Table) (count : length (take (place_count t) t.front.rungs) ≡ place_count t) where
  fits : place_count t ≤ length t.front.rungs
  fits = let cut = length-take (place_count t) t.front.rungs in omega (arith, cut, count)

  pub any_on_front : (f : Rung → Bool) → list_any f (take (place_count t) t.front.rungs) ≡ some_from (place_count t) 0 (λ k. f (get_or t.front.rungs k (rung 0)))
  any_on_front f = any_along f (λ k. get_or t.front.rungs k (rung 0)) (place_count t) 0 (rung 0) t.front.rungs fits (λ k less. ap (λ (j : ℕ). get_or t.front.rungs j (rung 0)) (zero-add k))

  pub place_on_front : (r : ℕ) (d : Place) → (unwrap_or (option_map place (position_from (λ x. eqb x.0 r) 0 (take (place_count t) t.front.rungs))) d).0 ≡ place_from (place_count t) 0 t r d.0
  place_on_front r d = place_along t r (place_count t) 0 d t.front.rungs fits (λ k less. ap (λ (j : ℕ). get_or t.front.rungs j (rung 0)) (zero-add k))

-- the rung that a walk meets at a place
pub rung_here : (t : Table) (l : List Rung) → l ≡ take (place_count t) t.front.rungs → (i : ℕ) → i < place_count t → (get_or l i (rung 0)).0 ≡ rung_at t i
rung_here t l e i h = rw e (ap (λ (x : Rung). x.0) (get_or-take (place_count t) t.front.rungs i (rung 0) h))

-- a walk over the n lowest places ends with the front
none_after : (t : Table) (s : State) (i : ℕ) → place_count t ≤ i → usable t s i ≡ false
none_after t s i h = ap (λ (b : Bool). b && not (echo_out t s (rung_at t i))) (le-ltb i (place_count t) h)

pub start_usable : (t : Table) (s : State) (W : ℕ → Float) (n : ℕ) (b : Best) → greatest (min (place_count t) n - 0) 0 (usable t s) W b ≡ greatest n 0 (usable t s) W b
start_usable t s W n b = start_capped (usable t s) W (place_count t) (none_after t s) n b

-- a place of the front is usable if its rung is not out
pub usable_here : (t : Table) (s : State) (i r : ℕ) (o : Bool) → i < place_count t → r ≡ rung_at t i → o ≡ echo_out t s r → not o ≡ usable t s i
usable_here t s i r o h e q = rw (lt-ltb i (place_count t) h, ← e, q) refl

-- the rung that a walk over the m lowest places meets
pub rung_under : (t : Table) (l : List Rung) → l ≡ take (place_count t) t.front.rungs → (m i : ℕ) → i < m → i < place_count t → (get_or (take m l) i (rung 0)).0 ≡ rung_at t i
rung_under t l e m i h g = ap (λ (x : Rung). x.0) (get_or-take m l i (rung 0) h) ∙ rung_here t l e i g

-- how many rungs such a walk meets
pub met_under : (t : Table) (l : List Rung) → length l ≡ place_count t → (n m : ℕ) → m ≡ min (place_count t) n → length (take m l) ≡ min (place_count t) n
met_under t l count n m e = let cut = length-take m l in omega (arith, cut, count, e)
