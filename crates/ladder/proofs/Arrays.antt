-- Arrays as lists: one of 32 that is filled from its start, and how many entries one of structs has. Assumes nothing.
use mathlib.Core.Path.{◌≡◌, sym, ap, ◌∙◌}
use mathlib.Core.List.{List, [], ◌∷◌, ◌++◌, map}
use Prim.Native.Nat.{ℕ, suc, ◌+◌, ◌-◌, ◌<◌, ◌≤◌}
use native.Mathlib.Decide.{ℕ_discrete}
use native.Mathlib.Omega.{arith}
use Rattle.std.proofs.lemmas.List.{take-replicate, drop-replicate}
use lib.ListN.{length, get_or, take, drop, set, replicate, length-append, length-map}
use lib.Seq.{set-append_seam, append_snoc, get_or-set_same, get_or-set_other}
use Rattle.ladder.specs.Lists.{filled}

module _ {A : Type 0} where
  -- a store at the first entry that is not in use appends
  pub filled_next : (d x : A) (xs : List A) → length xs < 32 → set (filled d xs) (length xs) x ≡ filled d (xs ++ x ∷ [])
  filled_next d x xs h =
      let m = 32 - suc (length xs) in
      let e : 32 - length xs ≡ suc m = omega arith in
      let g : 32 - length (xs ++ x ∷ []) ≡ m = omega (arith, length-append xs (x ∷ [])) in
      ap (λ (n : ℕ). set (xs ++ replicate n d) (length xs) x) e ∙ set-append_seam xs d (replicate m d) x ∙ sym (append_snoc xs x (replicate m d)) ∙ ap (λ (n : ℕ). xs ++ x ∷ [] ++ replicate n d) (sym g)

  -- a turn of a loop that stores f's values one by one: the entries before this one were right, and it is
  pub entry_made : (f : ℕ → A) (d : A) (l : List A) (i : ℕ) (y : A) → i < length l → y ≡ f i → ((r : ℕ) → r < i → get_or l r d ≡ f r) → (r : ℕ) → r < i + 1 → get_or (set l i y) r d ≡ f r
  entry_made f d l i y long e before r h =
      elim (ℕ_discrete r i) [
        | yes q ↦ rw q (get_or-set_same l i y d long ∙ e)
        | no n ↦ get_or-set_other l i r y d n ∙ before r (omega arith)
      ]

-- how many entries an array of structs has is said of a list of their parts; for `search (rules, of_parts)`
pub of_parts : (X Y : Type 0) (f : X → Y) (l : List X) (n : ℕ) → length (map f l) ≡ n → length l ≡ n
of_parts X Y f l n e = sym (length-map l f) ∙ e

-- std's `take-replicate` and `drop-replicate` of 32 equal entries, by names that an attribute can write
module _ {A : Type 0} (n : ℕ) (a : A) where
  pub first_equal : n ≤ 32 → take n (replicate 32 a) ≡ replicate n a
  first_equal h = take-replicate n 32 a h

  pub rest_equal : drop n (replicate 32 a) ≡ replicate (32 - n) a
  rest_equal = drop-replicate n 32 a
