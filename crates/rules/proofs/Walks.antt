-- A walk down the front that ends at the first place found. Assumes nothing.
use mathlib.Core.Path.{◌≡◌, refl, sym, ap, ◌∙◌}
use mathlib.Core.Bool.{Bool, true, false, cond}
use Prim.Native.Nat.{ℕ, zero, suc, ◌-◌, ◌≤◌, min}
use native.Mathlib.Omega.{arith}
use lib.Dec.{ltb}
use borrow.Author.Tests.{ltb-true, ltb-false}
use Rattle.ladder.specs.declared.types.Table.{Table}
use Rattle.account.specs.declared.types.State.{State}
use Rattle.rules.specs.Echo.{usable, highest}
use Rattle.rules.proofs.Usable.{none_past}

-- the highest usable place. No place past 31 is usable
module _ (t : Table) (s : State) where
  capped : (i : ℕ) → highest t s (min 31 i) ≡ highest t s i
  capped zero = refl
  capped (suc i) = go (ltb i 31) refl (capped i)
    where
      go : (b : Bool) → ltb i 31 ≡ b → highest t s (min 31 i) ≡ highest t s i → highest t s (min 31 (suc i)) ≡ highest t s (suc i)
      go true h e = let q : min 31 (suc i) ≡ suc i = omega (arith, ltb-true i 31 h) in ap (highest t s) q
      go false h e =
          let q : min 31 (suc i) ≡ min 31 i = omega (arith, ltb-false i 31 h) in
          ap (highest t s) q ∙ e ∙ sym (ap (λ (b : Bool). cond b (suc i) (highest t s i)) (none_past t s (suc i) (omega (arith, ltb-false i 31 h))))

  -- m is where the walk starts
  pub highest_capped : (i m : ℕ) → m ≡ min 31 i → highest t s m ≡ highest t s i
  highest_capped i m e = ap (highest t s) e ∙ capped i

  highest_step : (i : ℕ) → 1 ≤ i → highest t s i ≡ cond (usable t s i) i (highest t s (i - 1))
  highest_step zero h = absurd (omega arith)
  highest_step (suc i) h = let q : i ≡ suc i - 1 = omega arith in ap (λ (n : ℕ). cond (usable t s (suc i)) (suc i) (highest t s n)) q

  module _ (i : ℕ) (h : 1 ≤ i) (u : Bool) (e : u ≡ usable t s i) where
    pub highest_further : u ≡ false → highest t s (i - 1) ≡ highest t s i
    highest_further q = sym (highest_step i h ∙ ap (λ (b : Bool). cond b i (highest t s (i - 1))) (sym e ∙ q))
