-- The times since each front rung's try, with the call's air: one place more, and the end. Assumes nothing.
use Rattle.std.specs.Prelude.{◌≡◌, ℕ, ◌+◌, ◌-◌, ◌<◌, ◌≤◌, List, get_or, set}
use mathlib.Core.Path.{refl}
use native.Mathlib.Numerals.{add-one}
use lib.Ieee.{Float}
use Rattle.float.specs.Numbers.{◌⊕◌, f0}
use Rattle.ladder.specs.declared.types.Table.{Table}
use Rattle.ladder.specs.Types.{rung_at}
use Rattle.rules.specs.Booking.{passed}
use Rattle.ladder.proofs.Ranges.{left, none_left}

module _ (t : Table) (a : Float) (n i : ℕ) (l : List Float) where
  -- one place: the stored list, by whichever branch it came
  pub one_place : i < n → (r : ℕ) (z : List Float) → r ≡ rung_at t i → z ≡ set l r (get_or l r f0 ⊕ a) → passed (n - (i + 1)) (i + 1) t a z ≡ passed (n - i) i t a l
  unfolding passed
  one_place h r z e f = rw (f, e, left h, add-one i) refl

  pub at_end : n ≤ i → l ≡ passed (n - i) i t a l
  unfolding passed
  at_end h = rw (none_left h) refl
