-- An array has 32 entries, so no place past 31 is usable. Assumes nothing.
use mathlib.Core.Path.{◌≡◌, ap}
use mathlib.Core.Bool.{Bool, false, not, ◌&&◌}
use Prim.Native.Nat.{ℕ, ◌≤◌}
use native.Mathlib.Omega.{arith}
use borrow.Author.Tests.{le-ltb}
use Rattle.ladder.specs.declared.types.Table.{Table}
use Rattle.ladder.specs.Types.{rung_at, place_count}
use Rattle.account.specs.declared.types.State.{State}
use Rattle.rules.specs.Echo.{echo_out, usable}

pub none_past : (t : Table) (s : State) (i : ℕ) → 32 ≤ i → usable t s i ≡ false
none_past t s i h = ap (λ (b : Bool). b && not (echo_out t s (rung_at t i))) (le-ltb i (place_count t) (omega arith))
