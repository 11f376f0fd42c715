-- The value found with the best place is the choice's, once that place is taken: no value looks at the place. Assumes nothing.
use Rattle.std.specs.Prelude.{◌≡◌, Float, None}
use mathlib.Core.Path.{subst}
use Rattle.ladder.specs.declared.types.Place.{Place}
use Rattle.ladder.specs.declared.types.Table.{Table}
use Rattle.ladder.specs.Types.{place_count}
use Rattle.account.specs.declared.types.Prices.{Prices}
use Rattle.account.specs.declared.types.State.{State}
use Rattle.account.specs.State.{choice, with_place}
use Rattle.account.specs.Price.{value, estimate_at}
use Rattle.rules.specs.Lowest.{found}
use Rattle.rules.specs.Tries.{candidate, choose}
use Rattle.rules.proofs.Greatest.{value_of_place, Valued, valued}

pub chosen : (t : Table) (p : Prices) (s : State) (i : Place) (v : Float) → choose t p s ≡ found i v → v ≡ value t p (with_place s i.0) (choice t (with_place s i.0))
unfolding choose value estimate_at
chosen t p s i v e = subst (Valued (candidate t s) (value_of_place t p s)) e (valued (candidate t s) (value_of_place t p s) (place_count t) 0 None tt)
