-- Going by cases on a test, and what tests joined by `||` or `&&` say. Assumes nothing.
use mathlib.Core.Path.{◌≡◌}
use mathlib.Core.Bool.{Bool, true, false, ◌&&◌, ◌||◌, cond}
use lib.Dec.{T}

pub pick : {A : Type 0} (P : A → Type 0) (b : Bool) {x y : A} → P x → P y → P (cond b x y)
pick P true h k = h
pick P false h k = k

-- a disjunction holds by either side
pub or_here : (a b : Bool) → T a → T (a || b)
or_here true b h = tt
or_here false b h = absurd h

pub or_there : (a b : Bool) → T b → T (a || b)
or_there true b h = tt
or_there false b h = h

-- a conjunction that failed, though its first side held
pub and_rest : (a b : Bool) → T a → (a && b) ≡ false → b ≡ false
and_rest true b h e = e
and_rest false b h e = absurd h
