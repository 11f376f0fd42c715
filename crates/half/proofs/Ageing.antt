-- What an account ages by never makes a number larger: x × half(t) <= x for x and t that are at least 0. Assumes nothing.
use Rattle.std.proofs.Common.{T}
use lib.Ieee.{Float, binary64, le, fits}
use lib.Ieee.Scale.{finite}
use Rattle.float.specs.Numbers.{◌⊗◌}
use Rattle.float.proofs.Monotone.{natural}
use Rattle.float.proofs.Share.{share_small, shrinks}
use Rattle.half.specs.Power.{half}
use Rattle.half.proofs.Range.{half_share}

pub aged_no_larger : (x t : Float) → T (fits binary64 x) → T (finite x) → natural x → natural t → T (le (x ⊗ half t) x)
aged_no_larger x t f p n m = shrinks x (half t) f p n (share_small (half t) (half_share t m))
