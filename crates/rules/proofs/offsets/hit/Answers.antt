-- By its two values: what `f64::from` makes of a bool the check does not open, and an attribute cannot name the logic's `of_int`.
use mathlib.Core.Path.{◌≡◌, refl, ◌∙◌}
use mathlib.Core.Bool.{Bool, true, false, cond}
use lib.Ieee.{binary64, of_int, of_bits}
use lib.IntN.{pos}
use mir.Val.{bool_byte}
use Rattle.float.specs.Numbers.{f0, f1}
use Rattle.rules.proofs.offsets.hit.Goals as goal

values : (b : Bool) → of_int binary64 (pos (bool_byte b)) ≡ cond b f1 f0
unfolding of_int of_bits
values true = refl
values false = refl

pub returns : goal.returns
returns c = c.from.ensures ∙ values c.args.decoded
