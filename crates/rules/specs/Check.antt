-- Which frames are refused (6 and 8). Definitions only.
use Rattle.std.specs.Prelude.{◌&&◌, List, [], ◌∷◌, Ok}
use Rattle.limits.specs.Values.{ok_air, ok_bytes}
use Rattle.limits.specs.Refusals.{unless, or_else, Verdict}
use Rattle.limits.specs.declared.refusal.Refusal.TheVariants.{UnknownRung, OutsideLimits}
use Rattle.ladder.specs.declared.types.Table.{Table}
use Rattle.ladder.specs.Types.{in_table}
use Rattle.rules.specs.Booking.{Frame}

-- 6: "rung not in the table"; 8: "a reading, air, capacity, .. outside its limits"
abbrev pub frame_verdict : Table → Frame → Verdict
frame_verdict t f = or_else (unless (in_table t f.rung.0) UnknownRung) (unless (ok_air f.air && ok_bytes f.capacity) OutsideLimits)

-- "the first bad frame (6 before 8)"
abbrev pub first_bad : Table → List Frame → Verdict
first_bad t [] = (Ok tt)
first_bad t (f ∷ fs) = or_else (frame_verdict t f) (first_bad t fs)
