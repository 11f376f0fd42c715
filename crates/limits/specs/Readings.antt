-- Which readings are within their limits. Definitions only.
use Rattle.std.specs.Prelude.{Bool, true, ◌&&◌, Option, Some, None, Float}
use Rattle.limits.specs.Values.{ok_db, ok_share}

-- "A reading is missing or carries its value."
abbrev pub Reading : Type 0
Reading = Option Float

-- an echo limit, and an SNR reading: one that is missing is within its limits
abbrev pub ok_limit : Reading → Bool
ok_limit None = true
ok_limit (Some x) = ok_share x

abbrev pub ok_snr : Reading → Bool
ok_snr None = true
ok_snr (Some x) = ok_db x

-- "A missing echo reading is accepted and its SNR is not looked at."
abbrev pub ok_echo : Reading → Float → Bool
ok_echo None snr = true
ok_echo (Some x) snr = ok_share x && ok_db snr
