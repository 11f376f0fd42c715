-- The exponential, and `decode_probability`. Definitions only.
use Rattle.std.specs.Prelude.{Bool, cond, ◌&&◌, T, Float, Result, Ok, Err}
use Rattle.std.specs.Float.Ieee.{neg, le, lt}
use Rattle.float.specs.Numbers.{f64, ◌⊕◌, ◌⊖◌, ◌⊗◌, ◌⊘◌, f0, f1}
use Rattle.limits.specs.Values.{ok_db, ok_slope}
use Rattle.limits.specs.declared.refusal.Refusal.{Refusal}
use Rattle.limits.specs.declared.refusal.Refusal.TheVariants.{OutsideLimits}
use Rattle.half.specs.Power.{half}

-- 1.4426950408889634
abbrev pub log2e : Float
log2e = f64 0x3ff7_1547_652b_82fe

-- 9.0
abbrev pub f9 : Float
f9 = f64 0x4022_0000_0000_0000

-- 40.0
abbrev pub f40 : Float
f40 = f64 0x4044_0000_0000_0000

-- "exp(y) = half(-y × 1.4426950408889634) for y <= 0, else 1.0/half(y × 1.4426950408889634)."
unfoldable pub exp : Float → Float
exp y = cond (le y f0) (half (neg y ⊗ log2e)) (f1 ⊘ half (y ⊗ log2e))

-- "d .. gives 0.0 if d < -40, else 1/(1 + exp(-d)/9)"
abbrev pub logistic : Float → Float
logistic d = cond (lt d (neg f40)) f0 (f1 ⊘ (f1 ⊕ exp (neg d) ⊘ f9))

-- "d = (SNR - threshold)/slope". "The prior's own use may pass the dB limits."
unfoldable pub decode_probability : Float → Float → Float → Float
decode_probability snr threshold slope = logistic ((snr ⊖ threshold) ⊘ slope)

abbrev pub ok_arguments : Float → Float → Float → Bool
ok_arguments snr threshold slope = ok_db snr && ok_db threshold && ok_slope slope

-- 8: "a .. `decode_probability` argument outside its limits"
unfoldable pub probability : Float → Float → Float → Result Float Refusal
probability snr threshold slope = cond (ok_arguments snr threshold slope) (Ok (decode_probability snr threshold slope)) (Err OutsideLimits)

-- "It lies from 0 to 1." So it is no NaN
abbrev pub FromZeroToOne : Float → Type 0
FromZeroToOne p = T (le f0 p) × T (le p f1)

-- and so does the number that is answered; a refusal has none
abbrev pub AnswersFromZeroToOne : Result Float Refusal → Type 0
AnswersFromZeroToOne (Ok p) = FromZeroToOne p
AnswersFromZeroToOne (Err why) = Unit
