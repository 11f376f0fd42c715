-- The entries of a list that stand in an array, read back; and what a body's list is refused for before it is put into one. Assumes nothing.
use mathlib.Core.Path.{◌≡◌, refl, sym}
use mathlib.Core.List.{List}
use mathlib.Core.Bool.{Bool, true, false, ◌&&◌}
use Prim.Native.Nat.{ℕ, ◌<◌, ◌≤◌}
use borrow.Author.Tests.{lt-leb}
use lib.ListN.{length, take}
use lib.Seq.{take_all, take_at}
use Rattle.limits.specs.declared.refusal.Refusal.TheVariants.{TooManyFrames, OutsideLimits, TooManyBursts}
use Rattle.std.specs.Prelude.{Err}
use lib.Ieee.{Float}
use Rattle.limits.specs.Readings.{Reading}
use Rattle.limits.specs.Values.{ok_length, ok_burst}
use Rattle.ladder.specs.Lists.{every}
use Rattle.rules.specs.declared.types.Frame.{Frame}
use Rattle.rate.specs.declared.types.RateController.{RateController}
use Rattle.rate.specs.Calls.{Frames, Price, verdict, refused, step}
use Rattle.question.specs.Body.{first_of}
use Rattle.question.specs.Over.{over}

-- at most m entries are all held
pub all_held : {A : Type 0} (m n : ℕ) (d : A) (xs : List A) → length xs ≤ m → n ≡ length xs → take n (first_of m d xs) ≡ xs
unfolding first_of over
all_held m n d xs h e = rw (take_all m xs h) (take_at xs _ n (sym e))

-- over 256 frames
pub many_frames : (k : RateController) (fs : List Frame) (snr : Reading) → 256 < length fs → step k (Frames fs snr) ≡ refused k (Err TooManyFrames)
unfolding step verdict
many_frames k fs snr h = rw (lt-leb (length fs) 256 h)

-- prices, by what the test in the code answered
module _ (k : RateController) {ok : Bool} (floor ordinary gap : Float) (bursts : List ℕ) (e : ok ≡ (ok_length floor && ok_length ordinary && ok_length gap && every ok_burst bursts)) where
  pub price_outside : ok ≡ false → refused k (Err OutsideLimits) ≡ step k (Price floor ordinary gap bursts)
  unfolding step verdict
  price_outside q = rw (← e, q) refl

  pub price_too_many : ok ≡ true → 32 < length bursts → refused k (Err TooManyBursts) ≡ step k (Price floor ordinary gap bursts)
  unfolding step verdict
  price_too_many q h = rw (← e, q, lt-leb (length bursts) 32 h) refl
