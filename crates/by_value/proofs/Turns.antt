-- The sums of what is left: one call more, and the end. Assumes nothing.
use Rattle.std.proofs.Common.{◌≡◌, ◌-◌, ◌+◌, ◌<◌, ◌≤◌, ℕ, List, [], ◌∷◌, length, get_or, refl}
use native.Mathlib.Numerals.{add-one}
use Rattle.std.proofs.lemmas.List.{get_or_default}
use Rattle.limits.specs.Readings.{Reading}
use Rattle.ladder.proofs.Ranges.{left, none_left}
use Rattle.rules.specs.declared.types.Frame.{Frame}
use Rattle.rate.specs.declared.types.RateController.{RateController}
use Rattle.rate.specs.Calls.{Frames, step}
use Rattle.rate.specs.Reads.{choice_of}
use Rattle.question.specs.Body.{no_frame, call_of}
use Rattle.question.specs.File.{event_count, body_at}
use Rattle.by_value.specs.Sums.{Sums, added, event_sums, frame_sums}

module _ (k : RateController) (s : Sums) where
  -- of the events of a file, at i; b is the body that came
  module _ (file : List ℕ) (i : ℕ) where
    pub event_turn : (b : List ℕ) → i < event_count file → b ≡ body_at file i
        → event_sums (event_count file - (i + 1)) (i + 1) file (step k (call_of b)).controller (added s (choice_of (step k (call_of b)).controller).0) ≡ event_sums (event_count file - i) i file k s
    unfolding event_sums
    event_turn b h e = rw (e, left h, add-one i) refl

    pub event_end : event_count file ≤ i → event_sums (event_count file - i) i file k s ≡ s
    unfolding event_sums
    event_end h = rw (none_left h) refl

  -- of 256 frames, at i; d is any default
  module _ (frames : List Frame) (snr : Reading) (i : ℕ) where
    pub frame_turn : (d : Frame) → length frames ≡ 256 → i < 256
        → frame_sums (256 - (i + 1)) (i + 1) frames snr (step k (Frames (get_or frames i d ∷ []) snr)).controller (added s (choice_of (step k (Frames (get_or frames i d ∷ []) snr)).controller).0) ≡ frame_sums (256 - i) i frames snr k s
    unfolding frame_sums
    frame_turn d long h = rw (get_or_default frames i d no_frame (rw long h), left h, add-one i) refl

    pub frame_end : 256 ≤ i → frame_sums (256 - i) i frames snr k s ≡ s
    unfolding frame_sums
    frame_end h = rw (none_left h) refl
