-- What the bench holds ours to the Rust by: the choices after each call, summed so that each counts by its place. Definitions only.
use Rattle.std.specs.Prelude.{ℕ, zero, suc, ◌+◌, ◌%◌, ◌^◌, List, [], ◌∷◌, drop, slice_index_or}
use Rattle.limits.specs.Readings.{Reading}
use Rattle.rules.specs.declared.types.Frame.{Frame}
use Rattle.rate.specs.declared.types.RateController.{RateController}
use Rattle.rate.specs.Calls.{Frames, step}
use Rattle.rate.specs.Reads.{choice_of}
use Rattle.question.specs.Bytes.{reading_of}
use Rattle.question.specs.Body.{no_frame, frames_in, first_of, call_of}
use Rattle.question.specs.File.{event_count, air, body_at}
use Rattle.question.specs.Start.{fresh_for}
pub use Rattle.by_value.specs.declared.Sums.{Sums}

abbrev pub no_sums : Sums
no_sums = record { plain = 0; placed = 0 }

-- one choice more; both sums are u32 that wrap
abbrev pub added : Sums → ℕ → Sums
added s r = record { plain = (s.plain + r) % 2 ^ 32; placed = (s.placed + (s.plain + r) % 2 ^ 32) % 2 ^ 32 }

-- n events of a file from the i-th on
unfoldable pub event_sums : ℕ → ℕ → List ℕ → RateController → Sums → Sums
event_sums zero i file k s = s
event_sums (suc n) i file k s =
    let m = (step k (call_of (body_at file i))).controller in event_sums n (suc i) file m (added s (choice_of m).0)

-- n frames of an array from the i-th on, each a transmission by itself
unfoldable pub frame_sums : ℕ → ℕ → List Frame → Reading → RateController → Sums → Sums
frame_sums zero i frames snr k s = s
frame_sums (suc n) i frames snr k s =
    let m = (step k (Frames (slice_index_or frames i no_frame ∷ []) snr)).controller in frame_sums n (suc i) frames snr m (added s (choice_of m).0)

-- "each event is a call"
abbrev pub events_of : List ℕ → ℕ
events_of file = (event_sums (event_count file) 0 file (fresh_for (air file)) no_sums).placed

-- the 256 frames of the first event, the same reading with each
abbrev pub frames_of_first : List ℕ → ℕ
frames_of_first file =
    let body = body_at file 0 in
    (frame_sums 256 0 (first_of 256 no_frame (frames_in body)) (reading_of (drop 1 body)) (fresh_for (air file)) no_sums).placed
