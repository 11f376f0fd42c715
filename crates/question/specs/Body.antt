-- An event's body, as the list of its bytes: whether it has its kind's form, and the call that it stands for. Definitions only.
use Rattle.std.specs.Prelude.{Bool, true, false, ◌&&◌, cond, List, ℕ, zero, suc, ◌+◌, ◌-◌, ◌*◌, ◌/◌, ◌%◌, leb, ltb, eqb, length, drop, take, replicate}
use Rattle.float.specs.Numbers.{f0}
use Rattle.ladder.specs.Lists.{tabulate}
use Rattle.ladder.specs.Types.{rung}
use Rattle.rules.specs.declared.types.Frame.{Frame}
use Rattle.rate.specs.Calls.{Call, Frames, Echo, Silence, Snr, Seed, Price, Family}
use Rattle.question.specs.Bytes.{byte, le16, le32, le_f64, ok_reading, reading_of}
use Rattle.question.specs.Over.{over}

-- whether each of the n numbers from i on passes
unfoldable pub all_from : ℕ → ℕ → (ℕ → Bool) → Bool
all_from zero i f = true
all_from (suc n) i f = f i && all_from n (suc i) f

-- "Body, first byte kind": a body of no bytes has none, and 0 is no kind
abbrev pub kind : List ℕ → ℕ
kind b = byte b 0

-- ---- "1 frames: SNR reading; then 12 bytes a frame"
abbrev pub frame_count : List ℕ → ℕ
frame_count b = (length b - 10) / 12

-- the bytes from the i-th frame's on
abbrev pub frame_bytes : List ℕ → ℕ → List ℕ
frame_bytes b i = drop (10 + 12 * i) b

-- "flags u8 (1 detected, 2 decoded, 4 combined)", and no other flag
unfoldable pub ok_flags : List ℕ → ℕ → Bool
ok_flags b i = ltb (byte (frame_bytes b i) 1) 8

unfoldable pub frames_form : List ℕ → Bool
frames_form b = leb 10 (length b) && eqb ((length b - 10) % 12) 0 && ok_reading (drop 1 b) && all_from (frame_count b) 0 (ok_flags b)

-- "rung u8, flags u8 (1 detected, 2 decoded, 4 combined), capacity u16, air f64"
unfoldable pub frame_of : List ℕ → Frame
frame_of s = record {
  rung = rung (byte s 0);
  detected = eqb (byte s 1 % 2) 1;
  decoded = eqb (byte s 1 / 2 % 2) 1;
  combined = eqb (byte s 1 / 4 % 2) 1;
  capacity = le16 (drop 2 s);
  air = le_f64 (drop 4 s);
}

unfoldable pub frame_at : List ℕ → ℕ → Frame
frame_at b i = frame_of (frame_bytes b i)

unfoldable pub frames_in : List ℕ → List Frame
frames_in b = tabulate (frame_count b) 0 (frame_at b)

-- ---- "2 echo: share reading, SNR f64."
unfoldable pub echo_form : List ℕ → Bool
echo_form b = eqb (length b) 18 && ok_reading (drop 1 b)

-- ---- "3 silence: u32."
abbrev pub silence_form : List ℕ → Bool
silence_form b = eqb (length b) 5

-- ---- "4 SNR reading."
unfoldable pub snr_form : List ℕ → Bool
snr_form b = eqb (length b) 10 && ok_reading (drop 1 b)

-- ---- "5 families: own and other, a byte each, 1 floor, 0 ordinary."
unfoldable pub families_form : List ℕ → Bool
families_form b = eqb (length b) 3 && leb (byte b 1) 1 && leb (byte b 2) 1

-- ---- "6 prices: floor, ordinary, gap f64; u16 bursts."
unfoldable pub prices_form : List ℕ → Bool
prices_form b = leb 25 (length b) && eqb ((length b - 25) % 2) 0

abbrev pub burst_count : List ℕ → ℕ
burst_count b = (length b - 25) / 2

unfoldable pub burst_at : List ℕ → ℕ → ℕ
burst_at b i = le16 (drop (25 + 2 * i) b)

unfoldable pub bursts_in : List ℕ → List ℕ
bursts_in b = tabulate (burst_count b) 0 (burst_at b)

-- ---- "7 seed: f64."
abbrev pub seed_form : List ℕ → Bool
seed_form b = eqb (length b) 9

-- 12: "a body breaks its kind's form"; "Any other kind, flag, mark byte or body length: 12."
unfoldable pub ok_body : List ℕ → Bool
ok_body b =
    cond (eqb (kind b) 1) (frames_form b)
    (cond (eqb (kind b) 2) (echo_form b)
    (cond (eqb (kind b) 3) (silence_form b)
    (cond (eqb (kind b) 4) (snr_form b)
    (cond (eqb (kind b) 5) (families_form b)
    (cond (eqb (kind b) 6) (prices_form b)
    (eqb (kind b) 7 && seed_form b))))))

-- the call that a body of the right form stands for (one of another form is never asked for its call)
unfoldable pub call_of : List ℕ → Call
call_of b =
    cond (eqb (kind b) 1) (Frames (frames_in b) (reading_of (drop 1 b)))
    (cond (eqb (kind b) 2) (Echo (reading_of (drop 1 b)) (le_f64 (drop 10 b)))
    (cond (eqb (kind b) 3) (Silence (le32 (drop 1 b)))
    (cond (eqb (kind b) 4) (Snr (reading_of (drop 1 b)))
    (cond (eqb (kind b) 5) (Family (eqb (byte b 1) 1) (eqb (byte b 2) 1))
    (cond (eqb (kind b) 6) (Price (le_f64 (drop 1 b)) (le_f64 (drop 9 b)) (le_f64 (drop 17 b)) (bursts_in b))
    (Seed (le_f64 (drop 1 b))))))))

-- ---- the two lists as arrays
-- what stands in an array past the frames
abbrev pub no_frame : Frame
no_frame = record { rung = rung 0; detected = false; decoded = false; combined = false; capacity = 0; air = f0 }

-- the first n of a list as an array of n entries, and d past the last
unfoldable pub first_of : {A : Type 0} → ℕ → A → List A → List A
first_of n d xs = over (take n xs) (replicate n d)
