-- The numbers that document 01 fixes, each by one name; src/fixed.rt has the same for the code. Definitions only.
use Rattle.std.specs.Prelude.{ℕ, Float}
use Rattle.float.specs.Numbers.{f64, f½, f2, f20}

-- ---- "Fixed: half-life 12, prior weight 2, wait 6 to 48, slope 0.5, echo weight 0.4, echo floor -6 dB."
-- in frames of a rung's own air
abbrev pub half_life : Float
half_life = f64 0x4028_0000_0000_0000

-- in frames
abbrev pub prior_weight : Float
prior_weight = f2

-- in full transmissions
abbrev pub first_wait : ℕ
first_wait = 6

abbrev pub longest_wait : ℕ
longest_wait = 48

-- in dB
abbrev pub slope : Float
slope = f½

abbrev pub echo_weight : Float
echo_weight = f64 0x3fd9_9999_9999_999a

abbrev pub echo_floor : Float
echo_floor = f64 0xc018_0000_0000_0000

-- ---- "SNR smooths 0.7 old + 0.3 new; echo 0.6 old + 0.4 new": the new echo's part is the echo weight
abbrev pub snr_old : Float
snr_old = f64 0x3fe6_6666_6666_6666

abbrev pub snr_new : Float
snr_new = f64 0x3fd3_3333_3333_3333

abbrev pub echo_old : Float
echo_old = f64 0x3fe3_3333_3333_3333

-- ---- "clamped to -5..20", in dB
abbrev pub least_offset : Float
least_offset = f64 0xc014_0000_0000_0000

abbrev pub most_offset : Float
most_offset = f20

-- ---- a try: "over at 3 frames or 6 calls"
abbrev pub try_frames : ℕ
try_frames = 3

abbrev pub try_calls : ℕ
try_calls = 6

-- ---- `decide`: a place above the choice "with over 2 decayed frames"; a time "wait - 1e-9", in seconds
abbrev pub enough_frames : Float
enough_frames = f2

abbrev pub wait_tolerance : Float
wait_tolerance = f64 0x3e11_2e0b_e826_d695
