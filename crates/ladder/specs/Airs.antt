-- The two airs' tables, as the source measures them, and the columns of a fresh controller. Definitions only.
use Rattle.std.specs.Prelude.{List, [], ◌∷◌, ◌++◌, map, ℕ, replicate, Some, None, Float}
use Rattle.std.specs.Float.Ieee.{neg}
use Rattle.float.specs.Numbers.{f64}
use Rattle.limits.specs.Readings.{Reading}
use Rattle.ladder.specs.Front.{data_of}
use Rattle.ladder.specs.Tables.{Columns}

-- frame times: 5.36 s on the tone floor, 1.054 s on the ordinary layout
abbrev pub floor_time : Float
floor_time = f64 0x4015_70a3_d70a_3d71

abbrev pub ordinary_time : Float
ordinary_time = f64 0x3ff0_dd2f_1a9f_be77

-- ---- wide, 2 300 Hz
-- -19.0, -17.3, -16.0, -14.2, -13.1, -11.2, -5.1, -3.2, -1.8, -0.4, 1.4, 2.9, 4.7, 6.9, 6.0, 8.9, 9.9, 13.9, 15.6, 16.9 dB
abbrev pub wide_thresholds : List Float
wide_thresholds = neg (f64 0x4033_0000_0000_0000) ∷ neg (f64 0x4031_4ccc_cccc_cccd) ∷ neg (f64 0x4030_0000_0000_0000) ∷ neg (f64 0x402c_6666_6666_6666) ∷ neg (f64 0x402a_3333_3333_3333) ∷ neg (f64 0x4026_6666_6666_6666) ∷ neg (f64 0x4014_6666_6666_6666) ∷ neg (f64 0x4009_9999_9999_999a) ∷ neg (f64 0x3ffc_cccc_cccc_cccd) ∷ neg (f64 0x3fd9_9999_9999_999a) ∷ f64 0x3ff6_6666_6666_6666 ∷ f64 0x4007_3333_3333_3333 ∷ f64 0x4012_cccc_cccc_cccd ∷ f64 0x401b_9999_9999_999a ∷ f64 0x4018_0000_0000_0000 ∷ f64 0x4021_cccc_cccc_cccd ∷ f64 0x4023_cccc_cccc_cccd ∷ f64 0x402b_cccc_cccc_cccd ∷ f64 0x402f_3333_3333_3333 ∷ f64 0x4030_e666_6666_6666 ∷ []

abbrev pub wide_payloads : List ℕ
wide_payloads = 24 ∷ 36 ∷ 51 ∷ 75 ∷ 105 ∷ 153 ∷ 26 ∷ 46 ∷ 70 ∷ 95 ∷ 144 ∷ 193 ∷ 217 ∷ 291 ∷ 291 ∷ 389 ∷ 438 ∷ 585 ∷ 658 ∷ 732 ∷ []

-- "capacity payload - 3"
abbrev pub wide_capacities : List ℕ
wide_capacities = map data_of wide_payloads

abbrev pub wide_times : List Float
wide_times = replicate 6 floor_time ++ replicate 14 ordinary_time

-- rung 5: 0.0073
abbrev pub wide_limits : List Reading
wide_limits = replicate 5 None ++ Some (f64 0x3f7d_e69a_d42c_3c9f) ∷ replicate 14 None

-- ---- narrow, 500 Hz
-- -19.0, -17.3, -14.3, -13.0, -11.1, -5.2, -3.6, -2.1, 0.5, -0.1, 2.0, 3.5, 6.9, 8.8, 10.4 dB
abbrev pub narrow_thresholds : List Float
narrow_thresholds = neg (f64 0x4033_0000_0000_0000) ∷ neg (f64 0x4031_4ccc_cccc_cccd) ∷ neg (f64 0x402c_9999_9999_999a) ∷ neg (f64 0x402a_0000_0000_0000) ∷ neg (f64 0x4026_3333_3333_3333) ∷ neg (f64 0x4014_cccc_cccc_cccd) ∷ neg (f64 0x400c_cccc_cccc_cccd) ∷ neg (f64 0x4000_cccc_cccc_cccd) ∷ f64 0x3fe0_0000_0000_0000 ∷ neg (f64 0x3fb9_9999_9999_999a) ∷ f64 0x4000_0000_0000_0000 ∷ f64 0x400c_0000_0000_0000 ∷ f64 0x401b_9999_9999_999a ∷ f64 0x4021_9999_9999_999a ∷ f64 0x4024_cccc_cccc_cccd ∷ []

abbrev pub narrow_payloads : List ℕ
narrow_payloads = 24 ∷ 36 ∷ 51 ∷ 75 ∷ 93 ∷ 25 ∷ 34 ∷ 39 ∷ 53 ∷ 53 ∷ 71 ∷ 81 ∷ 109 ∷ 123 ∷ 137 ∷ []

abbrev pub narrow_capacities : List ℕ
narrow_capacities = map data_of narrow_payloads

abbrev pub narrow_times : List Float
narrow_times = replicate 5 floor_time ++ replicate 10 ordinary_time

-- rungs 3 and 4: 0.0038
abbrev pub narrow_limits : List Reading
narrow_limits = replicate 3 None ++ Some (f64 0x3f6f_212d_7731_8fc5) ∷ Some (f64 0x3f6f_212d_7731_8fc5) ∷ replicate 10 None

-- "the air's tables, capacity payload - 3, 6 floor rungs wide or 5 narrow"
abbrev pub wide_air : Columns
wide_air = record {
  thresholds = wide_thresholds;
  payloads = wide_payloads;
  capacities = wide_capacities;
  times = wide_times;
  limits = wide_limits;
  floors = 6;
}

abbrev pub narrow_air : Columns
narrow_air = record {
  thresholds = narrow_thresholds;
  payloads = narrow_payloads;
  capacities = narrow_capacities;
  times = narrow_times;
  limits = narrow_limits;
  floors = 5;
}
