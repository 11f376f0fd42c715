-- "Limits, ends included, NaN and infinities outside". Definitions only.
use Rattle.std.specs.Prelude.{Bool, ℕ, leb, Float}
use Rattle.std.specs.Float.Ieee.{neg}
use Rattle.float.specs.Numbers.{f64, f0, f1, within}

-- 200.0
abbrev pub f200 : Float
f200 = f64 0x4069_0000_0000_0000

-- 60.0
abbrev pub f60 : Float
f60 = f64 0x404e_0000_0000_0000

-- 0.001
abbrev pub milli : Float
milli = f64 0x3f50_624d_d2f1_a9fc

-- 0.125 and 16.0
abbrev pub eighth : Float
eighth = f64 0x3fc0_0000_0000_0000

abbrev pub f16 : Float
f16 = f64 0x4030_0000_0000_0000

-- "dB values -200 to 200"
abbrev pub ok_db : Float → Bool
ok_db x = within (neg f200) f200 x

-- "slope 0.125 to 16"
abbrev pub ok_slope : Float → Bool
ok_slope x = within eighth f16 x

-- "frame time and air 0.001 to 60 s"
abbrev pub ok_air : Float → Bool
ok_air x = within milli f60 x

-- "control lengths and gap 0 to 60 s"
abbrev pub ok_length : Float → Bool
ok_length x = within f0 f60 x

-- "payload and capacity 0 to 4,096"
abbrev pub ok_bytes : ℕ → Bool
ok_bytes n = leb n 4096

-- "burst count 0 to 1,000"
abbrev pub ok_burst : ℕ → Bool
ok_burst n = leb n 1000

-- "echo share and limit 0 to 1"
abbrev pub ok_share : Float → Bool
ok_share x = within f0 f1 x
