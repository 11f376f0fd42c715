-- "Accounts, prior and price". Definitions only.
use Rattle.std.specs.Prelude.{ℕ, Bool, cond, Option, None, Some, unwrap_or, ◌==◌, nat_lt, slice_index, Float}
use Rattle.float.specs.Numbers.{◌⊕◌, ◌⊖◌, ◌⊗◌, ◌⊘◌, of_nat, f0}
use Rattle.half.specs.Logistic.{decode_probability}
use Rattle.limits.specs.Readings.{Reading}
use Rattle.ladder.specs.declared.types.Row.{Row}
use Rattle.ladder.specs.declared.types.Table.{Table}
use Rattle.ladder.specs.Types.{row, is_floor}
use Rattle.account.specs.Fixed.{prior_weight, slope}
use Rattle.account.specs.State.{Account, Families, Tariff, Prices, State, account, wait_of}

-- ---- prior and estimate
-- the offset of the rung's family
abbrev pub offset : Table → State → ℕ → Float
offset t s r = cond (is_floor t r) s.core.offsets.floor s.core.offsets.ofdm

-- "probability at SNR - family offset - margin"; "slope 0.5"
abbrev pub prior_p_at : Float → Float → Float → Float → Float
prior_p_at threshold margin off snr = decode_probability (snr ⊖ off ⊖ margin) threshold slope

unfoldable pub prior_p : Table → ℕ → Float → Float → Float
prior_p t r off snr = prior_p_at (row t r).threshold t.air.margin off snr

-- "prior = capacity × probability .., or 0 without SNR"
abbrev pub prior_of : Row → Float → Float → Reading → Float
prior_of a margin off None = f0
prior_of a margin off (Some snr) = of_nat a.capacity ⊗ prior_p_at a.threshold margin off snr

abbrev pub prior : Table → ℕ → Float → Reading → Float
prior t r off snr = prior_of (row t r) t.air.margin off snr

-- "Estimate = (bytes + 2 × prior)/(air + 2 × frame time)"
abbrev pub estimate_by : Account → Float → Float → Float
estimate_by a prior time = (a.bytes ⊕ prior_weight ⊗ prior) ⊘ (a.air ⊕ prior_weight ⊗ time)

-- at an SNR
unfoldable pub estimate_at : Table → State → ℕ → Reading → Float
estimate_at t s r snr = estimate_by (account s r) (prior t r (offset t s r) snr) (row t r).time

abbrev pub estimate : Table → State → ℕ → Float
estimate t s r = estimate_at t s r s.core.snr

-- "`lossless` = capacity/frame time"
unfoldable pub lossless : Table → ℕ → Float
lossless t r = of_nat (row t r).capacity ⊘ (row t r).time

-- ---- price
-- "Control families are those last set, else the rung's."
abbrev pub own_floor : Option Families → Bool → Bool
own_floor None b = b
own_floor (Some f) b = f.own_floor

abbrev pub other_floor : Option Families → Bool → Bool
other_floor None b = b
other_floor (Some f) b = f.other_floor

-- a control frame's length, on the floor or not
abbrev pub control : Tariff → Bool → Float
control p b = cond b p.floor p.ordinary

-- a burst count, if it is given; it is absent past those given, and where no prices are set
abbrev pub burst : Tariff → ℕ → Option ℕ
burst p r = cond (nat_lt r p.counted) (Some (slice_index p.bursts r)) None

abbrev pub burst_or : Option Tariff → ℕ → ℕ → ℕ
burst_or None r d = d
burst_or (Some p) r d = unwrap_or (burst p r) d

-- "(own control + other control) + gap", of a rung that is floor or not
abbrev pub overhead_of : Tariff → Option Families → Bool → Float
overhead_of p families floor = control p (own_floor families floor) ⊕ control p (other_floor families floor) ⊕ p.gap

-- "Price (`priced`), with burst n: (per-air × A)/(A + ((own control + other control) + gap)), A = n × frame time; unpriced, or n zero or absent: per-air itself."
abbrev pub priced_of : ℕ → Float → Float → Float → Float
priced_of n time over x = cond (n == 0) x (let a = of_nat n ⊗ time in x ⊗ a ⊘ (a ⊕ over))

abbrev pub priced_by : Option Tariff → Option Families → Table → ℕ → Float → Float
priced_by None families t r x = x
priced_by (Some p) families t r x = priced_of (burst_or (Some p) r 0) (row t r).time (overhead_of p families (is_floor t r)) x

unfoldable pub priced : Table → Prices → ℕ → Float → Float
priced t p r x = priced_by p.tariff p.families t r x

-- "`value` is the estimate priced; the lossless price is `lossless` priced."
unfoldable pub value : Table → Prices → State → ℕ → Float
value t p s r = priced t p r (estimate t s r)

unfoldable pub lossless_price : Table → Prices → ℕ → Float
lossless_price t p r = priced t p r (lossless t r)

-- ---- air and wait
-- "A rung's air per full transmission is n × frame time, n = 1 where absent (0 stays 0)"
unfoldable pub full_air : Table → Option Tariff → ℕ → Float
full_air t p r = of_nat (burst_or p r 1) ⊗ (row t r).time

-- "its wait in seconds is wait × that"
unfoldable pub wait_s : Table → Option Tariff → State → ℕ → Float
wait_s t p s r = of_nat (wait_of s r) ⊗ full_air t p r
