-- The air of a full transmission is finite and at least 0, for a burst count up to 1,000 and a frame time within its limits; a wait of up to 48 of them is at
-- least 0. Assumes nothing.
use mathlib.Core.Path.{subst}
use Rattle.std.specs.Prelude.{ℕ, ◌<◌, ◌≤◌, false, T, ltb, get_or, Option, None, Some, unwrap_or}
use native.Mathlib.Omega.{arith}
use lib.Dec.{ltb→lt}
use lib.Pow.{pow_pos}
use lib.Ieee.{Float, binary64, round, of_bits, of_int, mul, le}
use lib.Ieee.Order.{round_mono}
use lib.Ieee.Scale.{finite}
use lib.Ieee.Fits.{and_l, and_r}
use Rattle.float.specs.Numbers.{◌⊗◌, of_nat}
use Rattle.float.proofs.Order.{le_le}
use Rattle.float.proofs.Rounding.{zero64, round_zero}
use Rattle.float.proofs.Monotone.{natural, mul_natural, mul_mono_finite, between_limits}
use Rattle.limits.specs.Values.{f60, milli, ok_air}
use Rattle.ladder.specs.declared.types.Table.{Table}
use Rattle.ladder.specs.Types.{row, rung_count}
use Rattle.std.proofs.lemmas.Bool.{cond_both}
use Rattle.std.proofs.lemmas.Float.{T_from_true}
use Rattle.ladder.proofs.TableSound.{TableSound}
use Rattle.account.specs.Fixed.{longest_wait}
use Rattle.account.specs.State.{Tariff, State, wait_of}
use Rattle.account.specs.Price.{burst_or, full_air, wait_s}

-- ---- a number as f64
of_natural : (n : ℕ) → natural (of_nat n)
unfolding of_int
of_natural n = subst (λ (z : Float). T (le z (round binary64 false n 1))) (round_zero binary64 1 (pow_pos 0)) (round_mono binary64 0 1 n 1 (pow_pos 0) (pow_pos 0) (omega arith))

pub of_mono : (m n : ℕ) → m ≤ n → T (le (of_nat m) (of_nat n))
unfolding of_int
of_mono m n h = round_mono binary64 m 1 n 1 (pow_pos 0) (pow_pos 0) (omega arith)

thousand_finite : T (finite (of_nat 1000))
unfolding of_int round
thousand_finite = tt

-- ---- times and airs within their limits
milli_natural : natural milli
unfolding of_bits le
milli_natural = tt

pub air_natural : (x : Float) → T (ok_air x) → natural x
air_natural x h = le_le zero64 milli x milli_natural (and_l (le milli x) (le x f60) h)

sixty_finite : T (finite f60)
unfolding of_bits
sixty_finite = tt

air_finite : (x : Float) → T (ok_air x) → T (finite x)
air_finite x h = between_limits zero64 x f60 tt sixty_finite (air_natural x h) (and_r (le milli x) (le x f60) h)

-- ---- the air of a full transmission
-- what is asked of the prices set
abbrev pub TariffSound : Option Tariff → Type 0
TariffSound None = Unit
TariffSound (Some p) = (r : ℕ) → r < p.counted → get_or p.bursts r 0 ≤ 1000

most_finite : T (finite (of_nat 1000 ⊗ f60))
unfolding of_int round mul of_bits
most_finite = tt

pub bursts_small : (p : Option Tariff) → TariffSound p → (r d : ℕ) → d ≤ 1000 → burst_or p r d ≤ 1000
bursts_small None ps r d k = k
bursts_small (Some p) ps r d k = cond_both (ltb r p.counted) _ _ (λ (o : Option ℕ). unwrap_or o d ≤ 1000) (λ e. ps r (ltb→lt r p.counted (T_from_true _ e))) (λ e. k)

module _ (t : Table) (p : Option Tariff) (ts : TableSound t) (ps : TariffSound p) (r : ℕ) (h : r < rung_count t) where
  burst_small : burst_or p r 1 ≤ 1000
  burst_small = bursts_small p ps r 1 (omega arith)

  burst_finite : T (finite (of_nat (burst_or p r 1)))
  burst_finite = between_limits zero64 (of_nat (burst_or p r 1)) (of_nat 1000) tt thousand_finite (of_natural (burst_or p r 1)) (of_mono (burst_or p r 1) 1000 burst_small)

  pub full_natural : natural (full_air t p r)
  unfolding full_air
  full_natural =
      let x = (row t r).time in
      let ok = ts.times r h in
      mul_natural binary64 (of_nat (burst_or p r 1)) x burst_finite (air_finite x ok) (of_natural (burst_or p r 1)) (air_natural x ok)

  pub full_finite : T (finite (full_air t p r))
  unfolding full_air
  full_finite =
      let n = burst_or p r 1 in
      let x = (row t r).time in
      let ok = ts.times r h in
      between_limits zero64 (of_nat n ⊗ x) (of_nat 1000 ⊗ f60) tt most_finite full_natural
      (mul_mono_finite binary64 (of_nat n) (of_nat 1000) x f60 burst_finite thousand_finite (air_finite x ok) sixty_finite (of_natural n) (air_natural x ok)
      (of_mono n 1000 burst_small) (and_r (le milli x) (le x f60) ok))

-- ---- waits
-- no wait is longer than 48
abbrev pub IsWait : ℕ → Type 0
IsWait w = w ≤ longest_wait

longest_finite : T (finite (of_nat longest_wait))
unfolding of_int round
longest_finite = tt

-- as f64 it is finite, at least 0 and at most 48
pub wait_fits : (w : ℕ) → IsWait w → T (finite (of_nat w)) × natural (of_nat w) × T (le (of_nat w) (of_nat longest_wait))
wait_fits w h =
    let k = of_mono w longest_wait h in
    (between_limits zero64 (of_nat w) (of_nat longest_wait) tt longest_finite (of_natural w) k, of_natural w, k)

pub seconds_natural : (t : Table) (p : Option Tariff) (s : State) (r : ℕ) → TableSound t → TariffSound p → r < rung_count t → IsWait (wait_of s r) → natural (wait_s t p s r)
unfolding wait_s
seconds_natural t p s r ts ps h w =
    let k = wait_fits (wait_of s r) w in
    mul_natural binary64 (of_nat (wait_of s r)) (full_air t p r) k.0 (full_finite t p ts ps r h) k.1 (full_natural t p ts ps r h)
