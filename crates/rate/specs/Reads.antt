-- The calls that only read a controller, and making one. Definitions only.
use Rattle.std.specs.Prelude.{ℕ, Bool, cond, Option, None, Some, Result, Ok, Err, option_map, unwrap_or, Float}
use Rattle.float.specs.Numbers.{f0}
use Rattle.limits.specs.Values.{ok_db}
use Rattle.limits.specs.Readings.{Reading}
use Rattle.limits.specs.declared.refusal.Refusal.{Refusal}
use Rattle.limits.specs.declared.refusal.Refusal.TheVariants.{UnknownRung, OutsideLimits}
use Rattle.ladder.specs.declared.types.Rung.{Rung}
use Rattle.ladder.specs.declared.types.Front.{Front}
use Rattle.ladder.specs.declared.types.Table.{Table}
use Rattle.ladder.specs.Types.{rung, row, in_table, rung_at}
use Rattle.ladder.specs.Tables.{Columns, tabled, for_air}
use Rattle.account.specs.declared.types.Account.{Account}
use Rattle.account.specs.declared.types.Try.{Try}
use Rattle.account.specs.State.{Trying, no_account, account, choice}
use Rattle.account.specs.Price.{estimate, lossless, value}
use Rattle.rules.specs.Echo.{first_place, refuses}
use Rattle.rate.specs.Calls.{RateController, fresh_controller}

-- 6: "rung not in the table (a frame, `value`, `estimate`)"
abbrev pub rated : Bool → Float → Result Float Refusal
rated known x = cond known (Ok x) (Err UnknownRung)

unfoldable pub value_of : RateController → ℕ → Result Float Refusal
value_of k r = rated (in_table k.table r) (value k.table k.prices k.state r)

unfoldable pub estimate_of : RateController → ℕ → Result Float Refusal
estimate_of k r = rated (in_table k.table r) (estimate k.table k.state r)

-- "For a rung outside the table `account` is zero, `lossless` 0.0, `threshold_db` missing, as in the Rust."
unfoldable pub account_of : RateController → ℕ → Account
account_of k r = cond (in_table k.table r) (account k.state r) no_account

unfoldable pub lossless_of : RateController → ℕ → Float
lossless_of k r = cond (in_table k.table r) (lossless k.table r) f0

unfoldable pub threshold_of : RateController → ℕ → Reading
threshold_of k r = cond (in_table k.table r) (Some (row k.table r).threshold) None

-- "OFDM refused": what `refuses` says of every OFDM rung, of which the floor count is one
abbrev pub ofdm_refused : RateController → Bool
ofdm_refused k = refuses k.table k.state k.table.air.floors

-- the usable rungs
abbrev pub modes_of : RateController → Front
modes_of k = k.table.front

-- the choice, the rung being tried, and the rung to use: the one being tried, else the choice
abbrev pub choice_of : RateController → Rung
choice_of k = rung (choice k.table k.state)

abbrev pub probing_in : Trying → Option Rung
probing_in = option_map (λ (y : Try). y.rung)

abbrev pub probing_of : RateController → Option Rung
probing_of k = probing_in k.state.core.trying

abbrev pub recommend_of : RateController → Rung
recommend_of k = unwrap_or (probing_of k) (choice_of k)

-- `first_mode`, whose SNR is held to its limits (8)
unfoldable pub first_mode : RateController → Float → Result Rung Refusal
first_mode k snr = cond (ok_db snr) (Ok (rung (rung_at k.table (first_place k.table k.prices k.state snr)))) (Err OutsideLimits)

-- ---- making one
-- `for_table`: "no controller is made" where it is refused, else a fresh one
abbrev pub made_of : Result Table Refusal → Result RateController Refusal
made_of (Ok t) = Ok (fresh_controller t)
made_of (Err why) = Err why

unfoldable pub made : Columns → Result RateController Refusal
made c = made_of (tabled c)

-- `for_air`
unfoldable pub for_air_of : RateController → Bool → RateController
for_air_of k wide = record k { table = for_air k.table wide }
