-- What a controller holds beside its table: how it is read, changed and fresh. Each field that a step changes has its `with`. Definitions only.
use Rattle.std.specs.Prelude.{ℕ, Bool, false, List, Option, None, Some, is_some, replicate, slice_index_or, slice_set, Float}
use Rattle.float.specs.Numbers.{f0}
use Rattle.limits.specs.Readings.{Reading}
use Rattle.ladder.specs.declared.types.Table.{Table}
use Rattle.ladder.specs.declared.types.Rung.{Rung}
use Rattle.ladder.specs.Types.{rung_at, place}
use Rattle.account.specs.Fixed.{first_wait}
pub use Rattle.account.specs.declared.types.Account.{Account}
pub use Rattle.account.specs.declared.types.Try.{Try}
pub use Rattle.account.specs.declared.types.Families.{Families}
pub use Rattle.account.specs.declared.types.Tariff.{Tariff}
pub use Rattle.account.specs.declared.types.Prices.{Prices}
pub use Rattle.account.specs.declared.types.Offsets.{Offsets}
pub use Rattle.account.specs.declared.types.Core.{Core}
pub use Rattle.account.specs.declared.types.State.{State}

-- "An account holds decayed bytes, seconds of air and frames."
abbrev pub no_account : Account
no_account = record { bytes = f0; air = f0; frames = f0 }

-- the running try, if one runs: its rung, the calls that it has counted, and its own frames
abbrev pub Trying : Type 0
Trying = Option Try

abbrev pub try_of : Rung → ℕ → ℕ → Trying
try_of r calls frames = Some (record { rung = r; calls = calls; frames = frames })

-- the clean mark, if it is set: its rung
abbrev pub Mark : Type 0
Mark = Option Rung

-- whether a try runs
abbrev pub runs : Trying → Bool
runs = is_some

-- ---- reading
-- a rung's account; "for a rung outside the table `account` is zero"
abbrev pub account : State → ℕ → Account
account s r = slice_index_or s.accounts r no_account

-- a rung's time since its try, and its wait
abbrev pub since_of : State → ℕ → Float
since_of s r = slice_index_or s.since r f0

abbrev pub wait_of : State → ℕ → ℕ
wait_of s r = slice_index_or s.wait r first_wait

-- the chosen rung: "choice is held as a place, accounts go by rung"
abbrev pub choice : Table → State → ℕ
choice t s = rung_at t s.core.place.0

-- ---- changing one field, of what is no array
abbrev pub core_with_trying : Core → Trying → Core
core_with_trying c y = record c { trying = y }

abbrev pub core_with_snr : Core → Reading → Core
core_with_snr c x = record c { snr = x }

abbrev pub core_with_echo : Core → Reading → Core
core_with_echo c x = record c { echo = x }

abbrev pub core_with_place : Core → ℕ → Core
core_with_place c i = record c { place = place i }

-- ---- changing one field
abbrev pub with_all_since : State → List Float → State
with_all_since s l = record s { since = l }

abbrev pub with_all_waits : State → List ℕ → State
with_all_waits s l = record s { wait = l }

abbrev pub with_core : State → Core → State
with_core s c = record s { core = c }

abbrev pub with_since : State → ℕ → Float → State
with_since s r x = with_all_since s (slice_set s.since r x)

abbrev pub with_wait : State → ℕ → ℕ → State
with_wait s r w = with_all_waits s (slice_set s.wait r w)

abbrev pub with_trying : State → Trying → State
with_trying s y = with_core s (core_with_trying s.core y)

abbrev pub with_snr : State → Reading → State
with_snr s x = with_core s (core_with_snr s.core x)

abbrev pub with_echo : State → Reading → State
with_echo s x = with_core s (core_with_echo s.core x)

abbrev pub with_place : State → ℕ → State
with_place s i = with_core s (core_with_place s.core i)

-- a running try, if one runs, is off
abbrev pub cancel_try : State → State
cancel_try s = with_trying s None

-- ---- fresh
abbrev pub fresh_core : Core
fresh_core = record {
  trying = None;
  snr = None;
  echo = None;
  place = place 0;
  offsets = record { floor = f0; ofdm = f0 };
  failed = false;
  clean = None;
}

-- "`None` accounts, times and waits: zero account, 0.0, 6."
abbrev pub fresh_state : State
fresh_state = record { accounts = replicate 32 no_account; since = replicate 32 f0; wait = replicate 32 first_wait; core = fresh_core }

abbrev pub unpriced : Prices
unpriced = record { tariff = None; families = None }
