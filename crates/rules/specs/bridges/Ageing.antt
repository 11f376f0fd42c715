-- All accounts aged at once, each by a factor that is given, and a frame booked so. Definitions only.
use Rattle.std.specs.Prelude.{ℕ, zero, suc, cond, List, [], ◌∷◌, Float, slice_index_or, slice_set}
use Rattle.float.specs.Numbers.{◌⊘◌, f1}
use Rattle.half.specs.Power.{half}
use Rattle.ladder.specs.declared.types.Table.{Table}
use Rattle.ladder.specs.Types.{rung_count, in_table}
use Rattle.account.specs.declared.types.Account.{Account}
use Rattle.account.specs.declared.types.State.{State}
use Rattle.account.specs.State.{no_account}
use Rattle.account.specs.Fixed.{half_life}
use Rattle.rules.specs.Booking.{Frame, aged, gained}
use Rattle.rules.specs.bridges.Pass.{Fades, turned}

-- n accounts from i on
unfoldable pub aged_by : ℕ → ℕ → List Float → List Account → List Account
aged_by zero i by l = l
aged_by (suc n) i by l = aged_by n (suc i) by (slice_set l i (aged (slice_index_or by i f1) (slice_index_or l i no_account)))

-- a frame, by the factors given: all are aged, and the frame's own rung as it was before ages by one frame and gains
unfoldable pub booked_by : Table → List Float → Frame → List Account → List Account
booked_by t by f l =
    let all = aged_by (rung_count t) 0 by l in
    cond (in_table t f.rung.0) (slice_set all f.rung.0 (gained f (aged (half (f1 ⊘ half_life)) (slice_index_or l f.rung.0 no_account)))) all

-- frames in order, each by the factors for its air
unfoldable pub booked_all : Table → Fades → List Frame → List Account → List Account
booked_all t d [] l = l
booked_all t d (f ∷ fs) l = booked_all t (turned t f.air d) fs (booked_by t (turned t f.air d).by f l)

-- the state that the pass leaves of its accounts: theirs alone are moved, by the factors given
abbrev pub accounts_by : Table → Fades → List Frame → State → State
accounts_by t d fs s = record s { accounts = booked_all t d fs s.accounts }
