-- "A transmission", what the frames move by themselves: offsets, accounts, marks and times. Definitions only.
use Rattle.std.specs.Prelude.{Bool, not, ◌&&◌, ◌||◌, cond, List, [], ◌∷◌, map, ℕ, zero, suc, eqb, Float, get_or, set, None, Some}
use Rattle.std.specs.Float.Ieee.{lt}
use Rattle.float.specs.Numbers.{◌⊕◌, ◌⊖◌, ◌⊗◌, ◌⊘◌, of_nat, f0, f1}
use Rattle.float.specs.Sum.{total}
use Rattle.half.specs.Power.{half}
use Rattle.limits.specs.Readings.{Reading}
use Rattle.ladder.specs.declared.types.Table.{Table}
use Rattle.ladder.specs.Lists.{every}
use Rattle.ladder.specs.Types.{rung, row, rung_at, rung_count, place_count, is_floor}
use Rattle.account.specs.declared.types.Account.{Account}
use Rattle.account.specs.Fixed.{half_life, least_offset, most_offset}
use Rattle.account.specs.State.{Mark, no_account, choice}
use Rattle.account.specs.declared.types.Offsets.{Offsets}
use Rattle.account.specs.declared.types.State.{State}
use Rattle.account.specs.Price.{prior_p}
use Rattle.rules.specs.Lists.{some_of}
pub use Rattle.rules.specs.declared.types.Frame.{Frame}

-- a frame went at the rung r
abbrev pub at : ℕ → Frame → Bool
at r f = eqb f.rung.0 r

-- ---- offsets: "Per frame not combined, with SNR known: offset += gain × (p - decoded), clamped to -5..20."
abbrev pub clamp : Float → Float
clamp x = cond (lt x least_offset) least_offset (cond (lt most_offset x) most_offset x)

abbrev pub moved : Table → Float → Frame → Float → Float
moved t snr f off = clamp (off ⊕ t.air.gain ⊗ (prior_p t f.rung.0 off snr ⊖ cond f.decoded f1 f0))

-- of the two offsets, floor and OFDM, the frame's family's
abbrev pub offset_step : Table → Float → Frame → Offsets → Offsets
offset_step t snr f o =
    cond f.combined o (cond (is_floor t f.rung.0) (record { floor = moved t snr f o.floor; ofdm = o.ofdm }) (record { floor = o.floor; ofdm = moved t snr f o.ofdm }))

abbrev pub offsets_from : Table → Float → List Frame → Offsets → Offsets
offsets_from t snr [] o = o
offsets_from t snr (f ∷ fs) o = offsets_from t snr fs (offset_step t snr f o)

abbrev pub offsets_at : Table → Reading → List Frame → Offsets → Offsets
offsets_at t None fs o = o
offsets_at t (Some snr) fs o = offsets_from t snr fs o

unfoldable pub offsets_after : Table → State → List Frame → Offsets
offsets_after t s fs = offsets_at t s.core.snr fs s.core.offsets

-- ---- accounts
-- each of the three times d
abbrev pub aged : Float → Account → Account
aged d a = record { bytes = a.bytes ⊗ d; air = a.air ⊗ d; frames = a.frames ⊗ d }

-- "then gains air, 1 frame and, decoded, its capacity"
abbrev pub gained : Frame → Account → Account
gained f a = record { bytes = cond f.decoded (a.bytes ⊕ of_nat f.capacity) a.bytes; air = a.air ⊕ f.air; frames = a.frames ⊕ f1 }

-- "Per frame: other rungs age by half(air/(12 × own frame time)); its own by half(1/12), then gains .."
abbrev pub book_one : Table → Frame → ℕ → Account → Account
book_one t f r a = cond (at r f) (gained f (aged (half (f1 ⊘ half_life)) a)) (aged (half (f.air ⊘ (half_life ⊗ (row t r).time))) a)

-- n rungs from r on
unfoldable pub book_frame : ℕ → ℕ → Table → Frame → List Account → List Account
book_frame zero r t f accounts = accounts
book_frame (suc n) r t f accounts = book_frame n (suc r) t f (set accounts r (book_one t f r (get_or accounts r no_account)))

unfoldable pub book : Table → List Frame → List Account → List Account
book t [] accounts = accounts
book t (f ∷ fs) accounts = book t fs (book_frame (rung_count t) 0 t f accounts)

-- ---- marks and air
-- "a list with OFDM frames sets the failed mark if none of them is decoded, else clears it; a list without any leaves it"
abbrev pub ofdm : Table → Frame → Bool
ofdm t f = not (is_floor t f.rung.0)

unfoldable pub judge_family : Table → List Frame → Bool → Bool
judge_family t fs failed = cond (some_of (ofdm t) fs) (not (some_of (λ f. ofdm t f && f.decoded) fs)) failed

-- "The call's air (left to right)"
abbrev pub airs : List Frame → List Float
airs fs = map (λ f. f.air) fs

abbrev pub call_air : List Frame → Float
call_air fs = total f0 (airs fs)

-- ".. is added to every front rung's time since its try.": n places from i on
unfoldable pub passed : ℕ → ℕ → Table → Float → List Float → List Float
passed zero i t a since = since
passed (suc n) i t a since = passed n (suc i) t a (set since (rung_at t i) (get_or since (rung_at t i) f0 ⊕ a))

-- "Clean mark: some frame at the choice, and each of them decoded alone."
abbrev pub sent : List Frame → ℕ → Bool
sent fs r = some_of (at r) fs

unfoldable pub clean_mark : ℕ → List Frame → Mark
clean_mark here fs = cond (sent fs here && every (λ f. not (at here f) || (f.decoded && not f.combined)) fs) (Some (rung here)) None

-- all that the frames alone change, the SNR being smoothed already
unfoldable pub booked : Table → State → List Frame → State
booked t s fs = record {
  accounts = book t fs s.accounts;
  since = passed (place_count t) 0 t (call_air fs) s.since;
  wait = s.wait;
  core = record {
    trying = s.core.trying;
    snr = s.core.snr;
    echo = s.core.echo;
    place = s.core.place;
    offsets = offsets_after t s fs;
    failed = judge_family t fs s.core.failed;
    clean = clean_mark (choice t s) fs;
  };
}
