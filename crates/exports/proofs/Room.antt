-- No rung on the two airs' fronts has over two digits, and a tried rung is one of the front: so a line has at most 13 bytes beside its event's number.
-- Over 1,000 lines the numbers have 2,893 digits, and fewer lines take no more. Assumes nothing.
use Rattle.std.specs.Prelude.{◌≡◌, ℕ, zero, suc, ◌+◌, ◌/◌, ◌<◌, ◌≤◌, true, false, ◌&&◌, ◌==◌, List, [], ◌∷◌, length, get_or, ltb, eqb, T, Float, Option, None, Some, Ok, Err}
use mathlib.Core.Path.{refl, ap, sym, subst}
use mathlib.Core.Logic.{◌⊎◌, inl, inr}
use native.Mathlib.Omega.{arith}
use borrow.Author.Tests.{le-leb}
use lib.Dec.{ltb→lt}
use lib.ListN.{length-append}
use lib.Ieee.{of_bits, of_int, neg, add, sub, mul, div, lt, le, round}
use lib.Ieee.Fits.{and_l, and_r}
use Rattle.std.proofs.lemmas.Bool.{cases_lt}
use Rattle.limits.specs.Readings.{Reading}
use Rattle.limits.specs.Refusals.{Verdict, or_else, refusal_number}
use Rattle.limits.specs.declared.refusal.Refusal.{Refusal}
use Rattle.limits.specs.declared.refusal.Refusal.TheVariants.{ColumnSize, ColumnsDiffer, TableValue, FloorCount, EmptyFront, UnknownRung, TooManyFrames, OutsideLimits, TooManyBursts, FileHeader, FilePairs, FileBody, SheetRoom, AnswerCount}
use Rattle.ladder.specs.Lists.{every}
use Rattle.ladder.specs.declared.types.Rung.{Rung}
use Rattle.ladder.specs.declared.types.Table.{Table}
use Rattle.ladder.specs.Types.{rung, rung_at}
use Rattle.ladder.specs.Front.{beaten, front_of}
use Rattle.ladder.specs.Tables.{table_of, rows_of, for_air}
use Rattle.ladder.specs.Airs.{wide_air, narrow_air}
use Rattle.ladder.proofs.Cases.{pick}
use Rattle.ladder.proofs.Tabulating.{length_tabulate}
use Rattle.account.specs.State.{Trying, cancel_try, with_place}
use Rattle.account.specs.declared.types.Prices.{Prices}
use Rattle.account.specs.declared.types.State.{State}
use Rattle.rules.specs.Lowest.{Best}
use Rattle.rules.specs.Echo.{usable, observe_echo, silent, seed, observe_snr}
use Rattle.rules.specs.declared.types.Frame.{Frame}
use Rattle.rules.specs.Booking.{booked}
use Rattle.rules.specs.Tries.{Decided, try_over, own_frames, counted, begins, above, decide_try, decide_at, decide, choose}
use Rattle.rules.specs.Transmission.{judged, inside, observe_frames}
use Rattle.rules.proofs.Kept.{KeptByEcho, KeptByJudging, KeptByEnding, echo_kept, seed_kept, above_kept, end_kept}
use Rattle.rate.specs.declared.types.RateController.{RateController}
use Rattle.rate.specs.declared.types.Answer.{Answer}
use Rattle.rate.specs.Calls.{Call, Frames, Echo, Silence, Snr, Seed, Price, Family, accepted, step}
use Rattle.rate.specs.Reads.{choice_of, probing_in, probing_of, ofdm_refused}
use Rattle.rate.proofs.Stepping.{by_verdict, table_kept}
use Rattle.question.specs.File.{event_count, air, file_verdict}
use Rattle.question.specs.Start.{fresh_for}
use Rattle.question.proofs.Events.{few_events}
use Rattle.paper.specs.Lines.{digits, decimal, cell_bytes}
use Rattle.paper.specs.declared.types.Outcome.{Outcome}
use Rattle.paper.specs.Sheet.{Line, tried_cell, call_at, calls_of, line_by, line_of, line_bytes, lines_from, sheet_of, room_verdict, sheet_verdict}
use Rattle.paper.proofs.Decimal.{decimal_one, length_more}
use Rattle.paper.proofs.Pieces.{answered_row, refused_row, length_refused}
use Rattle.exports.specs.Room.{EnoughRoom}

-- ---- rungs of at most two digits
abbrev Two : Table → Type 0
Two t = (i : ℕ) → rung_at t i < 100

abbrev Tried : Option Rung → Type 0
Tried None = Unit
Tried (Some r) = r.0 < 100

abbrev Small : Trying → Type 0
Small None = Unit
Small (Some y) = y.rung.0 < 100

two_digits : (n : ℕ) → n < 100 → length (decimal n) ≤ 2
two_digits n h = go (cases_lt n 10)
  where
    go : (n < 10) ⊎ (10 ≤ n) → length (decimal n) ≤ 2
    go (inl g) = omega (arith, ap length (decimal_one n g))
    go (inr g) = omega (arith, length_more n g, ap length (decimal_one (n / 10) (omega (arith, h))))

-- ---- a line
number_small : (why : Refusal) → refusal_number why < 100
number_small ColumnSize = omega arith
number_small ColumnsDiffer = omega arith
number_small TableValue = omega arith
number_small FloorCount = omega arith
number_small EmptyFront = omega arith
number_small UnknownRung = omega arith
number_small TooManyFrames = omega arith
number_small OutsideLimits = omega arith
number_small TooManyBursts = omega arith
number_small FileHeader = omega arith
number_small FilePairs = omega arith
number_small FileBody = omega arith
number_small SheetRoom = omega arith
number_small AnswerCount = omega arith

-- the bytes of a line beside its number's digits
abbrev Fits : ℕ → Line → Type 0
Fits e l = length (line_bytes e l) ≤ length (decimal e) + 13

tried_small : (y : Trying) → Small y → length (cell_bytes (tried_cell (probing_in y))) ≤ 2
tried_small None h = omega arith
tried_small (Some y) h = two_digits y.rung.0 h

-- of what a call left and returned
line_fits : (e : ℕ) (a : Answer) → Two a.controller.table → Small a.controller.state.core.trying → Fits e (line_of a)
unfolding line_of
line_fits e a two small = go a.verdict
  where
    o : Outcome
    o = record {
      choice = choice_of a.controller;
      tried = probing_of a.controller;
      ofdm_refused = ofdm_refused a.controller;
      ended = a.ended;
      begun = a.begun;
    }

    go : (v : Verdict) → Fits e (line_by a v)
    go (Ok _) =
        omega (
          arith,
          answered_row e o,
          two_digits (rung_at a.controller.table a.controller.state.core.place.0) (two a.controller.state.core.place.0),
          tried_small a.controller.state.core.trying small,
        )
    go (Err why) = omega (arith, refused_row e why, length_refused why, two_digits (refusal_number why) (number_small why))

-- ---- a try's rung is one of the front: each step keeps it
abbrev SmallIn : State → Type 0
SmallIn s = Small s.core.trying

judging_small : KeptByJudging SmallIn
judging_small = record { wait = λ s r w k h. h; zeroed = λ s r h. h }

echo_small : KeptByEcho SmallIn
echo_small = record { place = λ s i h. h; cancelled = λ s h. tt }

ending_small : (t : Table) (p : Prices) → KeptByEnding t p SmallIn
ending_small t p = record { judging = judging_small; place = λ s i h. h; full = λ s u h. h }

counted_small : (t : Table) (p : Prices) (n : ℕ) (s : State) (y : Trying) → SmallIn s → Small y → SmallIn (counted t p n s y)
unfolding counted
counted_small t p n s None h g = h
counted_small t p n s (Some y) h g =
    pick SmallIn (try_over (y.frames + n) y.calls) (end_kept t p SmallIn (ending_small t p) (cancel_try s) y.rung.0 (y.frames + n) tt) g

module _ (t : Table) (p : Prices) (two : Two t) where
  decided_small : (s : State) (y : Trying) → SmallIn s → SmallIn (decide_try t p s y).state
  decided_small s None h = pick (λ (d : Decided). SmallIn d.state) (begins t p s) (two (suc s.core.place.0)) h
  decided_small s (Some y) h = pick SmallIn (usable t s (suc s.core.place.0) && eqb (above t s) y.rung.0) h tt

  decide_small : (s : State) → SmallIn s → SmallIn (decide t p s).state
  unfolding decide
  decide_small s h = go (choose t p s)
    where
      go : (b : Best) → SmallIn (decide_at t p s b).state
      go None = tt
      go (Some b) = decided_small (with_place s b.place.0) s.core.trying h

  frames_small : (s : State) (fs : List Frame) (snr : Reading) → SmallIn s → SmallIn (observe_frames t p s fs snr).state
  unfolding observe_frames inside booked
  frames_small s [] snr h = h
  frames_small s (f ∷ fs) snr h =
      let b = judged t p (observe_snr s snr) (f ∷ fs) in
      let j : SmallIn b = above_kept t p SmallIn judging_small 32 0 (f ∷ fs) (booked t (observe_snr s snr) (f ∷ fs)) h in
      decide_small (inside t p s (f ∷ fs) snr) (counted_small t p (own_frames (f ∷ fs) b.core.trying) b b.core.trying j j)

  seed_small : (s : State) (snr : Float) → SmallIn s → SmallIn (seed t p s snr)
  seed_small s snr h = seed_kept t p SmallIn echo_small s snr h h

  shared_small : (s : State) (share : Reading) (snr : Float) → SmallIn s → SmallIn (observe_echo t p s share snr)
  unfolding observe_echo
  shared_small s None snr h = h
  shared_small s (Some x) snr h = echo_kept t p SmallIn echo_small s x snr h h

accepted_small : (k : RateController) (c : Call) → Two k.table → SmallIn k.state → SmallIn (accepted k c).controller.state
unfolding accepted silent
accepted_small k (Frames fs snr) two h = frames_small k.table k.prices two k.state fs snr h
accepted_small k (Echo share snr) two h = shared_small k.table k.prices two k.state share snr h
accepted_small k (Silence steps) two h = tt
accepted_small k (Snr snr) two h = h
accepted_small k (Seed snr) two h = seed_small k.table k.prices two k.state snr h
accepted_small k (Price floor ordinary gap bursts) two h = h
accepted_small k (Family own other) two h = h

step_small : (k : RateController) (c : Call) → Two k.table → SmallIn k.state → SmallIn (step k c).controller.state
step_small k c two h = by_verdict k c (λ (a : Answer). SmallIn a.controller.state) (λ e. accepted_small k c two h) (λ why. h)

step_two : (k : RateController) (c : Call) → Two k.table → Two (step k c).controller.table
step_two k c two = subst Two (sym (table_kept k c)) two

-- ---- the fresh controllers: the two airs' fronts
two_at : (l : List Rung) → T (every (λ (r : Rung). ltb r.0 100) l) → (i : ℕ) → (get_or l i (rung 0)).0 < 100
two_at [] h i = omega arith
two_at (r ∷ rs) h zero = ltb→lt r.0 100 (and_l (ltb r.0 100) (every (λ (q : Rung). ltb q.0 100) rs) h)
two_at (r ∷ rs) h (suc i) = two_at rs (and_r (ltb r.0 100) (every (λ (q : Rung). ltb q.0 100) rs) h) i

wide_two : Two (for_air (table_of wide_air) true)
unfolding beaten front_of table_of rows_of of_bits of_int neg add sub mul div lt le round
wide_two = two_at (table_of wide_air).front.rungs tt

narrow_two : Two (for_air (table_of narrow_air) false)
unfolding beaten front_of table_of rows_of of_bits of_int neg add sub mul div lt le round
narrow_two = two_at (table_of narrow_air).front.rungs tt

fresh_two : (n : ℕ) → Two (fresh_for n).table
unfolding fresh_for
fresh_two n = pick (λ (k : RateController). Two k.table) (n == 1) wide_two narrow_two

fresh_small : (n : ℕ) → SmallIn (fresh_for n).state
unfolding fresh_for
fresh_small n = pick (λ (k : RateController). SmallIn k.state) (n == 1) tt tt

-- ---- all lines
-- room for n lines, the first of which is event e
room_for : ℕ → ℕ → ℕ
room_for zero e = 0
room_for (suc n) e = length (decimal e) + 13 + room_for n (suc e)

room_more : (n m e : ℕ) → n ≤ m → room_for n e ≤ room_for m e
unfolding room_for
room_more zero m e h = omega arith
room_more (suc n) zero e h = absurd (omega arith)
room_more (suc n) (suc m) e h = omega (arith, room_more n m (suc e) (omega arith))

thousand : room_for 1000 1 ≡ 15893
unfolding decimal digits room_for
thousand = refl

lines_fit : (k : RateController) (e : ℕ) (cs : List Call) → Two k.table → SmallIn k.state → length (lines_from k e cs) ≤ room_for (length cs) e
unfolding lines_from room_for
lines_fit k e [] two h = omega arith
lines_fit k e (c ∷ cs) two h =
    let a = step k c in
    let t = step_two k c two in
    let s = step_small k c two h in
    omega (
      arith,
      length-append (line_bytes e (line_of a)) (lines_from a.controller (suc e) cs),
      line_fits e a t s,
      lines_fit a.controller (suc e) cs t s,
    )

sheet_fits : (s : List ℕ) → file_verdict s ≡ Ok tt → length (sheet_of s) ≤ 15893
unfolding sheet_of calls_of
sheet_fits s e =
    let k = fresh_for (air s) in
    omega (
      arith,
      lines_fit k 1 (calls_of s) (fresh_two (air s)) (fresh_small (air s)),
      length_tabulate (event_count s) 0 (call_at s),
      room_more (length (calls_of s)) 1000 1 (omega (arith, length_tabulate (event_count s) 0 (call_at s), few_events s e)),
      thousand,
    )

pub enough_room : (s out : List ℕ) → EnoughRoom s out
unfolding sheet_verdict
enough_room s out h = go (file_verdict s) refl
  where
    go : (v : Verdict) → file_verdict s ≡ v → or_else v (room_verdict s out) ≡ v
    go (Ok _) e = rw (le-leb (length (sheet_of s)) (length out) (omega (arith, sheet_fits s e))) refl
    go (Err why) e = refl
