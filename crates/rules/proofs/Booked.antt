-- One pass over the frames gathers what the definitions' passes give each: the fold of the step is the parts of the folds. The sums and counts start where a pass
-- stands, so that each part goes by induction over the frames. The accounts are those of the code's own fold, by factors that are kept. Assumes nothing.
use mathlib.Core.Path.{◌≡◌, refl, sym, ap, ◌∙◌}
use mathlib.Core.Bool.{Bool, true, false, not, ◌&&◌, ◌||◌, cond, or-false, or_assoc, and-true, and_assoc}
use mathlib.Core.List.{List, [], ◌∷◌, foldl}
use Prim.Native.Nat.{ℕ, suc, ◌+◌, ◌≤◌, ◌<◌, min}
use native.Mathlib.Nat.{zero-add}
use native.Mathlib.Omega.{arith}
use native.Mathlib.Decide.{dec_lt}
use lib.Dec.{ltb, eqb}
use borrow.Author.Tests.{lt-ltb, le-ltb, le-leb, ne_eqb}
use Rattle.float.specs.Sum.{total}
use Rattle.limits.specs.Readings.{Reading}
use Rattle.std.specs.Prelude.{Option, None, Some, unwrap_or}
use Rattle.std.specs.Option.{option_map_or}
use Rattle.ladder.specs.declared.types.Rung.{Rung}
use Rattle.ladder.specs.declared.types.Table.{Table}
use Rattle.ladder.specs.Lists.{every}
use Rattle.ladder.specs.Types.{rung, is_floor}
use Rattle.account.specs.declared.types.Account.{Account}
use Rattle.account.specs.declared.types.Core.{Core}
use Rattle.account.specs.declared.types.Offsets.{Offsets}
use Rattle.account.specs.declared.types.Prices.{Prices}
use Rattle.account.specs.declared.types.State.{State}
use Rattle.account.specs.State.{Trying, choice, try_of}
use Rattle.rules.specs.Lists.{some_of, how_many}
use Rattle.rules.specs.Echo.{observe_snr}
use Rattle.rules.specs.Booking.{Frame, at, call_air, offsets_at, offsets_after, book, ofdm, judge_family, airs, sent, clean_mark, booked}
use Rattle.rules.specs.Tries.{judge_above, own_frames, end_probe, counted, decide}
use Rattle.rules.specs.bridges.Sets.{in_set}
use Rattle.rules.specs.bridges.Ageing.{accounts_by}
use Rattle.rules.specs.bridges.Pass.{Fades, Kept, Pass, Marks, add_rung, offsets_by, mark_family, mark_choice, family_mark, choice_mark, count_own, begin_pass, here_of, pass_step, pass_all, booked_accounts, finish_pass, judged_pass, decided_pass}
use Rattle.rules.specs.Transmission.{judged, inside}
use Rattle.rules.proofs.Keeping.{books_kept}
use Rattle.rules.proofs.Set.{adds, none_in, judge_frames}
use Rattle.rules.proofs.Trying.{judged_keeps_try}

-- ---- the parts
offsets_none : (t : Table) (snr : Reading) (o : Offsets) → offsets_at t snr [] o ≡ o
offsets_none t None o = refl
offsets_none t (Some snr) o = refl

offsets_step : (t : Table) (snr : Reading) (f : Frame) (fs : List Frame) (o : Offsets)
    → offsets_at t snr fs (offsets_by t snr f o) ≡ offsets_at t snr (f ∷ fs) o
offsets_step t None f fs o = refl
offsets_step t (Some snr) f fs o = refl

-- the set of the rungs sent, and the count of a try's own frames, up to 3
abbrev rungs_from : ℕ → List Frame → ℕ
rungs_from = foldl (λ set f. add_rung set f.rung.0)

abbrev count_from : Trying → ℕ → List Frame → ℕ
count_from y = foldl (λ n f. count_own y f n)

-- decoded alone, if it went at the choice
abbrev clean : ℕ → Frame → Bool
clean here f = not (at here f) || (f.decoded && not f.combined)

abbrev heard_of : Table → Frame → Bool
heard_of t f = ofdm t f && f.decoded

-- of the frames of a family or at the choice, if there was one: by whether one more is there, and what it and its like say
abbrev heard_from : Bool → Bool → Option Bool → Option Bool
heard_from p q h = cond p (Some (unwrap_or h false || q)) h

abbrev alone_from : Bool → Bool → Option Bool → Option Bool
alone_from p q h = cond p (Some (unwrap_or h true && q)) h

abbrev marks_from : Table → ℕ → List Frame → Marks → Marks
marks_from t here fs m =
    record { heard = heard_from (some_of (ofdm t) fs) (some_of (heard_of t) fs) m.heard; alone = alone_from (sent fs here) (every (clean here) fs) m.alone }

-- none is heard where none was sent, and each is decoded alone where none went
none_heard : (t : Table) (fs : List Frame) → some_of (ofdm t) fs ≡ false → some_of (heard_of t) fs ≡ false
none_heard t [] e = refl
none_heard t (f ∷ fs) e = go (is_floor t f.rung.0) (some_of (ofdm t) fs) (none_heard t fs) e
  where
    go : (a p : Bool) → (p ≡ false → some_of (heard_of t) fs ≡ false) → (not a || p) ≡ false → (not a && f.decoded || some_of (heard_of t) fs) ≡ false
    go true p h e = h e
    go false p h e = let z : ◌≡◌ {A = ℕ} 1 0 = ap (λ (b : Bool). cond b 1 0) e in absurd (omega arith)

all_clean : (here : ℕ) (fs : List Frame) → sent fs here ≡ false → every (clean here) fs ≡ true
all_clean here [] e = refl
all_clean here (f ∷ fs) e = go (at here f) (sent fs here) (all_clean here fs) e
  where
    go : (b p : Bool) → (p ≡ false → every (clean here) fs ≡ true) → (b || p) ≡ false → ((not b || (f.decoded && not f.combined)) && every (clean here) fs) ≡ true
    go true p h e = let z : ◌≡◌ {A = ℕ} 1 0 = ap (λ (b : Bool). cond b 1 0) e in absurd (omega arith)
    go false p h e = h e

-- a frame's own marks, and those of the frames after it
heard_step : (t : Table) (f : Frame) (fs : List Frame) (h : Option Bool)
    → heard_from (some_of (ofdm t) fs) (some_of (heard_of t) fs) (cond (is_floor t f.rung.0) h (Some (unwrap_or h false || f.decoded)))
    ≡ heard_from (some_of (ofdm t) (f ∷ fs)) (some_of (heard_of t) (f ∷ fs)) h
heard_step t f fs h = go (is_floor t f.rung.0) (some_of (ofdm t) fs) (some_of (heard_of t) fs) (none_heard t fs)
  where
    go : (a p q : Bool) → (p ≡ false → q ≡ false)
        → heard_from p q (cond a h (Some (unwrap_or h false || f.decoded))) ≡ heard_from (not a || p) (not a && f.decoded || q) h
    go true p q n = refl
    go false true q n = rw (or_assoc (unwrap_or h false) f.decoded q) refl
    go false false q n = rw (n refl, or-false f.decoded) refl

alone_step : (here : ℕ) (f : Frame) (fs : List Frame) (h : Option Bool)
    → alone_from (sent fs here) (every (clean here) fs) (cond (at here f) (Some (unwrap_or h true && (f.decoded && not f.combined))) h)
    ≡ alone_from (sent (f ∷ fs) here) (every (clean here) (f ∷ fs)) h
alone_step here f fs h = go (at here f) (sent fs here) (every (clean here) fs) (all_clean here fs)
  where
    go : (b p q : Bool) → (p ≡ false → q ≡ true)
        → alone_from p q (cond b (Some (unwrap_or h true && (f.decoded && not f.combined))) h) ≡ alone_from (b || p) ((not b || (f.decoded && not f.combined)) && q) h
    go true true q n = rw (and_assoc (unwrap_or h true) (f.decoded && not f.combined) q) refl
    go true false q n = rw (n refl, and-true (f.decoded && not f.combined)) refl
    go false p q n = refl

abbrev marks : Option Bool → Option Bool → Marks
marks h a = record { heard = h; alone = a }

both : {h h' a a' : Option Bool} → h ≡ h' → a ≡ a' → marks h a ≡ marks h' a'
both p q = rw (p, q) refl

marks_step : (t : Table) (here : ℕ) (f : Frame) (fs : List Frame) (m : Marks)
    → marks_from t here fs (mark_choice here f (mark_family t f m)) ≡ marks_from t here (f ∷ fs) m
marks_step t here f fs m = go (is_floor t f.rung.0) (at here f) (heard_step t f fs m.heard) (alone_step here f fs m.alone)
  where
    go : (a b : Bool)
        → heard_from (some_of (ofdm t) fs) (some_of (heard_of t) fs) (cond a m.heard (Some (unwrap_or m.heard false || f.decoded))) ≡ (marks_from t here (f ∷ fs) m).heard
        → alone_from (sent fs here) (every (clean here) fs) (cond b (Some (unwrap_or m.alone true && (f.decoded && not f.combined))) m.alone) ≡ (marks_from t here (f ∷ fs) m).alone
        → marks_from t here fs (cond b (record (cond a m (record m { heard = Some (unwrap_or m.heard false || f.decoded) })) { alone = Some (unwrap_or (cond a m (record m { heard = Some (unwrap_or m.heard false || f.decoded) })).alone true && (f.decoded && not f.combined)) }) (cond a m (record m { heard = Some (unwrap_or m.heard false || f.decoded) })))
        ≡ marks_from t here (f ∷ fs) m
    go true true h k = both h k
    go true false h k = both h k
    go false true h k = both h k
    go false false h k = both h k

-- ---- the whole
-- what the folds make of a pass
abbrev gathered : Table → Core → Pass → List Frame → Pass
gathered t c y fs = record {
  sent = rungs_from y.sent fs;
  offsets = offsets_at t c.snr fs y.offsets;
  air = total y.air (airs fs);
  own = count_from c.trying y.own fs;
  marks = marks_from t (here_of t c) fs y.marks;
}

gathered_none : (t : Table) (c : Core) (y : Pass) → y ≡ gathered t c y []
unfolding total
gathered_none t c y =
    rw (offsets_none t c.snr y.offsets) refl

gathered_step : (t : Table) (c : Core) (y : Pass) (f : Frame) (fs : List Frame) → gathered t c (pass_step t c y f) fs ≡ gathered t c y (f ∷ fs)
unfolding total pass_step
gathered_step t c y f fs = rw (offsets_step t c.snr f fs y.offsets, marks_step t (here_of t c) f fs y.marks) refl

-- the fold of the step is the parts of the folds
gathers : (t : Table) (c : Core) (y : Pass) (fs : List Frame) → pass_all t c y fs ≡ gathered t c y fs
gathers t c y [] = gathered_none t c y
gathers t c y (f ∷ fs) = gathers t c (pass_step t c y f) fs ∙ gathered_step t c y f fs

-- ---- a pass from its beginning: what each part of it gathers
module _ (t : Table) (s : State) (fs : List Frame) where
  abbrev gather : Pass
  gather = pass_all t s.core (begin_pass s.core) fs

  pub offsets_moved : gather.offsets ≡ offsets_after t s fs
  unfolding offsets_after
  offsets_moved = ap (λ (y : Pass). y.offsets) (gathers t s.core (begin_pass s.core) fs)

  pub air_summed : gather.air ≡ call_air fs
  air_summed = ap (λ (y : Pass). y.air) (gathers t s.core (begin_pass s.core) fs)

  pub family_judged : family_mark gather.marks s.core.failed ≡ judge_family t fs s.core.failed
  unfolding judge_family
  family_judged = ap (λ (y : Pass). family_mark y.marks s.core.failed) (gathers t s.core (begin_pass s.core) fs) ∙ go (some_of (ofdm t) fs) (some_of (heard_of t) fs)
    where
      go : (p q : Bool) → option_map_or not (heard_from p q None) s.core.failed ≡ cond p (not q) s.core.failed
      go true q = refl
      go false q = refl

  pub clean_marked : choice_mark gather.marks (rung (here_of t s.core)) ≡ clean_mark (choice t s) fs
  unfolding clean_mark
  clean_marked = ap (λ (y : Pass). choice_mark y.marks (rung (here_of t s.core))) (gathers t s.core (begin_pass s.core) fs) ∙ go (sent fs (choice t s)) (every (clean (choice t s)) fs)
    where
      go : (p q : Bool) → cond (unwrap_or (alone_from p q None) false) (Some (rung (here_of t s.core))) None ≡ cond (p && q) (Some (rung (choice t s))) None
      go true q = refl
      go false q = refl

  -- with the accounts booked by the definitions, what it leaves is the state that they book
  pub rest_booked : finish_pass t (booked_accounts t fs s) gather ≡ booked t s fs
  unfolding finish_pass booked
  rest_booked = rw (offsets_moved, air_summed, family_judged, clean_marked) refl

-- ---- with the accounts that it leaves itself, by factors that are kept
module _ (t : Table) (d : Fades) (kept : Kept t d) (s : State) (fs : List Frame) where
  pub accounts_booked : (accounts_by t d fs s).accounts ≡ book t fs s.accounts
  accounts_booked = books_kept t d fs s.accounts kept

  -- the state after it is the one that the definitions book
  pub pass_books : finish_pass t (accounts_by t d fs s) (pass_all t s.core (begin_pass s.core) fs) ≡ booked t s fs
  pass_books = ap (λ (l : List Account). finish_pass t (record s { accounts = l }) (pass_all t s.core (begin_pass s.core) fs)) accounts_booked ∙ rest_booked t s fs

-- ---- the set of rungs sent
add_rung_lem : (set q r : ℕ) → r < 32 → in_set (add_rung set q) r ≡ (eqb q r || in_set set r)
add_rung_lem set q r h =
    elim (dec_lt q 32) [
      | yes l ↦ rw (lt-ltb q 32 l) (adds set q r)
      | no l ↦ let g : 32 ≤ q = omega arith in rw (le-ltb q 32 g, ne_eqb q r (λ e. omega arith)) refl
    ]

rungs_from_lem : (set : ℕ) (fs : List Frame) (r : ℕ) → r < 32 → in_set (rungs_from set fs) r ≡ (sent fs r || in_set set r)
rungs_from_lem set [] r h = refl
rungs_from_lem set (f ∷ fs) r h =
    rungs_from_lem (add_rung set f.rung.0) fs r h ∙ ap (λ (b : Bool). sent fs r || b) (add_rung_lem set f.rung.0 r h) ∙ go (sent fs r) (at r f)
  where
    go : (a b : Bool) → (a || (b || in_set set r)) ≡ (b || a || in_set set r)
    go true true = refl
    go true false = refl
    go false true = refl
    go false false = refl

pub rungs_sent : (t : Table) (s : State) (fs : List Frame) (r : ℕ) → r < 32 → in_set (pass_all t s.core (begin_pass s.core) fs).sent r ≡ sent fs r
rungs_sent t s fs r h = rw (gathers t s.core (begin_pass s.core) fs) (rungs_from_lem 0 fs r h ∙ rw (none_in r) (or-false (sent fs r)))

-- ---- the try's own frames, counted up to 3
counts_none : (n : ℕ) (fs : List Frame) → count_from None n fs ≡ n
counts_none n [] = refl
counts_none n (f ∷ fs) = counts_none n fs

counts : (r : Rung) (calls frames n : ℕ) (fs : List Frame) → n ≤ 3 → count_from (try_of r calls frames) n fs ≡ min 3 (n + how_many (at r.0) fs)
counts r calls frames n [] h = omega arith
counts r calls frames n (f ∷ fs) h = go (at r.0 f) (λ k l. counts r calls frames k fs l)
  where
    go : (b : Bool)
        → ((k : ℕ) → k ≤ 3 → count_from (try_of r calls frames) k fs ≡ min 3 (k + how_many (at r.0) fs))
        → count_from (try_of r calls frames) (cond b (cond (ltb n 3) (suc n) n) n) fs ≡ min 3 (n + cond b (suc (how_many (at r.0) fs)) (how_many (at r.0) fs))
    go true more =
        elim (dec_lt n 3) [
          | yes l ↦ rw (lt-ltb n 3 l) (more (suc n) l ∙ omega arith)
          | no l ↦ let g : 3 ≤ n = omega arith in rw (le-ltb n 3 g) (more n h ∙ omega arith)
        ]
    go false more = more n h

own_from : (y : Trying) (fs : List Frame) → count_from y 0 fs ≡ min 3 (own_frames fs y)
own_from None fs = counts_none 0 fs
own_from (Some y) fs = counts y.rung y.calls y.frames 0 fs (omega arith) ∙ ap (min 3) (zero-add (how_many (at y.rung.0) fs))

pub own_counted : (t : Table) (s : State) (fs : List Frame) → (pass_all t s.core (begin_pass s.core) fs).own ≡ min 3 (own_frames fs s.core.trying)
own_counted t s fs = rw (gathers t s.core (begin_pass s.core) fs) (own_from s.core.trying fs)

-- which is all that the end of a try asks of the count
pub counted_to_3 : (t : Table) (p : Prices) (n : ℕ) (s : State) (y : Trying) → counted t p (min 3 n) s y ≡ counted t p n s y
unfolding counted end_probe
counted_to_3 t p n s None = refl
counted_to_3 t p n s (Some y) =
    elim (dec_lt n 3) [
      | yes l ↦ let q : min 3 n ≡ n = omega arith in rw q refl
      | no l ↦
          let q : min 3 n ≡ 3 = omega arith in
          let g : 3 ≤ y.frames + n = omega arith in
          rw (q, le-leb 3 (y.frames + 3) (omega arith), le-leb 3 (y.frames + n) g, ne_eqb (y.frames + 3) 0 (λ e. omega arith), ne_eqb (y.frames + n) 0 (λ e. omega arith)) refl
    ]

-- ---- after the pass: judging the set of rungs sent, and counting the try, is judging and counting by the frames
module _ (t : Table) (p : Prices) (d : Fades) (kept : Kept t d) (s : State) (fs : List Frame) where
  abbrev y : Pass
  y = pass_all t s.core (begin_pass s.core) fs

  pub sent_judged : judged_pass t p (accounts_by t d fs s) y ≡ judged t p s fs
  sent_judged = judge_frames t p fs _ _ (rungs_sent t s fs) ∙ ap (judge_above 32 0 t p fs) (pass_books t d kept s fs)

  try_counted : counted t p y.own (judged t p s fs) (judged t p s fs).core.trying ≡ counted t p (own_frames fs (judged t p s fs).core.trying) (judged t p s fs) (judged t p s fs).core.trying
  try_counted =
      let b = judged t p s fs in
      let q : y.own ≡ min 3 (own_frames fs b.core.trying) = own_counted t s fs ∙ ap (λ (x : Trying). min 3 (own_frames fs x)) (sym (judged_keeps_try t p s fs)) in
      ap (λ (n : ℕ). counted t p n b b.core.trying) q ∙ counted_to_3 t p (own_frames fs b.core.trying) b b.core.trying

-- what `decide` is given, by the pass alone: y is what is gathered of the frames, the SNR being smoothed already, and b the state with the sent rungs judged
pub pass_inside : (t : Table) (p : Prices) (d : Fades) (kept : Kept t d) (s : State) (fs : List Frame) (snr : Reading) (y : Pass) (b : State)
    → let z = observe_snr s snr in y ≡ pass_all t z.core (begin_pass z.core) fs → b ≡ judged_pass t p (accounts_by t d fs z) y
    → counted t p y.own b b.core.trying ≡ inside t p s fs snr
unfolding inside
pass_inside t p d kept s fs snr y b e q =
    let z = observe_snr s snr in
    let r : b ≡ judged t p z fs = q ∙ ap (judged_pass t p (accounts_by t d fs z)) e ∙ sent_judged t p d kept z fs in
    ap (λ (x : State). counted t p y.own x x.core.trying) r ∙ ap (λ (x : Pass). counted t p x.own (judged t p z fs) (judged t p z fs).core.trying) e ∙ try_counted t p d kept z fs

-- so what is decided after the pass is what the rules decide
pub decided : (t : Table) (p : Prices) (d : Fades) (kept : Kept t d) (s : State) (fs : List Frame) (snr : Reading)
    → let z = observe_snr s snr in decided_pass t p (accounts_by t d fs z) (pass_all t z.core (begin_pass z.core) fs) ≡ decide t p (inside t p s fs snr)
unfolding decided_pass
decided t p d kept s fs snr = let z = observe_snr s snr in ap (decide t p) (pass_inside t p d kept s fs snr (pass_all t z.core (begin_pass z.core) fs) _ refl refl)
