-- A field, an event's line and a sheet while they are written: what stands in the slice after each piece, and what is left. Assumes nothing.
use Rattle.std.proofs.Common.{◌≡◌, ◌≤◌, ◌<◌, ◌+◌, ◌-◌, ℕ, List, ◌∷◌, length, get_or, take, drop, Ok, Err, ap, refl, ◌∙◌, arith}
use lib.ListN.{set}
use borrow.Rule.Slice.PartMut.{put_mid}
use Rattle.limits.specs.Refusals.{refusal_number}
use Rattle.limits.specs.declared.refusal.Refusal.{Refusal}
use Rattle.question.specs.Over.{over}
use Rattle.question.proofs.Over.{Over, put, Partly, next_length, partly_first, partly_next, partly_end, partly_last, last_room, piece_fits, piece_room}
use Rattle.paper.specs.Lines.{Number, Word, decimal, ended, cells_bytes}
use Rattle.paper.specs.Sheet.{Line, Outcome, tried_cell, line_bytes, refused_bytes}
use Rattle.paper.specs.bridges.Said.{flag_cells, text_from}
use Rattle.paper.proofs.Pieces.{row_two, length_refused, ended_is, ended_length, choice_next, tried_next, flags_next, refused_next}
use Rattle.paper.proofs.Said.{text_next, text_end}

-- what is lent of a slice from a place on, and the slice once it is back as `part`
abbrev pub lent : ℕ → List ℕ → List ℕ
lent k new = take (length new - k) (drop k new)

abbrev pub put_back : ℕ → List ℕ → List ℕ → List ℕ
put_back k new part = put_mid k (length new - k) new part

-- ---- of a field: the byte after the number
pub ended_put : (n e k : ℕ) (old new : List ℕ) → k ≡ length (decimal n) → new ≡ over (decimal n) old → length (ended (Number n) e) ≤ length old → set new k e ≡ over (ended (Number n) e) old
ended_put n e k old new at is room =
    let fits : length (decimal n) < length old = omega (arith, ended_length (Number n) e) in
    let number : Over (decimal n) old k new = record { at = at; is = is; room = omega arith } in
    (put number e fits).is ∙ ap (λ l. over l old) (ended_is (Number n) e)

-- ---- of a refusal, after the word
module _ (why : Refusal) (out : List ℕ) (fits : length (refused_bytes why) ≤ length out) {k : ℕ} {new : List ℕ} (wrote : k ≡ length (ended Word 32)) (left : new ≡ over (ended Word 32) out) where
  word : Partly (refused_bytes why) (ended (Number (refusal_number why)) 10) out k new
  unfolding ended refused_bytes
  word = partly_first (row_two Word (Number (refusal_number why))) out new k (omega (arith, fits, length_refused why)) wrote left

  pub word_whole : (part : List ℕ) → part ≡ over (ended (Number (refusal_number why)) 10) (lent k new) → put_back k new part ≡ over (refused_bytes why) out
  word_whole part f = (partly_last word part _ fits refl f).1

-- ---- of a refused event
module _ (event : ℕ) (why : Refusal) (out : List ℕ) (fits : length (line_bytes event (Err why)) ≤ length out) {k : ℕ} {new : List ℕ} (wrote : k ≡ length (ended (Number event) 32)) (left : new ≡ over (ended (Number event) 32) out) where
  pub told : Partly (line_bytes event (Err why)) (refused_bytes why) out k new
  told = partly_first (refused_next event why) out new k (omega (arith, fits, next_length (refused_next event why))) wrote left

  pub told_whole : (part : List ℕ) → part ≡ over (refused_bytes why) (lent k new) → put_back k new part ≡ over (line_bytes event (Err why)) out
  told_whole part f = (partly_last told part _ fits refl f).1

-- ---- of an answered event
module _ (event : ℕ) (o : Outcome) (out : List ℕ) (fits : length (line_bytes event (Ok o)) ≤ length out) where
  -- the slice after the event
  module _ {k : ℕ} {new : List ℕ} (wrote : k ≡ length (ended (Number event) 32)) (left : new ≡ over (ended (Number event) 32) out) where
    pub one : Partly (line_bytes event (Ok o)) (cells_bytes (Number o.choice.0 ∷ tried_cell o.tried ∷ flag_cells o)) out k new
    one = partly_first (choice_next event o) out new k (omega (arith, fits, next_length (choice_next event o))) wrote left

    -- after the choice
    module _ {r : ℕ} {part : List ℕ} (more : r ≡ length (ended (Number o.choice.0) 32)) (then : part ≡ over (ended (Number o.choice.0) 32) (lent k new)) where
      pub two : Partly (line_bytes event (Ok o)) (cells_bytes (tried_cell o.tried ∷ flag_cells o)) out (k + r) (put_back k new part)
      two = partly_next one (tried_next event o) (piece_fits one fits (tried_next event o)) part r more then

      -- after the tried rung
      module _ {s : ℕ} {last : List ℕ} (still : s ≡ length (ended (tried_cell o.tried) 32)) (now : last ≡ over (ended (tried_cell o.tried) 32) (lent (k + r) (put_back k new part))) where
        pub three : Partly (line_bytes event (Ok o)) (cells_bytes (flag_cells o)) out (k + r + s) (put_back (k + r) (put_back k new part) last)
        three = partly_next two (flags_next event o) (piece_fits two fits (flags_next event o)) last s still now

        -- the flags, which are the last piece
        pub flags_room : length (cells_bytes (flag_cells o)) ≤ length (lent (k + r + s) (put_back (k + r) (put_back k new part) last))
        flags_room = last_room three fits

        pub flags_whole : (end : List ℕ) → end ≡ over (cells_bytes (flag_cells o)) (lent (k + r + s) (put_back (k + r) (put_back k new part) last)) → put_back (k + r + s) (put_back (k + r) (put_back k new part) last) end ≡ over (line_bytes event (Ok o)) out
        flags_whole end f = (partly_last three end _ fits refl f).1

-- ---- of a sheet: the lines below the i-th are written, and e is the number of the next; d is any default
module _ (ls : List Line) (i e : ℕ) {len : ℕ} {old new : List ℕ} (w : Partly (text_from 1 ls) (text_from e (drop i ls)) old len new) where
  module _ (d : Line) (h : i < length ls) (room : length (text_from 1 ls) ≤ length old) where
    pub line_fits : len + length (line_bytes e (get_or ls i d)) ≤ length old
    line_fits = piece_fits w room (text_next ls i d e h)

    pub line_room : length (line_bytes e (get_or ls i d)) ≤ length (lent len new)
    line_room = piece_room w room (text_next ls i d e h)

    pub line_written : (part : List ℕ) (r : ℕ) → r ≡ length (line_bytes e (get_or ls i d)) → part ≡ over (line_bytes e (get_or ls i d)) (lent len new)
        → Partly (text_from 1 ls) (text_from (e + 1) (drop (i + 1) ls)) old (len + r) (put_back len new part)
    line_written = partly_next w (text_next ls i d e h) line_fits

  pub lines_written : length ls ≤ i → (len ≡ length (text_from 1 ls)) × (new ≡ over (text_from 1 ls) old)
  lines_written h = partly_end w (text_end ls i e h)
