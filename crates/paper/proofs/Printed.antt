-- What the program prints of a file, from what the sheet call answered and left; a buffer with room for the line of a refused file holds all of it.
-- Assumes nothing.
use Rattle.std.specs.Prelude.{◌≡◌, ℕ, ◌≤◌, leb, List, length, Ok, Err}
use mathlib.Core.Path.{refl, sym, ap, ◌∙◌}
use native.Mathlib.Omega.{arith}
use borrow.Author.Tests.{le-leb}
use lib.Dec.{leb→le}
use Rattle.limits.specs.Refusals.{unless, Verdict}
use Rattle.limits.specs.declared.refusal.Refusal.{Refusal}
use Rattle.limits.specs.declared.refusal.Refusal.TheVariants.{ColumnSize, ColumnsDiffer, TableValue, FloorCount, EmptyFront, UnknownRung, TooManyFrames, OutsideLimits, TooManyBursts, FileHeader, FilePairs, FileBody, SheetRoom, AnswerCount}
use Rattle.limits.proofs.Verdicts.{or_else_lem, unless_not}
use Rattle.question.specs.File.{file_verdict}
use Rattle.paper.specs.Lines.{digits, decimal, ended, cells_bytes}
use Rattle.question.specs.Over.{over}
use Rattle.paper.specs.Sheet.{refused_bytes, sheet_of, sheet_verdict, sheet_by, sheet_answer, left_by, sheet_left, printed_by, printed, fitting, printed_in}

-- a text that has room is held whole
pub fits : (text out : List ℕ) → length text ≤ length out → fitting text out ≡ text
unfolding fitting
fits text out h = rw (le-leb (length text) (length out) h)

-- an accepted sheet has room
sheet_room : (s out : List ℕ) → sheet_verdict s out ≡ Ok tt → length (sheet_of s) ≤ length out
unfolding sheet_verdict
sheet_room s out e =
    leb→le (length (sheet_of s)) (length out)
    (unless_not (leb (length (sheet_of s)) (length out)) SheetRoom (or_else_lem (file_verdict s) (unless (leb (length (sheet_of s)) (length out)) SheetRoom) e).1)

-- new is what the sheet call left, n and why what it answered
module _ (s out new : List ℕ) (left : new ≡ sheet_left s out) where
  pub printed_sheet : (n : ℕ) → Ok n ≡ sheet_answer s out → (n ≡ length (printed_in s out)) × (new ≡ over (printed_in s out) out)
  unfolding sheet_answer sheet_left printed_in printed
  printed_sheet n e = go (sheet_verdict s out) refl
    where
      go : (v : Verdict) → sheet_verdict s out ≡ v → (n ≡ length (printed_in s out)) × (new ≡ over (printed_in s out) out)
      go (Ok tt) q =
          let is : printed_in s out ≡ sheet_of s = rw q (fits (sheet_of s) out (sheet_room s out q)) in
          let length-is : Ok n ≡ Ok (length (sheet_of s)) = e ∙ ap (sheet_by s) q in
          let n-is : n ≡ length (sheet_of s) = cc in
          (n-is ∙ ap length (sym is), left ∙ ap (left_by s out) q ∙ ap (λ text. over text out) (sym is))
      go (Err why) q = let z : ◌≡◌ {A = ℕ} 0 1 = cc (e ∙ ap (sheet_by s) q) in absurd (omega arith)

  refused_text : (why : Refusal) → Err why ≡ sheet_answer s out → (fitting (refused_bytes why) new ≡ printed_in s out) × (new ≡ out)
  unfolding sheet_answer sheet_left printed_in printed
  refused_text why e = go (sheet_verdict s out) refl
    where
      go : (v : Verdict) → sheet_verdict s out ≡ v → (fitting (refused_bytes why) new ≡ printed_in s out) × (new ≡ out)
      go (Ok _) q = let z : ◌≡◌ {A = ℕ} 0 1 = cc (e ∙ ap (sheet_by s) q) in absurd (omega arith)
      go (Err y) q =
          let why-is : Err why ≡ Err y = e ∙ ap (sheet_by s) q in
          let same : why ≡ y = cc in
          let kept : new ≡ out = left ∙ ap (left_by s out) q in
          (rw (q, kept, same), kept)

  -- r and last are what the writer of the line answered and left
  pub printed_refused : (why : Refusal) (r : ℕ) (last : List ℕ) → Err why ≡ sheet_answer s out → r ≡ length (fitting (refused_bytes why) new) → last ≡ over (fitting (refused_bytes why) new) new
      → (r ≡ length (printed_in s out)) × (last ≡ over (printed_in s out) out)
  printed_refused why r last e f g =
      let p = refused_text why e in
      (f ∙ ap length p.0, g ∙ ap (λ text. over text new) p.0 ∙ ap (over (printed_in s out)) p.1)

-- ---- the line of a refused file is short
short_line : (why : Refusal) → length (refused_bytes why) ≤ 11
unfolding refused_bytes cells_bytes ended decimal digits
short_line ColumnSize = omega arith
short_line ColumnsDiffer = omega arith
short_line TableValue = omega arith
short_line FloorCount = omega arith
short_line EmptyFront = omega arith
short_line UnknownRung = omega arith
short_line TooManyFrames = omega arith
short_line OutsideLimits = omega arith
short_line TooManyBursts = omega arith
short_line FileHeader = omega arith
short_line FilePairs = omega arith
short_line FileBody = omega arith
short_line SheetRoom = omega arith
short_line AnswerCount = omega arith

-- so a buffer of 11 bytes or more, as the program's 32,768, holds all that is printed
pub printed_whole : (s out : List ℕ) → 11 ≤ length out → printed_in s out ≡ printed s out
unfolding printed_in printed
printed_whole s out h = go (sheet_verdict s out) refl
  where
    go : (v : Verdict) → sheet_verdict s out ≡ v → fitting (printed_by s (sheet_verdict s out)) out ≡ printed_by s (sheet_verdict s out)
    go (Ok _) q = rw q (fits (sheet_of s) out (sheet_room s out q))
    go (Err why) q = rw q (fits (refused_bytes why) out (omega (arith, short_line why)))
