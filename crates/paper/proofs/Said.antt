-- The sheet and the score by what is said of the events alone, and a walk over the lines, at i. Assumes nothing.
use Rattle.std.specs.Prelude.{Ok, Err, ◌≡◌, ℕ, suc, ◌+◌, ◌<◌, ◌≤◌, Bool, true, false, cond, List, [], ◌∷◌, ◌++◌, length, get_or, drop, min}
use mathlib.Core.Path.{refl, ap, ◌∙◌}
use native.Mathlib.Numerals.{add-one}
use native.Mathlib.Omega.{arith}
use lib.ListN.{drop_of_length-le}
use lib.Seq.{drop-cons}
use mathlib.Core.Logic.{◌⊎◌, inl, inr}
use Rattle.std.proofs.lemmas.Bool.{cases_lt}
use Rattle.limits.specs.Refusals.{Verdict}
use Rattle.rate.specs.declared.types.RateController.{RateController}
use Rattle.rate.specs.declared.types.Answer.{Answer}
use Rattle.rate.specs.Calls.{Call, step}
use Rattle.question.specs.File.{event_count}
use Rattle.question.proofs.Over.{Next}
use Rattle.ladder.proofs.Tabulating.{length_tabulate}
use Rattle.paper.specs.Sheet.{Line, Score, call_at, calls_of, line_by, line_of, line_bytes, lines_from, sheet_of, scored_by, scored, score_from, score_of}
use Rattle.paper.specs.bridges.Said.{said_from, said, text_from, scored_line, score_lines}

-- ---- the whole
text_lines : (k : RateController) (e : ℕ) (cs : List Call) → lines_from k e cs ≡ text_from e (said_from k cs)
unfolding lines_from text_from said_from
text_lines k e [] = refl
text_lines k e (c ∷ cs) = ap (λ t. line_bytes e (line_of (step k c)) ++ t) (text_lines (step k c).controller (suc e) cs)

pub sheet_text : (s : List ℕ) → sheet_of s ≡ text_from 1 (said s)
unfolding sheet_of said
sheet_text s = text_lines _ 1 (calls_of s)

scored_line_lem : (m : Score) (a : Answer) (x : ℕ) → scored m a x ≡ scored_line m (line_of a) x
unfolding scored line_of
scored_line_lem m a x = go a.verdict
  where
    go : (v : Verdict) → scored_by m a x v ≡ scored_line m (line_by a v) x
    go (Ok _) = refl
    go (Err why) = refl

score_lines_lem : (m : Score) (k : RateController) (cs : List Call) (xs : List ℕ) → score_from m k cs xs ≡ score_lines m (said_from k cs) xs
unfolding score_from score_lines said_from
score_lines_lem m k [] xs = refl
score_lines_lem m k (c ∷ cs) [] = refl
score_lines_lem m k (c ∷ cs) (x ∷ xs) = rw (scored_line_lem m (step k c) x) (score_lines_lem (scored_line m (line_of (step k c)) x) (step k c).controller cs xs)

pub score_text : (s xs : List ℕ) → score_of s xs ≡ score_lines (record { right = 0; counted = 0 }) (said s) xs
unfolding score_of said
score_text s xs = score_lines_lem _ _ (calls_of s) xs

said_from_length : (k : RateController) (cs : List Call) → length (said_from k cs) ≡ length cs
unfolding said_from
said_from_length k [] = refl
said_from_length k (c ∷ cs) = ap suc (said_from_length (step k c).controller cs)

pub said_length : (s : List ℕ) → length (said s) ≡ event_count s
unfolding said calls_of
said_length s = said_from_length _ (calls_of s) ∙ length_tabulate (event_count s) 0 (call_at s)

-- ---- at i: the i-th line, with any default d
score_none : (m : Score) (ls : List Line) → score_lines m ls [] ≡ m
unfolding score_lines
score_none m [] = refl
score_none m (l ∷ ls) = refl

module _ (ls : List Line) (i : ℕ) where
  pub text_next : (d : Line) (e : ℕ) → i < length ls → Next (text_from e (drop i ls)) (line_bytes e (get_or ls i d)) (text_from (e + 1) (drop (i + 1) ls))
  unfolding text_from
  text_next d e h = record { is = rw (drop-cons ls i d h, add-one e, add-one i) refl }

  pub text_end : (e : ℕ) → length ls ≤ i → text_from e (drop i ls) ≡ []
  unfolding text_from
  text_end e h = rw (drop_of_length-le ls h) refl

  pub score_next : (m : Score) (xs : List ℕ) (d : Line) (x : ℕ) → i < length ls → i < length xs → score_lines (scored_line m (get_or ls i d) (get_or xs i x)) (drop (i + 1) ls) (drop (i + 1) xs) ≡ score_lines m (drop i ls) (drop i xs)
  unfolding score_lines
  score_next m xs d x h g = rw (drop-cons ls i d h, drop-cons xs i x g, add-one i) refl

  pub score_end : (m : Score) (xs : List ℕ) → min (length ls) (length xs) ≤ i → score_lines m (drop i ls) (drop i xs) ≡ m
  unfolding score_lines
  score_end m xs h = by (cases_lt i (length ls))
    where
      by : (i < length ls) ⊎ (length ls ≤ i) → score_lines m (drop i ls) (drop i xs) ≡ m
      by (inl g) = let past : length xs ≤ i = omega arith in rw (drop_of_length-le xs past) (score_none m (drop i ls))
      by (inr g) = rw (drop_of_length-le ls g) refl

plus_bit : (b : Bool) (n : ℕ) → n + cond b 1 0 ≤ n + 1
plus_bit true n = omega arith
plus_bit false n = omega arith

-- an answer adds at most one
pub scored_most : (m : Score) (l : Line) (x : ℕ) (r : Score) → r ≡ scored_line m l x → (r.right ≤ m.right + 1) × (r.counted ≤ m.counted + 1)
scored_most m (Ok o) x r e = rw e (search plus_bit, omega arith)
scored_most m (Err why) x r e = rw e (omega arith)
