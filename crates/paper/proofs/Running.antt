-- The lines of a file's events, one after the other: the next event's, and what is left. Assumes nothing.
use Rattle.std.specs.Prelude.{◌≡◌, ℕ, ◌+◌, ◌-◌, ◌<◌, ◌≤◌, List, [], ◌∷◌, ◌++◌, length, take, set}
use mathlib.Core.Path.{refl, sym, ◌∙◌}
use mathlib.Core.List.{append_assoc, append-nil}
use native.Mathlib.Omega.{arith}
use lib.ListN.{length-set}
use Rattle.std.proofs.lemmas.List.{take_all, take_more_set}
use Rattle.ladder.specs.Lists.{tabulate}
use Rattle.rate.specs.declared.types.RateController.{RateController}
use Rattle.rate.specs.declared.types.Answer.{Answer}
use Rattle.rate.specs.Calls.{Call, step}
use Rattle.question.specs.Body.{call_of}
use Rattle.question.specs.File.{event_count, air, body_at}
use Rattle.question.specs.Start.{fresh_for}
use Rattle.question.proofs.Ranges.{tabulate_all, tabulate_next, tabulate_none}
use Rattle.paper.specs.Sheet.{Line, call_at, calls_of, line_of}
use Rattle.paper.specs.bridges.Said.{said_from, said}

-- the calls of the events from i on
unfoldable pub calls_from : List ℕ → ℕ → List Call
calls_from s i = tabulate (event_count s - i) i (call_at s)

-- ---- the slice while it is filled, at event i: the lines below i stand in it, and the controller k says the others
pub record Filled (file : List ℕ) (i : ℕ) (lines : List Line) (k : RateController) : Type 0 where
  pub size : length lines ≡ event_count file
  pub left : take i lines ++ said_from k (calls_from file i) ≡ said file

module _ (file : List ℕ) where
  pub filled_start : (lines : List Line) (m : ℕ) (k : RateController) → length lines ≡ event_count file → m ≡ air file → k ≡ fresh_for m → Filled file 0 lines k
  unfolding said calls_from calls_of
  filled_start lines m k h f g = record { size = h; left = rw (tabulate_all (call_at file) (event_count file), g, f) refl }

  -- the call of the i-th body left the controller of a, and its line is that of a
  said_next : (i : ℕ) (k : RateController) (body : List ℕ) (a : Answer) (l : Line) → i < event_count file → body ≡ body_at file i → a ≡ step k (call_of body) → l ≡ line_of a
      → said_from k (calls_from file i) ≡ l ∷ said_from a.controller (calls_from file (i + 1))
  unfolding said_from calls_from call_at
  said_next i k body a l h b e f = rw (tabulate_next (call_at file) (event_count file) i h, f, e, b) refl

  pub filled_next : (i : ℕ) (lines : List Line) (k : RateController) (body : List ℕ) (a : Answer) (l : Line) → i < event_count file → body ≡ body_at file i → a ≡ step k (call_of body) → l ≡ line_of a → Filled file i lines k
      → Filled file (i + 1) (set lines i l) a.controller
  filled_next i lines k body a l h b e f w =
      let room : i < length lines = omega (arith, w.size) in
      record {
        size = length-set lines i l ∙ w.size;
        left = rw (take_more_set lines i l room, append_assoc, ← said_next i k body a l h b e f) w.left;
      }

  said_none : (i : ℕ) (k : RateController) → event_count file ≤ i → said_from k (calls_from file i) ≡ []
  unfolding said_from calls_from
  said_none i k h = rw (tabulate_none (call_at file) (event_count file) i h) refl

  pub filled_end : (i : ℕ) (lines : List Line) (k : RateController) → event_count file ≤ i → Filled file i lines k → lines ≡ said file
  filled_end i lines k h w = sym (append-nil lines) ∙ sym (rw (take_all i lines (omega (arith, w.size)), said_none i k h) refl) ∙ w.left
