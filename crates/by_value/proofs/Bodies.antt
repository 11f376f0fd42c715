-- A `for` over a reader's bodies: the next is the body of the next number. Assumes nothing.
use mathlib.Core.Path.{◌≡◌, ◌∙◌}
use mathlib.Core.List.{List}
use Prim.Native.Nat.{ℕ, ◌≤◌, ◌<◌}
use lib.ListN.{length}
use native.Mathlib.Omega.{arith}
use Rattle.std.specs.Iterator.{Yields, YieldsFirstBy}
use Rattle.std.proofs.lemmas.Iterator.{YieldsList}
use Rattle.std.proofs.lemmas.Iterator.Consumers.{YieldsList-from_first, YieldsList-turn, YieldsList-end}
use Rattle.std.proofs.Common.{Option, Some, None}
use denote.Ref.{Bor}
use Rattle.question.specs.declared.reader.Reader.{Reader}
use Rattle.question.specs.File.{event_count, body_at, bodies_from}
use Rattle.question.proofs.Events.{length_bodies, bodies_at}

abbrev turns : Reader → Option (Bor (List ℕ)) → Reader → Type 0
turns = YieldsFirstBy (λ (x : Bor (List ℕ)). x.now) (λ (r : Reader). bodies_from r.file.now r.next)

module _ (s : List ℕ) (it t u : Reader) (e : bodies_from it.file.now it.next ≡ bodies_from s 0) (xs : List (Bor (List ℕ))) (y : Yields turns it xs t) (r : Option (Bor (List ℕ))) (w : turns t r u) where
  all_yielded : YieldsList {B = List ℕ} turns (λ x. x.now) it (bodies_from s 0)
  all_yielded = YieldsList-from_first (λ x. x.now) (λ (r : Reader). bodies_from r.file.now r.next) (bodies_from s 0) e

  -- xs came, and then another
  pub next_body : (b : Bor (List ℕ)) → r ≡ Some b → (length xs < event_count s) × (b.now ≡ body_at s (length xs))
  next_body b q =
      let turn = YieldsList-turn all_yielded xs t y r u b q w in
      let room : length xs < event_count s = omega (arith, turn.0, length_bodies s) in
      (room, turn.1 ∙ bodies_at s (length xs) b.now room)

  -- xs came, and no more
  pub no_more : r ≡ None → event_count s ≤ length xs
  no_more q =
      let all = (YieldsList-end all_yielded xs t y r u q w).1 in
      omega (arith, all, length_bodies s)
