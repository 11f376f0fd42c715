-- A walk over the events of a file: which bodies are left, and that an accepted file has 1,000 events at most. Assumes nothing.
use mathlib.Core.Path.{◌≡◌, ap, ◌∙◌}
use mathlib.Core.Bool.{◌&&◌}
use mathlib.Core.List.{List, [], ◌∷◌}
use Prim.Native.Nat.{ℕ, ◌+◌, ◌≤◌, ◌<◌}
use lib.Dec.{leb, leb→le}
use lib.ListN.{length, get_or}
use native.Mathlib.Omega.{arith}
use lib.Ieee.Fits.{and_r}
use Rattle.limits.specs.Refusals.{unless}
use Rattle.limits.specs.declared.refusal.Refusal.TheVariants.{FileHeader}
use Rattle.std.specs.Prelude.{Ok}
use Rattle.limits.proofs.Verdicts.{or_else_lem, unless_not}
use Rattle.std.specs.List.{list_all}
use Rattle.question.specs.Body.{ok_body}
use Rattle.question.specs.File.{event_count, air, known_air, ok_header, body_at, bodies_from, ok_body_at, ok_bodies, file_verdict}
use Rattle.ladder.proofs.Tabulating.{length_tabulate, tabulate_at}
use Rattle.question.proofs.Ranges.{tabulate_all, tabulate_next, tabulate_none, all_tabulate}

-- ---- the bodies that are left
pub bodies_next : (s : List ℕ) (i : ℕ) → i < event_count s → bodies_from s i ≡ body_at s i ∷ bodies_from s (i + 1)
unfolding bodies_from
bodies_next s i h = tabulate_next (body_at s) (event_count s) i h

pub bodies_none : (s : List ℕ) (i : ℕ) → event_count s ≤ i → bodies_from s i ≡ []
unfolding bodies_from
bodies_none s i h = tabulate_none (body_at s) (event_count s) i h

-- ---- all of them
pub length_bodies : (s : List ℕ) → length (bodies_from s 0) ≡ event_count s
unfolding bodies_from
length_bodies s = ap length (tabulate_all (body_at s) (event_count s)) ∙ length_tabulate (event_count s) 0 (body_at s)

pub bodies_at : (s : List ℕ) (n : ℕ) (d : List ℕ) → n < event_count s → get_or (bodies_from s 0) n d ≡ body_at s n
unfolding bodies_from
bodies_at s n d h = let q : 0 + n ≡ n = omega arith in ap (λ bs. get_or bs n d) (tabulate_all (body_at s) (event_count s)) ∙ tabulate_at (event_count s) 0 (body_at s) n d h ∙ ap (body_at s) q

pub bodies_good : (s : List ℕ) → list_all ok_body (bodies_from s 0) ≡ ok_bodies s
unfolding bodies_from ok_bodies ok_body_at
bodies_good s = ap (list_all ok_body) (tabulate_all (body_at s) (event_count s)) ∙ all_tabulate (event_count s) 0 (body_at s) ok_body

pub few_events : (s : List ℕ) → file_verdict s ≡ Ok tt → event_count s ≤ 1000
unfolding file_verdict ok_header
few_events s e =
    let h = unless_not (ok_header s) FileHeader (or_else_lem (unless (ok_header s) FileHeader) _ e).0 in
    leb→le (event_count s) 1000 (and_r (leb 8 (length s) && leb (length s) 65536 && known_air (air s)) (leb (event_count s) 1000) h)
