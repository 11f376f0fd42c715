-- A table that was not refused is its columns', and setting the air twice is setting it once; both airs' tables are accepted. Assumes nothing.
use Rattle.std.specs.Prelude.{◌≡◌, Bool, true, false, ℕ, Result, Ok, Err, ◌==◌}
use mathlib.Core.Path.{refl, ap, subst}
use Rattle.limits.specs.Refusals.{Verdict}
use Rattle.limits.specs.declared.refusal.Refusal.{Refusal}
use Rattle.ladder.specs.Tables.{Columns, table_verdict, table_of, tabled_if, tabled}
use Rattle.ladder.specs.Airs.{wide_air, narrow_air}
use Rattle.ladder.proofs.Cases.{pick}
use Rattle.rate.specs.declared.types.RateController.{RateController}
use Rattle.rate.specs.Calls.{fresh_controller}
use Rattle.rate.specs.Reads.{made, made_of, for_air_of}
use Rattle.rate.specs.Fresh.{Fresh, fresh}
use Rattle.waiting.proofs.Waiting.{waiting}
use Rattle.question.specs.File.{air}
use Rattle.question.specs.Start.{fresh_for}
use Rattle.question.proofs.Starting.{wide_made, narrow_made}
use Rattle.paper.specs.Sheet.{calls_of}
use Rattle.starts.specs.Starts.{Starts}

-- ---- by the table's verdict
abbrev FreshIfMade : Result RateController Refusal → Type 0
FreshIfMade (Ok k) = Fresh k
FreshIfMade (Err why) = Unit

made_fresh : (c : Columns) (k : RateController) → made c ≡ Ok k → Fresh k
unfolding made tabled
made_fresh c k e = subst FreshIfMade e (go (table_verdict c) refl)
  where
    go : (v : Verdict) → table_verdict c ≡ v → FreshIfMade (made_of (tabled_if v c))
    go (Ok _) e = fresh c false e
    go (Err why) e = tt

-- ---- setting the air again
for_air_fresh : (k : RateController) → Fresh k → (wide : Bool) → Fresh (for_air_of k wide)
unfolding for_air_of
for_air_fresh k (fresh c true e) true = fresh c true e
for_air_fresh k (fresh c true e) false = fresh c true e
for_air_fresh k (fresh c false e) true = fresh c true e
for_air_fresh k (fresh c false e) false = fresh c false e

-- ---- a paper's
start_fresh : (n : ℕ) → Fresh (fresh_for n)
unfolding fresh_for made for_air_of
start_fresh n =
    pick Fresh (n == 1)
    (for_air_fresh (fresh_controller (table_of wide_air)) (made_fresh wide_air (fresh_controller (table_of wide_air)) (ap made_of wide_made)) true)
    (for_air_fresh (fresh_controller (table_of narrow_air)) (made_fresh narrow_air (fresh_controller (table_of narrow_air)) (ap made_of narrow_made)) false)

pub starts : Starts
starts = record {
  made_fresh = made_fresh;
  for_air_fresh = for_air_fresh;
  start_fresh = start_fresh;
  papers_wait = λ s. waiting (fresh_for (air s)) (start_fresh (air s)) (calls_of s);
}
