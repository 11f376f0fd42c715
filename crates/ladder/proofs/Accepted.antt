-- What columns that are not refused are: each test of the chain passed, and a test that passed is a fact about the columns. Assumes nothing.
use mathlib.Core.Path.{◌≡◌}
use mathlib.Core.Bool.{true}
use mathlib.Core.List.{List}
use Prim.Native.Nat.{ℕ, ◌≤◌}
use lib.ListN.{length}
use lib.Ieee.{Float}
use Rattle.limits.specs.Values.{ok_db, ok_air, ok_bytes}
use Rattle.std.proofs.Common.{Ok, arith}
use Rattle.std.proofs.lemmas.Bool.Decides.{nat_tests}
use Rattle.ladder.specs.Lists.{every}
use Rattle.limits.specs.Readings.{ok_limit}
use Rattle.ladder.specs.Front.{OneLength, front_verdict}
use Rattle.ladder.specs.Tables.{Columns, ok_sizes, same_sizes, ok_values, front_of_columns, table_verdict}

-- ---- the three columns of a front
module _ (thresholds : List Float) (payloads : List ℕ) (times : List Float) (e : front_verdict thresholds payloads times ≡ Ok tt) where
  pub front_columns : OneLength thresholds payloads times × (length thresholds ≤ 32)
  unfolding front_verdict
  front_columns =
      (record { payload = grind (arith, nat_tests); time = grind (arith, nat_tests) }, grind (arith, nat_tests))

-- ---- the columns of a table
module _ (c : Columns) where
  -- what the sizes say: a table has 1 to 32 rungs, and at most 32 echo limits
  pub table_sizes : ok_sizes c ≡ true → (1 ≤ length c.thresholds) × (length c.thresholds ≤ 32) × (length c.limits ≤ 32)
  table_sizes e = grind (arith, nat_tests)

  -- what one length says
  pub table_lengths : same_sizes c ≡ true → OneLength c.thresholds c.payloads c.times × (length c.capacities ≡ length c.thresholds)
  table_lengths e = (record { payload = grind (arith, nat_tests); time = grind (arith, nat_tests) }, grind (arith, nat_tests))

  -- a table that is accepted
  pub record Fit : Type 0 where
    pub sizes : ok_sizes c ≡ true
    pub same : same_sizes c ≡ true
    pub values : ok_values c ≡ true
    pub floors : c.floors ≤ length c.thresholds
    pub front : 1 ≤ length (front_of_columns c)

  pub accepted_columns : table_verdict c ≡ Ok tt → Fit
  unfolding table_verdict
  accepted_columns e = record {
    sizes = grind (arith, nat_tests);
    same = grind (arith, nat_tests);
    values = grind (arith, nat_tests);
    floors = grind (arith, nat_tests);
    front = grind (arith, nat_tests);
  }

  -- each column's values are within their limits
  pub record Within : Type 0 where
    pub thresholds : every ok_db c.thresholds ≡ true
    pub payloads : every ok_bytes c.payloads ≡ true
    pub capacities : every ok_bytes c.capacities ≡ true
    pub times : every ok_air c.times ≡ true
    pub limits : every ok_limit c.limits ≡ true

  pub table_values : ok_values c ≡ true → Within
  table_values e = record { thresholds = grind arith; payloads = grind arith; capacities = grind arith; times = grind arith; limits = grind arith }
