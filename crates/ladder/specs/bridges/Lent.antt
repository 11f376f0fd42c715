-- The columns that a caller lends as slices, as the rules have them. Definitions only.
use Rattle.ladder.specs.Tables.{Columns}
use Rattle.ladder.specs.declared.columns.Columns as declared

abbrev pub lent : declared.Columns → Columns
lent c = record {
  thresholds = c.thresholds.now;
  payloads = c.payloads.now;
  capacities = c.capacities.now;
  times = c.times.now;
  limits = c.limits.now;
  floors = c.floors;
}
