-- What is left of the walk gives what the whole walk gives.
use Rattle.std.proofs.Common.{◌≡◌, ◌-◌, min}
use Rattle.std.specs.Prelude.{None}
use Rattle.ladder.specs.Types.{place_count}
use Rattle.rules.specs.Echo.{usable}
use Rattle.rules.specs.Lowest.{greatest}
use Rattle.steps.specs.bridges.PlaceValue.{place_value}
use Rattle.steps.proofs.echo.best_among.Given as goal

abbrev pub invariant-loop-i : goal.invariant-loop-i
invariant-loop-i l = greatest (min (place_count l.terms.table.now) l.n - l.i) l.i (usable l.terms.table.now l.s) (place_value l.terms.table.now l.terms.prices.now l.s l.snr) l.best ≡ greatest l.n 0 (usable l.terms.table.now l.s) (place_value l.terms.table.now l.terms.prices.now l.s l.snr) None
