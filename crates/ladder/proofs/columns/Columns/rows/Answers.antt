-- The closure answers each rung's row: that it does so at every place the check does not hand on to `tabulated`, a lemma on any closure.
use Rattle.std.proofs.Common.{rules}
use Rattle.ladder.specs.bridges.Lent.{lent}
use Rattle.ladder.specs.Types.{no_row}
use Rattle.ladder.specs.Tables.{row_of, rows_of}
use Rattle.ladder.proofs.Tabulating.{tabulated}
use Rattle.ladder.proofs.columns.Columns.rows.Goals as goal

pub returns : goal.returns
unfolding rows_of
returns c =
    tabulated (row_of (lent c.args.self.now)) (λ i y q k. search rules) c.from_fn.result 32 no_row c.from_fn.ensures.items
