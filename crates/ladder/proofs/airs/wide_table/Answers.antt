-- The constants lent are the air's columns, by computation: the check opens no float's bits, and an attribute cannot name the logic's `of_bits`.
use lib.Ieee.{of_bits, neg}
use Rattle.ladder.proofs.airs.wide_table.Goals as goal

pub returns : goal.returns
unfolding of_bits neg
returns c = c.table_for.ensures
