-- The constants lent are the wide air's columns, by computation: the check opens no float's bits, and an attribute cannot name the logic's `of_bits`.
use lib.Ieee.{of_bits, neg}
use Rattle.ladder.proofs.front.usable_modes.Goals as goal

pub returns : goal.returns
unfolding of_bits neg
returns c = c.usable_modes_by_rate.ensures
