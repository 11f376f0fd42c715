-- The lower end is no greater than the upper one: the check does not open the bits of the two constants.
use lib.Ieee.{of_bits, le}
use Rattle.rules.proofs.offsets.clamp_offset.Goals as goal

pub clamp-requires : goal.clamp-requires
unfolding of_bits le
clamp-requires c = tt
