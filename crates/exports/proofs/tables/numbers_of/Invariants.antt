-- The numbers of the rungs before this one stand in the array.
use Rattle.std.proofs.Common.{◌≡◌, ◌<◌, ℕ, length, slice_index}
use Rattle.exports.specs.Tables.{number_at}
use Rattle.exports.proofs.tables.numbers_of.Given as goal

abbrev pub invariant-loop-i : goal.invariant-loop-i
invariant-loop-i l = (length l.number-items ≡ 32) × ((r : ℕ) → r < l.i → slice_index l.number-items r ≡ number_at l.rungs r)
