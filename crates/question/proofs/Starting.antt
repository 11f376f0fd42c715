-- The two airs' tables are accepted, by computation. Assumes nothing.
use Rattle.std.specs.Prelude.{◌≡◌, Ok}
use mathlib.Core.Path.{refl}
use lib.Ieee.{of_bits, of_int, neg, le, div, round}
use Rattle.ladder.specs.Front.{beaten, front_of}
use Rattle.ladder.specs.Tables.{table_verdict, table_of, tabled}
use Rattle.ladder.specs.Airs.{wide_air, narrow_air}

wide_accepted : table_verdict wide_air ≡ Ok tt
unfolding table_verdict beaten front_of of_bits of_int neg le div round
wide_accepted = refl

narrow_accepted : table_verdict narrow_air ≡ Ok tt
unfolding table_verdict beaten front_of of_bits of_int neg le div round
narrow_accepted = refl

pub wide_made : tabled wide_air ≡ Ok (table_of wide_air)
unfolding tabled
wide_made = rw wide_accepted

pub narrow_made : tabled narrow_air ≡ Ok (table_of narrow_air)
unfolding tabled
narrow_made = rw narrow_accepted
