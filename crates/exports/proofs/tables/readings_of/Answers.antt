-- The closure answers each place's entry: that it does so at every place the check does not hand on to `tabulated`, a lemma on any closure.
use Rattle.std.proofs.Common.{rules}
use Rattle.std.specs.Prelude.{None}
use Rattle.ladder.proofs.Tabulating.{tabulated}
use Rattle.exports.specs.Tables.{reading_at, readings_of}
use Rattle.exports.proofs.tables.readings_of.Goals as goal

pub returns : goal.returns
unfolding readings_of
returns c =
    let a = c.args in
    tabulated (reading_at a.known.now a.limits.now) (λ i y q k. search rules) c.from_fn.result 33 None c.from_fn.ensures.items
