-- At the loop's end each number is right; that entries which are each right are the list of them the check does not find.
use Rattle.std.proofs.Common.{arith, refl, sym, ap, ◌∙◌}
use lib.ListN.{length-set}
use native.Mathlib.Nat.{zero-add}
use Rattle.ladder.proofs.Arrays.{entry_made}
use Rattle.ladder.proofs.Tabulating.{listed}
use Rattle.exports.specs.Tables.{number_at, numbers_of}
use Rattle.exports.proofs.tables.numbers_of.Goals as goal

pub loop-i-init : goal.loop-i-init
loop-i-init c = (refl, λ r h. absurd (omega (arith, h)))

pub loop-i-preserved : goal.loop-i-preserved
loop-i-preserved c =
    let l = c.loop-i in
    let long = l.invariant.0 in
    (length-set l.number-items l.i _ ∙ long, entry_made (number_at c.args.rungs.now) 0 l.number-items l.i _ (omega (arith, long)) refl l.invariant.1)

pub returns : goal.returns
unfolding numbers_of
returns c =
    let l = c.loop-i in
    let number = number_at c.args.rungs.now in
    listed number 32 0 l.number-items 0 l.invariant.0 (λ k h. l.invariant.1 k (omega (arith, h)) ∙ ap number (sym (zero-add k)))
