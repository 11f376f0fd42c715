-- Arguments within their limits are numbers, and the slope is above 0; so the probability lies from 0 to 1.
use Rattle.std.proofs.Common.{sym, subst}
use Rattle.half.specs.Logistic.{FromZeroToOne}
use Rattle.half.proofs.Range.{accepted_from_zero_to_one}
use Rattle.half.proofs.logistic.decode_probability.Goals as goal

pub returns-then-ok_arguments-clause-from_zero_to_one : goal.returns-then-ok_arguments-clause-from_zero_to_one
returns-then-ok_arguments-clause-from_zero_to_one c =
    let a = c.args in subst FromZeroToOne (sym c.logistic.ensures) (accepted_from_zero_to_one a.snr_db a.threshold_db a.slope_db (cc (c.ok_arguments.ensures, c.if-ok_arguments.true)))
