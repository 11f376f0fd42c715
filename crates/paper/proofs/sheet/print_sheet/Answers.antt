-- A refused file's line is printed over what the sheet call left: the check does not find that this is the slice as it was.
use mathlib.Core.Path.{sym, ◌∙◌}
use native.Mathlib.Omega.{arith}
use Rattle.paper.proofs.Printed.{printed_refused}
use Rattle.paper.proofs.sheet.print_sheet.Goals as goal

pub returns-in-Err : goal.returns-in-Err
returns-in-Err c =
    let a = c.args in
    let s = c.sheet.ensures in
    let w = c.print_refused.ensures in
    let r = printed_refused a.question.now a.out.now _ s.out_after _ _ _ (sym c.in-Err.is ∙ s.value) w.value w.out_after in
    record { value = r.0; out_after = r.1; within = omega (arith, w.within, c.sheet.auto.out) }
