-- The lines below the i-th stand over the slice's start, and the others have room: the check does not find that the invariant says so of the next line.
use Rattle.std.proofs.Common.{◌+◌, ◌≤◌, length, arith}
use Rattle.paper.proofs.Lent.{line_fits, line_room, lines_written}
use Rattle.paper.proofs.sheet.write_lines.Goals as goal

pub write_line-len-requires : goal.write_line-len-requires
write_line-len-requires c =
    let l = c.loop-i in
    line_room c.args.lines.now l.i (l.i + 1) l.invariant _ c.loop-i-test.true c.requires.room

pub overflow_add-len : goal.overflow_add-len
overflow_add-len c =
    let l = c.loop-i in
    let w = c.write_line-len in
    let fits : l.len + w.result ≤ length c.args.out.now = rw w.ensures.value (line_fits c.args.lines.now l.i (l.i + 1) l.invariant _ c.loop-i-test.true c.requires.room) in
    omega (arith, c.well_formed)

pub returns : goal.returns
returns c =
    let l = c.loop-i in
    let r = lines_written c.args.lines.now l.i (l.i + 1) l.invariant c.loop-i-test.false in
    record { value = r.0; out_after = r.1 }
