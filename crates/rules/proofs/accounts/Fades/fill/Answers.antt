-- At the loop's end each factor is right; that entries which are each right are the list of them the check does not find.
use Rattle.std.proofs.Common.{arith, ◌≡◌, ℕ, length, refl}
use Rattle.ladder.specs.Lists.{tabulate}
use Rattle.ladder.specs.Types.{rung_count, row}
use Rattle.rules.specs.bridges.Pass.{factor, fades_for}
use Rattle.rules.proofs.Fade.{filled_done}
use Rattle.rules.proofs.accounts.Fades.fill.Goals as goal

pub returns : goal.returns
unfolding fades_for
returns c =
    let a = c.args in
    let l = c.loop-i in
    let n : ℕ = rung_count a.t.now in
    let long : length l.by-items ≡ n = omega arith in
    let e : l.by-items ≡ tabulate n 0 (λ r. factor a.air (row a.t.now r).time) = filled_done a.t.now a.air l.by-items long (λ r h. l.invariant.filled r (omega arith)) in
    rw (c.rung_count-n.ensures, e) refl
