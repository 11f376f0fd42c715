-- `any` over the front's rungs is `some_from` over its places: the check does not hand the closure's test on to the lemma.
use Rattle.std.proofs.Common.{◌&&◌, not, ◌∙◌, Bool, ltb, take, rules}
use Rattle.std.proofs.lemmas.Iterator.{YieldsList-from_slice}
use Rattle.std.proofs.lemmas.Iterator.Search.{any_from_yields_List}
use Rattle.ladder.specs.declared.types.Rung.{Rung}
use Rattle.ladder.specs.Types.{place_count}
use Rattle.rules.specs.Echo.{echo_out}
use Rattle.steps.proofs.Front.{any_on_front}
use Rattle.steps.proofs.echo.has_ofdm_in.Goals as goal

pub returns : goal.returns
returns c =
    let t = c.args.t.now in
    let s = c.args.s.now in
    let test : Rung → Bool = λ r. not (ltb r.0 t.air.floors) && not (echo_out t s r.0) in
    any_from_yields_List test _ _ _ c.any.ensures.ran (YieldsList-from_slice (take (place_count t) t.front.rungs) (cc)) (λ x b q k. search rules) ∙ any_on_front t (rw c.front.ensures.rungs at c.front.ensures.count) test
