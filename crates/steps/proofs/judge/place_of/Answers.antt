-- `position` over the front's rungs is `place_from` over its places: the check does not hand the closure's test on to the lemma.
use Rattle.std.proofs.Common.{◌≡◌, ◌∙◌, ap, Bool, eqb, take, rules, Option, unwrap_or}
use Rattle.std.specs.List.{position_from}
use Rattle.std.specs.Option.{option_map}
use Rattle.std.proofs.lemmas.Iterator.{YieldsList-from_slice}
use Rattle.std.proofs.lemmas.Iterator.Search.{position_from_yields_List}
use Rattle.std.proofs.lemmas.Iterator.Adapters.{position_from-zero}
use Rattle.ladder.specs.declared.types.Rung.{Rung}
use Rattle.ladder.specs.declared.types.Place.{Place}
use Rattle.ladder.specs.Types.{place, place_count}
use Rattle.steps.proofs.Front.{place_on_front}
use Rattle.steps.proofs.judge.place_of.Goals as goal

pub returns : goal.returns
returns c d =
    let t = c.args.t.now in
    let r = c.args.r.0 in
    let test : Rung → Bool = λ x. eqb x.0 r in
    let front = take (place_count t) t.front.rungs in
    let found : c.position.result ≡ position_from test 0 front =
    position_from_yields_List test _ _ _ c.position.ensures.ran (YieldsList-from_slice front (cc)) (λ x b q k. search rules) ∙ position_from-zero test front in
    let put : c.map.result ≡ option_map place c.position.result = search rules in
    ap (λ (o : Option Place). (unwrap_or o d).0) (put ∙ ap (option_map place) found) ∙ place_on_front t (rw c.front.ensures.rungs at c.front.ensures.count) r d
