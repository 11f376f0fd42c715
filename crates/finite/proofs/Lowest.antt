-- "the lowest of greatest value", without a condition: in every accepted call with frames, whatever calls came before it, `decide` picks an allowed place with
-- no greater value at any other, and less at each lower one. Assumes nothing.
use mathlib.Core.Path.{◌≡◌, refl}
use mathlib.Core.List.{List}
use Rattle.float.proofs.Monotone.{finite_number}
use Rattle.std.specs.Prelude.{Ok}
use Rattle.limits.specs.Readings.{Reading}
use Rattle.ladder.specs.Types.{place_count, rung_at}
use Rattle.account.specs.Price.{value}
use Rattle.rules.specs.declared.types.Frame.{Frame}
use Rattle.rules.specs.Tries.{candidate, choose}
use Rattle.rules.specs.Transmission.{inside}
use Rattle.rules.specs.Lowest.{BestOf}
use Rattle.rules.proofs.LowestFound.{lowest_of_greatest}
use Rattle.rate.specs.declared.types.RateController.{RateController}
use Rattle.rate.specs.Calls.{Call, Frames, verdict, after}
use Rattle.rate.specs.Fresh.{Fresh}
use Rattle.finite.proofs.Finite.{always_finite}

module _ (k : RateController) (f : Fresh k) (calls : List Call) (fs : List Frame) (snr : Reading) where
  abbrev now : RateController
  now = after k calls

  pub decides_lowest : verdict now.table (Frames fs snr) ≡ Ok tt
      → let t = now.table in
      let p = now.prices in
      let s = inside t p now.state fs snr in BestOf (candidate t s) (λ i. value t p s (rung_at t i)) (place_count t) (choose t p s)
  unfolding choose
  decides_lowest e =
      let t = now.table in
      let p = now.prices in
      let s = inside t p now.state fs snr in
      let values = (((always_finite k f calls).deciding fs snr e).compared s (record { accounts = refl; offsets = refl; snr = refl })).values in
      lowest_of_greatest (candidate t s) (λ i. value t p s (rung_at t i)) (λ j a. finite_number (value t p s (rung_at t j)) (values (rung_at t j)).0) (place_count t)
