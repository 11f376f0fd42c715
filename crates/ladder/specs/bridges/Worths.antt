-- A front by worths that are divided once: what `beats` and `beaten` come to where each rung's threshold and worth are at hand. Definitions only.
use Rattle.std.specs.Prelude.{Bool, not, ◌&&◌, List, ℕ, eqb, get_or, length, Float}
use Rattle.std.specs.Float.Ieee.{le}
use Rattle.std.specs.List.{list_any, enumerate_from}
use Rattle.float.specs.Numbers.{f0}
use Rattle.ladder.specs.Lists.{tabulate, filled}
use Rattle.ladder.specs.Front.{worth_at}
pub use Rattle.ladder.specs.declared.front.Offer.{Offer}

-- o is worth at least as much as r, and has a threshold at most as high
abbrev pub beats_with : Offer → Offer → Bool
beats_with o r = le r.worth o.worth && le o.threshold r.threshold

-- of the rung r
abbrev pub offer_at : List Float → List ℕ → List Float → ℕ → Offer
offer_at thresholds payloads times r = record { threshold = get_or thresholds r f0; worth = worth_at payloads times r }

abbrev pub no_offer : Offer
no_offer = record { threshold = f0; worth = f0 }

-- of each rung, as an array of 32, and past the last rung none
unfoldable pub offers_of : List Float → List ℕ → List Float → List Offer
offers_of thresholds payloads times = filled no_offer (tabulate (length thresholds) 0 (offer_at thresholds payloads times))

-- whether the offer of another rung than r beats that of r
abbrev pub beaten_with : List Offer → ℕ → Offer → Bool
beaten_with offers r offer = list_any (λ p. not (eqb p.0 r) && beats_with p.1 offer) (enumerate_from 0 offers)
