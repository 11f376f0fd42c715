-- A call with frames in place is the call's step: what is decided after the pass is what the call decides. Assumes nothing.
use Rattle.std.specs.Prelude.{◌≡◌, ◌<◌, Bool, false, List, [], ◌∷◌, length}
use mathlib.Core.Path.{refl, ap, ◌∙◌}
use native.Mathlib.Omega.{arith}
use Rattle.limits.specs.Readings.{Reading}
use Rattle.ladder.specs.declared.types.Table.{Table}
use Rattle.account.specs.declared.types.Prices.{Prices}
use Rattle.account.specs.declared.types.State.{State}
use Rattle.rules.specs.declared.types.Frame.{Frame}
use Rattle.rules.specs.Echo.{observe_snr}
use Rattle.rules.specs.Tries.{Decided, decided, decide}
use Rattle.rules.specs.Transmission.{inside, observe_frames}
use Rattle.rules.specs.declared.pass.Pass.{Pass}
use Rattle.rules.specs.declared.accounts.Fades.{Fades}
use Rattle.rules.specs.bridges.Pass.{Kept, begin_pass, pass_all, decided_pass}
use Rattle.rules.specs.bridges.Ageing.{accounts_by}
use Rattle.rules.proofs.Booked as booked
use Rattle.rate.specs.Calls.{RateController, with_state, Frames, accepted, done}
use Rattle.rate.specs.bridges.Replies.{answer_of, done_reply}

more_frames : (t : Table) (p : Prices) (s : State) (fs : List Frame) (snr : Reading) → 0 < length fs → decide t p (inside t p s fs snr) ≡ observe_frames t p s fs snr
unfolding observe_frames
more_frames t p s [] snr h = absurd (omega (arith, h))
more_frames t p s (f ∷ fs) snr h = refl

module _ (k : RateController) (fs : List Frame) (snr : Reading) where
  abbrev z : State
  z = observe_snr k.state snr

  -- "empty list stops here"
  pub empty_accepted : length fs ≡ 0 → answer_of (with_state k z) (done_reply k.state.core.trying z false) ≡ accepted k (Frames fs snr)
  unfolding accepted observe_frames
  empty_accepted = go fs
    where
      go : (l : List Frame) → length l ≡ 0 → answer_of (with_state k z) (done_reply k.state.core.trying z false) ≡ accepted k (Frames l snr)
      go [] h = refl
      go (f ∷ l) h = absurd (omega (arith, h))

  -- what the pass gathered, the state once its frames are booked, and what was decided
  -- by factors that were kept
  pub frames_accepted : (d : Fades) (y : Pass) (b s : State) (begun : Bool) → Kept k.table d → 0 < length fs
      → b ≡ accounts_by k.table d fs z → y ≡ pass_all k.table z.core (begin_pass z.core) fs → decided s begun ≡ decided_pass k.table k.prices b y
      → answer_of (with_state k s) (done_reply k.state.core.trying s begun) ≡ accepted k (Frames fs snr)
  unfolding accepted
  frames_accepted d y b s begun kept more eb ey ed =
      let e : decided s begun ≡ observe_frames k.table k.prices k.state fs snr =
      ed ∙ rw (eb, ey) (booked.decided k.table k.prices d kept k.state fs snr) ∙ more_frames k.table k.prices k.state fs snr more in
      ap (λ (x : Decided). done k x.state x.begun) e
