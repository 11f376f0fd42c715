-- A call is refused and changes nothing, or it is accepted: what holds of both answers holds of the call's. Assumes nothing.
use Rattle.std.specs.Prelude.{◌≡◌, ℕ, false, Ok, Err}
use mathlib.Core.Path.{refl, ap}
use native.Mathlib.Omega.{arith}
use Rattle.limits.specs.declared.refusal.Refusal.{Refusal}
use Rattle.limits.specs.Refusals.{Verdict}
use Rattle.rate.specs.Calls.{RateController, Answer, Call, Frames, Echo, Silence, Snr, Seed, Price, Family, verdict, accepted, refused, answered, step}

pub accepted_says : (k : RateController) (c : Call) → (accepted k c).verdict ≡ Ok tt
unfolding accepted
accepted_says k (Frames fs snr) = refl
accepted_says k (Echo share snr) = refl
accepted_says k (Silence steps) = refl
accepted_says k (Snr snr) = refl
accepted_says k (Seed snr) = refl
accepted_says k (Price floor ordinary gap bursts) = refl
accepted_says k (Family own other) = refl

pub by_verdict : (k : RateController) (c : Call) (P : Answer → Type 0) → (verdict k.table c ≡ Ok tt → P (accepted k c)) → ((why : Refusal) → P (refused k (Err why))) → P (step k c)
unfolding step
by_verdict k c P a r = go (verdict k.table c) refl
  where
    go : (v : Verdict) → verdict k.table c ≡ v → P (answered k c v)
    go (Ok _) e = a e
    go (Err why) e = r why

pub accepted_step : (k : RateController) (c : Call) → verdict k.table c ≡ Ok tt → step k c ≡ accepted k c
unfolding step
accepted_step k c e = ap (answered k c) e

-- a refused call leaves the controller as it was, and both marks off
pub untouched : (k : RateController) (c : Call) (why : Refusal) → (step k c).verdict ≡ Err why → ((step k c).controller ≡ k) × ((step k c).ended ≡ false) × ((step k c).begun ≡ false)
untouched k c why =
    by_verdict k c (λ (a : Answer). a.verdict ≡ Err why → (a.controller ≡ k) × (a.ended ≡ false) × (a.begun ≡ false))
    (λ e h. let z : ◌≡◌ {A = ℕ} 0 1 = cc (accepted_says k c) in absurd (omega arith)) (λ w h. (refl, refl, refl))

-- no call changes the table
pub table_kept : (k : RateController) (c : Call) → (step k c).controller.table ≡ k.table
unfolding accepted
table_kept k c = by_verdict k c (λ (a : Answer). a.controller.table ≡ k.table) (λ e. same k c) (λ why. refl)
  where
    same : (k : RateController) (c : Call) → (accepted k c).controller.table ≡ k.table
    same k (Frames fs snr) = refl
    same k (Echo share snr) = refl
    same k (Silence steps) = refl
    same k (Snr snr) = refl
    same k (Seed snr) = refl
    same k (Price floor ordinary gap bursts) = refl
    same k (Family own other) = refl
