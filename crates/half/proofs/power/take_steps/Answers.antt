-- By `proofs/Taken.antt`, whose lemmas ask that t has its places: the check does not find this from the two tests and from t's being no NaN.
use Rattle.std.proofs.Common.{◌≡◌, ℕ, Bool, true, false, not, T, sym, ap, subst, arith, lit<}
use lib.Ieee.{Float, binary64, fits, le}
use Rattle.half.specs.Power.{f1022}
use Rattle.half.proofs.Range.{last_step}
use Rattle.half.proofs.Places.{Places}
use Rattle.half.proofs.Taken.{as_fraction, in_range, counted, taken, small, none}
use Rattle.half.proofs.power.take_steps.Goals as goal

-- t, where the tests are as the way to the truncation found them
fraction : (t : Float) → fits binary64 t ≡ true → le last_step t ≡ true → le f1022 t ≡ false → Places 8 18 t
fraction t f h k = as_fraction t (subst T (sym f) tt) (subst T (sym h) tt) (subst (λ (b : Bool). T (not b)) (sym k) tt)

pub truncating_f64_to_u64-n-requires : goal.truncating_f64_to_u64-n-requires
truncating_f64_to_u64-n-requires c =
    let r = in_range c.args.t (fraction c.args.t c.well_formed.0.1 c.if-t.true c.requires) in
    record { lower_bound = r.0; upper_bound = r.1 }

pub overflow_cast-n : goal.overflow_cast-n
overflow_cast-n c =
    let p = fraction c.args.t c.well_formed.0.1 c.if-t.true c.requires in
    rw (c.truncating_f64_to_u64-n.ensures, counted c.args.t p) (let l = small c.args.t p in record { fits = omega arith })

pub returns-then-t : goal.returns-then-t
returns-then-t c =
    let t = c.args.t in
    let p = fraction t c.well_formed.0.1 c.if-t.true c.requires in
    let h = taken t p in
    let l = small t p in
    rw (c.truncating_f64_to_u64-n.ensures, counted t p) (record { rest = h.0; part = (h.1, omega arith); whole = (h.2, omega arith) })

pub returns : goal.returns
returns c =
    let t = c.args.t in
    let h = none t (subst (λ (b : Bool). T (not b)) (sym c.if-t.false) tt) in
    record {
      rest = sym (ap (λ (z : Float × ℕ). z.0) h.1);
      part = (sym (ap (λ (z : Float × ℕ). z.1) h.1), lit< tt);
      whole = (sym (ap (λ (z : Float × ℕ). z.1) h.0), lit< tt);
    }
