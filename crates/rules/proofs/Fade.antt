-- The factors of ageing. Two frame times that `==` finds the same above 0 have one product with 12, and two such airs one quotient by it, so a factor that is carried
-- from rung to rung or kept from frame to frame is the one that the definition asks for; and the factor of a frame's own rung is a constant. Assumes nothing.
use mathlib.Core.Path.{◌≡◌, refl, sym, ap, subst, ◌∙◌}
use mathlib.Core.Bool.{Bool, true, false, ◌&&◌, cond}
use Prim.Native.Nat.{ℕ, ◌+◌, ◌*◌, ◌<◌}
use native.Mathlib.Nat.{zero-add, mul_comm, mul-mul-mul_comm, mul-pos}
use native.Mathlib.Omega.{arith}
use native.Mathlib.Decide.{ℕ_discrete}
use lib.Dec.{T, eqb, eqb→eq, ltb→lt}
use lib.IntN.{ℤ, pos}
use lib.ListN.{length, get_or, set, drop, get_or-append}
use lib.Seq.{get_or-set_same, get_or-set_other, ext_get_or}
use mathlib.Core.List.{List}
use lib.Ieee.{Float, nan, inf, fin, binary64, up, down, unlike, of_bits, round, sub, mul, div, le, lt, eq}
use lib.Ieee.Fits.{and_l, and_r, up_pos, down_pos}
use lib.Ieee.Scale.{round_same}
use borrow.Author.Tests.{eqb-false, ne_eqb}
use Rattle.float.specs.Numbers.{f64, ◌⊗◌, ◌⊘◌, f0, f1}
use Rattle.half.specs.Power.{descent, series, half}
use Rattle.half.specs.Powers.{powers}
use Rattle.account.specs.Fixed.{half_life}
use Rattle.ladder.specs.declared.types.Table.{Table}
use Rattle.ladder.specs.Lists.{tabulate}
use Rattle.ladder.specs.Types.{row, rung_count}
use Rattle.ladder.proofs.Tabulating.{tabulate_at, length_tabulate}
use Rattle.rules.specs.bridges.Pass.{Fade, Fades, factor, fade_at, fades_for, turned, Fading, Kept}

-- "its own by half(1/12)": 0.9438743126816935
pub own_fade_lem : half (f1 ⊘ half_life) ≡ f64 0x3fee_3437_e710_1344
unfolding half descent series powers of_bits round sub mul div le
own_fade_lem = refl

-- a value above 0 and one that `==` finds the same: their products with a finite value are one rounding of one fraction
same_product : (s : Bool) (m : ℕ) (e : ℤ) (x y : Float) → T (lt f0 y) → T (eq x y) → fin s m e ⊗ x ≡ fin s m e ⊗ y
unfolding of_bits lt eq mul
same_product s m e nan y h k = absurd k
same_product s m e (inf u) nan h k = absurd k
same_product s m e (inf true) (inf true) h k = refl
same_product s m e (inf true) (inf false) h k = absurd k
same_product s m e (inf false) (inf true) h k = absurd k
same_product s m e (inf false) (inf false) h k = refl
same_product s m e (inf u) (fin t n d) h k = absurd k
same_product s m e (fin u a b) nan h k = absurd k
same_product s m e (fin u a b) (inf t) h k = absurd k
same_product s m e (fin u a b) (fin true n d) h k = absurd h
same_product s m e (fin false a b) (fin false n d) h k =
    let q : a * up b * down d ≡ n * up d * down b = eqb→eq (a * up b * down d) (n * up d * down b) (and_l (eqb (a * up b * down d) (n * up d * down b)) true k) in
    round_same binary64 (unlike s false) (m * up e * (a * up b)) (down e * down b) (m * up e * (n * up d)) (down e * down d)
    (mul-pos (down_pos e) (down_pos b)) (mul-pos (down_pos e) (down_pos d))
    (mul-mul-mul_comm (m * up e) (a * up b) (down e) (down d) ∙ ap (λ (z : ℕ). m * up e * down e * z) q ∙ sym (mul-mul-mul_comm (m * up e) (n * up d) (down e) (down b)))
same_product s m e (fin true a b) (fin false n d) h k =
    let q = eqb→eq (a * up b * down d) (n * up d * down b) (and_l (eqb (a * up b * down d) (n * up d * down b)) (eqb (a * up b * down d) 0) k) in
    let z = eqb→eq (a * up b * down d) 0 (and_r (eqb (a * up b * down d) (n * up d * down b)) (eqb (a * up b * down d) 0) k) in
    let p = ltb→lt (0 * down d) (n * up d * 1) h in
    let g : 0 < n * up d * down b = mul-pos (omega arith) (down_pos b) in
    absurd (omega arith)

-- and so are their quotients by any value
same_quotient : (x y z : Float) → T (lt f0 y) → T (eq x y) → x ⊘ z ≡ y ⊘ z
unfolding of_bits lt eq div
same_quotient nan y z h k = absurd k
same_quotient (inf u) nan z h k = absurd k
same_quotient (inf true) (inf true) z h k = refl
same_quotient (inf true) (inf false) z h k = absurd k
same_quotient (inf false) (inf true) z h k = absurd k
same_quotient (inf false) (inf false) z h k = refl
same_quotient (inf u) (fin t n d) z h k = absurd k
same_quotient (fin u a b) nan z h k = absurd k
same_quotient (fin u a b) (inf t) z h k = absurd k
same_quotient (fin u a b) (fin true n d) z h k = absurd h
same_quotient (fin false a b) (fin false n d) nan h k = refl
same_quotient (fin false a b) (fin false n d) (inf t) h k = refl
same_quotient (fin false a b) (fin false n d) (fin t p c) h k = go (eqb p 0) refl
  where
    q : a * up b * down d ≡ n * up d * down b
    q = eqb→eq (a * up b * down d) (n * up d * down b) (and_l (eqb (a * up b * down d) (n * up d * down b)) true k)

    above : 0 < n * up d * down b
    above = let l = ltb→lt (0 * down d) (n * up d * 1) h in mul-pos (omega arith) (down_pos b)

    no_a : eqb a 0 ≡ false
    no_a = ne_eqb a 0 (λ e. let w : a * up b * down d ≡ 0 * up b * down d = ap (λ (v : ℕ). v * up b * down d) e in omega (arith, q, above))

    no_n : eqb n 0 ≡ false
    no_n = ne_eqb n 0 (λ e. let w : n * up d * down b ≡ 0 * up d * down b = ap (λ (v : ℕ). v * up d * down b) e in omega (arith, above))

    crossed : a * up b * down c * (p * up c * down d) ≡ n * up d * down c * (p * up c * down b)
    crossed =
        ap (λ (v : ℕ). a * up b * down c * v) (mul_comm (p * up c) (down d))
        ∙ mul-mul-mul_comm (a * up b) (down c) (down d) (p * up c)
        ∙ ap (λ (v : ℕ). v * (down c * (p * up c))) q
        ∙ sym (mul-mul-mul_comm (n * up d) (down c) (down b) (p * up c))
        ∙ ap (λ (v : ℕ). n * up d * down c * v) (mul_comm (down b) (p * up c))

    go : (o : Bool) → eqb p 0 ≡ o
        → cond o (cond (eqb a 0) nan (inf (unlike false t))) (round binary64 (unlike false t) (a * up b * down c) (p * up c * down b))
        ≡ cond o (cond (eqb n 0) nan (inf (unlike false t))) (round binary64 (unlike false t) (n * up d * down c) (p * up c * down d))
    go true e = rw (no_a, no_n) refl
    go false e =
        let ne = eqb-false p 0 e in
        let l : 0 < p = omega arith in
        round_same binary64 (unlike false t) (a * up b * down c) (p * up c * down b) (n * up d * down c) (p * up c * down d)
        (mul-pos (mul-pos l (up_pos c)) (down_pos b)) (mul-pos (mul-pos l (up_pos c)) (down_pos d)) crossed
same_quotient (fin true a b) (fin false n d) z h k =
    let q = eqb→eq (a * up b * down d) (n * up d * down b) (and_l (eqb (a * up b * down d) (n * up d * down b)) (eqb (a * up b * down d) 0) k) in
    let o = eqb→eq (a * up b * down d) 0 (and_r (eqb (a * up b * down d) (n * up d * down b)) (eqb (a * up b * down d) 0) k) in
    let p = ltb→lt (0 * down d) (n * up d * 1) h in
    let g : 0 < n * up d * down b = mul-pos (omega arith) (down_pos b) in
    absurd (omega arith)

twelve : half_life ≡ fin false 3 (pos 2)
unfolding of_bits
twelve = refl

-- a carried factor is that of its frame time, if there is one
abbrev pub Carried : Float → Fade → Type 0
Carried air d = T (lt f0 d.time) → d.by ≡ factor air d.time

module _ (air time : Float) (last : Fade) (good : Carried air last) where
  product : T (lt f0 last.time) → T (eq time last.time) → half_life ⊗ time ≡ half_life ⊗ last.time
  product h k = rw twelve (same_product false 3 (pos 2) time last.time h k)

  -- the factor that serves is the rung's own
  pub fade_by : (d : Fade) → d ≡ fade_at air time last → d.by ≡ factor air time
  fade_by d e = rw e (go (lt f0 last.time) (eq time last.time) good product)
    where
      go : (a b : Bool)
          → (T a → last.by ≡ factor air last.time)
          → (T a → T b → half_life ⊗ time ≡ half_life ⊗ last.time)
          → (cond (a && b) last (record { time = time; by = factor air time })).by ≡ factor air time
      go true true g p = g tt ∙ ap (λ (z : Float). half (air ⊘ z)) (sym (p tt tt))
      go true false g p = refl
      go false b g p = refl

  -- and it may be carried on
  pub fade_carried : (d : Fade) → d ≡ fade_at air time last → Carried air d
  fade_carried d e = rw e (go (lt f0 last.time && eq time last.time))
    where
      go : (b : Bool) → Carried air (cond b last (record { time = time; by = factor air time }))
      go true = good
      go false = λ h. refl

-- one factor more is the rung's own: the one computed, or the last one, carried on
pub filled_more : (t : Table) (air : Float) (by : List Float) (i : ℕ) (last d : Fade) → i < length by → Carried air last → d ≡ fade_at air (row t i).time last
    → ((r : ℕ) → r < i → get_or by r f1 ≡ factor air (row t r).time) → (r : ℕ) → r < i + 1 → get_or (set by i d.by) r f1 ≡ factor air (row t r).time
filled_more t air by i last d long good e before r h =
    elim (ℕ_discrete r i) [
      | yes q ↦ rw q (get_or-set_same by i d.by f1 long ∙ fade_by air (row t i).time last good d e)
      | no n ↦ get_or-set_other by i r d.by f1 n ∙ before r (omega arith)
    ]

-- two airs that `==` finds the same above 0 have one factor at each frame time
pub same_air : (air last time : Float) → T (lt f0 last) → T (eq air last) → factor last time ≡ factor air time
same_air air last time h k = ap half (sym (same_quotient air last (half_life ⊗ time) h k))

-- so the factors kept of the same air are those for a frame's
pub kept_fading : (t : Table) (air : Float) (d : Fades) → Kept t d → true ≡ (lt f0 d.air && eq air d.air) → Fading t air d
kept_fading t air d k e r h =
    let both : T (lt f0 d.air && eq air d.air) = subst T e tt in
    let above = and_l (lt f0 d.air) (eq air d.air) both in
    k above r h ∙ same_air air d.air _ above (and_r (lt f0 d.air) (eq air d.air) both)

-- all of them right, they are those that `filled` has, as many as there are rungs in use
pub filled_done : (t : Table) (air : Float) (by : List Float) → length by ≡ rung_count t → ((r : ℕ) → r < rung_count t → get_or by r f1 ≡ factor air (row t r).time)
    → by ≡ tabulate (rung_count t) 0 (λ r. factor air (row t r).time)
filled_done t air by long right =
    let n = rung_count t in
    let F : ℕ → Float = λ r. factor air (row t r).time in
    ext_get_or f1 by (tabulate n 0 F) (long ∙ sym (length_tabulate n 0 F))
    (λ r k. let h : r < n = omega (arith, long) in right r h ∙ ap F (sym (zero-add r)) ∙ sym (tabulate_at n 0 F r f1 h))

-- the factors filled are those for the air
filled_fading : (t : Table) (air : Float) (d : Fades) → Fading t air (fades_for t air d)
unfolding fades_for
filled_fading t air d r h =
    let n = rung_count t in
    let F : ℕ → Float = λ q. factor air (row t q).time in
    get_or-append (tabulate n 0 F) (drop n d.by) f1 r (omega (arith, length_tabulate n 0 F)) ∙ tabulate_at n 0 F r f1 h ∙ ap F (zero-add r)

-- from factors that are kept, those for a frame's air are right, and are kept
module _ (t : Table) (air : Float) (d : Fades) (k : Kept t d) where
  pub turned_fading : Fading t air (turned t air d)
  unfolding turned
  turned_fading = go (lt f0 d.air && eq air d.air) refl
    where
      go : (b : Bool) → b ≡ (lt f0 d.air && eq air d.air) → Fading t air (cond b d (fades_for t air d))
      go true q = kept_fading t air d k q
      go false q = filled_fading t air d

  pub turned_kept : Kept t (turned t air d)
  unfolding turned fades_for
  turned_kept = go (lt f0 d.air && eq air d.air)
    where
      go : (b : Bool) → Kept t (cond b d (fades_for t air d))
      go true = k
      go false = λ a. filled_fading t air d
