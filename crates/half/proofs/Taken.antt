-- What all the steps take off a t from 1/256 to below 1022, by one truncation: with n the whole part of 256 t, n / 256 whole steps and n % 256 parts.
-- And below 1/256, at a negative t and at a NaN no step is taken. Assumes nothing.
use Rattle.std.proofs.Common.{◌≡◌, ℕ, ◌+◌, ◌*◌, ◌/◌, ◌%◌, ◌^◌, ◌<◌, true, false, not, T, pos, sym, refl, ap, ◌∙◌, subst, le_of_eq, lt_of_lt_of_le, lt_of_le_of_lt, mod-lt, mul_assoc, div-lt_iff_lt-mul, add_comm, mul-pos, zero-add, mul-one, div-mul-le_self, arith, lit<, lit≤, pow_pos, pow-add, shr-shr}
use native.Mathlib.Nat.{mod-le, mod-eq-sub-div-mul}
use lib.Pow.{field, mod-mod-pow}
use lib.Ieee.{Float, nan, inf, fin, binary64, round, of_bits, of_int, to_unsigned, mul, lt, le, fits}
use lib.Ieee.Fits.{down_pos}
use lib.Ieee.Exact.{HasValue}
use lib.Ieee.Order.{le_of_values}
use lib.Ieee.Scale.{round_same}
use lib.Ieee.Positive.{positive, between}
use Rattle.float.specs.Numbers.{f64, ◌⊖◌, ◌⊗◌, f½, of_nat}
use Rattle.float.proofs.Order.{number, le_right, lt_le, le_lt, lt_le_lt, not_le}
use Rattle.float.proofs.Rounding.{zero64}
use Rattle.half.specs.Power.{f512, f1022, descent, whole_steps, part_steps}
use Rattle.half.proofs.Range.{last_step}
use Rattle.half.proofs.Fraction.{F, F-value, crossed, sub_at, mul_at, whole_at, widen}
use Rattle.half.proofs.Places.{Places, places}
use Rattle.half.proofs.Steps.{halvings, after, all_taken, from, none_taken}

abbrev f256 : Float
f256 = f64 0x4070_0000_0000_0000

-- ---- no step is taken
below_all : T (from last_step 10 f512) × T (from last_step 8 f½)
unfolding from of_bits mul le
below_all = (tt, tt)

module _ (t : Float) (h : T (not (le last_step t))) where
  none_whole : whole_steps t ≡ (t, 0)
  none_whole = none_taken last_step 10 f512 512 t 0 below_all.0 h

  pub none : (whole_steps t ≡ (t, 0)) × (part_steps t ≡ (t, 0))
  none = (none_whole, ap (λ (z : Float × ℕ). descent 8 f½ 128 z.0 0) none_whole ∙ none_taken last_step 8 f½ 128 t 0 below_all.1 h)

-- ---- t from the last step on, as a fraction
ends : T (positive last_step) × T (positive f1022) × T (number f1022)
unfolding of_bits
ends = (tt, tt, tt)

end_is : f1022 ≡ fin false 511 (pos 1)
unfolding of_bits
end_is = refl

fraction : (t : Float) → T (positive t) → T (fits binary64 t) → T (le t f1022) → Places 8 18 t
fraction nan p f h = absurd p
fraction (inf s) p f h = absurd p
fraction (fin true m e) p f h = absurd p
fraction (fin false m e) p f h =
    let a = crossed m e 511 (pos 1) (subst (λ (z : Float). T (le (fin false m e) z)) end_is h) in
    let b = down_pos e in
    places 8 18 m e (lit≤ tt) (lit≤ tt) p f (omega arith)

pub as_fraction : (t : Float) → T (fits binary64 t) → T (le last_step t) → T (not (le f1022 t)) → Places 8 18 t
as_fraction t f h k =
    let u = lt_le t f1022 (not_le t f1022 (le_right last_step t h) ends.2 k) in
    fraction t (between last_step t f1022 ends.0 ends.1 h u) f u

-- ---- t is q / 2 ^ (8 + d)
values : HasValue f256 false 256 1 × HasValue last_step false 1 256
unfolding of_bits
values = ((refl, refl), (refl, refl))

module _ (t : Float) (p : Places 8 18 t) where
  abbrev d : ℕ
  d = p.d

  abbrev q : ℕ
  q = p.q

  -- the whole part of 256 t
  abbrev n : ℕ
  n = q / 2 ^ d

  scale : 2 ^ (8 + d) ≡ 256 * 2 ^ d
  scale = pow-add 2 8 d

  pub small : n < 2 ^ 18
  small = (div-lt_iff_lt-mul (pow_pos d)).1 p.small

  value : HasValue t false q (2 ^ (8 + d))
  value = subst (λ (z : Float). HasValue z false q (2 ^ (8 + d))) (sym p.is) (F-value (8 + d) q p.fine p.digits)

  times : t ⊗ f256 ≡ F d q
  times =
      mul_at binary64 t f256 q 256 (2 ^ (8 + d)) 1 (pow_pos (8 + d)) (lit< tt) value values.0
      ∙ round_same binary64 false (q * 256) (2 ^ (8 + d) * 1) q (2 ^ d) (mul-pos (pow_pos (8 + d)) (lit< tt)) (pow_pos d) (mul_assoc q 256 (2 ^ d) ∙ ap (λ (z : ℕ). q * z) (sym scale ∙ sym (mul-one (2 ^ (8 + d)))))

  times_value : HasValue (F d q) false q (2 ^ d)
  times_value = F-value d q (omega (arith, p.fine)) p.digits

  pub counted : to_unsigned 64 (t ⊗ f256) ≡ n
  counted = ap (to_unsigned 64) times ∙ whole_at (F d q) q (2 ^ d) (pow_pos d) times_value (omega (arith, small))

  -- 256 t is in the range of a u64
  pub in_range : T (lt (fin true 1 (pos 0)) (t ⊗ f256)) × T (lt (t ⊗ f256) (fin false 1 (pos 64)))
  unfolding lt
  in_range =
      let most = fin false 1 (pos 18) in (
        subst (λ (z : Float). T (lt (fin true 1 (pos 0)) z)) (sym times)
            (lt_le_lt (fin true 1 (pos 0)) zero64 (F d q) tt (le_of_values zero64 (F d q) 0 1 q (2 ^ d) (lit< tt) (pow_pos d) (refl, refl) times_value (omega arith))),
        subst (λ (z : Float). T (lt z (fin false 1 (pos 64)))) (sym times)
            (le_lt (F d q) most (fin false 1 (pos 64)) (le_of_values (F d q) most q (2 ^ d) (2 ^ 18) 1 (pow_pos d) (lit< tt) times_value (refl, refl) (omega (arith, p.small))) tt),
      )

  back : of_nat n ⊗ last_step ≡ F 8 n
  unfolding of_int
  back =
      mul_at binary64 (F 0 n) last_step n 1 1 256 (lit< tt) (lit< tt) (F-value 0 n (lit≤ tt) (omega (arith, small))) values.1
      ∙ ap (λ (z : ℕ). round binary64 false z 256) (mul-one n)

  rest : t ⊖ of_nat n ⊗ last_step ≡ F (8 + d) (q % 2 ^ d)
  rest =
      ap (λ (z : Float). t ⊖ z) back
      ∙ sub_at t (F 8 n) q (n * 2 ^ d) (2 ^ (8 + d)) (pow_pos (8 + d)) value (widen (F 8 n) n 8 d (F-value 8 n (lit≤ tt) (omega (arith, small)))) binary64 (div-mul-le_self q (2 ^ d))
      ∙ ap (F (8 + d)) (sym (mod-eq-sub-div-mul q (2 ^ d)))

  whole : whole_steps t ≡ after (8 + d) (8 + d) q 0
  whole =
      ap (λ (z : Float). descent 10 f512 512 z 0) p.is
      ∙ all_taken 0 (8 + d) (8 + d) (zero-add (8 + d)) p.fine 10 f512 512 q 0 halvings.0 p.digits (omega (arith, p.small, scale))

  parts : part_steps t ≡ after d (8 + d) (q % 2 ^ (8 + d)) 0
  parts =
      ap (λ (z : Float × ℕ). descent 8 f½ 128 z.0 0) whole
      ∙ all_taken 8 d (8 + d) refl p.fine 8 f½ 128 (q % 2 ^ (8 + d)) 0 halvings.1 (lt_of_le_of_lt (mod-le q (2 ^ (8 + d))) p.digits) (lt_of_lt_of_le (mod-lt q (pow_pos (8 + d))) (le_of_eq scale))

  pub taken : (t ⊖ of_nat n ⊗ last_step ≡ (part_steps t).0) × (n % 256 ≡ (part_steps t).1) × (n / 256 ≡ (whole_steps t).1)
  taken = (
    rest ∙ ap (F (8 + d)) (sym (mod-mod-pow q 8 d)) ∙ sym (ap (λ (z : Float × ℕ). z.0) parts),
    sym (field q 8 d) ∙ sym (zero-add (q % 2 ^ (8 + d) / 2 ^ d)) ∙ sym (ap (λ (z : Float × ℕ). z.1) parts),
    shr-shr q d 8 ∙ ap (λ (z : ℕ). q / 2 ^ z) (add_comm d 8) ∙ sym (zero-add (q / 2 ^ (8 + d))) ∙ sym (ap (λ (z : Float × ℕ). z.1) whole),
  )
