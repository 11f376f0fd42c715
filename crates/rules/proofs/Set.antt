-- A set of rungs as the binary digits of a number: what adding a rung, and taking the lowest one out, does to it; and that judging the rungs of a set is judging
-- those of the frames that it agrees with. Assumes nothing.
use mathlib.Core.Path.{◌≡◌, refl, sym, ap, ◌∙◌}
use mathlib.Core.Logic.{◌⊎◌, inl, inr, ⊎_elim}
use mathlib.Core.Bool.{Bool, true, false, not, ◌&&◌, ◌||◌, cond}
use mathlib.Core.List.{List}
use Prim.Native.Nat.{ℕ, zero, suc, ◌+◌, ◌-◌, ◌*◌, ◌/◌, ◌%◌, ◌^◌, ◌≤◌, ◌<◌}
use native.Mathlib.Nat.{pow-suc, pow-succ', mod-lt, zero-lt-suc, add-suc, suc-add, add-zero, zero-add, one-mul, zero-div, div-one, div-eq_of_lt, div-div-eq-div-mul, mul-div_cancel}
use native.Mathlib.Omega.{arith}
use lib.Dec.{lit<, ltb, eqb, eqb-zero-suc, eqb-suc-zero, eqb-suc-suc}
use lib.Pow.{pow_pos, shl_exact}
use lib.Bits.{bit_or, or_shr, or_mod, or_zero_r}
use lib.Count.{count_trailing_zeros, ones, ones_step}
use Rattle.ladder.specs.declared.types.Table.{Table}
use Rattle.account.specs.declared.types.Prices.{Prices}
use Rattle.account.specs.declared.types.State.{State}
use Rattle.account.specs.State.{choice}
use Rattle.rules.specs.Booking.{Frame, sent}
use Rattle.rules.specs.Tries.{tries, judge_try, judge_if_sent, judge_above}
use Rattle.rules.specs.bridges.Sets.{in_set, fold_up, judge_one, judge_set}

-- a digit is 0 or 1
two : (s : ℕ) → (s % 2 ≡ 0) ⊎ (s % 2 ≡ 1)
two s = go (s % 2) (mod-lt s (zero-lt-suc 1))
  where
    go : (d : ℕ) → d < 2 → (d ≡ 0) ⊎ (d ≡ 1)
    go zero h = inl refl
    go (suc zero) h = inr refl
    go (suc (suc d)) h = absurd (omega arith)

-- ---- adding a rung

-- the digits of a power of two, by the test that says which is set
abbrev bit : Bool → ℕ
bit true = 1
bit false = 0

power : (r k : ℕ) → 2 ^ r / 2 ^ k % 2 ≡ bit (eqb r k)
power zero zero = refl
power zero (suc k) =
    let g = pow-suc 2 k in
    let p = pow_pos k in
    let z : 1 / 2 ^ suc k ≡ 0 = div-eq_of_lt (omega arith) in
    rw (z, eqb-zero-suc)
power (suc r) zero = rw (div-one, eqb-suc-zero, pow-suc) (omega arith)
power (suc r) (suc k) =
    let h : 2 ^ suc r / 2 ^ suc k ≡ 2 ^ r / 2 ^ k =
    rw (pow-succ' 2 k, ← div-div-eq-div-mul, pow-suc 2 r, mul-div_cancel (2 ^ r) (zero-lt-suc 1)) in
    rw (h, eqb-suc-suc) (power r k)

pub adds : (s r k : ℕ) → in_set (bit_or s (2 ^ r)) k ≡ (eqb r k || in_set s k)
adds s r k = rw (or_shr, or_mod _ _ 1, power r k) (go (eqb r k) (two (s / 2 ^ k)))
  where
    go : (b : Bool) → (s / 2 ^ k % 2 ≡ 0) ⊎ (s / 2 ^ k % 2 ≡ 1) → eqb (bit_or (s / 2 ^ k % 2) (bit b)) 1 ≡ (b || in_set s k)
    go true (inl e) = rw e
    go true (inr e) = rw e
    go false w = rw or_zero_r

-- nothing is in the empty set
pub none_in : (k : ℕ) → in_set 0 k ≡ false
none_in k = rw zero-div

-- ---- taking the lowest rung out

odd : (n s : ℕ) → s % 2 ≡ 1 → count_trailing_zeros (suc n) s ≡ 0
unfolding count_trailing_zeros
odd n s e = rw e

even : (n s : ℕ) → s % 2 ≡ 0 → count_trailing_zeros (suc n) s ≡ suc (count_trailing_zeros n (s / 2))
unfolding count_trailing_zeros
even n s e = rw e

-- the lowest digit t of a set that is not empty: it is one of the n, it can be taken off, and then one digit less is set
pub record LowestDigit (n s t : ℕ) : Type 0 where
  pub digit : t < n
  pub within : 2 ^ t ≤ s
  pub fewer : ones s ≡ suc (ones (s - 2 ^ t))

-- what halving does to an even set
pub record Halved (s t : ℕ) : Type 0 where
  pub half : (s - 2 ^ suc t) / 2 ≡ s / 2 - 2 ^ t
  pub low : (s - 2 ^ suc t) % 2 ≡ 0

halved : (s t : ℕ) → s % 2 ≡ 0 → 2 ^ t ≤ s / 2 → Halved s t
halved s t e h = let g = pow-suc 2 t in record { half = omega arith; low = omega arith }

pub lowest : (n s : ℕ) → 0 < s → s < 2 ^ n → LowestDigit n s (count_trailing_zeros n s)
lowest zero s p h = absurd (omega arith)
lowest (suc n) s p h =
    ⊎_elim
    (λ e.
    let g = pow-suc 2 n in
    let ih = lowest n (s / 2) (omega arith) (omega arith) in
    let t = count_trailing_zeros n (s / 2) in
    let g2 = pow-suc 2 t in
    let q = halved s t e ih.within in
    rw (even n s e)
    (record {
      digit = omega arith;
      within = omega arith;
      fewer = omega (arith, ones_step s, ones_step (s - 2 ^ suc t), ap ones q.half);
    }))
    (λ e.
    let q : (s - 1) / 2 ≡ s / 2 = omega arith in
    rw (odd n s e)
    (record {
      digit = omega arith;
      within = omega arith;
      fewer = omega (arith, ones_step s, ones_step (s - 1), ap ones q);
    }))
    (two s)

-- a set with digits is not 0, and 0 has none
pub some : (s : ℕ) → 0 < ones s → 0 < s
unfolding ones
some zero h = h
some (suc s) h = zero-lt-suc s

-- what the code's `1 << t` is
pub shift : (t : ℕ) → t < 32 → 1 * 2 ^ t % 2 ^ 32 ≡ 2 ^ t
shift t h = shl_exact 1 t 32 (lit< tt) (omega arith) ∙ one-mul (2 ^ t)

empty : (n s : ℕ) → s < 2 ^ n → ones s ≤ 0 → s ≡ 0
empty n zero h e = refl
empty n (suc s) h e = absurd (omega (arith, (lowest n (suc s) (zero-lt-suc s) h).fewer))

module _ {ℓ} {A : Type ℓ} (f : A → ℕ → A) where
  -- the fold over the digits of s, lowest first
  walk : ℕ → ℕ → ℕ → A → A
  walk zero r s a = a
  walk (suc n) r s a = walk n (suc r) (s / 2) (cond (eqb (s % 2) 1) (f a r) a)

  -- it is the fold over a test that has the digits of s
  walks : (m : ℕ → Bool) (n r s : ℕ) (a : A) → ((k : ℕ) → k < n → m (r + k) ≡ in_set s k) → walk n r s a ≡ fold_up f m n r a
  unfolding walk
  walks m zero r s a h = refl
  walks m (suc n) r s a h =
      let here : m r ≡ eqb (s % 2) 1 = rw (add-zero, div-one) at (h 0 (zero-lt-suc n)) in
      rw here (walks m n (suc r) (s / 2) _ (λ k l. rw (suc-add, div-div-eq-div-mul, ← pow-succ', ← add-suc) (h (suc k) (omega arith))))

  -- taking the lowest digit first, and folding over the rest
  takes : (n r s : ℕ) (a : A) → 0 < s → s < 2 ^ n → walk n r s a ≡ walk n r (s - 2 ^ count_trailing_zeros n s) (f a (r + count_trailing_zeros n s))
  unfolding walk
  takes zero r s a p h = absurd (omega arith)
  takes (suc n) r s a p h =
      ⊎_elim
      (λ e.
      let g = pow-suc 2 n in
      let t = count_trailing_zeros n (s / 2) in
      let q = halved s t e (lowest n (s / 2) (omega arith) (omega arith)).within in
      rw (even n s e, e, q.half, q.low, add-suc, ← suc-add) (takes n (suc r) (s / 2) a (omega arith) (omega arith)))
      (λ e.
      let q : (s - 1) / 2 ≡ s / 2 = omega arith in
      let z : (s - 1) % 2 ≡ 0 = omega arith in
      rw (odd n s e, e, q, z, add-zero))
      (two s)

  nothing : (n r : ℕ) (a : A) → walk n r 0 a ≡ a
  unfolding walk
  nothing zero r a = refl
  nothing (suc n) r a = nothing n (suc r) a

  -- the two together: the fold over a set is the step at its lowest rung and the fold over the others; nothing is left to fold over 0
  pub next : (n s : ℕ) (a : A) → 0 < s → s < 2 ^ n
      → fold_up f (in_set s) n 0 a ≡ fold_up f (in_set (s - 2 ^ count_trailing_zeros n s)) n 0 (f a (count_trailing_zeros n s))
  next n s a p h =
      sym (walks (in_set s) n 0 s a (λ k l. rw zero-add)) ∙ takes n 0 s a p h
      ∙ rw (zero-add (count_trailing_zeros n s)) (walks (in_set _) n 0 _ _ (λ k l. rw zero-add))

  pub none : (n : ℕ) (a : A) → fold_up f (in_set 0) n 0 a ≡ a
  none n a = sym (walks (in_set 0) n 0 0 a (λ k l. rw zero-add)) ∙ nothing n 0 a

  -- two tests that agree on the n rungs
  pub agree : (m m' : ℕ → Bool) (n r : ℕ) (a : A) → ((k : ℕ) → k < n → m (r + k) ≡ m' (r + k)) → fold_up f m n r a ≡ fold_up f m' n r a
  agree m m' zero r a h = refl
  agree m m' (suc n) r a h =
      let here : m r ≡ m' r = rw add-zero at (h 0 (zero-lt-suc n)) in
      rw here (agree m m' n (suc r) _ (λ k l. rw (suc-add, ← add-suc) (h (suc k) (omega arith))))

-- ---- the same of the 32 rungs, said of the shut definition: opened in a goal, a fold over 32 rungs would be written out
module _ (t : Table) (p : Prices) where
  pub judge_next : (set : ℕ) (s : State) → 0 < set → set < 2 ^ 32
      → judge_set set t p s ≡ judge_set (set - 2 ^ count_trailing_zeros 32 set) t p (judge_one t p s (count_trailing_zeros 32 set))
  unfolding judge_set
  judge_next set s q h = next (judge_one t p) 32 set s q h

  pub judge_done : (set : ℕ) (s : State) → set < 2 ^ 32 → ones set ≤ 0 → judge_set set t p s ≡ s
  unfolding judge_set
  judge_done set s h e = rw (empty 32 set h e) (none (judge_one t p) 32 s)

  -- ---- the frames' side
  module _ (fs : List Frame) where
    one : (s : State) (r : ℕ) → judge_if_sent t p fs s r ≡ cond (sent fs r) (judge_one t p s r) s
    unfolding judge_if_sent
    one s r = go (sent fs r)
      where
        go : (b : Bool) → cond (b && ltb (choice t s) r && not (tries s.core.trying r)) (judge_try t p s r) s ≡ cond b (judge_one t p s r) s
        go true = refl
        go false = refl

    all : (n r : ℕ) (s : State) → fold_up (judge_one t p) (sent fs) n r s ≡ judge_above n r t p fs s
    unfolding judge_above
    all zero r s = refl
    all (suc n) r s = all n (suc r) _ ∙ ap (judge_above n (suc r) t p fs) (sym (one s r))

    -- a set that agrees with the frames on every rung
    pub judge_frames : (set : ℕ) (s : State) → ((k : ℕ) → k < 32 → in_set set k ≡ sent fs k) → judge_set set t p s ≡ judge_above 32 0 t p fs s
    unfolding judge_set
    judge_frames set s h = agree (judge_one t p) (in_set set) (sent fs) 32 0 s (λ k l. rw zero-add (h k l)) ∙ all 32 0 s
