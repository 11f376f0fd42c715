-- All accounts aged, and the frame's own rung as it was before aged by its own factor and with its gain stored over it, are the accounts that a frame books. Assumes nothing.
use Rattle.std.specs.Prelude.{◌≡◌, Bool, true, false, cond, ℕ, zero, suc, ◌+◌, ◌-◌, ◌<◌, ◌≤◌, ◌≢◌, List, length, get_or, set, take, drop, ◌++◌}
use mathlib.Core.Path.{refl, sym, ap, ◌∙◌}
use native.Mathlib.Decide.{dec_lt, ℕ_discrete}
use native.Mathlib.Omega.{arith}
use native.Mathlib.Nat.{zero-add}
use native.Mathlib.Numerals.{add-one}
use borrow.Author.Tests.{eq-eqb, ne_eqb, ltb-true, ltb-false}
use lib.Ieee.{Float}
use lib.ListN.{length-set}
use Rattle.std.proofs.Math.Seq.{take-set-lt}
use Rattle.std.proofs.lemmas.List.{get_or_default, get_or-take, drop-set-lt, take-append-drop, length-take}
use lib.Seq.{get_or-set_same, get_or-set_other, ext_get_or}
use Rattle.float.specs.Numbers.{f64, f1, ◌⊘◌}
use Rattle.half.specs.Power.{half}
use Rattle.ladder.proofs.Ranges.{left, none_left}
use Rattle.ladder.specs.declared.types.Table.{Table}
use Rattle.ladder.specs.Types.{rung_count, in_table}
use Rattle.account.specs.declared.types.Account.{Account}
use Rattle.account.specs.State.{no_account}
use Rattle.rules.specs.declared.types.Frame.{Frame}
use Rattle.account.specs.Fixed.{half_life}
use Rattle.rules.specs.Booking.{aged, gained, book_one, book_frame}
use Rattle.rules.specs.bridges.Ageing.{aged_by, booked_by}
use Rattle.rules.specs.bridges.Pass.{Fades, Fading}
use Rattle.rules.proofs.Fade.{own_fade_lem}

-- ---- n entries from i on, each changed by g
module _ {A : Type 0} (g : ℕ → A → A) (d : A) where
  abbrev each : ℕ → ℕ → List A → List A
  each zero i l = l
  each (suc n) i l = each n (suc i) (set l i (g i (get_or l i d)))

  each_length : (n i : ℕ) (l : List A) → length (each n i l) ≡ length l
  each_length zero i l = refl
  each_length (suc n) i l = each_length n (suc i) (set l i (g i (get_or l i d))) ∙ length-set l i (g i (get_or l i d))

  each_other : (n i j : ℕ) (l : List A) → (i ≤ j → i + n ≤ j) → get_or (each n i l) j d ≡ get_or l j d
  each_other zero i j l h = refl
  each_other (suc n) i j l h =
      each_other n (suc i) j (set l i (g i (get_or l i d))) (λ o. let k = h (omega arith) in omega arith)
      ∙ get_or-set_other l i j (g i (get_or l i d)) d (λ e. let k = h (omega arith) in omega arith)

  each_at : (n i j : ℕ) (l : List A) → i ≤ j → j < i + n → j < length l → get_or (each n i l) j d ≡ g j (get_or l j d)
  each_at zero i j l h k m = absurd (omega arith)
  each_at (suc n) i j l h k m =
      elim (dec_lt i j) [
        | yes o ↦
            each_at n (suc i) j (set l i (g i (get_or l i d))) o (omega arith) (omega (arith, length-set l i (g i (get_or l i d))))
            ∙ ap (g j) (get_or-set_other l i j (g i (get_or l i d)) d (λ e. omega arith))
        | no o ↦
            let e : j ≡ i = omega arith in
            rw e (each_other n (suc i) i (set l i (g i (get_or l i d))) (λ o. omega arith) ∙ get_or-set_same l i (g i (get_or l i d)) d (omega arith))
      ]

-- ageing and booking a frame are such changes
abbrev by_factor : List Float → ℕ → Account → Account
by_factor by i a = aged (get_or by i f1) a

aged_each : (n i : ℕ) (by : List Float) (l : List Account) → aged_by n i by l ≡ each (by_factor by) no_account n i l
unfolding aged_by
aged_each zero i by l = refl
aged_each (suc n) i by l = aged_each n (suc i) by (set l i (by_factor by i (get_or l i no_account)))

books_each : (n i : ℕ) (t : Table) (f : Frame) (l : List Account) → book_frame n i t f l ≡ each (book_one t f) no_account n i l
unfolding book_frame
books_each zero i t f l = refl
books_each (suc n) i t f l = books_each n (suc i) t f (set l i (book_one t f i (get_or l i no_account)))

-- ---- the first n of them, aged as a slice of their own
aged_slice : (n i : ℕ) (by : List Float) (l : List Account) → aged_by n i by (take (i + n) l) ++ drop (i + n) l ≡ aged_by n i by l
unfolding aged_by
aged_slice zero i by l = take-append-drop (i + 0) l
aged_slice (suc n) i by l =
    let x = by_factor by i (get_or l i no_account) in
    let h : i < i + suc n = omega arith in
    let q : i + suc n ≡ suc i + n = omega arith in
    ap (λ (a : Account). aged_by n (suc i) by (set (take (i + suc n) l) i (by_factor by i a)) ++ drop (i + suc n) l) (get_or-take (i + suc n) l i no_account h)
    ∙ ap (λ (k : List Account). aged_by n (suc i) by k ++ drop (i + suc n) l) (sym (take-set-lt (i + suc n) l i x h))
    ∙ ap (λ (k : List Account). aged_by n (suc i) by (take (i + suc n) (set l i x)) ++ k) (sym (drop-set-lt (i + suc n) l i x h))
    ∙ ap (λ (k : ℕ). aged_by n (suc i) by (take k (set l i x)) ++ drop k (set l i x)) q
    ∙ aged_slice n (suc i) by (set l i x)

aged_start : (n : ℕ) (by : List Float) (l : List Account) → n ≤ length l → aged_by (length (take n l)) 0 by (take n l) ++ drop n l ≡ aged_by n 0 by l
aged_start n by l h =
    let q : length (take n l) ≡ n = length-take n l ∙ omega arith in
    ap (λ (k : ℕ). aged_by k 0 by (take n l) ++ drop n l) q ∙ ap (λ (k : ℕ). aged_by n 0 by (take k l) ++ drop k l) (sym (zero-add n)) ∙ aged_slice n 0 by l

-- ---- a frame booked
module _ (t : Table) (f : Frame) (d : Fades) (l : List Account) (fading : Fading t f.air d) where
  abbrev all : ℕ
  all = rung_count t

  abbrev s : List Account
  s = aged_by all 0 d.by l

  abbrev booked : List Account
  booked = book_frame all 0 t f l

  aged_length : length s ≡ length l
  aged_length = ap length (aged_each all 0 d.by l) ∙ each_length (by_factor d.by) no_account all 0 l

  pub booked_length : length booked ≡ length l
  booked_length = ap length (books_each all 0 t f l) ∙ each_length (book_one t f) no_account all 0 l

  aged_at : (r : ℕ) → r < all → r < length l → get_or s r no_account ≡ aged (get_or d.by r f1) (get_or l r no_account)
  aged_at r h k =
      ap (λ (x : List Account). get_or x r no_account) (aged_each all 0 d.by l)
      ∙ each_at (by_factor d.by) no_account all 0 r l (omega arith) (omega arith) k

  aged_left : (r : ℕ) → all ≤ r → get_or s r no_account ≡ get_or l r no_account
  aged_left r h =
      ap (λ (x : List Account). get_or x r no_account) (aged_each all 0 d.by l)
      ∙ each_other (by_factor d.by) no_account all 0 r l (λ o. omega arith)

  booked_at : (r : ℕ) → r < all → r < length l → get_or booked r no_account ≡ book_one t f r (get_or l r no_account)
  booked_at r h k =
      ap (λ (x : List Account). get_or x r no_account) (books_each all 0 t f l)
      ∙ each_at (book_one t f) no_account all 0 r l (omega arith) (omega arith) k

  booked_left : (r : ℕ) → all ≤ r → get_or booked r no_account ≡ get_or l r no_account
  booked_left r h =
      ap (λ (x : List Account). get_or x r no_account) (books_each all 0 t f l)
      ∙ each_other (book_one t f) no_account all 0 r l (λ o. omega arith)

  -- another rung than the frame's, or one that is not in use
  other_at : (r : ℕ) → r < length l → (r < all → f.rung.0 ≢ r) → get_or s r no_account ≡ get_or booked r no_account
  other_at r k ne =
      elim (dec_lt r all) [
        | yes o ↦ aged_at r o k ∙ ap (λ (x : Float). aged x (get_or l r no_account)) (fading r o) ∙ sym (booked_at r o k ∙ rw (ne_eqb f.rung.0 r (ne o)) refl)
        | no o ↦ aged_left r (omega arith) ∙ sym (booked_left r (omega arith))
      ]

  -- by factors that are right a frame is booked as the rules book it
  pub books_by : booked_by t d.by f l ≡ booked
  unfolding booked_by
  books_by = go (in_table t f.rung.0) refl
    where
      r : ℕ
      r = f.rung.0

      own : Account
      own = gained f (aged (half (f1 ⊘ half_life)) (get_or l r no_account))

      go : (b : Bool) → b ≡ in_table t r → cond b (set s r own) s ≡ booked
      go false q =
          let h : all ≤ r = ltb-false r all (sym q) in
          ext_get_or no_account s booked (aged_length ∙ sym booked_length) (λ j k. other_at j (omega (arith, aged_length)) (λ o e. omega arith))
      go true q =
          let h : r < all = ltb-true r all (sym q) in
          ext_get_or no_account (set s r own) booked (length-set s r own ∙ aged_length ∙ sym booked_length)
          (λ j k.
          let m : j < length l = omega (arith, k, length-set s r own, aged_length) in
          elim (ℕ_discrete j r) [
            | yes i ↦
                rw i
                (get_or-set_same s r own no_account (omega (arith, i, m, aged_length))
                ∙ sym (booked_at r h (omega (arith, i, m)) ∙ rw (eq-eqb r r refl) refl))
            | no ne ↦ get_or-set_other s r j own no_account ne ∙ other_at j m (λ o i. ne (sym i))
          ])

-- ---- the code's own form: the accounts in use are aged as a slice
module _ (t : Table) (f : Frame) (by : List Float) (l : List Account) (long : length l ≡ 32) where
  abbrev sliced : List Account
  sliced = aged_by (length (take (rung_count t) l)) 0 by (take (rung_count t) l) ++ drop (rung_count t) l

  is_sliced : sliced ≡ aged_by (rung_count t) 0 by l
  is_sliced = aged_start (rung_count t) by l (omega (arith, long))

  -- the frame's rung is not in use
  pub books_others : false ≡ in_table t f.rung.0 → sliced ≡ booked_by t by f l
  unfolding booked_by
  books_others q = rw (← q) is_sliced

  -- it is, and is stored over; the factor is the code's, and the account is read with whatever default
  pub books_own : (e : Account) → true ≡ in_table t f.rung.0 → set sliced f.rung.0 (gained f (aged (f64 0x3fee_3437_e710_1344) (get_or l f.rung.0 e))) ≡ booked_by t by f l
  unfolding booked_by
  books_own e q =
      let h : f.rung.0 < rung_count t = ltb-true f.rung.0 (rung_count t) (sym q) in
      rw (is_sliced, get_or_default l f.rung.0 e no_account (omega (arith, long)), ← own_fade_lem, ← q) refl

-- ---- the loops
-- one account more, read with whatever default, and none left
pub aged_turn : (n i : ℕ) (by : List Float) (l : List Account) (d : Float) (e : Account) → i < n → i < length by → i < length l
    → aged_by (n - i) i by l ≡ aged_by (n - (i + 1)) (i + 1) by (set l i (aged (get_or by i d) (get_or l i e)))
unfolding aged_by
aged_turn n i by l d e h u v =
    rw (left h, add-one i, get_or_default by i d f1 u, get_or_default l i e no_account v) refl

pub aged_done : (n i : ℕ) (by : List Float) (l : List Account) → n ≤ i → aged_by (n - i) i by l ≡ l
unfolding aged_by
aged_done n i by l h = rw (none_left h) refl
