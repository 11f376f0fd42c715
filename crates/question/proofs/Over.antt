-- Lists written over the start of a list, element by element or part by part. Assumes nothing.
use mathlib.Core.Path.{◌≡◌, refl, sym, ap, ◌∙◌}
use mathlib.Core.Bool.{Bool, true, false}
use mathlib.Core.List.{List, [], ◌∷◌, ◌++◌, append_assoc, append-nil}
use Prim.Native.Nat.{ℕ, ◌+◌, ◌-◌, ◌≤◌, ◌<◌, zero-le}
use native.Mathlib.Numerals.{add-one}
use native.Mathlib.Omega.{arith}
use borrow.Author.Tests.{leb-true, leb-false}
use lib.Dec.{leb}
use lib.ListN.{length, get_or, take, drop, set, replicate, length-replicate, length-take, length-append, length-drop, drop_of_length-le}
use lib.Seq.{take_all, drop-cons, drop-drop, drop-append_seam, take-append_seam, set-append_seam}
use borrow.Rule.Slice.PartMut.{put_mid, post_of}
use Rattle.std.proofs.lemmas.List.{ext_get_or, get_or-replicate, get_or-append_right, get_or_append_left, get_or-drop, get_or-take, get_or_past}
use Rattle.question.specs.Over.{over}

pub over_length : {A : Type 0} (ds old : List A) → length ds ≤ length old → length (over ds old) ≡ length old
unfolding over
over_length ds old h = simp (length-append, length-drop) (omega arith)

-- one element more; z is any default
over_put : {A : Type 0} (z : A) (ds old : List A) (v : A) → length ds < length old → set (over ds old) (length ds) v ≡ over (ds ++ (v ∷ [])) old
unfolding over
over_put z ds old v h = rw (drop-cons old (length ds) z, set-append_seam, length-append, add-one, append_assoc)

over_over : {A : Type 0} (ds es old : List A) → ds ++ over es (drop (length ds) old) ≡ over (ds ++ es) old
unfolding over
over_over ds es old = rw (drop-drop, length-append, append_assoc)

-- a list of m entries that has those of another, and d past them
module _ {A : Type 0} (d : A) (xs : List A) (m : ℕ) where
  pub filled_read : (i : ℕ) → i < m → get_or (over (take m xs) (replicate m d)) i d ≡ get_or xs i d
  unfolding over
  filled_read i h = go (leb (length (take m xs)) i) refl
    where
      go : (b : Bool) → leb (length (take m xs)) i ≡ b → get_or (take m xs ++ drop (length (take m xs)) (replicate m d)) i d ≡ get_or xs i d
      go true e =
          let past : length (take m xs) ≤ i = leb-true _ i e in
          get_or-append_right (take m xs) _ (length (take m xs)) i d refl past
          ∙ get_or-drop (length (take m xs)) (replicate m d) (i - length (take m xs)) d
          ∙ get_or-replicate m _ d d (omega arith)
          ∙ sym (get_or_past xs i d (omega (arith, length-take m xs)))
      go false e = get_or_append_left (take m xs) _ d i (leb-false _ i e) ∙ get_or-take m xs i d h

  pub over_filled : (ys : List A) → length ys ≡ m → ((i : ℕ) → i < m → get_or ys i d ≡ get_or xs i d) → ys ≡ over (take m xs) (replicate m d)
  over_filled ys h each =
      let long : length (over (take m xs) (replicate m d)) ≡ m = over_length (take m xs) (replicate m d) (omega (arith, length-take m xs, length-replicate m d)) ∙ length-replicate m d in
      ext_get_or d ys _ (h ∙ sym long) (λ i g. let k : i < m = omega arith in each i k ∙ sym (filled_read i k))

-- ---- a list while it is written: new is old with ds over its start, and k is the next place
pub record Over {A : Type 0} (ds old : List A) (k : ℕ) (new : List A) : Type 0 where
  pub at : k ≡ length ds
  pub is : new ≡ over ds old
  pub room : length ds ≤ length old

pub over_start : {A : Type 0} (old : List A) → Over [] old 0 old
unfolding over
over_start old = record { at = refl; is = refl; room = zero-le }

module _ {A : Type 0} {ds old : List A} {k : ℕ} {new : List A} (o : Over ds old k new) where
  pub over_len : length new ≡ length old
  over_len = ap length o.is ∙ over_length ds old o.room

  -- an element is stored
  pub put : (v : A) → length ds < length old → Over (ds ++ (v ∷ [])) old (k + 1) (set new k v)
  put v h =
      let n : length (ds ++ (v ∷ [])) ≡ length ds + 1 = length-append ds (v ∷ []) in
      record { at = omega (arith, o.at); is = rw (o.at, o.is) (over_put v ds old v h); room = omega arith }

  -- what is lent from k on
  rest : take (length new - k) (drop k new) ≡ drop (length ds) old
  unfolding over
  rest =
      let n : length (drop k new) ≡ length new - k = length-drop k new in
      take_all (length new - k) (drop k new) (omega arith) ∙ rw (o.at, o.is) (drop-append_seam ds _)

  rest_len : length (take (length new - k) (drop k new)) ≡ length old - k
  rest_len = rw (rest, o.at) (length-drop (length ds) old)

  front : take k new ≡ ds
  unfolding over
  front = rw (o.at, o.is) (take-append_seam ds _)

  none_after : post_of k (length new - k) new ≡ []
  none_after =
      let n : length (drop k new) ≤ length new - k = omega (arith, length-drop k new) in
      drop_of_length-le (drop k new) n

  -- the rest is lent to a callee that writes es over its start, and comes back
  lend : (es part : List A) (r : ℕ) → r ≡ length es → part ≡ over es (take (length new - k) (drop k new)) → length ds + length es ≤ length old
      → Over (ds ++ es) old (k + r) (put_mid k (length new - k) new part)
  lend es part r e f h =
      let n : length (ds ++ es) ≡ length ds + length es = length-append ds es in
      record {
        at = omega (arith, o.at);
        is = rw (front, none_after, f, rest, append-nil) (over_over ds es old);
        room = omega arith;
      }

-- ---- a text that is written piece by piece
-- what is left is a piece and more. (A record, so that antt finds the two from it, which it does not from an equation with `++`.)
pub record Next {A : Type 0} (rest piece more : List A) : Type 0 where
  pub is : rest ≡ piece ++ more

-- ds stands over the start of old, and ds and the rest are all of the text
pub record Partly {A : Type 0} (all rest old : List A) (len : ℕ) (new : List A) : Type 0 where
  pub ds : List A
  pub slice : Over ds old len new
  pub left : ds ++ rest ≡ all

pub partly_start : {A : Type 0} (all old : List A) → Partly all all old 0 old
partly_start all old = record { ds = []; slice = over_start old; left = refl }

module _ {A : Type 0} {all rest old : List A} {len : ℕ} {new : List A} (w : Partly all rest old len new) where
  -- the place is within the slice, which is as long as it was
  pub partly_within : (len ≤ length new) × (length new ≡ length old)
  partly_within = omega (arith, w.slice.at, over_len w.slice, w.slice.room)

  -- nothing is left
  pub partly_end : rest ≡ [] → (len ≡ length all) × (new ≡ over all old)
  partly_end e =
      let d : w.ds ≡ all = sym (append-nil w.ds) ∙ (rw e at w.left) in
      (w.slice.at ∙ ap length d, w.slice.is ∙ ap (λ l. over l old) d)

  -- how much is lent from there on
  pub partly_lent : length (take (length new - len) (drop len new)) ≡ length old - len
  partly_lent = rest_len w.slice

  -- the next piece has room, and then the rest of the rest is left
  module _ {piece more : List A} (e : Next rest piece more) (fits : len + length piece ≤ length old) where
    next_left : (w.ds ++ piece) ++ more ≡ all
    next_left = rw (append_assoc, ← e.is) w.left

    pub partly_next : (part : List A) (r : ℕ) → r ≡ length piece → part ≡ over piece (take (length new - len) (drop len new))
        → Partly all more old (len + r) (put_mid len (length new - len) new part)
    partly_next part r g f = record { ds = _; slice = lend w.slice piece part r g f (omega (arith, w.slice.at)); left = next_left }

-- how long pieces are
pub next_length : {A : Type 0} {rest piece more : List A} → Next rest piece more → length rest ≡ length piece + length more
next_length {A} {rest} {piece} {more} e = ap length e.is ∙ length-append piece more

-- the first piece, written at the start
pub partly_first : {A : Type 0} {all piece more : List A} → Next all piece more → (old new : List A) (r : ℕ) → length piece ≤ length old → r ≡ length piece → new ≡ over piece old → Partly all more old r new
partly_first {A} {all} {piece} {more} e old new r h g f = record { ds = piece; slice = record { at = g; is = f; room = h }; left = sym e.is }

-- the next piece has room wherever all has
partly_fits : {A : Type 0} {all rest old : List A} {len : ℕ} {new piece more : List A} → Partly all rest old len new → Next rest piece more → len + length piece ≤ length all
partly_fits {A} {all} {rest} w e = omega (arith, w.slice.at, ap length w.left, length-append w.ds rest, next_length e)

-- the last piece
pub partly_last : {A : Type 0} {all rest old : List A} {len : ℕ} {new : List A} → Partly all rest old len new → (part : List A) (r : ℕ) → length all ≤ length old → r ≡ length rest → part ≡ over rest (take (length new - len) (drop len new))
    → (len + r ≡ length all) × (put_mid len (length new - len) new part ≡ over all old)
partly_last {A} {all} {rest} w part r h g f =
    let e : Next rest rest [] = record { is = sym (append-nil rest) } in
    partly_end (partly_next w e (omega (arith, partly_fits w e)) part r g f) refl

-- what is left of the text, and that it has room where all has: as a number, and in the part that is lent
module _ {A : Type 0} {all rest old : List A} {len : ℕ} {new : List A} (w : Partly all rest old len new) (room : length all ≤ length old) where
  pub partly_total : len + length rest ≡ length all
  partly_total = omega (arith, w.slice.at, ap length w.left, length-append w.ds rest)

  pub last_room : length rest ≤ length (take (length new - len) (drop len new))
  last_room = omega (arith, partly_lent w, partly_total)

  module _ {piece more : List A} (e : Next rest piece more) where
    pub piece_fits : len + length piece ≤ length old
    piece_fits = omega (arith, partly_fits w e)

    pub piece_room : length piece ≤ length (take (length new - len) (drop len new))
    piece_room = omega (arith, partly_lent w, piece_fits)
