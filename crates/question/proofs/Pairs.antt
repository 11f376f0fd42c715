-- One pair of the chain, at a count that is not 0, and what the pairs' rule comes to. Assumes nothing.
use mathlib.Core.Path.{◌≡◌, refl, sym, ap, ◌∙◌}
use mathlib.Core.Bool.{false, ◌&&◌}
use mathlib.Core.List.{List}
use Prim.Native.Nat.{ℕ, zero, suc, ◌+◌, ◌-◌, ◌*◌, ◌/◌, ◌≤◌, ◌<◌}
use native.Mathlib.Numerals.{add-one}
use native.Mathlib.Omega.{arith}
use borrow.Author.Tests.{eq-eqb, ne_eqb, le-leb, lt-leb}
use lib.Dec.{eqb}
use lib.ListN.{length, get_or, take, drop}
use lib.Seq.{drop-drop}
use Rattle.std.specs.Simd.{first_chunks}
use Rattle.ladder.specs.Lists.{tabulate}
use Rattle.question.specs.Bytes.{le32}
use Rattle.question.specs.File.{event_count, pairs_end, offset_at, length_at, chained, ok_pairs}
use Rattle.ladder.proofs.Ranges.{none_left}
use Rattle.ladder.proofs.Tabulating.{length_tabulate, tabulate_at}
use Rattle.question.proofs.Chunks.{chunk, first_chunks_all}
use Rattle.question.proofs.Bodies.{le32_part}

chain_next : (s : List ℕ) (n i at m : ℕ) → m ≡ n - i → i < n → chained s m i at ≡ (eqb (offset_at s i) at && chained s (n - (i + 1)) (i + 1) (at + length_at s i))
unfolding chained
chain_next s n i at zero e h = absurd (omega arith)
chain_next s n i at (suc m) e h = let q : m ≡ n - (i + 1) = omega arith in rw (← q, add-one)

-- the pairs below i keep the rule, so what is left decides
pub record Chained (s : List ℕ) (n i at : ℕ) : Type 0 where
  pub most : i ≤ n
  pub left : chained s (n - i) i at ≡ ok_pairs s

-- where the pairs have no room
pub chain_past : (s : List ℕ) (at : ℕ) → at ≡ pairs_end s → length s < at → false ≡ ok_pairs s
unfolding ok_pairs
chain_past s at f h = rw (← f, lt-leb at (length s) h)

pub chain_start : (s : List ℕ) (at : ℕ) → at ≡ pairs_end s → at ≤ length s → Chained s (event_count s) 0 at
unfolding ok_pairs
chain_start s at f h = let q : event_count s - 0 ≡ event_count s = omega arith in record { most = omega arith; left = rw (q, ← f, le-leb at (length s) h) }

module _ {s : List ℕ} {n i at : ℕ} (p : Chained s n i at) where
  -- r is the body's length, as a call gave it
  pub chain_on : (r : ℕ) → i < n → offset_at s i ≡ at → r ≡ length_at s i → Chained s n (i + 1) (at + r)
  chain_on r h e f = record { most = omega arith; left = rw f (sym (chain_next s n i at (n - i) refl h ∙ rw (eq-eqb (offset_at s i) at e)) ∙ p.left) }

  pub chain_off : i < n → (offset_at s i ≡ at → ⊥) → false ≡ ok_pairs s
  chain_off h e = sym (chain_next s n i at (n - i) refl h ∙ rw (ne_eqb (offset_at s i) at e)) ∙ p.left

  pub chain_end : n ≤ i → eqb at (length s) ≡ ok_pairs s
  unfolding chained
  chain_end h = rw (none_left h) at p.left

-- the length in the pair that stands at its offset's place
pub length_from : (s : List ℕ) (i : ℕ) → le32 (drop 4 (drop (8 + 8 * i) s)) ≡ length_at s i
unfolding length_at
length_from s i = let place : 8 + 8 * i + 4 ≡ 12 + 8 * i = omega arith in ap le32 (drop-drop 4 (8 + 8 * i) s ∙ ap (λ k. drop k s) place)

-- the pairs, as the chunks of 8 bytes of the part p of the file that holds n of them
pub record Pairs (s p : List ℕ) (n : ℕ) (pairs : List (List ℕ)) : Type 0 where
  pub part : p ≡ take (8 + 8 * n - 8) (drop 8 s)
  pub long : length p + 8 ≡ 8 + 8 * n
  pub all : pairs ≡ first_chunks 8 (length p / 8) p

pub pairs_lent : (s p : List ℕ) (n : ℕ) (pairs : List (List ℕ)) → p ≡ take (8 + 8 * n - 8) (drop 8 s) → length p + 8 ≡ 8 + 8 * n → pairs ≡ first_chunks 8 (length p / 8) p → Pairs s p n pairs
pairs_lent s p n pairs a b c = record { part = a; long = b; all = c }

module _ {s p : List ℕ} {n : ℕ} {pairs : List (List ℕ)} (r : Pairs s p n pairs) where
  pairs_are : pairs ≡ tabulate n 0 (chunk p 0 8)
  pairs_are = let count : length p / 8 ≡ n = omega (arith, r.long) in r.all ∙ ap (λ m. first_chunks 8 m p) count ∙ first_chunks_all p 0 8 n

  pub pairs_count : length pairs ≡ n
  pairs_count = ap length pairs_are ∙ length_tabulate n 0 (chunk p 0 8)

  module _ (i : ℕ) (d : List ℕ) (h : i < length pairs) where
    pair_is : get_or pairs i d ≡ take 8 (drop (8 * i) p)
    pair_is =
        let place : 0 + 8 * (0 + i) ≡ 8 * i = omega arith in
        ap (λ cs. get_or cs i d) pairs_are ∙ tabulate_at n 0 (chunk p 0 8) i d (omega (arith, h, pairs_count)) ∙ ap (λ k. take 8 (drop k p)) place

    -- the number k bytes on in the i-th pair
    number_is : (k : ℕ) → k + 3 < 8 → le32 (drop k (get_or pairs i d)) ≡ le32 (drop (8 * i + k + 8) s)
    number_is k g =
        let size : 8 + 8 * n - 8 ≡ 8 * n = omega arith in
        let place : 8 + (8 * i + k) ≡ 8 * i + k + 8 = omega arith in
        let room : 8 * i + k + 3 < 8 * n = omega (arith, h, pairs_count) in
        ap (λ y. le32 (drop k y)) pair_is
        ∙ le32_part 8 k (drop (8 * i) p) g
        ∙ ap le32 (drop-drop k (8 * i) p ∙ ap (drop (8 * i + k)) (r.part ∙ ap (λ m. take m (drop 8 s)) size))
        ∙ le32_part (8 * n) (8 * i + k) (drop 8 s) room
        ∙ ap le32 (drop-drop (8 * i + k) 8 s ∙ ap (λ j. drop j s) place)

    pub pair_offset : le32 (get_or pairs i d) ≡ offset_at s i
    unfolding offset_at
    pair_offset = let place : 8 * i + 0 + 8 ≡ 8 + 8 * i = omega arith in number_is 0 (omega arith) ∙ ap (λ k. le32 (drop k s)) place

    pub pair_length : le32 (drop 4 (get_or pairs i d)) ≡ length_at s i
    unfolding length_at
    pair_length = let place : 8 * i + 4 + 8 ≡ 12 + 8 * i = omega arith in number_is 4 (omega arith) ∙ ap (λ k. le32 (drop k s)) place
