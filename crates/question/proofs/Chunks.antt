-- The whole chunks of n elements that stand in a list from a place on, as `chunks_exact` gives them. Assumes nothing.
use mathlib.Core.Path.{◌≡◌, refl, sym, ap, ◌∙◌}
use mathlib.Core.List.{List, ◌∷◌}
use Prim.Native.Nat.{ℕ, zero, suc, ◌+◌, ◌-◌, ◌*◌, ◌≤◌, ◌<◌}
use native.Mathlib.Omega.{arith}
use lib.ListN.{length, take, drop, length-append, length-drop}
use lib.Seq.{drop-drop, drop-append_seam, take-append_seam}
use denote.Ref.{Bor}
use Rattle.std.proofs.Common.{Some, mul-suc, mul-zero}
use Rattle.std.specs.declared.slice.ChunksExact.{ChunksExact}
use Rattle.std.specs.Iterator.{AlwaysYields}
use Rattle.std.specs.Simd.{first_chunks}
use Rattle.std.specs.Slice.Iter.{chunks_exact_size, chunks_exact_rest, chunks_exact_steps}
use Rattle.std.proofs.lemmas.Iterator.{YieldsList}
use Rattle.ladder.specs.Lists.{tabulate}

module _ {A : Type 0} (xs : List A) (base n : ℕ) where
  abbrev pub chunk : ℕ → List A
  chunk i = take n (drop (base + n * i) xs)

  -- i of them came, and m are left
  pub record Left (m i : ℕ) (s : ChunksExact A) : Type 0 where
    pub size : chunks_exact_size s ≡ n
    pub rest : chunks_exact_rest s ≡ drop (base + n * i) xs
    pub enough : n * m ≤ length (chunks_exact_rest s)
    pub few : length (chunks_exact_rest s) < n * m + n

  -- a chunk comes
  module _ (i : ℕ) (s t : ChunksExact A) (x : Bor (List A)) (w : chunks_exact_steps s (Some x) t) where
    comes : chunks_exact_size s ≡ n → chunks_exact_rest s ≡ drop (base + n * i) xs → (x.now ≡ chunk i) × (chunks_exact_rest t ≡ drop (base + n * suc i) xs)
    comes e f =
        let long : length x.now ≡ n = w.1.1 ∙ e in
        let front : take n (chunks_exact_rest s) ≡ x.now = rw (w.1.0, ← long) (take-append_seam x.now _) in
        let back : drop n (chunks_exact_rest s) ≡ chunks_exact_rest t = rw (w.1.0, ← long) (drop-append_seam x.now _) in
        let place : base + n * i + n ≡ base + n * suc i = omega (arith, mul-suc n i) in
        (sym front ∙ ap (take n) f, sym back ∙ ap (drop n) f ∙ drop-drop n (base + n * i) xs ∙ ap (λ k. drop k xs) place)

    lengths : length (chunks_exact_rest s) ≡ chunks_exact_size s + length (chunks_exact_rest t)
    lengths = ap length w.1.0 ∙ length-append x.now (chunks_exact_rest t) ∙ ap (λ k. k + length (chunks_exact_rest t)) w.1.1

  chunks_yield : (m i : ℕ) (s : ChunksExact A) → Left m i s → AlwaysYields chunks_exact_steps (λ x. x.now) s (tabulate m i chunk)
  chunks_yield zero i s l = λ x t w. let k = lengths i s t x w in omega (arith, l.few, l.size)
  chunks_yield (suc m) i s l = (
    (λ t w. omega (arith, mul-suc n m, w.1.0, l.size, l.enough)),
    (λ x t w.
        let c = comes i s t x w l.size l.rest in
        let k = lengths i s t x w in
        (c.0, chunks_yield m (suc i) t (record { size = w.0 ∙ l.size; rest = c.1; enough = omega (arith, k, mul-suc n m, l.size, l.enough); few = omega (arith, k, mul-suc n m, l.size, l.few) }))),
  )

  -- all of them, of what `chunks_exact` gave
  pub chunks_all : (m : ℕ) (s : ChunksExact A) → chunks_exact_size s ≡ n → chunks_exact_rest s ≡ drop base xs → n * m ≤ length xs - base → length xs - base < n * m + n → YieldsList chunks_exact_steps (λ x. x.now) s (tabulate m 0 chunk)
  chunks_all m s e f h g =
      let place : base ≡ base + n * 0 = omega (arith, mul-zero n) in
      let long : length (chunks_exact_rest s) ≡ length xs - base = ap length f ∙ length-drop base xs in
      record { runs = chunks_yield m 0 s (record { size = e; rest = f ∙ ap (λ k. drop k xs) place; enough = omega (arith, long); few = omega (arith, long) }) }

  -- the same, as `as_chunks` gives them
  chunks_from : (m i : ℕ) → first_chunks n m (drop (base + n * i) xs) ≡ tabulate m i chunk
  chunks_from zero i = refl
  chunks_from (suc m) i =
      let place : base + n * i + n ≡ base + n * suc i = omega (arith, mul-suc n i) in
      ap (λ cs. chunk i ∷ cs) (ap (first_chunks n m) (drop-drop n (base + n * i) xs ∙ ap (λ k. drop k xs) place) ∙ chunks_from m (suc i))

  pub first_chunks_all : (m : ℕ) → first_chunks n m (drop base xs) ≡ tabulate m 0 chunk
  first_chunks_all m =
      let place : base ≡ base + n * 0 = omega (arith, mul-zero n) in
      ap (λ k. first_chunks n m (drop k xs)) place ∙ chunks_from m 0
