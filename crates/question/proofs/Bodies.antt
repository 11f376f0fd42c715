-- The lists of a body by their entries: how many there are, and what stands at each. Assumes nothing.
use mathlib.Core.Path.{◌≡◌, refl, sym, ap, ◌∙◌}
use mathlib.Core.Bool.{Bool}
use mathlib.Core.List.{List}
use Prim.Native.Nat.{ℕ, ◌+◌, ◌*◌, ◌/◌, ◌<◌, ◌≤◌}
use native.Mathlib.Omega.{arith}
use lib.Dec.{ltb}
use lib.ListN.{length, get_or, drop, take, length-drop}
use lib.Seq.{drop-drop}
use denote.Ref.{Bor}
use Rattle.std.specs.Simd.{first_chunks}
use Rattle.std.specs.Slice.{IsItemAt}
use Rattle.std.proofs.Common.{Option, Some, None}
use Rattle.std.proofs.lemmas.List.{get_or-take, get_or-drop, get_or_past}
use Rattle.std.specs.List.{list_all}
use Rattle.ladder.specs.Lists.{every, tabulate}
use Rattle.limits.specs.Values.{ok_burst}
use Rattle.rules.specs.declared.types.Frame.{Frame}
use Rattle.question.specs.Bytes.{byte, le16, le32, le64, le_f64}
use Rattle.question.specs.Body.{all_from, frame_count, frame_bytes, ok_flags, frame_of, frame_at, frames_in, no_frame, burst_count, burst_at, bursts_in, first_of}
use Rattle.question.proofs.Over.{over_filled}
use Rattle.question.proofs.Chunks.{chunk, first_chunks_all}
use denote.Param.Members.{Mut, Called}
use Rattle.std.specs.Array.{IsFromFnResult}
use Rattle.ladder.proofs.Tabulating.{made_at, length_tabulate, tabulate_at}
use Rattle.question.proofs.Ranges.{all_tabulate, all_same}

-- ---- the bytes of a chunk are the list's
byte_part : (n k i : ℕ) (s : List ℕ) → k + i < n → byte (drop k (take n s)) i ≡ byte (drop k s) i
byte_part n k i s h = get_or-drop k (take n s) i 0 ∙ get_or-take n s (k + i) 0 h ∙ sym (get_or-drop k s i 0)

le16_part : (n k : ℕ) (s : List ℕ) → k + 1 < n → le16 (drop k (take n s)) ≡ le16 (drop k s)
unfolding le16
le16_part n k s h = rw (byte_part n k 0 s (omega arith), byte_part n k 1 s (omega arith)) refl

pub le32_part : (n k : ℕ) (s : List ℕ) → k + 3 < n → le32 (drop k (take n s)) ≡ le32 (drop k s)
unfolding le32
le32_part n k s h = rw (byte_part n k 0 s (omega arith), byte_part n k 1 s (omega arith), byte_part n k 2 s (omega arith), byte_part n k 3 s (omega arith)) refl

float_part : (n k : ℕ) (s : List ℕ) → k + 7 < n → le_f64 (drop k (take n s)) ≡ le_f64 (drop k s)
unfolding le_f64 le64
float_part n k s h = rw (drop-drop 4 k (take n s), drop-drop 4 k s, le32_part n k s (omega arith), le32_part n (k + 4) s (omega arith)) refl

frame_part : (s : List ℕ) → frame_of (take 12 s) ≡ frame_of s
unfolding frame_of
frame_part s = rw (byte_part 12 0 0 s (omega arith), byte_part 12 0 1 s (omega arith), le16_part 12 2 s (omega arith), float_part 12 4 s (omega arith)) refl

-- what f makes of the i-th whole chunk, or d: `get` of what `as_chunks` gives, and `map_or`
module _ {B : Type 0} (s : List ℕ) (base n m : ℕ) (f : List ℕ → B) (g : ℕ → B) (d : B) (same : (j : ℕ) → f (chunk s base n j) ≡ g j) where
  pub chunk_got : (i : ℕ) (r : Option (Bor (List ℕ))) (y : B) → IsItemAt (first_chunks n m (drop base s)) i r → (r ≡ None → y ≡ d) → ((x : Bor (List ℕ)) → r ≡ Some x → y ≡ f x.now) → y ≡ get_or (tabulate m 0 g) i d
  chunk_got i None y w a b =
      let all = first_chunks_all s base n m in
      let past : m ≤ i = omega (arith, w.3, ap length all, length_tabulate m 0 (chunk s base n)) in
      a refl ∙ sym (get_or_past (tabulate m 0 g) i d (omega (arith, length_tabulate m 0 g)))
  chunk_got i (Some x) y w a b =
      let all = first_chunks_all s base n m in
      let few : i < m = omega (arith, w.3.0, ap length all, length_tabulate m 0 (chunk s base n)) in
      let is : x.now ≡ chunk s base n (0 + i) = w.1 ∙ ap (λ cs. get_or cs i x.now) all ∙ tabulate_at m 0 (chunk s base n) i x.now few in
      b x refl ∙ ap f is ∙ same (0 + i) ∙ sym (tabulate_at m 0 g i d few)

-- ---- flags: of the frames as chunks of 12 bytes
abbrev pub known_flags : List ℕ → Bool
known_flags frame = ltb (byte frame 1) 8

pub flags_all : (b : List ℕ) → list_all known_flags (tabulate (frame_count b) 0 (chunk b 10 12)) ≡ all_from (frame_count b) 0 (ok_flags b)
unfolding ok_flags
flags_all b =
    all_tabulate (frame_count b) 0 (chunk b 10 12) known_flags
    ∙ all_same (frame_count b) 0 _ _ (λ i. ap (λ f. ltb f 8) (get_or-take 12 (frame_bytes b i) 1 0 (omega arith)))

-- ---- an array that `from_fn` made of the entries of a list, and d past the last
pub first_made : {F A : Type 0} {g : Mut F (ℕ × Unit {0}) A} {f : F} (d : A) (xs ys : List A) (n : ℕ) → IsFromFnResult g f ys n → ((i : ℕ) (y : A) (q : F) → Called g f (i, tt) y q → (q ≡ f) × (y ≡ get_or xs i d)) → ys ≡ first_of n d xs
unfolding first_of
first_made d xs ys n made said = over_filled d xs n ys made.long (λ i h. made_at (λ j. get_or xs j d) said ys n i d made h)

-- ---- frames
pub length_frames : (b : List ℕ) → length (frames_in b) ≡ frame_count b
unfolding frames_in
length_frames b = length_tabulate (frame_count b) 0 (frame_at b)

pub frame_got : (b : List ℕ) (i : ℕ) (r : Option (Bor (List ℕ))) (y : Frame) → IsItemAt (first_chunks 12 (length (drop 10 b) / 12) (drop 10 b)) i r → (r ≡ None → y ≡ no_frame) → ((x : Bor (List ℕ)) → r ≡ Some x → y ≡ frame_of x.now)
    → y ≡ get_or (frames_in b) i no_frame
unfolding frames_in frame_at
frame_got b i r y w =
    let count : length (drop 10 b) / 12 ≡ frame_count b = ap (λ n. n / 12) (length-drop 10 b) in
    chunk_got b 10 12 (frame_count b) frame_of (frame_at b) no_frame (λ j. frame_part (frame_bytes b j)) i r y (rw count at w)

-- ---- burst counts
pub length_bursts : (b : List ℕ) → length (bursts_in b) ≡ burst_count b
unfolding bursts_in
length_bursts b = length_tabulate (burst_count b) 0 (burst_at b)

pub burst_got : (b : List ℕ) (i : ℕ) (r : Option (Bor (List ℕ))) (y : ℕ) → IsItemAt (first_chunks 2 (length (drop 25 b) / 2) (drop 25 b)) i r → (r ≡ None → y ≡ 0) → ((x : Bor (List ℕ)) → r ≡ Some x → y ≡ le16 x.now)
    → y ≡ get_or (bursts_in b) i 0
unfolding bursts_in burst_at
burst_got b i r y w =
    let count : length (drop 25 b) / 2 ≡ burst_count b = ap (λ n. n / 2) (length-drop 25 b) in
    chunk_got b 25 2 (burst_count b) le16 (burst_at b) 0 (λ j. le16_part 2 0 (drop (25 + 2 * j) b) (omega arith)) i r y (rw count at w)

-- of the burst counts as chunks of 2 bytes
abbrev pub known_burst : List ℕ → Bool
known_burst count = ok_burst (le16 count)

pub bursts_all : (b : List ℕ) → list_all known_burst (tabulate (burst_count b) 0 (chunk b 25 2)) ≡ every ok_burst (bursts_in b)
unfolding bursts_in burst_at
bursts_all b =
    all_tabulate (burst_count b) 0 (chunk b 25 2) known_burst
    ∙ all_same (burst_count b) 0 _ _ (λ i. ap ok_burst (le16_part 2 0 (drop (25 + 2 * i) b) (omega arith)))
    ∙ sym (all_tabulate (burst_count b) 0 (burst_at b) ok_burst)
