-- A question file, as the list of its bytes: refusals 10, 11 and 12, and the body of each event. Definitions only.
use Rattle.std.specs.Prelude.{Bool, ◌&&◌, ◌||◌, List, ℕ, zero, suc, ◌+◌, ◌-◌, ◌*◌, leb, eqb, length, drop, take}
use Rattle.ladder.specs.Lists.{tabulate}
use Rattle.limits.specs.Refusals.{unless, or_else, Verdict}
use Rattle.limits.specs.declared.refusal.Refusal.TheVariants.{FileHeader, FilePairs, FileBody}
use Rattle.question.specs.Bytes.{le32}
use Rattle.question.specs.Body.{all_from, ok_body}

-- "u32 event count, u32 air (1 wide, 2 narrow)"
abbrev pub event_count : List ℕ → ℕ
event_count s = le32 s

abbrev pub air : List ℕ → ℕ
air s = le32 (drop 4 s)

abbrev pub known_air : ℕ → Bool
known_air n = eqb n 1 || eqb n 2

-- 10: "question file under 8 or over 65,536 bytes, unknown air, over 1,000 events"
unfoldable pub ok_header : List ℕ → Bool
ok_header s = leb 8 (length s) && leb (length s) 65536 && known_air (air s) && leb (event_count s) 1000

-- "then pairs of u32 offset (from the file's start) and length": the i-th, from 0
unfoldable pub offset_at : List ℕ → ℕ → ℕ
offset_at s i = le32 (drop (8 + 8 * i) s)

unfoldable pub length_at : List ℕ → ℕ → ℕ
length_at s i = le32 (drop (12 + 8 * i) s)

-- where the pairs end
abbrev pub pairs_end : List ℕ → ℕ
pairs_end s = 8 + 8 * event_count s

-- "each next where the last ended, the final one at the file's end": of n pairs from the i-th on, where `at` is the end of the body before. (So they are "sorted by offset".)
unfoldable pub chained : List ℕ → ℕ → ℕ → ℕ → Bool
chained s zero i at = eqb at (length s)
chained s (suc n) i at = eqb (offset_at s i) at && chained s n (suc i) (at + length_at s i)

-- 11: "pairs break their rule or run past the file"; "first body follows the pairs"; "(no events: the file has just 8 bytes, else 11)"
unfoldable pub ok_pairs : List ℕ → Bool
ok_pairs s = leb (pairs_end s) (length s) && chained s (event_count s) 0 (pairs_end s)

-- the i-th event's body
unfoldable pub body_at : List ℕ → ℕ → List ℕ
body_at s i = take (length_at s i) (drop (offset_at s i) s)

-- the bodies of the events from the i-th on
unfoldable pub bodies_from : List ℕ → ℕ → List (List ℕ)
bodies_from s i = tabulate (event_count s - i) i (body_at s)

-- "next body and end test only": whether a reader whose next pair is the i-th has read them all
abbrev pub at_end : List ℕ → ℕ → Bool
at_end s i = leb (event_count s) i

-- 12: "a body breaks its kind's form"
unfoldable pub ok_body_at : List ℕ → ℕ → Bool
ok_body_at s i = ok_body (body_at s i)

unfoldable pub ok_bodies : List ℕ → Bool
ok_bodies s = all_from (event_count s) 0 (ok_body_at s)

-- "The lowest applicable number is given"
unfoldable pub file_verdict : List ℕ → Verdict
file_verdict s = or_else (unless (ok_header s) FileHeader) (or_else (unless (ok_pairs s) FilePairs) (unless (ok_bodies s) FileBody))
