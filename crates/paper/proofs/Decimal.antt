-- The digits of a number: one below ten, else those of its tenth and one more; how many there are; and they are those that `itoa` writes. Assumes nothing.
use Rattle.std.specs.Prelude.{◌≡◌, ℕ, zero, suc, ◌+◌, ◌/◌, ◌%◌, ◌*◌, ◌^◌, ◌<◌, ◌≤◌, [], ◌∷◌, ◌++◌, length}
use mathlib.Core.Path.{refl, sym, ap}
use native.Mathlib.Nat.{pow-suc}
use native.Mathlib.Omega.{arith}
use borrow.Author.Tests.{lt-ltb, le-ltb}
use lib.ListN.{length-append}
use Rattle.std.proofs.lemmas.Fmt.{decimal_by_steps}
use Rattle.std.specs.Fmt as text
use Rattle.paper.specs.Lines.{digits, decimal}

-- more room for digits than the number has changes nothing
enough : (d e n : ℕ) → n ≤ d → n ≤ e → digits d n ≡ digits e n
unfolding digits
enough zero zero n h g = refl
enough zero (suc e) n h g = let z : n ≡ 0 = omega arith in rw z
enough (suc d) zero n h g = let z : n ≡ 0 = omega arith in rw z
enough (suc d) (suc e) n h g = rw (enough d e (n / 10) (omega arith) (omega arith))

pub decimal_one : (n : ℕ) → n < 10 → decimal n ≡ (48 + n) ∷ []
unfolding decimal digits
decimal_one zero h = refl
decimal_one (suc n) h = rw (lt-ltb (suc n) 10 h)

pub decimal_more : (n : ℕ) → 10 ≤ n → decimal n ≡ decimal (n / 10) ++ ((48 + n % 10) ∷ [])
unfolding decimal digits
decimal_more zero h = absurd (omega arith)
decimal_more (suc n) h = rw (le-ltb (suc n) 10 h, enough n (suc n / 10) (suc n / 10) (omega arith) (omega arith))

pub length_more : (n : ℕ) → 10 ≤ n → length (decimal n) ≡ length (decimal (n / 10)) + 1
length_more n h = rw (decimal_more n h, length-append)

-- as many as one more than its logarithm
one_power : (k : ℕ) → 1 ≤ 10 ^ k
one_power zero = omega arith
one_power (suc k) = omega (arith, pow-suc 10 k, one_power k)

pub length_log : (k n : ℕ) → 10 ^ k ≤ n → n < 10 * 10 ^ k → length (decimal n) ≡ k + 1
length_log zero n h g = ap length (decimal_one n (omega (arith, g)))
length_log (suc k) n h g =
    let p = pow-suc 10 k in
    let less : 10 ^ k ≤ n / 10 = omega (arith, p, h) in
    let more : n / 10 < 10 * 10 ^ k = omega (arith, p, g) in
    let ten : 10 ≤ n = omega (arith, p, h, one_power k) in
    omega (arith, length_more n ten, length_log k (n / 10) less more)

pub length_zero : length (decimal 0) ≡ 1
length_zero = ap length (decimal_one 0 (omega arith))

-- ---- it is std's, which `itoa` writes
pub decimal_text : (n : ℕ) → n < 2 ^ 64 → text.decimal n ≡ decimal n
decimal_text n h = decimal_by_steps (λ m ds. ds ≡ decimal m) (λ m small. sym (decimal_one m small)) (λ m ds more e. rw (decimal_more m more, e)) n h
