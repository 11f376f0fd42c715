-- 2 ^ -n is the value whose exponent's field is 1023 - n (the bits of a shift by 52) and whose digits are 0, tested at each n below 1023. Assumes nothing.
use Rattle.std.proofs.Common.{◌≡◌, ℕ, ◌-◌, ◌*◌, ◌%◌, ◌<◌, Bool, true, refl}
use lib.Ieee.{binary64, round, of_bits}
use Rattle.half.specs.Power.{inverse_power}
use Rattle.std.proofs.lemmas.Bool.{agree_below, agree_below_at}
use Rattle.std.proofs.lemmas.Float.{T_from_true}
use Rattle.float.proofs.Same.{same, same→eq}

abbrev pattern : ℕ → ℕ
pattern n = (1023 - n) * 4503599627370496 % 18446744073709551616

abbrev equal : ℕ → Bool
equal n = same (of_bits binary64 (pattern n)) (inverse_power n)

passes : agree_below equal (λ (k : ℕ). true) 1023 ≡ true
unfolding of_bits round
passes = refl

pub is_power : (n : ℕ) → n < 1023 → of_bits binary64 (pattern n) ≡ inverse_power n
is_power n h = same→eq (of_bits binary64 (pattern n)) (inverse_power n) (T_from_true (equal n) (agree_below_at equal (λ (k : ℕ). true) 1023 n passes h))

-- and at 1023 it is subnormal
at_1023 : of_bits binary64 2251799813685248 ≡ inverse_power 1023
unfolding of_bits round
at_1023 = refl

pub last : (n : ℕ) → n ≡ 1023 → of_bits binary64 2251799813685248 ≡ inverse_power n
last n e = rw e at_1023
