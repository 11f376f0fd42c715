-- The distinct rungs of a transmission as a 32-bit set: rung r is in it where the number's binary digit r is 1. Definitions only.
use Rattle.std.specs.Prelude.{Bool, not, ◌&&◌, cond, ℕ, zero, suc, ◌/◌, ◌%◌, ◌^◌, ltb, eqb}
use Rattle.ladder.specs.declared.types.Table.{Table}
use Rattle.account.specs.declared.types.Prices.{Prices}
use Rattle.account.specs.declared.types.State.{State}
use Rattle.account.specs.State.{choice}
use Rattle.rules.specs.Tries.{judge_try, tries}

abbrev pub in_set : ℕ → ℕ → Bool
in_set set r = eqb (set / 2 ^ r % 2) 1

-- the n numbers from r upwards, each taken by f where the test has it
abbrev pub fold_up {ℓ} : {A : Type ℓ} → (A → ℕ → A) → (ℕ → Bool) → ℕ → ℕ → A → A
fold_up f m zero r a = a
fold_up f m (suc n) r a = fold_up f m n (suc r) (cond (m r) (f a r) a)

-- "each above the choice and not tried is judged", of a rung that was sent
abbrev pub judge_one : Table → Prices → State → ℕ → State
judge_one t p s r = cond (ltb (choice t s) r && not (tries s.core.trying r)) (judge_try t p s r) s

-- "The distinct rungs of a transmission are taken from lowest to highest". It is `judge_above 32 0` wherever the set agrees with the frames (proofs/Set.antt).
unfoldable pub judge_set : ℕ → Table → Prices → State → State
judge_set set t p s = fold_up (judge_one t p) (in_set set) 32 0 s
