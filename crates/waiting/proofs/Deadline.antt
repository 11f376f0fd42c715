-- The arithmetic of the waiting statement: airs added from 0.0 come to no more than airs added to a time that had passed already, and a wait of up to 48
-- full transmissions, less 1e-9 s, is at most that of 48: rounding keeps the order. Assumes nothing.
use mathlib.Core.Path.{◌≡◌}
use mathlib.Core.Bool.{false}
use mathlib.Core.List.{List}
use Prim.Native.Nat.{ℕ}
use native.Mathlib.Omega.{arith}
use lib.Dec.{T}
use lib.Ieee.{Float, binary64, of_bits, le, lt}
use lib.Ieee.Scale.{finite}
use Rattle.float.specs.Numbers.{◌⊖◌, ◌⊗◌, of_nat, f0}
use Rattle.float.specs.Sum.{total}
use Rattle.float.proofs.Order.{number, le_lt, lt_le_lt, le_self, le_right, not_le}
use Rattle.float.proofs.Rounding.{zero64}
use Rattle.float.proofs.Monotone.{natural, sub_mono, sub_number, mul_mono_finite, mul_number, zero_is}
use Rattle.float.proofs.Sum.{Naturals, from_zero}
use Rattle.std.proofs.lemmas.Float.{T_from_false}
use Rattle.account.proofs.FullAir.{IsWait, wait_fits}
use Rattle.account.specs.Fixed.{longest_wait, wait_tolerance}

-- a wait of w full transmissions of the air x, less 1e-9
abbrev pub deadline : ℕ → Float → Float
deadline w x = of_nat w ⊗ x ⊖ wait_tolerance

tolerance_finite : T (finite wait_tolerance)
unfolding of_bits
tolerance_finite = tt

module _ (w : ℕ) (x : Float) (v : IsWait w) (fx : T (finite x)) where
  deadline_number : T (number (deadline w x))
  deadline_number = sub_number binary64 (of_nat w ⊗ x) wait_tolerance (mul_number binary64 (of_nat w) x (wait_fits w v).0 fx) tolerance_finite

  -- the test `time >= wait * air - 1e-9`, found false
  pub not_yet : (time : Float) → natural time → le (deadline w x) time ≡ false → T (lt time (deadline w x))
  not_yet time n e = not_le time (deadline w x) (le_right zero64 time n) deadline_number (T_from_false _ e)

module _ (w : ℕ) (x : Float) (v : IsWait w) (fx : T (finite x)) (nx : natural x) where
  deadline_mono : T (le (deadline w x) (deadline longest_wait x))
  deadline_mono =
      let k = wait_fits w v in
      let l = wait_fits longest_wait (omega arith) in
      sub_mono binary64 (of_nat w ⊗ x) (of_nat longest_wait ⊗ x) wait_tolerance
      (mul_mono_finite binary64 (of_nat w) (of_nat longest_wait) x x k.0 l.0 fx fx k.1 nx k.2 (le_self x (le_right zero64 x nx)))
      (deadline_number w x v fx)
      (deadline_number longest_wait x (omega arith) fx)

  -- what is claimed of a run's airs, from a time s at its start and a wait that they did not reach
  pub under_longest : (airs : List Float) (s : Float) → Naturals airs → natural s → T (lt (total s airs) (deadline w x)) → T (lt (total f0 airs) (of_nat longest_wait ⊗ x ⊖ wait_tolerance))
  under_longest airs s h n t =
      rw (zero_is)
      (lt_le_lt (total zero64 airs) (deadline w x) (deadline longest_wait x) (le_lt (total zero64 airs) (total s airs) (deadline w x) (from_zero airs s h n) t) deadline_mono)
