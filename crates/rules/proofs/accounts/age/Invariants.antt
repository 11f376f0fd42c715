-- What is left of the accounts gives, from here on, what all of them give.
use Rattle.std.proofs.Common.{◌≡◌, ◌-◌, length}
use Rattle.rules.specs.bridges.Ageing.{aged_by}
use Rattle.rules.proofs.accounts.age.Given as goal

abbrev pub invariant-loop-i : goal.invariant-loop-i
invariant-loop-i l = let n = length l.fn.accounts in aged_by (n - l.i) l.i l.by l.accounts ≡ aged_by n 0 l.by l.fn.accounts
