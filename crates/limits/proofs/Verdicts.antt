-- A row of tests that refuses nothing has passed each of them. Assumes nothing.
use mathlib.Core.Path.{◌≡◌, refl}
use mathlib.Core.Bool.{Bool, true, false}
use lib.Dec.{T}
use Rattle.std.proofs.Common.{Ok, Err}
use Rattle.limits.specs.Refusals.{Verdict, unless, or_else}
use Rattle.limits.specs.declared.refusal.Refusal.{Refusal}

pub or_else_lem : (a b : Verdict) → or_else a b ≡ Ok tt → (a ≡ Ok tt) × (b ≡ Ok tt)
or_else_lem (Ok _) b e = (refl, e)
or_else_lem (Err why) b e = cc

pub unless_not : (b : Bool) (why : Refusal) → unless b why ≡ Ok tt → T b
unless_not true why e = tt
unless_not false why e = cc
