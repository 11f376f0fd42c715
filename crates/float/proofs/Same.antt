-- Two floats that a test finds the same, sign, digits and exponent, are equal as data. Assumes nothing.
use mathlib.Core.Path.{◌≡◌, refl, ap}
use mathlib.Core.Bool.{Bool, true, false, ◌&&◌}
use lib.Dec.{T, eqb, eqb→eq}
use lib.IntN.{ℤ, pos, negsuc}
use lib.Ieee.{Float, nan, inf, fin}
use lib.Ieee.Fits.{and_l, and_r}

abbrev pub same_sign : Bool → Bool → Bool
same_sign true t = t
same_sign false true = false
same_sign false false = true

abbrev pub same_exponent : ℤ → ℤ → Bool
same_exponent (pos a) (pos b) = eqb a b
same_exponent (pos a) (negsuc b) = false
same_exponent (negsuc a) (pos b) = false
same_exponent (negsuc a) (negsuc b) = eqb a b

abbrev pub same : Float → Float → Bool
same nan nan = true
same nan (inf t) = false
same nan (fin t n d) = false
same (inf s) nan = false
same (inf s) (inf t) = same_sign s t
same (inf s) (fin t n d) = false
same (fin s m e) nan = false
same (fin s m e) (inf t) = false
same (fin s m e) (fin t n d) = same_sign s t && (eqb m n && same_exponent e d)

sign : (s t : Bool) → T (same_sign s t) → s ≡ t
sign true true h = refl
sign true false h = absurd h
sign false true h = absurd h
sign false false h = refl

exponent : (e d : ℤ) → T (same_exponent e d) → e ≡ d
exponent (pos a) (pos b) h = ap pos (eqb→eq a b h)
exponent (pos a) (negsuc b) h = absurd h
exponent (negsuc a) (pos b) h = absurd h
exponent (negsuc a) (negsuc b) h = ap negsuc (eqb→eq a b h)

pub same→eq : (x y : Float) → T (same x y) → x ≡ y
same→eq nan nan h = refl
same→eq nan (inf t) h = absurd h
same→eq nan (fin t n d) h = absurd h
same→eq (inf s) nan h = absurd h
same→eq (inf s) (inf t) h = ap inf (sign s t h)
same→eq (inf s) (fin t n d) h = absurd h
same→eq (fin s m e) nan h = absurd h
same→eq (fin s m e) (inf t) h = absurd h
same→eq (fin s m e) (fin t n d) h =
    let p = sign s t (and_l (same_sign s t) (eqb m n && same_exponent e d) h) in
    let r = and_r (same_sign s t) (eqb m n && same_exponent e d) h in
    let q = eqb→eq m n (and_l (eqb m n) (same_exponent e d) r) in
    let w = exponent e d (and_r (eqb m n) (same_exponent e d) r) in
    cc
