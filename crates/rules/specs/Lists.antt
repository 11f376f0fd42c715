-- Functions on lists that the definitions above use. Definitions only.
use Rattle.std.specs.Prelude.{Bool, false, ◌||◌, cond, List, [], ◌∷◌, ℕ, suc}

-- whether some entry passes
abbrev pub some_of : {A : Type 0} → (A → Bool) → List A → Bool
some_of f [] = false
some_of f (x ∷ xs) = f x || some_of f xs

-- how many entries pass
abbrev pub how_many : {A : Type 0} → (A → Bool) → List A → ℕ
how_many f [] = 0
how_many f (x ∷ xs) = cond (f x) (suc (how_many f xs)) (how_many f xs)
