-- Functions on lists and on ranges of numbers that the definitions above use. Definitions only.
use Rattle.std.specs.Prelude.{Bool, false, ◌||◌, cond, List, [], ◌∷◌, ◌++◌, ℕ, zero, suc, ◌-◌, length, replicate}
use Rattle.std.specs.List.{list_all}

-- whether each entry passes
abbrev pub every : {A : Type 0} → (A → Bool) → List A → Bool
every f xs = list_all f xs

-- f at i, i + 1, .., n of them
abbrev pub tabulate : {A : Type 0} → ℕ → ℕ → (ℕ → A) → List A
tabulate zero i f = []
tabulate (suc n) i f = f i ∷ tabulate n (suc i) f

-- of the n numbers from i on, those that pass, ascending
abbrev pub select : ℕ → ℕ → (ℕ → Bool) → List ℕ
select zero i f = []
select (suc n) i f = cond (f i) (i ∷ select n (suc i) f) (select n (suc i) f)

-- whether one of the n numbers from i on passes
abbrev pub some_from : ℕ → ℕ → (ℕ → Bool) → Bool
some_from zero i f = false
some_from (suc n) i f = f i || some_from n (suc i) f

-- an array of 32 entries that holds a list, and past it a
abbrev pub filled : {A : Type 0} → A → List A → List A
filled a xs = xs ++ replicate (32 - length xs) a
