-- Sums of a list, left to right. Definitions only.
use Rattle.std.specs.Prelude.{List, [], ◌∷◌, Float}
use Rattle.float.specs.Numbers.{◌⊕◌}

-- xs added to s, left to right, each sum rounded
unfoldable pub total : Float → List Float → Float
total s [] = s
total s (x ∷ xs) = total (s ⊕ x) xs
