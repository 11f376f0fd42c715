-- What a slice or an array holds that a list was written to. Definitions only.
use Rattle.std.specs.Prelude.{List, ◌++◌, length, drop}

-- once xs stands over its start: "bytes of the output slice past the sheet stay"
unfoldable pub over : {A : Type 0} → List A → List A → List A
over xs old = xs ++ drop (length xs) old
