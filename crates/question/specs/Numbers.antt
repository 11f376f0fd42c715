-- The numbers that a question file has for the kinds of bodies and for the airs. Definitions only.
use Rattle.std.specs.Prelude.{◌≡◌, ◌<◌, ◌⊎◌, ℕ, Result, MatchResult}
use Rattle.question.specs.declared.types.Kind.{Kind}
use Rattle.question.specs.declared.types.Kind.TheVariants.{Frames, Echo, Silence, Snr, Families, Prices, Seed}
use Rattle.question.specs.declared.types.UnknownKind.{UnknownKind}
use Rattle.question.specs.declared.types.Bandwidth.{Bandwidth}
use Rattle.question.specs.declared.types.Bandwidth.TheVariants.{Wide, Narrow}
use Rattle.question.specs.declared.types.UnknownAir.{UnknownAir}

-- "Body, first byte kind": "1 frames", "2 echo", "3 silence", "4 SNR reading", "5 families", "6 prices", "7 seed"
abbrev pub kind_number : Kind → ℕ
kind_number Frames = 1
kind_number Echo = 2
kind_number Silence = 3
kind_number Snr = 4
kind_number Families = 5
kind_number Prices = 6
kind_number Seed = 7

-- the kind that a number names, or the number where it names none
abbrev pub NamesKind : ℕ → Result Kind UnknownKind → Type 0
NamesKind n r = MatchResult r (λ kind. n ≡ kind_number kind) (λ e. (e.0 ≡ n) × ((n ≡ 0) ⊎ (7 < n)))

-- "u32 air (1 wide, 2 narrow)"
abbrev pub air_number : Bandwidth → ℕ
air_number Wide = 1
air_number Narrow = 2

-- the air that a number names, or the number where it names none
abbrev pub NamesAir : ℕ → Result Bandwidth UnknownAir → Type 0
NamesAir n r = MatchResult r (λ air. n ≡ air_number air) (λ e. (e.0 ≡ n) × ((n ≡ 0) ⊎ (2 < n)))
