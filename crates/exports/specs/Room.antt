-- How much room the sheet of any paper has at most: TURMEXOL_SHEET_BYTES of include/turmexol.h. Definitions only.
use Rattle.std.specs.Prelude.{◌≡◌, ℕ, ◌≤◌, List, length}
use Rattle.question.specs.File.{file_verdict}
use Rattle.paper.specs.Sheet.{sheet_verdict}

-- of at most 1,000 events: 13 bytes a line beside the event's number, and the numbers 1 to 1,000 have 2,893 digits
abbrev pub sheet_bytes : ℕ
sheet_bytes = 15893

-- with that room a sheet is refused for its file alone, never with 13
abbrev pub EnoughRoom : List ℕ → List ℕ → Type 0
EnoughRoom s out = sheet_bytes ≤ length out → sheet_verdict s out ≡ file_verdict s
