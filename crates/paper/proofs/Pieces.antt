-- A line as its pieces: a field with a space after it, and what is left; and how long they are. Assumes nothing.
use Rattle.std.specs.Prelude.{◌≡◌, ℕ, ◌+◌, Bool, true, false, cond, List, [], ◌∷◌, ◌++◌, length, Ok, Err}
use mathlib.Core.Path.{refl, ap, ◌∙◌}
use native.Mathlib.Omega.{arith}
use lib.ListN.{length-append}
use Rattle.limits.specs.Refusals.{refusal_number}
use Rattle.limits.specs.declared.refusal.Refusal.{Refusal}
use Rattle.question.proofs.Over.{Next, next_length}
use Rattle.paper.specs.Lines.{Cell, Number, Word, digits, decimal, cell_bytes, ended, cells_bytes}
use Rattle.paper.specs.Sheet.{Outcome, tried_cell, flag_cell, line_bytes, refused_bytes}
use Rattle.paper.specs.bridges.Said.{flag_cells}

pub ended_is : (c : Cell) (e : ℕ) → cell_bytes c ++ (e ∷ []) ≡ ended c e
unfolding ended
ended_is c e = refl

pub ended_length : (c : Cell) (e : ℕ) → length (ended c e) ≡ length (cell_bytes c) + 1
unfolding ended
ended_length c e = length-append (cell_bytes c) (e ∷ [])

-- the first of two fields or more
pub row_next : (c d : Cell) (cs : List Cell) → Next (cells_bytes (c ∷ d ∷ cs)) (ended c 32) (cells_bytes (d ∷ cs))
unfolding cells_bytes
row_next c d cs = record { is = refl }

-- two fields are a line
pub row_two : (c d : Cell) → Next (cells_bytes (c ∷ d ∷ [])) (ended c 32) (ended d 10)
unfolding cells_bytes
row_two c d = record { is = refl }

-- ---- the flags: a digit each
pub flag_digit : (b : Bool) → cell_bytes (flag_cell b) ≡ cond b 49 48 ∷ []
unfolding decimal digits
flag_digit true = refl
flag_digit false = refl

pub flags_row : (o : Outcome) → cells_bytes (flag_cells o) ≡ cond o.ofdm_refused 49 48 ∷ 32 ∷ cond o.ended 49 48 ∷ 32 ∷ cond o.begun 49 48 ∷ 10 ∷ []
unfolding cells_bytes ended
flags_row o = rw (flag_digit o.ofdm_refused, flag_digit o.ended, flag_digit o.begun) refl

pub flags_length : (o : Outcome) → length (cells_bytes (flag_cells o)) ≡ 6
flags_length o = ap length (flags_row o)

-- ---- a line, from its second field on
pub refused_next : (event : ℕ) (why : Refusal) → Next (line_bytes event (Err why)) (ended (Number event) 32) (refused_bytes why)
unfolding line_bytes refused_bytes
refused_next event why = row_next (Number event) Word (Number (refusal_number why) ∷ [])

module _ (event : ℕ) (o : Outcome) where
  pub choice_next : Next (line_bytes event (Ok o)) (ended (Number event) 32) (cells_bytes (Number o.choice.0 ∷ tried_cell o.tried ∷ flag_cells o))
  unfolding line_bytes
  choice_next = row_next (Number event) (Number o.choice.0) (tried_cell o.tried ∷ flag_cells o)

  pub tried_next : Next (cells_bytes (Number o.choice.0 ∷ tried_cell o.tried ∷ flag_cells o)) (ended (Number o.choice.0) 32) (cells_bytes (tried_cell o.tried ∷ flag_cells o))
  tried_next = row_next (Number o.choice.0) (tried_cell o.tried) (flag_cells o)

  pub flags_next : Next (cells_bytes (tried_cell o.tried ∷ flag_cells o)) (ended (tried_cell o.tried) 32) (cells_bytes (flag_cells o))
  flags_next = row_next (tried_cell o.tried) (flag_cell o.ofdm_refused) (flag_cell o.ended ∷ flag_cell o.begun ∷ [])

-- ---- lengths
pub length_refused : (why : Refusal) → length (refused_bytes why) ≡ 9 + length (decimal (refusal_number why))
unfolding refused_bytes cells_bytes ended
length_refused why = omega (arith, length-append (decimal (refusal_number why)) (10 ∷ []))

pub refused_row : (event : ℕ) (why : Refusal) → length (line_bytes event (Err why)) ≡ length (decimal event) + 1 + length (refused_bytes why)
refused_row event why = next_length (refused_next event why) ∙ ap (λ n. n + length (refused_bytes why)) (ended_length (Number event) 32)

pub answered_row : (event : ℕ) (o : Outcome) → length (line_bytes event (Ok o)) ≡ length (decimal event) + 1 + length (decimal o.choice.0) + length (cell_bytes (tried_cell o.tried)) + 8
answered_row event o =
    omega (
      arith,
      next_length (choice_next event o),
      next_length (tried_next event o),
      next_length (flags_next event o),
      ended_length (Number event) 32,
      ended_length (Number o.choice.0) 32,
      ended_length (tried_cell o.tried) 32,
      flags_length o,
    )
