-- What holds of all programs and of all bytes.
use Rattle.std.specs.Prelude.{◌≡◌, ◌↔◌, ℕ, ◌^◌, ◌<◌, true, List, None}
use Rattle.std.specs.List.{AllByRecursion}
use Rattle.ir_code.specs.Program.{Program}
use Rattle.ir_code.specs.declared.instr.Instr.{Instr}
use Rattle.ir_code.specs.ImageBytes.{Row, row_of, is_instr, ImageBytes, IsProgram, image_bytes, first_failed}

-- the rows of instructions are those that is_instr tells, and no two instructions have the same
abbrev pub RowsAreExact : Type 0
RowsAreExact = (r : Row) → (is_instr r ≡ true) ↔ ((i : Instr) × (row_of i ≡ r))

abbrev pub OneInstrPerRow : Type 0
OneInstrPerRow = (i j : Instr) → row_of i ≡ row_of j → i ≡ j

-- no two programs have the same bytes
abbrev pub OneProgramPerImage : Type 0
OneProgramPerImage = (p q : Program) → IsProgram p → IsProgram q → image_bytes p ≡ image_bytes q → p ≡ q

-- all checks pass exactly where some program has the bytes
abbrev pub ChecksAreExact : Type 0
ChecksAreExact = (bytes : List ℕ) → AllByRecursion (λ b. b < 2 ^ 8) bytes → (first_failed bytes ≡ None) ↔ ((p : Program) × IsProgram p × ImageBytes p bytes)
