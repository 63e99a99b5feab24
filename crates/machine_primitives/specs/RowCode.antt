-- The code of primitives.
use Rattle.std.specs.Prelude.{ℕ, suc, ◌+◌, ◌^◌, List, [], ◌∷◌, get_or}
use Rattle.ir_code.specs.declared.instr.Instr.{Instr}
use Rattle.ir_code.specs.declared.instr.Instr.TheVariants.{Li, Mov, Jmp, Brz, Alloc, AllocVar, Ld, St, Copy, Sub, WAdd, WSub, ILt, ULt, Eq, SCmp, IText}
use Rattle.mlc_prims.specs.declared.prim.PrimExn.{PrimExn}
use Rattle.mlc_prims.specs.declared.prim.PrimExn.TheVariants.{Overflow, Div, Subscript, Size}
use Rattle.machine_primitives.specs.RowLaws.{Code, TestCode}

abbrev pub arg : ℕ → List ℕ → ℕ
arg i xs = get_or xs i 0

-- a row of the machine whose function always has a result
abbrev pub total : (ℕ → ℕ → ℕ → Instr) → Code
total row packets pc d other xs = row d (arg 0 xs) (arg 1 xs) ∷ []

-- one that may have none
abbrev pub partial : (ℕ → ℕ → ℕ → Instr) → Code
partial row packets pc d other xs = row d (arg 0 xs) (arg 1 xs) ∷ Jmp other ∷ []

-- the word itself
abbrev pub moved : Code
moved packets pc d other xs = Mov d (arg 0 xs) ∷ []

-- a row of a word and the operand
abbrev pub from_word : ℕ → (ℕ → ℕ → ℕ → Instr) → Code
from_word v row packets pc d other xs = Li d v ∷ row d d (arg 0 xs) ∷ []

-- 0 less an integer, or Overflow
abbrev pub negated : Code
negated packets pc d other xs = Li d (packets Overflow) ∷ Li (suc d) 0 ∷ Sub d (suc d) (arg 0 xs) ∷ Jmp other ∷ []

-- the word itself, where it is below a limit
abbrev pub limited : PrimExn → ℕ → Code
limited e limit packets pc d other xs =
    Li d (packets e) ∷ Li (suc d) limit ∷ ULt (suc d) (arg 0 xs) (suc d) ∷ Brz (suc d) other ∷ Mov d (arg 0 xs) ∷ []

-- the first word at an address
abbrev pub loaded : Code
loaded packets pc d other xs = Ld d (arg 0 xs) 0 ∷ []

-- 1 where a row gives 0
abbrev pub contrary : (ℕ → ℕ → ℕ → Instr) → Code
contrary row packets pc d other xs = row d (arg 0 xs) (arg 1 xs) ∷ Li (suc d) 0 ∷ Eq d d (suc d) ∷ []

-- a comparison that gives 1 or 0: as it is, and its contrary
abbrev pub holds : (ℕ → ℕ → ℕ → Instr) → TestCode
holds row pc d other xs = row d (arg 0 xs) (arg 1 xs) ∷ Brz d other ∷ []

-- with its operands the other way round
abbrev pub swapped : (ℕ → ℕ → ℕ → Instr) → ℕ → ℕ → ℕ → Instr
swapped row d x y = row d y x

abbrev pub fails : (ℕ → ℕ → ℕ → Instr) → TestCode
fails row pc d other xs = row d (arg 0 xs) (arg 1 xs) ∷ Brz d (pc + 3) ∷ Jmp other ∷ []

-- a quotient of integers: by 0 it is Div, and where there is none else it is Overflow
abbrev pub divided : (ℕ → ℕ → ℕ → Instr) → Code
divided row packets pc d other xs =
    Li d (packets Div) ∷ Brz (arg 1 xs) other ∷ Li d (packets Overflow) ∷ row d (arg 0 xs) (arg 1 xs) ∷ Jmp other ∷ []

-- an integer, or 0 less it where it is below 0
abbrev pub magnitude : Code
magnitude packets pc d other xs =
    Li (suc d) 0 ∷ ILt (suc d) (arg 0 xs) (suc d) ∷ Mov d (arg 0 xs) ∷ Brz (suc d) (pc + 8) ∷ negated packets (pc + 4) d other xs

-- what a row gives, tested against a number
abbrev pub against : ℕ → (ℕ → ℕ → ℕ → Instr) → (ℕ → ℕ → ℕ → Instr) → Code
against n row test packets pc d other xs = Li (d + 1) n ∷ row d (arg 0 xs) (arg 1 xs) ∷ test d d (d + 1) ∷ []

-- whether two texts are the same
abbrev pub are_same : TestCode
are_same pc d other xs = Li (d + 1) 1 ∷ SCmp d (arg 0 xs) (arg 1 xs) ∷ Eq d d (d + 1) ∷ Brz d other ∷ []

-- the byte of a text at a place that is below its length: a negative one is above each length
abbrev pub byte_of : Code
byte_of packets pc d other xs =
    Ld (d + 1) (arg 0 xs) 0 ∷ ULt (d + 1) (arg 1 xs) (d + 1) ∷ Li d (packets Subscript) ∷ Brz (d + 1) other
    ∷ WAdd (d + 1) (arg 0 xs) (arg 1 xs) ∷ Ld d (d + 1) 1 ∷ []

-- A part of a text, from a place on and of a length: the place is at most the text's length, and the length at most what is left of it.
abbrev pub part_of : Code
part_of packets pc d other xs =
    Ld (d + 2) (arg 0 xs) 0 ∷ Li (d + 1) 1 ∷ WAdd (d + 2) (d + 2) (d + 1) ∷ Li d (packets Subscript)
    ∷ ULt (d + 1) (arg 1 xs) (d + 2) ∷ Brz (d + 1) other
    ∷ WSub (d + 2) (d + 2) (arg 1 xs) ∷ ULt (d + 1) (arg 2 xs) (d + 2) ∷ Brz (d + 1) other
    ∷ Li (d + 1) 1 ∷ WAdd (d + 2) (arg 2 xs) (d + 1) ∷ AllocVar d (d + 2) ∷ St d 0 (arg 2 xs)
    ∷ WAdd (d + 2) (arg 0 xs) (arg 1 xs) ∷ WAdd (d + 2) (d + 2) (d + 1) ∷ WAdd (d + 1) d (d + 1) ∷ Copy (d + 1) (d + 2) (arg 2 xs) ∷ []

-- Two texts, one behind the other, where both together are below 2^28 bytes.
abbrev pub join_of : Code
join_of packets pc d other xs =
    Ld (d + 3) (arg 0 xs) 0 ∷ Ld (d + 1) (arg 1 xs) 0 ∷ WAdd (d + 1) (d + 3) (d + 1)
    ∷ Li (d + 2) (2 ^ 28) ∷ ULt (d + 2) (d + 1) (d + 2) ∷ Li d (packets Size) ∷ Brz (d + 2) other
    ∷ Li (d + 2) 1 ∷ WAdd (d + 2) (d + 1) (d + 2) ∷ AllocVar d (d + 2) ∷ St d 0 (d + 1)
    ∷ Li (d + 2) 1 ∷ WAdd (d + 1) d (d + 2) ∷ WAdd (d + 2) (arg 0 xs) (d + 2) ∷ Copy (d + 1) (d + 2) (d + 3)
    ∷ WAdd (d + 1) (d + 1) (d + 3) ∷ Li (d + 2) 1 ∷ WAdd (d + 2) (arg 1 xs) (d + 2) ∷ Ld (d + 3) (arg 1 xs) 0 ∷ Copy (d + 1) (d + 2) (d + 3) ∷ []

-- a text of one character
abbrev pub text_of_one : Code
text_of_one packets pc d other xs = Li (d + 1) 1 ∷ Alloc d 2 ∷ St d 0 (d + 1) ∷ St d 1 (arg 0 xs) ∷ []

-- an integer in decimal
abbrev pub text_of_int : Code
text_of_int packets pc d other xs = IText d (arg 0 xs) ∷ []
