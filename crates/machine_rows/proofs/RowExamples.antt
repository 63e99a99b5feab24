-- The code of primitives, run by computation behind their operands.
use Rattle.std.proofs.Common.{◌≡◌, ℕ, ◌+◌, ◌-◌, ◌^◌, List, [], ◌∷◌, ◌++◌, length, refl}
use Rattle.std.specs.Prelude.{replicate, slice_index, drop, take}
use Rattle.std.specs.Fmt.{digits}
use Rattle.ir_code.specs.declared.instr.Instr.{Instr}
use Rattle.ir_code.specs.declared.instr.Instr.TheVariants.{End}
use Rattle.ir_code.specs.Machine.{State, run}
use Rattle.machine_primitives.specs.of_machine_code.Rows.{late_code}
use Rattle.mlc_prims.specs.declared.prim.PrimExn.{PrimExn}
use Rattle.mlc_prims.specs.declared.prim.PrimExn.TheVariants.{Overflow, Div, Subscript, Size}
use Rattle.mlc_prims.specs.declared.basis.BasisPrimitive.{BasisPrimitive}
use Rattle.mlc_prims.specs.declared.basis.BasisPrimitive.TheVariants.{Add, Divide, Modulo, Absolute, Less, LessEqual, Greater, GreaterEqual, Equals, Quotient, Remainder, ToInt, ToIntSigned, CharOf, TextOf, SizeOf, CharAt, PartOf, Concat, StringOf}
use Rattle.first_values.specs.Operations.{Operands, ints, words, chars, texts}
use Rattle.machine_rows.specs.Table.{rows}

abbrev packets : PrimExn → ℕ
packets Overflow = 1001
packets Div = 1002
packets Subscript = 1003
packets Size = 1004
packets e = 1005

-- at the place 0, with the operands in the first slots; the texts ABC, ABD, AB and none stand at 0, 4, 8 and 11
abbrev begins : List ℕ → State
begins xs = record {
  pc = 0;
  fp = 0;
  acc = 0;
  handler = 0;
  base = 12;
  limit = 12;
  stack = xs ++ replicate 4 0;
  memory = 3 ∷ 65 ∷ 66 ∷ 67 ∷ 3 ∷ 65 ∷ 66 ∷ 68 ∷ 2 ∷ 65 ∷ 66 ∷ 0 ∷ replicate 12 0;
}

abbrev slots : List ℕ → ℕ → List ℕ
slots [] i = []
slots (x ∷ xs) i = i ∷ slots xs (i + 1)

-- the code at the other place, 100, stands there
abbrev with_late : Operands → BasisPrimitive → ℕ → List Instr → List Instr
with_late k p d code = take 100 (code ++ replicate 100 End) ++ late_code (rows.late k p) packets d

-- where it comes to, of 100 for another place; and what is in the slot then
abbrev ends : List Instr → List ℕ → ℕ × ℕ
ends code xs = let s = (run code 30 (begins xs) []).state in (s.pc, slice_index s.stack (length xs))

abbrev gives : Operands → BasisPrimitive → List ℕ → ℕ × ℕ
gives k p xs = ends (with_late k p (length xs) (rows.code k p packets 0 (length xs) 100 (slots xs 0))) xs

-- the new words of the memory
abbrev makes : Operands → BasisPrimitive → List ℕ → List ℕ
makes k p xs = let s = (run (rows.code k p packets 0 (length xs) 100 (slots xs 0)) 30 (begins xs) []).state in take (s.limit - 12) (drop 12 s.memory)

-- where a test comes to
abbrev decides : Operands → BasisPrimitive → List ℕ → ℕ
decides k p xs = (run (rows.test_code k p 0 (length xs) 100 (slots xs 0)) 30 (begins xs) []).state.pc

-- the least integer, and negative ones
abbrev least : ℕ
least = 2 ^ 31

abbrev less : ℕ → ℕ
less n = 2 ^ 32 - n

sums : (gives ints Add (less 7 ∷ 2 ∷ []) ≡ (2, less 5)) × (gives ints Add ((least - 1) ∷ 1 ∷ []) ≡ (101, 1001)) × (gives words Add (less 1 ∷ 2 ∷ []) ≡ (1, 1))
unfolding run
sums = (refl, refl, refl)

quotients : (gives ints Divide (less 7 ∷ 2 ∷ []) ≡ (5, less 4)) × (gives ints Quotient (less 7 ∷ 2 ∷ []) ≡ (5, less 3)) × (gives ints Modulo (less 7 ∷ 2 ∷ []) ≡ (2, 1)) × (gives ints Remainder (less 7 ∷ 2 ∷ []) ≡ (2, less 1))
unfolding run
quotients = (refl, refl, refl, refl)

no_quotients : (gives ints Divide (7 ∷ 0 ∷ []) ≡ (100, 1002)) × (gives ints Divide (least ∷ less 1 ∷ []) ≡ (100, 1001)) × (gives ints Quotient (least ∷ 0 ∷ []) ≡ (100, 1002)) × (gives ints Modulo (least ∷ less 1 ∷ []) ≡ (2, 0)) × (gives ints Remainder (7 ∷ 0 ∷ []) ≡ (101, 1002)) × (gives words Divide (7 ∷ 0 ∷ []) ≡ (101, 1002))
unfolding run
no_quotients = (refl, refl, refl, refl, refl, refl)

absolutes : (gives ints Absolute (less 7 ∷ []) ≡ (8, 7)) × (gives ints Absolute (7 ∷ []) ≡ (8, 7)) × (gives ints Absolute (least ∷ []) ≡ (100, 1001)) × (gives ints Absolute (0 ∷ []) ≡ (8, 0))
unfolding run
absolutes = (refl, refl, refl, refl)

-- ABC and ABD, AB and ABC, ABC and ABC
text_orders : (gives texts Less (0 ∷ 4 ∷ []) ≡ (3, 1)) × (gives texts LessEqual (4 ∷ 0 ∷ []) ≡ (3, 0)) × (gives texts Greater (0 ∷ 8 ∷ []) ≡ (3, 1)) × (gives texts GreaterEqual (0 ∷ 0 ∷ []) ≡ (3, 1)) × (gives texts Equals (0 ∷ 8 ∷ []) ≡ (3, 0)) × (gives texts Equals (0 ∷ 0 ∷ []) ≡ (3, 1))
unfolding run
text_orders = (refl, refl, refl, refl, refl, refl)

text_tests : (decides texts Less (8 ∷ 0 ∷ []) ≡ 3) × (decides texts Less (0 ∷ 0 ∷ []) ≡ 100) × (decides texts LessEqual (0 ∷ 0 ∷ []) ≡ 2) × (decides texts LessEqual (4 ∷ 0 ∷ []) ≡ 100) × (decides texts Greater (4 ∷ 0 ∷ []) ≡ 3) × (decides texts Equals (11 ∷ 11 ∷ []) ≡ 4) × (decides texts Equals (0 ∷ 4 ∷ []) ≡ 100)
unfolding run
text_tests = (refl, refl, refl, refl, refl, refl, refl)

bytes : (gives texts CharAt (0 ∷ 2 ∷ []) ≡ (6, 67)) × (gives texts CharAt (0 ∷ 3 ∷ []) ≡ (100, 1003)) × (gives texts CharAt (0 ∷ less 1 ∷ []) ≡ (100, 1003)) × (gives texts SizeOf (8 ∷ []) ≡ (1, 2))
unfolding run
bytes = (refl, refl, refl, refl)

-- from a place on, a length
parts : (gives texts PartOf (0 ∷ 1 ∷ 2 ∷ []) ≡ (17, 12)) × (makes texts PartOf (0 ∷ 1 ∷ 2 ∷ []) ≡ 2 ∷ 66 ∷ 67 ∷ []) × (makes texts PartOf (0 ∷ 3 ∷ 0 ∷ []) ≡ 0 ∷ []) × (gives texts PartOf (0 ∷ 2 ∷ 2 ∷ []) ≡ (100, 1003)) × (gives texts PartOf (0 ∷ 4 ∷ 0 ∷ []) ≡ (100, 1003)) × (gives texts PartOf (0 ∷ 1 ∷ less 1 ∷ []) ≡ (100, 1003)) × (gives texts PartOf (0 ∷ less 1 ∷ 2 ∷ []) ≡ (100, 1003))
unfolding run
parts = (refl, refl, refl, refl, refl, refl, refl)

joins : (gives texts Concat (8 ∷ 4 ∷ []) ≡ (20, 12)) × (makes texts Concat (8 ∷ 4 ∷ []) ≡ 5 ∷ 65 ∷ 66 ∷ 65 ∷ 66 ∷ 68 ∷ []) × (makes texts Concat (11 ∷ 11 ∷ []) ≡ 0 ∷ [])
unfolding run
joins = (refl, refl, refl)

made_texts : (gives chars StringOf (90 ∷ []) ≡ (4, 12)) × (makes chars StringOf (90 ∷ []) ≡ 1 ∷ 90 ∷ [])
unfolding run
made_texts = (refl, refl)

limits : (gives words ToInt (least ∷ []) ≡ (100, 1001)) × (gives words ToIntSigned (least ∷ []) ≡ (1, least)) × (gives ints CharOf (255 ∷ []) ≡ (5, 255)) × (gives ints CharOf (less 1 ∷ []) ≡ (100, 1005))
unfolding run
limits = (refl, refl, refl, refl)

decimals : (gives ints TextOf (less 12 ∷ []) ≡ (1, 12)) × (makes ints TextOf (less 12 ∷ []) ≡ 3 ∷ 126 ∷ 49 ∷ 50 ∷ [])
unfolding run digits
decimals = (refl, refl)
