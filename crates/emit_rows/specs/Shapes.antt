-- What the shapes of code stand for.
use Rattle.std.specs.Prelude.{ℕ, []}
use Rattle.ir_code.specs.declared.instr.Instr.{Instr}
use Rattle.ir_code.specs.declared.instr.Instr.TheVariants.{Add, Sub, Mul, IDiv, IMod, IQuot, IRem, WAdd, WSub, WMul, WDiv, WMod, And, Or, Xor, Shl, Shr, Sar, ILt, ULt, Eq, SCmp}
use Rattle.mlc_prims.specs.declared.prim.PrimExn.{PrimExn}
use Rattle.mlc_prims.specs.declared.prim.PrimExn.TheVariants.{Overflow, Div, Subscript, Size, Chr}
use Rattle.machine_rows.specs.of_machine_primitives.RowLaws.{Code, TestCode}
use Rattle.machine_rows.specs.of_machine_primitives.RowCode.{total, partial, negated, moved, from_word, limited, loaded, contrary, holds, swapped, fails, divided, magnitude, against, are_same, byte_of, part_of, join_of, text_of_one, text_of_int}
use Rattle.emit_rows.specs.declared.shape.Operation.{Operation}
use Rattle.emit_rows.specs.declared.shape.Operation.TheVariants as operation
use Rattle.emit_rows.specs.declared.shape.Shape.{Shape}
use Rattle.emit_rows.specs.declared.shape.Shape.TheVariants as shape
use Rattle.emit_rows.specs.declared.shape.TestShape.{TestShape}
use Rattle.emit_rows.specs.declared.shape.TestShape.TheVariants as test
use Rattle.emit_rows.specs.declared.push.Packets.{Packets}

abbrev pub operation_of : Operation → ℕ → ℕ → ℕ → Instr
operation_of operation.Add = Add
operation_of operation.Sub = Sub
operation_of operation.Mul = Mul
operation_of operation.IDiv = IDiv
operation_of operation.IMod = IMod
operation_of operation.IQuot = IQuot
operation_of operation.IRem = IRem
operation_of operation.WAdd = WAdd
operation_of operation.WSub = WSub
operation_of operation.WMul = WMul
operation_of operation.WDiv = WDiv
operation_of operation.WMod = WMod
operation_of operation.And = And
operation_of operation.Or = Or
operation_of operation.Xor = Xor
operation_of operation.Shl = Shl
operation_of operation.Shr = Shr
operation_of operation.Sar = Sar
operation_of operation.ILt = ILt
operation_of operation.ULt = ULt
operation_of operation.Eq = Eq
operation_of operation.SCmp = SCmp
operation_of operation.SwappedILt = swapped ILt
operation_of operation.SwappedULt = swapped ULt
operation_of operation.SwappedSCmp = swapped SCmp

abbrev pub code_of : Shape → Code
code_of shape.Nothing = λ packets pc d other xs. []
code_of (shape.Total o) = total (operation_of o)
code_of (shape.Partial o) = partial (operation_of o)
code_of shape.Moved = moved
code_of (shape.FromWord v o) = from_word v (operation_of o)
code_of shape.Negated = negated
code_of (shape.Limited e n) = limited e n
code_of shape.Loaded = loaded
code_of (shape.Contrary o) = contrary (operation_of o)
code_of (shape.Divided o) = divided (operation_of o)
code_of shape.Magnitude = magnitude
code_of (shape.Against n o t) = against n (operation_of o) (operation_of t)
code_of shape.ByteOf = byte_of
code_of shape.PartOf = part_of
code_of shape.JoinOf = join_of
code_of shape.TextOfOne = text_of_one
code_of shape.TextOfInt = text_of_int

abbrev pub test_code_of : TestShape → TestCode
test_code_of test.Nothing = λ pc d other xs. []
test_code_of (test.Holds o) = holds (operation_of o)
test_code_of (test.Fails o) = fails (operation_of o)
test_code_of test.AreSame = are_same

-- where the packet of each exception of a primitive stands
abbrev pub packet_in : Packets → PrimExn → ℕ
packet_in p Overflow = p.overflow
packet_in p Div = p.divide
packet_in p Subscript = p.subscript
packet_in p Size = p.size
packet_in p Chr = p.chr
