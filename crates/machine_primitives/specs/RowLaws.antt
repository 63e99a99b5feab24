-- That the code of one primitive, at one kind of operands, does what the table says: the rows of AreRight, one by one.
use Rattle.std.specs.Prelude.{◌≡◌, ℕ, ◌+◌, List, ◌++◌, length, Option, Some, None, Bool, if◌then◌else◌}
use Rattle.ir_code.specs.declared.instr.Instr.{Instr}
use Rattle.ir_values.specs.Primitives.{raised_name}
use Rattle.mlc_prims.specs.LitOf.{Literal, truth}
use Rattle.mlc_prims.specs.PrimOf.{Gives, made}
use Rattle.mlc_prims.specs.declared.basis.BasisPrimitive.{BasisPrimitive}
use Rattle.mlc_prims.specs.declared.prim.PrimExn.{PrimExn}
use Rattle.first_values.specs.Values.{packet, unit}
use Rattle.first_values.specs.Operations.{Operands, row_at}
use Rattle.machine_code.specs.of_machine_routines.Layout.{Word, Is}
use Rattle.machine_code.specs.of_machine_routines.Runs.{HasAt, Frame, inside}
use Rattle.machine_code.specs.Rows.{Packets, HoldAll, Ready, Comes, Passes, given, way_on, later, WithLate}

-- the code of a primitive at a place, with its result to a slot and the place to go on with a packet, of operands in slots
abbrev pub Code : Type 0
Code = Packets → (pc d other : ℕ) → List ℕ → List Instr

-- .. of one as a test, with the place to go on where it fails
abbrev pub TestCode : Type 0
TestCode = (pc d other : ℕ) → List ℕ → List Instr

-- perhaps with an exception whose packet comes into the slot at the other place only
pub record LateIsRight (late : Option PrimExn) (k : Operands) (p : BasisPrimitive) (size : ℕ) (row : Code) : Type 0 where
  pub long : (packets : Packets) (pc d other : ℕ) (xs : List ℕ) → length (row packets pc d other xs) ≡ size
  pub does : (code : List Instr) (f : Frame) (lay : List Word) (front above mem free : List ℕ) → Ready f lay mem free
      → (xs : List ℕ) (ls : List Literal) (g : Gives) → HoldAll lay front xs ls → row_at k p ls ≡ Some g
      → (packets : Packets) → ((e : PrimExn) → Is lay (packet (raised_name e) unit) (packets e))
      → (pc other : ℕ) → HasAt code pc (row packets pc (length front) other xs)
      → WithLate late g code other packets (length front)
      (Comes code f lay front mem (given g) (way_on g (pc + size) (later late other)) (inside f pc (front ++ above) mem free))

abbrev pub RowIsRight : Operands → BasisPrimitive → ℕ → Code → Type 0
RowIsRight k p size row = LateIsRight None k p size row

pub record TestIsRight (k : Operands) (p : BasisPrimitive) (size : ℕ) (row : TestCode) : Type 0 where
  pub long : (pc d other : ℕ) (xs : List ℕ) → length (row pc d other xs) ≡ size
  pub tests : (code : List Instr) (f : Frame) (lay : List Word) (front above mem free : List ℕ) → Ready f lay mem free
      → (xs : List ℕ) (ls : List Literal) (b : Bool) → HoldAll lay front xs ls → row_at k p ls ≡ Some (made (truth b))
      → (pc other : ℕ) → HasAt code pc (row pc (length front) other xs)
      → Passes code f front mem free (if b then pc + size else other) (inside f pc (front ++ above) mem free)
