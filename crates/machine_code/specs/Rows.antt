-- The code of the primitives, as that of programs takes it: how long it is, and what it does. Another crate gives it.
use Rattle.std.specs.Prelude.{◌≡◌, ℕ, suc, ◌+◌, ◌^◌, ◌<◌, ◌≤◌, List, [], ◌∷◌, ◌++◌, length, map, Option, Some, None, Bool, if◌then◌else◌, slice_get}
use Rattle.ir_code.specs.declared.instr.Instr.{Instr}
use Rattle.ir_code.specs.declared.instr.Instr.TheVariants.{Li}
use Rattle.ir_code.specs.Words.{one_if}
use Rattle.ir_code.specs.Machine.{State}
use Rattle.ir_ssa.specs.of_ir_values.Primitives.{raised_name}
use Rattle.mlc_prims.specs.LitOf.{Literal, truth}
use Rattle.mlc_prims.specs.PrimOf.{Gives, made, raised}
use Rattle.mlc_prims.specs.declared.basis.BasisPrimitive.{BasisPrimitive}
use Rattle.mlc_prims.specs.declared.prim.PrimExn.{PrimExn}
use Rattle.ir_ssa.specs.of_first_values.Values.{Value, packet, unit, truth_value, value_of}
use Rattle.ir_ssa.specs.of_first_values.Operations.{Operands, row_at}
use Rattle.machine_routines.specs.Layout.{Word, stays, IsLiteral, Is, Shows}
use Rattle.machine_routines.specs.Runs.{HasAt, Frame, inside, Leads, RunsOut, NoRoom}

-- where the packet of each exception of a primitive stands
abbrev pub Packets : Type 0
Packets = PrimExn → ℕ

-- Operands stand in slots; the frame is free from the slot d on.
pub record Rows : Type 0 where
  pub size : Operands → BasisPrimitive → ℕ
  -- at the place pc: it goes on behind its code with the value in slot d, or at another place with the packet that it raises in slot d
  pub code : Operands → BasisPrimitive → Packets → (pc d other : ℕ) → List ℕ → List Instr
  -- of one whose code leaves the slot as it is where it raises: the only exception that it may raise, whose packet is put there at the other place
  pub late : Operands → BasisPrimitive → Option PrimExn
  pub test_size : Operands → BasisPrimitive → ℕ
  -- of one that gives a truth value: it goes on behind its code, or at another place where that is false
  pub test_code : Operands → BasisPrimitive → (pc d other : ℕ) → List ℕ → List Instr

-- the code at the other place
abbrev pub late_code : Option PrimExn → Packets → ℕ → List Instr
late_code None packets d = []
late_code (Some e) packets d = Li d (packets e) ∷ []

abbrev pub late_size : Option PrimExn → ℕ
late_size None = 0
late_size (Some e) = 1

-- behind it
abbrev pub later : Option PrimExn → ℕ → ℕ
later None other = other
later (Some e) other = suc other

-- words in slots of a frame, which stand for operands
pub data HoldAll (lay : List Word) (front : List ℕ) : List ℕ → List Literal → Type 0 where
  no_operand : HoldAll lay front [] []
  an_operand : (x : ℕ) (l : Literal) (y : ℕ) {xs : List ℕ} {ls : List Literal} → slice_get front x ≡ Some y → IsLiteral lay l y
      → HoldAll lay front xs ls → HoldAll lay front (x ∷ xs) (l ∷ ls)

-- where a primitive begins: the memory in use is as laid out, the words 0 and 1 are the truth values, and the whole memory is small
pub record Ready (f : Frame) (lay : List Word) (mem free : List ℕ) : Type 0 where
  pub shows : Shows lay mem
  pub whole : length lay ≡ length mem
  pub truths : (b : Bool) → Is lay (truth_value b) (one_if b)
  pub low : f.base ≤ length mem
  pub small : length (mem ++ free) < 2 ^ 31

-- It comes to a place with a word for the value behind the front of the frame, perhaps with more of the memory in use, which stays; or it is exhausted.
pub data Comes (code : List Instr) (f : Frame) (lay : List Word) (front mem : List ℕ) (v : Value) (place : ℕ) (s : State) : Type 0 where
  comes : (y acc : ℕ) (above new free : List ℕ) → Is (lay ++ map stays new) v y
      → (a : Leads code s (inside (record f { acc = acc }) place ((front ++ y ∷ []) ++ above) (mem ++ new) free)) → 0 < a.steps
      → Comes code f lay front mem v place s
  lacks_heap : RunsOut code s → Comes code f lay front mem v place s
  lacks_stack : NoRoom code s → Comes code f lay front mem v place s

-- it comes to a place with the front of the frame, and the memory, as they were; or the stack is exhausted
pub data Passes (code : List Instr) (f : Frame) (front mem free : List ℕ) (place : ℕ) (s : State) : Type 0 where
  passes : (acc : ℕ) (above : List ℕ) → (a : Leads code s (inside (record f { acc = acc }) place (front ++ above) mem free)) → 0 < a.steps
      → Passes code f front mem free place s
  lacks_stack : NoRoom code s → Passes code f front mem free place s

-- what a primitive goes on with, and where
abbrev pub given : Gives → Value
given (made l) = value_of l
given (raised e) = packet (raised_name e) unit

abbrev pub way_on : Gives → ℕ → ℕ → ℕ
way_on (made l) behind other = behind
way_on (raised e) behind other = other

abbrev pub WhenRaised : Gives → Type 0 → Type 0
WhenRaised (made l) A = Unit {0}
WhenRaised (raised e) A = A

-- .. where the code at the other place stands, if there is some and something is raised
abbrev pub WithLate : Option PrimExn → Gives → List Instr → ℕ → Packets → ℕ → Type 0 → Type 0
WithLate None g code other packets d A = A
WithLate (Some e) g code other packets d A = WhenRaised g (HasAt code other (late_code (Some e) packets d)) → A

-- the code does what the table says
pub record AreRight (rows : Rows) : Type 0 where
  pub long : (k : Operands) (p : BasisPrimitive) (packets : Packets) (pc d other : ℕ) (xs : List ℕ)
      → length (rows.code k p packets pc d other xs) ≡ rows.size k p
  pub test_long : (k : Operands) (p : BasisPrimitive) (pc d other : ℕ) (xs : List ℕ)
      → length (rows.test_code k p pc d other xs) ≡ rows.test_size k p
  pub does : (code : List Instr) (f : Frame) (lay : List Word) (front above mem free : List ℕ) → Ready f lay mem free
      → (k : Operands) (p : BasisPrimitive) (xs : List ℕ) (ls : List Literal) (g : Gives) → HoldAll lay front xs ls → row_at k p ls ≡ Some g
      → (packets : Packets) → ((e : PrimExn) → Is lay (packet (raised_name e) unit) (packets e))
      → (pc other : ℕ) → HasAt code pc (rows.code k p packets pc (length front) other xs)
      → WithLate (rows.late k p) g code other packets (length front)
      (Comes code f lay front mem (given g) (way_on g (pc + rows.size k p) (later (rows.late k p) other)) (inside f pc (front ++ above) mem free))
  pub tests : (code : List Instr) (f : Frame) (lay : List Word) (front above mem free : List ℕ) → Ready f lay mem free
      → (k : Operands) (p : BasisPrimitive) (xs : List ℕ) (ls : List Literal) (b : Bool) → HoldAll lay front xs ls
      → row_at k p ls ≡ Some (made (truth b))
      → (pc other : ℕ) → HasAt code pc (rows.test_code k p pc (length front) other xs)
      → Passes code f front mem free (if b then pc + rows.test_size k p else other) (inside f pc (front ++ above) mem free)
