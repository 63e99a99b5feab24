-- What is claimed of what is done with values.
use Rattle.std.specs.Prelude.{◌≡◌, ℕ, true, List, [], ◌∷◌, Some}
use Rattle.ir_values.specs.of_mlc_runs.Run.{World, raises}
use Rattle.ir_values.specs.of_mlc_prims.LitOf.{Literal}
use Rattle.ir_values.specs.of_mlc_prims.PrimOf.{raised}
use Rattle.ir_values.specs.of_mlc_prims.declared.basis.BasisPrimitive.{BasisPrimitive}
use Rattle.ir_values.specs.of_mlc_prims.declared.prim.PrimExn.{PrimExn}
use Rattle.first_values.specs.Values.{Value, cell, values_of, count, run, Env, look_up, gather}
use Rattle.first_values.specs.Operations.{Operands, Plain, Tables, row_at, perform}
use Rattle.first_values.specs.Raising.{may_raise}

-- a primitive that raises an exception is said to
abbrev pub OnlyTheseRaise : Type 0
OnlyTheseRaise = (k : Operands) (p : BasisPrimitive) (ls : List Literal) (e : PrimExn) → row_at k p ls ≡ Some (raised e) → may_raise k p ≡ true

-- no plain operation raises
abbrev pub PlainNeverRaises : Type 0
PlainNeverRaises = (T : Tables) (p : Plain) (vs : List Value) (w u : World Value) (q : Value) → perform T p vs w ≡ raises q u → ⊥

-- a run of all parts of a cell has its parts
abbrev pub RunsAreParts : Type 0
RunsAreParts =
    (x tag : ℕ) (vs : List Value) (env : Env) → look_up x env ≡ Some (cell tag (values_of vs)) → gather (run x 0 (count (values_of vs)) ∷ []) env ≡ Some vs
