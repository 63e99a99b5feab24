-- Programs of tests, from a number on.
use Rattle.std.specs.Prelude.{ℕ, suc, List}
use Rattle.ty_core.specs.declared.scheme.Quantified.{Quantified}
use Rattle.ir_plain.specs.Tree.{make_record, no_row, first, ret}
use Rattle.ir_poly.specs.Prog.{Decs}
use Rattle.ir_poly.specs.Tests.{Tests}
use Rattle.ir_poly.specs.Types.{unit_type}
use Rattle.ir_values.specs.Primitives.{bind_name}
use Rattle.match_compile.specs.Compile.{Names, decs, past_decs, put, scoped, atom, otherwise, initial}

-- declarations give unit, or raise Bind
abbrev pub program : List Quantified → Names → Decs → (n : ℕ) → Tests
program D N ds n =
    let k = past_decs ds n in
    first (decs D N ds n (put D k unit_type (make_record (scoped D unit_type) no_row) (ret (atom k)))) (otherwise D (suc k) unit_type 0 (initial bind_name))
