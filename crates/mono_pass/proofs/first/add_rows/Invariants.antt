use Rattle.std.proofs.Common.{◌≡◌, ◌++◌, List, take}
use Rattle.ty_core.specs.Types.{Typ}
use Rattle.ir_tables.specs.Rows.{constructors_at}
use Rattle.mono_pass.specs.Extending.{Extends}
use Rattle.mono_pass.proofs.first.add_rows.Given as goal

abbrev pub invariant-loop-i : goal.invariant-loop-i
invariant-loop-i l = (old new : List Typ) → Extends old new l.known l.variable → constructors_at new l.all ≡ constructors_at new l.fn.all ++ constructors_at old (take l.i l.rows)
