use Rattle.std.proofs.Common.{◌≡◌, List, length, take}
use Rattle.ty_core.specs.Types.{Typ, var}
use Rattle.ty_table.specs.TypeAt.{type_at}
use Rattle.ir_tables.specs.Rows.{constructors_at}
use Rattle.match_pass.proofs.tables.all_kept.Given as goal

abbrev pub invariant-loop-i : goal.invariant-loop-i
invariant-loop-i l = (old new : List Typ) → l.first ≡ length old → take (length old) new ≡ old → type_at new l.none ≡ var 0 → constructors_at new l.made ≡ constructors_at old (take l.i l.rows)
