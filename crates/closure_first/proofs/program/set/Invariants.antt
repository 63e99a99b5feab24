use Rattle.std.proofs.Common.{◌≡◌, List, map, take}
use Rattle.flow_sets.specs.Flow.{Flow}
use Rattle.closure_convert.specs.Scope.{Table}
use Rattle.first_tables.specs.TablesOf.{member_of}
use Rattle.closure_meaning.specs.Convert.{Numbering, set_of}
use Rattle.closure_bodies.specs.of_closure_parts.Settings.{Row, Texts, Holds}
use Rattle.closure_first.proofs.program.set.Given as goal

abbrev pub invariant-loop-i : goal.invariant-loop-i
invariant-loop-i l =
    (types : List Row) (strings : Texts) (n : Numbering) (F : Flow) (T : Table) → Holds l.setting types strings n F T → map member_of l.made.items ≡ set_of n (take l.i l.functions)
