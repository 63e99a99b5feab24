use Rattle.std.proofs.Common.{◌≡◌, List, map, take}
use Rattle.flow_sets.specs.Flow.{Flow}
use Rattle.closure_convert.specs.Scope.{Table}
use Rattle.first_tables.specs.TablesOf.{set_of}
use Rattle.closure_meaning.specs.Convert.{Numbering}
use Rattle.closure_bodies.specs.of_closure_parts.Settings.{Row, Texts, Holds}
use Rattle.closure_first.proofs.Listing.{set_in}
use Rattle.closure_first.proofs.program.all_sets.Given as goal

abbrev pub invariant-loop-i : goal.invariant-loop-i
invariant-loop-i l =
    (types : List Row) (strings : Texts) (n : Numbering) (F : Flow) (T : Table) → Holds l.setting types strings n F T
    → map set_of l.made.items ≡ map (set_in n) (take l.i l.given)
