use Rattle.closure_meaning.specs.Convert.{Numbering}
use Rattle.closure_convert.specs.Scope.{Table}
use Rattle.flow_sets.specs.Flow.{Flow}
use Rattle.std.proofs.Common.{List}
use Rattle.closure_bodies.specs.of_closure_parts.Settings.{Row, Texts, Holds}
use Rattle.closure_first.proofs.Walking.{CurriedSoFar}
use Rattle.closure_first.proofs.codes.push_curried.Given as goal

abbrev pub invariant-loop-i : goal.invariant-loop-i
invariant-loop-i l =
    (types : List Row) (strings : Texts) (n : Numbering) (F : Flow) (T : Table) → Holds l.setting types strings n F T
    → CurriedSoFar n types strings F T l.parameters l.last l.fn.found.items l.found.items l.i
