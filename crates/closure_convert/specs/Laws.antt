-- What is claimed of the table of captures.
use Rattle.std.specs.Prelude.{ℕ, suc, ◌+◌, ◌≤◌, List, [], ◌++◌, length}
use Rattle.flow_sets.specs.of_ir_plain.Tree.{Fun}
use Rattle.flow_sets.specs.of_ir_mono.Types as table
use Rattle.flow_sets.specs.of_ir_mono.Mono.{mono, Program}
use Rattle.flow_sets.specs.of_ir_mono.WellFormed.{IsWellFormed}
use Rattle.closure_convert.specs.Scope.{Member, names, Scope, top}
use Rattle.closure_convert.specs.Closed.{IsClosed}
use Rattle.closure_convert.specs.Capture.{onto, kept, cut, occurs_fun, wanted, table_of}
use Rattle.closure_convert.specs.Counts.{dropped, Aligned, parameters, IsFresh, inner_pieces, Captures}

-- of a well formed program it is a right table
abbrev pub CapturesAreRight : Type 0
CapturesAreRight = (p : Program) → IsWellFormed p → IsClosed p.types (table_of p.types p.body) top p.body

-- a closure is made of a piece for each gap in what was captured, and one for each variable of the body or of the group
abbrev pub PiecesAreFew : Type 0
PiecesAreFew =
    (types : List table.Row) (s : Scope) (f : Fun (mono types)) → Aligned s 0 s.captured
    → length (cut s (wanted types s f)) ≤ suc (dropped (λ y. occurs_fun types y f) s.captured)
    + length (kept (λ y. occurs_fun types y f) (names s.group ++ onto s.locals []))

-- a curried function makes closures of at most two pieces a parameter, but for two, and of one more for each name of its group
abbrev pub CurriedAreFew : Type 0
CurriedAreFew =
    (types : List table.Row) (f : Fun (mono types)) (cs : List ℕ) (ms : List Member) (xs : List ℕ) → Captures types cs ms xs f → IsFresh types xs f
    → inner_pieces types cs ms f + 2 ≤ parameters types f + parameters types f + length (names ms)
