-- What is claimed of sizes.
use Rattle.std.specs.Prelude.{ℕ, ◌+◌, ◌*◌, ◌≤◌, List, length}
use Rattle.ir_plain.specs.Tree.{Fun, Funs}
use Rattle.ir_mono.specs.Types as table
use Rattle.ir_mono.specs.Mono.{mono, Program}
use Rattle.ir_first.specs.Size.{nodes_funs}
use Rattle.flow_sets.specs.Flow.{Flow}
use Rattle.closure_convert.specs.Scope.{Scope, Table}
use Rattle.closure_convert.specs.Capture.{visible, wanted, wanted_all}
use Rattle.closure_convert.specs.Counts.{AreDistinct}
use Rattle.closure_meaning.specs.Convert.{Numbering, program}
use Rattle.closure_sizes.specs.Counts.{nodes, pieces, fun_uses, funs_uses}

-- four nodes for each node and each piece, and one for the program itself
abbrev pub ConversionIsSmall : Type 0
ConversionIsSmall =
    (n : Numbering) (strings : List (List ℕ)) (flow : Flow) (captures : Table) (p : Program)
    → nodes_funs (program n strings flow captures p).funs ≤ 1 + 4 * nodes p.types p.body + 4 * pieces p.types captures p.body

-- what a function alone captures, or a group, is used in its text; each variable that can be seen is seen once
abbrev pub CapturesAreUses : Type 0
CapturesAreUses =
    (types : List table.Row) (s : Scope) → AreDistinct (visible s)
    → ((f : Fun (mono types)) → length (wanted types s f) ≤ fun_uses types f)
    × ((fs : Funs (mono types)) → length (wanted_all types s fs) ≤ funs_uses types fs)
