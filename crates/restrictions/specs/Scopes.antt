-- The scope of a declaration of values.
use Rattle.std.specs.Prelude.{ℕ, List, length}
use Rattle.sml_tree.specs.declared.ident.Tyvar.{Tyvar}
use Rattle.restrictions.specs.Found.{names_in}
use Rattle.restrictions.specs.Nodes.{are_new}
use Rattle.restrictions.specs.declared.scope.Entered.{Entered}

-- where a declaration with this sequence is entered
abbrev pub entered_in : List (ℕ × ℕ) → List Tyvar → Entered
entered_in around as_ = record { new = are_new (names_in around) as_; mark = length around }
