-- Type variables of what elaborates are in scope: those that aren't, the declaration round them scopes, which has parameters for them.
use Rattle.std.specs.Prelude.{◌≡◌, ℕ, List, []}
use Rattle.sml_tree.specs.BareTree as bare
use Rattle.core_rules.specs.Choices.{Choices}
use Rattle.core_rules.specs.Typing.{Bound, scoped_in}
use Rattle.ir_poly.specs.Prog as prog
use Rattle.ir_poly.specs.Types.{Constructor}
use Rattle.core_elab.specs.Scopes.{Scope}
use Rattle.elab_typed.specs.Contexts.{Around, generic}
use Rattle.elab_typed.specs.Elaborates.{BindsElab}

abbrev pub NoneIsNew : Type 0
NoneIsNew = (table : List Constructor) (A : Around) (h k j : ℕ) (bs : bare.Binds) (bs' : prog.Binds) (vs : List Bound) (c : Choices) (r : Scope)
    → BindsElab table A A h k bs bs' vs c r j → scoped_in (generic A) [] bs bare.no_binds ≡ []
