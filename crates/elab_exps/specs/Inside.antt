-- Bindings inside their declaration.
use Rattle.std.specs.Prelude.{◌<◌, List}
use Rattle.sml_tree.specs.TreeOf.{RuleOf}
use Rattle.sml_tree.specs.declared.ident.Tyvar.{Tyvar}
use Rattle.elab_types.specs.Reading.{left_at}
use Rattle.elab_state.specs.declared.state.State.{State}
use Rattle.elab_context.specs.declared.context.Context.{Context}
use Rattle.general_decs.specs.Inside.{AreInside}
use Rattle.general_decs.specs.Outside.{outside}
use Rattle.general_decs.specs.Scoped.{CameByName}
use Rattle.general_decs.specs.declared.begin.Begun.{Begun}
use Rattle.elab_exps.specs.declared.inside.Inside.{Inside}

-- the context is inside a declaration that was begun so, with these type variables
pub record IsWithin (D : Context) (begun : Begun) (scoped : List Tyvar) : Type 0 where
  pub inside : 0 < D.level
  pub named : CameByName scoped (left_at begun.tyvars D.types.tyvars) D.types.tyvars

-- these bindings elaborate inside it
abbrev pub AreBound : State → Context → Begun → List RuleOf → State → Inside → Type 0
AreBound S D begun rs T made = AreInside S (outside D begun.tyvars) D.types rs T made.bound.items made.flags.items made.binds.items
