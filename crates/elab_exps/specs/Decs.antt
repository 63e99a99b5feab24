-- Declarations inside the recursion.
use Rattle.std.specs.Prelude.{◌≡◌, ◌++◌, List}
use Rattle.sml_tree.specs.BareTree as bare
use Rattle.prog_tree.specs.declared.tree.Dec.{Dec}
use Rattle.elab_state.specs.declared.state.State.{State}
use Rattle.elab_steps.specs.Growing.{Begins}
use Rattle.elab_context.specs.Telling.{IsContext}
use Rattle.elab_context.specs.declared.context.Context.{Context}
use Rattle.scope_decs.specs.of_dec_forms.Bringing.{AreBringing, IsBringing}
use Rattle.scope_decs.specs.of_dec_forms.declared.brought.Brought.{Brought}

-- a state stands in a context: it has what the context speaks of, and is as deep
pub record StandsIn (S : State) (C : Context) : Type 0 where
  pub context : IsContext S C
  pub level : S.level ≡ C.level

-- a declaration's part of the program stands behind others, and it brings these into scope
pub record IsDeclared (S : State) (C : Context) (d : bare.Dec) (T : State) (D : Context) (old new : List Dec) (before after : Brought) : Type 0 where
  pub decs : List Dec
  pub all : new ≡ old ++ decs
  pub brings : IsBringing S C d T D decs before after
  pub stands : StandsIn T D
  pub schemes : Begins C.schemes.items D.schemes.items

-- the same of several, one after the other
pub record AreDeclared (S : State) (C : Context) (ds : List bare.Dec) (T : State) (D : Context) (old new : List Dec) (before after : Brought) : Type 0 where
  pub decs : List Dec
  pub all : new ≡ old ++ decs
  pub bring : AreBringing S C ds T D decs before after
  pub stands : StandsIn T D
  pub schemes : Begins C.schemes.items D.schemes.items
