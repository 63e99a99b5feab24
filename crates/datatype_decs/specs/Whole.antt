-- The names and the constructors of a declaration of datatypes, before they come into scope.
use Rattle.std.specs.Prelude.{◌≡◌, ◌+◌, ◌++◌, ℕ, List, Option, length, map}
use Rattle.ty_core.specs.declared.name.TyName.{TyName}
use Rattle.sml_tree.specs.declared.ident.Vid.{Vid}
use Rattle.sml_tree.specs.BareTree.{DataBind}
use Rattle.sml_tree.specs.TreeOf.{data_bind_of, type_bind_of}
use Rattle.sml_tree.specs.declared.tree.DataBind as tree
use Rattle.sml_tree.specs.declared.tree.TypeBind as trees
use Rattle.elab_typed.specs.Numbers.{AgreeBelow}
use Rattle.elab_state.specs.Namings.{IsAmong}
use Rattle.elab_state.specs.States.{types_in}
use Rattle.elab_state.specs.declared.state.State.{State}
use Rattle.elab_steps.specs.Growing.{Begins}
use Rattle.elab_steps.specs.World.{World, Comes}
use Rattle.elab_context.specs.Entries.{number_in}
use Rattle.elab_context.specs.declared.context.Context.{Context}
use Rattle.elab_context.specs.declared.entry.Entry.{Entry}
use Rattle.datatype_forms.specs.of_dec_forms.Entries.{HasFront}
use Rattle.datatype_forms.specs.Arguments.{rows_at}
use Rattle.datatype_forms.specs.Constructed.{AllRows, AllSchemes}
use Rattle.datatype_forms.specs.Steps.{IsStep}
use Rattle.datatype_decs.specs.Adding.{AreSchemes}

-- the type constructors of a declaration, and those of the abbreviations beside it
abbrev pub tycons_with : List trees.TypeBind → List tree.DataBind → List ℕ
tycons_with as_ bs = map (λ b. b.tycon) (map data_bind_of bs) ++ map (λ b. b.tycon) (map type_bind_of as_)

-- D is C with these type names in use, each with its number in the program, and with the schemes of their constructors, which have rows in the program
pub record AreConstructed (S : State) (C : Context) (ns : List TyName) (bs : List DataBind) (kss : List (List (Option ℕ))) (T : State) (D : Context)
    (es : List (Vid × Entry)) : Type 0 where
  pub step : IsStep S T
  pub rest : D ≡ record C { schemes = D.schemes; names = D.names; naming = D.naming; numbers = D.numbers }
  pub names : D.names ≡ C.names + length bs
  pub naming : IsAmong (length T.namings.items) D.naming
  pub front : HasFront C.numbers D.numbers
  pub numbers : (W : World) → Comes T W → ((x : ℕ) → W.naming C.naming x ≡ number_in C x) → (x : ℕ) → W.naming D.naming x ≡ number_in D x
  pub agree : (W : World) → Comes T W → AgreeBelow C.names (W.naming C.naming) (W.naming D.naming)
  pub more : Begins C.schemes.items D.schemes.items
  pub schemes : AreSchemes S C → AreSchemes T D
  pub all : AllSchemes (types_in T) D.schemes.items (length C.schemes.items) ns bs (rows_at (types_in T) kss) es (length D.schemes.items)
  pub rows : AllRows T (number_in D) D.names ns bs (rows_at (types_in T) kss)
