-- Abbreviations beside datatypes, as `withtype` has them: written out, or as type functions. [Definition, Appendix A]
use Rattle.std.specs.Prelude.{◌≡◌, ℕ, List, [], ◌∷◌, length, map, ⊤}
use Rattle.ty_core.specs.Types.{Typ}
use Rattle.sml_tree.specs.BareTree.{DataBind, TypeBind}
use Rattle.sml_tree.specs.Derived.{expand_bind}
use Rattle.sml_tree.specs.TreeOf.{data_bind_of, type_bind_of}
use Rattle.sml_tree.specs.declared.tree.DataBind as tree
use Rattle.sml_tree.specs.declared.tree.TypeBind as trees
use Rattle.elab_types.specs.declared.scope.TypeEntry.{TypeEntry}
use Rattle.elab_types.specs.declared.scope.TypeScope.{TypeScope}
use Rattle.closed_types.specs.Parameters.{IsClosedType}

-- datatypes with abbreviations written out
abbrev pub written_binds : List TypeBind → List DataBind → List DataBind
written_binds as_ = map (expand_bind as_)

abbrev pub binds_with : List trees.TypeBind → List tree.DataBind → List DataBind
binds_with as_ bs = written_binds (map type_bind_of as_) (map data_bind_of bs)

-- e is the type function of an abbreviation, in every context of whose type constructors the scope tells
pub record IsFunctionEntry (old new : List Typ) (s : TypeScope) (b : TypeBind) (e : TypeEntry) : Type 0 where
  pub arity : e.arity ≡ length b.tyvars
  pub body : IsClosedType old new s b.tyvars b.ty e.body

abbrev pub AreFunctionEntries : List Typ → List Typ → TypeScope → List TypeBind → List (ℕ × TypeEntry) → Type 0
AreFunctionEntries old new s [] [] = ⊤
AreFunctionEntries old new s [] (e ∷ es) = ⊥
AreFunctionEntries old new s (b ∷ bs) [] = ⊥
AreFunctionEntries old new s (b ∷ bs) (e ∷ es) = ((e.0 ≡ b.tycon) × IsFunctionEntry old new s b e.1) × AreFunctionEntries old new s bs es
