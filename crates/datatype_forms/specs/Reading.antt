-- What stands behind `of`, as numbers of a table.
use Rattle.std.specs.Prelude.{◌≡◌, ℕ, List, [], ◌∷◌, Option, Some, None, slice_get, ⊤}
use Rattle.ty_core.specs.Types.{Typ, con, name}
use Rattle.ty_core.specs.Statics.{variables}
use Rattle.ty_core.specs.declared.name.TyName.{TyName}
use Rattle.sml_tree.specs.declared.ident.Tyvar.{Tyvar}
use Rattle.sml_tree.specs.BareTree.{ConBind, DataBind, Ty}
use Rattle.elab_types.specs.declared.scope.TypeEntry.{TypeEntry}
use Rattle.elab_types.specs.declared.scope.TypeScope.{TypeScope}
use Rattle.elab_state.specs.States.{types_in}
use Rattle.elab_state.specs.declared.state.State.{State}
use Rattle.closed_types.specs.Parameters.{IsClosedType}
use Rattle.datatype_forms.specs.Steps.{IsStep}

-- the type of an argument over these parameters, in the scope
abbrev pub IsArgumentType : List Typ → List Typ → TypeScope → List Tyvar → Option Ty → Option ℕ → Type 0
IsArgumentType old new s as_ None None = ⊤
IsArgumentType old new s as_ None (Some k) = ⊥
IsArgumentType old new s as_ (Some ty) None = ⊥
IsArgumentType old new s as_ (Some ty) (Some k) = IsClosedType old new s as_ ty k

abbrev pub AreArgumentTypes : List Typ → List Typ → TypeScope → List Tyvar → List ConBind → List (Option ℕ) → Type 0
AreArgumentTypes old new s as_ [] [] = ⊤
AreArgumentTypes old new s as_ [] (k ∷ ks) = ⊥
AreArgumentTypes old new s as_ (b ∷ bs) [] = ⊥
AreArgumentTypes old new s as_ (b ∷ bs) (k ∷ ks) = IsArgumentType old new s as_ b.of_ty k × AreArgumentTypes old new s as_ bs ks

-- of each datatype
abbrev pub AreRows : List Typ → List Typ → TypeScope → List DataBind → List (List (Option ℕ)) → Type 0
AreRows old new s [] [] = ⊤
AreRows old new s [] (ks ∷ kss) = ⊥
AreRows old new s (b ∷ bs) [] = ⊥
AreRows old new s (b ∷ bs) (ks ∷ kss) = AreArgumentTypes old new s b.tyvars b.cons ks × AreRows old new s bs kss

pub record AreRead (S : State) (s : TypeScope) (bs : List DataBind) (T : State) (kss : List (List (Option ℕ))) : Type 0 where
  pub step : IsStep S T
  pub are : AreRows (types_in S) (types_in T) s bs kss

-- the type function of a type name
pub record IsNameEntry (ts : List Typ) (n : TyName) (e : TypeEntry) : Type 0 where
  pub arity : e.arity ≡ n.arity
  pub body : slice_get ts e.body ≡ Some (con (name n) (variables 0 n.arity))

abbrev pub AreNameEntries : List Typ → List DataBind → List TyName → List (ℕ × TypeEntry) → Type 0
AreNameEntries ts [] [] [] = ⊤
AreNameEntries ts [] [] (e ∷ es) = ⊥
AreNameEntries ts [] (n ∷ ns) es = ⊥
AreNameEntries ts (b ∷ bs) [] es = ⊥
AreNameEntries ts (b ∷ bs) (n ∷ ns) [] = ⊥
AreNameEntries ts (b ∷ bs) (n ∷ ns) (e ∷ es) = ((e.0 ≡ b.tycon) × IsNameEntry ts n e.1) × AreNameEntries ts bs ns es
