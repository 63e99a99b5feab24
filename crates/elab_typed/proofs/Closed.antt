-- What declarations of types stand for, whatever the parameters in scope stand for: only their own parameters are in scope in them, and the types and structures
-- in scope are closed.
use Rattle.std.proofs.Common.{◌≡◌, ℕ, Bool, List, [], ◌∷◌, length, Option, Some, None, nat_eq, refl, sym, ap, ◌∙◌}
use Rattle.std.specs.Prelude.{option_map, option_and_then}
use Rattle.std.specs.Option.{option_zip}
use Rattle.ty_core.specs.Types.{Typ, Typs, more, var}
use Rattle.ty_core.specs.Statics.{apply, named}
use Rattle.ty_core.specs.declared.name.TyName.{TyName}
use Rattle.core_elab.specs.of_ty_basis.Types.{Row, function_type, row_type}
use Rattle.core_elab.specs.of_sml_tree.declared.ident.Tyvar.{Tyvar}
use Rattle.core_elab.specs.of_sml_tree.BareTree.{Ty, Tys, no_tys, ty, TyFields, no_ty_fields, ty_field, TypeBind, ConBind, DataBind}
use Rattle.core_elab.specs.of_sml_tree.BareTree as bare
use Rattle.core_elab.specs.of_core_rules.Objects.{sorted, Map, TypeStructure, Value, Env, types_env, Context, with_env}
use Rattle.core_elab.specs.of_core_rules.Elaborated.{type_in, type_of, types_of, row_of, with_parameters, types_bound, behind_of, constructors_of, structures_of, new_names, bare_structures, datatypes, constructed, any_marks}
use Rattle.ty_core.specs.declared.env.Status.TheVariants.{Constructor}
use Rattle.elab_typed.specs.Contexts.{Around, env_under, context_under, generic}

-- contexts with the same type variables and the same types
record SameTypes (c d : Context) : Type 0 where
  tyvars : c.tyvars ≡ d.tyvars
  types : (qs : List ℕ) (x : ℕ) → type_in c.env qs x ≡ type_in d.env qs x

module _ (c d : Context) (same : SameTypes c d) where
  mutual
    type-same : (t : Ty) → type_of c t ≡ type_of d t
    type-same (bare.var p a) = ap (λ vs. Rattle.core_elab.specs.of_core_rules.Objects.at nat_eq vs a.name) same.tyvars
    type-same (bare.fields p fs) = ap (option_map (λ r. row_type (sorted r))) (row-same fs)
    type-same (bare.con p ts q x) =
        λ i. option_and_then (λ us. option_and_then (λ (s : TypeStructure). apply s.function us) (same.types x.qualifiers x.id i)) (types-same ts i)
    type-same (bare.arrow p t u) = λ i. option_map (λ r. function_type r.0 r.1) (option_zip (type-same t i) (type-same u i))
    type-same (bare.ill p) = refl

    types-same : (ts : Tys) → types_of c ts ≡ types_of d ts
    types-same no_tys = refl
    types-same (ty t ts) = λ i. option_map (λ r. more r.0 r.1) (option_zip (type-same t i) (types-same ts i))

    row-same : (fs : TyFields) → row_of c fs ≡ row_of d fs
    row-same no_ty_fields = refl
    row-same (ty_field l t fs) = λ i. option_map (λ r. (l, r.0) ∷ r.1) (option_zip (type-same t i) (row-same fs i))

-- with parameters of their own type variables don't matter
own-same : (c d : Context) → ((qs : List ℕ) (x : ℕ) → type_in c.env qs x ≡ type_in d.env qs x) → (as_ : List Tyvar)
    → SameTypes (with_parameters c as_) (with_parameters d as_)
own-same c d h as_ = record { tyvars = refl; types = h }

pub types-under : (s : ℕ → Typ) (A : Around) (qs : List ℕ) (x : ℕ) → type_in (context_under s A).env qs x ≡ type_in (generic A).env qs x
types-under s A [] x = refl
types-under s A (q ∷ qs) x = refl

pub types-bound-under : (s : ℕ → Typ) (A : Around) (bs : List TypeBind) → types_bound (context_under s A) bs ≡ types_bound (generic A) bs
types-bound-under s A [] = refl
types-bound-under s A (b ∷ bs) =
    λ i. option_map (λ r. (b.tycon, record { function = record { arity = length b.tyvars; body = r.0 }; constructors = [] }) ∷ r.1)
    (option_zip (type-same (with_parameters (context_under s A) b.tyvars) (with_parameters (generic A) b.tyvars)
    (own-same (context_under s A) (generic A) (types-under s A) b.tyvars) b.ty i) (types-bound-under s A bs i))

module _ (c d : Context) (h : (qs : List ℕ) (x : ℕ) → type_in c.env qs x ≡ type_in d.env qs x) where
  behind-same : (as_ : List Tyvar) (o : Option Ty) → behind_of (with_parameters c as_) o ≡ behind_of (with_parameters d as_) o
  behind-same as_ None = refl
  behind-same as_ (Some t) = ap (option_map Some) (type-same (with_parameters c as_) (with_parameters d as_) (own-same c d h as_) t)

  constructors-same : (as_ : List Tyvar) (n : TyName) (bs : List ConBind) → constructors_of c as_ n bs ≡ constructors_of d as_ n bs
  constructors-same as_ n [] = refl
  constructors-same as_ n (b ∷ bs) =
      λ i. option_map (λ r. (b.vid, record { scheme = record { marks = any_marks as_; body = constructed n r.0 }; status = Constructor }) ∷ r.1)
      (option_zip (behind-same as_ b.of_ty i) (constructors-same as_ n bs i))

  structures-same : (ns : List TyName) (bs : List DataBind) → structures_of c ns bs ≡ structures_of d ns bs
  structures-same [] bs = refl
  structures-same (n ∷ ns) [] = refl
  structures-same (n ∷ ns) (b ∷ bs) =
      λ i. option_map (λ r. (b.tycon, record { function = named n; constructors = r.0 }) ∷ r.1)
      (option_zip (constructors-same b.tyvars n b.cons i) (structures-same ns bs i))

-- with further types
further-types : (s : ℕ → Typ) (A : Around) (made : ℕ) (ts : Map ℕ TypeStructure) (qs : List ℕ) (x : ℕ)
    → type_in (with_env (context_under s A) made (types_env ts)).env qs x ≡ type_in (with_env (generic A) made (types_env ts)).env qs x
further-types s A made ts [] x = refl
further-types s A made ts (q ∷ qs) x = refl

pub datatypes-under : (s : ℕ → Typ) (A : Around) (qs : List Bool) (bs : List DataBind) → datatypes (context_under s A) qs bs ≡ datatypes (generic A) qs bs
datatypes-under s A qs bs =
    structures-same (with_env (context_under s A) (length bs) (types_env (bare_structures (new_names (generic A) qs bs) bs)))
    (with_env (generic A) (length bs) (types_env (bare_structures (new_names (generic A) qs bs) bs)))
    (further-types s A (length bs) (bare_structures (new_names (generic A) qs bs) bs)) (new_names (generic A) qs bs) bs
