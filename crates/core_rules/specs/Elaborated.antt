-- What types and declarations without expressions stand for. [Definition 4.4, 4.9, rules 16 to 20 and 27 to 31, 44 to 49]
use Rattle.std.specs.Prelude.{◌≡◌, ℕ, suc, Bool, true, false, not, ◌&&◌, ◌||◌, nat_eq, nat_lt, if◌then◌else◌, List, [], ◌∷◌, map, flat_map, length, Option, Some, None, option_map, option_and_then, ⊤}
use Rattle.std.specs.Option.{option_zip}
use Rattle.std.specs.List.{list_all}
use Rattle.ty_basis.specs.of_ty_core.Types.{Typ, con as built_of, var as variable, Typs, none, more, arrow as to, name, admits}
use Rattle.ty_basis.specs.of_ty_core.Statics.{apply, named, variables}
use Rattle.ty_basis.specs.of_ty_core.declared.name.TyName.{TyName}
use Rattle.ty_basis.specs.of_ty_core.declared.name.Equality.TheVariants.{ByArguments, Never}
use Rattle.ty_basis.specs.of_ty_core.declared.mark.Mark.TheVariants.{Any}
use Rattle.ty_basis.specs.of_ty_core.declared.env.Status.{Status}
use Rattle.ty_basis.specs.of_ty_core.declared.env.Status.TheVariants.{Constructor, Exception}
use Rattle.sml_tree.specs.declared.ident.Tyvar.{Tyvar}
use Rattle.sml_tree.specs.BareTree.{Ty, var, fields, con, arrow, ill, Tys, no_tys, ty, TyFields, no_ty_fields, ty_field, LongIdAt, TypeBind, ConBind, DataBind, ExBind, new_exn, same_exn}
use Rattle.ty_basis.specs.Types.{Row, exn_type, function_type, row_type}
use Rattle.core_rules.specs.Objects.{sorted, monomorphic, Map, at, Value, Values, TypeStructure, Env, env, no_structures, no_env, types_env, types, structures, plus, along, long_value_in, Context, with_env}

abbrev pub is_exception : Status → Bool
is_exception s = elim s [ Exception ↦ true | o ↦ false ]

abbrev pub type_in : Env → List ℕ → ℕ → Option TypeStructure
type_in e qs x = option_and_then (λ d. at nat_eq (types d) x) (along e qs)

abbrev pub replicated : Env → LongIdAt → Option TypeStructure
replicated e x = type_in e x.long.qualifiers x.long.id

-- the environments of structures, later ones over earlier [rule 22]
abbrev pub opened : Env → List LongIdAt → Option Env
opened e [] = Some no_env
opened e (x ∷ xs) = option_and_then (λ d. option_map (plus d) (opened e xs))
    (option_and_then (λ d. at nat_eq (structures d) x.long.id) (along e x.long.qualifiers))

-- a type expression's type [rules 44 to 49]
abbrev mutual
  pub type_of : Context → Ty → Option Typ
  type_of c (var p a) = at nat_eq c.tyvars a.name
  type_of c (fields p fs) = option_map (λ r. row_type (sorted r)) (row_of c fs)
  type_of c (con p ts q x) = option_and_then (λ us. option_and_then (λ s. apply s.function us) (type_in c.env x.qualifiers x.id)) (types_of c ts)
  type_of c (arrow p t u) = option_map (λ r. function_type r.0 r.1) (option_zip (type_of c t) (type_of c u))
  type_of c (ill p) = None

  pub types_of : Context → Tys → Option Typs
  types_of c no_tys = Some none
  types_of c (ty t ts) = option_map (λ r. more r.0 r.1) (option_zip (type_of c t) (types_of c ts))

  pub row_of : Context → TyFields → Option Row
  row_of c no_ty_fields = Some []
  row_of c (ty_field l t fs) = option_map (λ r. (l, r.0) ∷ r.1) (option_zip (type_of c t) (row_of c fs))

-- type variables stand for r's types from the k-th on
abbrev pub scope : ℕ → (ℕ → Typ) → List Tyvar → Map ℕ Typ
scope k r [] = []
scope k r (a ∷ as_) = (a.name, r k) ∷ scope (suc k) r as_

-- parameters stand for the first variables
abbrev pub with_parameters : Context → List Tyvar → Context
with_parameters c as_ = record c { tyvars = scope 0 variable as_ }

-- type bindings [rule 27]
abbrev pub types_bound : Context → List TypeBind → Option (Map ℕ TypeStructure)
types_bound c [] = Some []
types_bound c (b ∷ bs) = option_map (λ r. (b.tycon, record { function = record { arity = length b.tyvars; body = r.0 }; constructors = [] }) ∷ r.1)
    (option_zip (type_of (with_parameters c b.tyvars) b.ty) (types_bound c bs))

-- Datatype bindings [rules 28, 29]: constructors of the type name n

-- t, or a function to it from what stands behind `of`
abbrev pub from_argument : Option Typ → Typ → Typ
from_argument o t = elim o [ None ↦ t | Some u ↦ function_type u t ]

abbrev pub constructed : TyName → Option Typ → Typ
constructed n u = from_argument u (built_of (name n) (variables 0 n.arity))

-- so many parameters of any types
abbrev pub any_marks : List Tyvar → List Rattle.ty_basis.specs.of_ty_core.declared.mark.Mark.Mark
any_marks as_ = map (λ a. Any) as_

-- the type of what stands behind `of`, if that is there
abbrev pub behind_of : Context → Option Ty → Option (Option Typ)
behind_of c o = elim o [ None ↦ Some None | Some t ↦ option_map Some (type_of c t) ]

abbrev pub constructors_of : Context → List Tyvar → TyName → List ConBind → Option Values
constructors_of c as_ n [] = Some []
constructors_of c as_ n (b ∷ bs) =
    option_map (λ r. (b.vid, record { scheme = record { marks = any_marks as_; body = constructed n r.0 }; status = Constructor }) ∷ r.1)
    (option_zip (behind_of (with_parameters c as_) b.of_ty) (constructors_of c as_ n bs))

abbrev pub structures_of : Context → List TyName → List DataBind → Option (Map ℕ TypeStructure)
structures_of c (n ∷ ns) (b ∷ bs) = option_map (λ r. (b.tycon, record { function = named n; constructors = r.0 }) ∷ r.1)
    (option_zip (constructors_of c b.tyvars n b.cons) (structures_of c ns bs))
structures_of c ns bs = Some []

-- new names, with the numbers from k on; qs says which of them admit equality
abbrev pub names_of : ℕ → List Bool → List DataBind → List TyName
names_of k (q ∷ qs) (b ∷ bs) = record { stamp = k; arity = length b.tyvars; equality = if q then ByArguments else Never } ∷ names_of (suc k) qs bs
names_of k qs bs = []

abbrev pub bare_structures : List TyName → List DataBind → Map ℕ TypeStructure
bare_structures (n ∷ ns) (b ∷ bs) = (b.tycon, record { function = named n; constructors = [] }) ∷ bare_structures ns bs
bare_structures ns bs = []

abbrev pub new_names : Context → List Bool → List DataBind → List TyName
new_names c qs bs = names_of c.names qs bs

-- the type structures of a datatype declaration, where these of its names admit equality [rule 17]
abbrev pub datatypes : Context → List Bool → List DataBind → Option (Map ℕ TypeStructure)
datatypes c qs bs = structures_of (with_env c (length bs) (types_env (bare_structures (new_names c qs bs) bs))) (new_names c qs bs) bs

-- the exceptions of a declaration [rules 30, 31]
abbrev pub exception_type : Option Typ → Typ
exception_type u = from_argument u exn_type

abbrev pub if_exception : Value → Option Value
if_exception v = if is_exception v.status then Some v else None

abbrev pub exceptions_of : Context → List ExBind → Option Values
exceptions_of c [] = Some []
exceptions_of c (new_exn p x t ∷ bs) =
    option_map (λ r. (x, record { scheme = monomorphic (exception_type r.0); status = Exception }) ∷ r.1) (option_zip (behind_of c t) (exceptions_of c bs))
exceptions_of c (same_exn p x q y ∷ bs) = option_map (λ r. (x, r.0) ∷ r.1)
    (option_zip (option_and_then if_exception (long_value_in c.env y)) (exceptions_of c bs))

-- Equality of datatypes [4.9]: names that admit it have only constructors whose arguments do, once the parameters do.

abbrev pub argument_admits : ℕ → Typ → Bool
argument_admits n (built_of to (more t ts)) = admits (λ v. nat_lt v n) t
argument_admits n t = true

abbrev pub all_arguments_admit : Values → Bool
all_arguments_admit = list_all (λ v. argument_admits (length v.1.scheme.marks) v.1.scheme.body)

abbrev pub respects_equality : List Bool → Map ℕ TypeStructure → Bool
respects_equality (q ∷ qs) (s ∷ ss) = (not q || all_arguments_admit s.1.constructors) && respects_equality qs ss
respects_equality qs ss = true

abbrev pub AllBelow : List Bool → List Bool → Type 0
AllBelow (q ∷ qs) (r ∷ rs) = (q ≡ true → r ≡ true) × AllBelow qs rs
AllBelow qs rs = ⊤

abbrev pub all_constructors : Map ℕ TypeStructure → Values
all_constructors = flat_map (λ s. s.1.constructors)

abbrev pub datatypes_env : Map ℕ TypeStructure → Env
datatypes_env ts = env (all_constructors ts) ts no_structures
