-- Types of the program: parameters of declarations in scope, instances, the program's table of constructors, and the types of primitives at instances.
-- [Definition 4.2 to 4.5] Type names and the types of primitives are those of the initial basis.
use Rattle.std.specs.Prelude.{◌≡◌, ℕ, zero, suc, Bool, true, false, not, ◌&&◌, ◌||◌, List, [], ◌∷◌, map, Option, Some, None, nat_eq, nat_lt, if◌then◌else◌, ⊤}
use Rattle.ir_plain.specs.of_mlc_names.declared.label.Label.{Label}
use Rattle.ir_plain.specs.of_mlc_prims.declared.basis.BasisPrimitive.{BasisPrimitive}
use Rattle.ty_basis.specs.of_ty_core.Types.{Typ, var, con, Typs, none, more, admits}
use Rattle.ty_basis.specs.of_ty_core.Marks.{Allows}
use Rattle.ty_basis.specs.of_ty_core.Statics.{replace}
use Rattle.ty_basis.specs.of_ty_core.declared.mark.Mark.{Mark}
use Rattle.ty_basis.specs.of_ty_core.declared.mark.Mark.TheVariants.{Any, Equality, Class}
use Rattle.ty_basis.specs.of_ty_core.declared.name.TyName.{TyName}
use Rattle.ty_basis.specs.of_ty_core.declared.name.Equality.TheVariants.{Always, ByArguments}
use Rattle.ty_basis.specs.of_ty_core.declared.scheme.Quantified.{Quantified}
use Rattle.ir_plain.specs.of_ir_values.Values.{true_number, false_number, nil_number, cons_number}
use Rattle.label_rows.specs.Order.{sorted_by}
pub use Rattle.label_rows.specs.Order.{label_before}
pub use Rattle.ty_basis.specs.Types.{int_name, word_name, char_name, string_name, ref_name, exn_name, bool_name, list_name, of_name, function_type, ref_type, list_type, row_type, labels_in, unit_type, pair_type, name_count}
pub use Rattle.ty_basis.specs.Primitives.{PrimType, prim_type, numbered, tuple_type}

-- Parameters in scope, each with its mark.

abbrev pub in_scope : List Quantified → ℕ → Bool
in_scope [] v = false
in_scope (q ∷ qs) v = nat_eq q.variable v || in_scope qs v

abbrev pub is_equality : Mark → Bool
is_equality Any = false
is_equality Equality = true
is_equality (Class c) = false

-- which parameters admit equality
abbrev pub admits_in : List Quantified → ℕ → Bool
admits_in [] v = false
admits_in (q ∷ qs) v = if nat_eq q.variable v then is_equality q.mark else admits_in qs v

-- a type's variables are parameters in scope
abbrev mutual
  pub over : List Quantified → Typ → Bool
  over qs (var v) = in_scope qs v
  over qs (con h ts) = all_over qs ts

  pub all_over : List Quantified → Typs → Bool
  all_over qs none = true
  all_over qs (more t ts) = over qs t && all_over qs ts

-- a parameter that is declared may ask for equality, and never for a class: overloading ends with the declaration
abbrev pub is_declarable : Mark → Bool
is_declarable Any = true
is_declarable Equality = true
is_declarable (Class c) = false

-- parameters that are declared are new, each once
abbrev pub are_new : List Quantified → List Quantified → Bool
are_new [] scope = true
are_new (q ∷ qs) scope = is_declarable q.mark && (not (in_scope scope q.variable) && (not (in_scope qs q.variable) && are_new qs scope))

-- Labels of a record: numbers by value, then words by their numbers, and none twice.

abbrev pub ascend : List Label → Bool
ascend [] = true
ascend (l ∷ []) = true
ascend (l ∷ k ∷ ls) = label_before l k && ascend (k ∷ ls)

-- the row of a record type, of fields in any order
abbrev pub sorted : List (Label × Typ) → List (Label × Typ)
sorted = sorted_by (λ f. f.0)

-- s changed at parameters: these types are put for them
abbrev pub changed : List Quantified → List Typ → (ℕ → Typ) → ℕ → Typ
changed [] ts s v = s v
changed (q ∷ qs) [] s v = s v
changed (q ∷ qs) (t ∷ ts) s v = if nat_eq q.variable v then t else changed qs ts s v

-- as many types as parameters, such as their marks ask for; m says which variables admit equality
abbrev pub AreAllowed : (ℕ → Bool) → List Quantified → List Typ → Type 0
AreAllowed m [] [] = ⊤
AreAllowed m [] (t ∷ ts) = ⊥
AreAllowed m (q ∷ qs) [] = ⊥
AreAllowed m (q ∷ qs) (t ∷ ts) = Allows q.mark m t × AreAllowed m qs ts

-- Constructors: the datatype, the constructor's number, and the type of its argument, if it has one. The datatype's parameters are the variables below its
-- arity.
pub record Constructor : Type 0 where
  pub datatype : TyName
  pub number : ℕ
  pub argument : Option Typ

abbrev pub constructor_of : TyName → ℕ → Option Typ → Constructor
constructor_of y c a = record { datatype = y; number = c; argument = a }

-- those that derived forms name
abbrev pub initial_constructors : List Constructor
initial_constructors =
    constructor_of bool_name false_number None ∷ constructor_of bool_name true_number None ∷ constructor_of list_name nil_number None
    ∷ constructor_of list_name cons_number (Some (pair_type (var 0) (list_type (var 0)))) ∷ []

abbrev pub find : List Constructor → TyName → ℕ → Option Constructor
find [] y c = None
find (k ∷ ks) y c = if nat_eq k.datatype.stamp y.stamp && nat_eq k.number c then Some k else find ks y c

abbrev pub nth_type : List Typ → ℕ → Typ
nth_type [] i = unit_type
nth_type (t ∷ ts) zero = t
nth_type (t ∷ ts) (suc i) = nth_type ts i

-- the type of an argument in the datatype at these types
abbrev pub argument_at : List Typ → Option Typ → Option Typ
argument_at ts None = None
argument_at ts (Some a) = Some (replace (nth_type ts) a)

-- a type name of the initial basis
abbrev pub is_of_basis : TyName → Bool
is_of_basis y = nat_lt y.stamp name_count

-- A table's constructors are of datatypes that the program declares, and so none of the basis, and none that admits equality always. Their arguments are over
-- the parameters, and admit equality where the datatype does. [Definition 4.9]
pub record IsConstructor (k : Constructor) : Type 0 where
  pub declared : is_of_basis k.datatype ≡ false
  pub equality : k.datatype.equality ≡ Always → ⊥
  pub closed : (a : Typ) → k.argument ≡ Some a → (r s : ℕ → Typ) → ((i : ℕ) → nat_lt i k.datatype.arity ≡ true → r i ≡ s i) → replace r a ≡ replace s a
  pub admits : (a : Typ) → k.argument ≡ Some a → k.datatype.equality ≡ ByArguments → admits (λ i. true) a ≡ true

-- Primitives

-- at a type that the parameter stands for
abbrev pub put : Typ → Typ → Typ
put t = replace (λ v. t)

abbrev pub arguments_at : BasisPrimitive → Typ → List Typ
arguments_at p t = map (put t) (prim_type p).arguments

abbrev pub result_at : BasisPrimitive → Typ → Typ
result_at p t = put t (prim_type p).result
