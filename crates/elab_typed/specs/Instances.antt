-- Identifiers used and matched, at types for the parameters of what is kept, and what the program has for them.
use Rattle.std.specs.Prelude.{◌≡◌, ℕ, Bool, true, List, [], ◌∷◌, ◌++◌, map, length, Option, Some, None, option_map}
use Rattle.mlc_prims.specs.declared.basis.BasisPrimitive.{BasisPrimitive}
use Rattle.ty_core.specs.Types.{Typ, Typs, var, con, name, typs_of}
use Rattle.ty_core.specs.Marks.{Allows}
use Rattle.ty_core.specs.Statics.{replace}
use Rattle.ty_core.specs.declared.name.TyName.{TyName}
use Rattle.ty_core.specs.declared.scheme.Quantified.{Quantified}
use Rattle.core_elab.specs.of_ty_basis.Types.{exn_type, function_type, ref_type}
use Rattle.core_elab.specs.of_core_rules.Objects.{AllAllowed, put, Value, Over}
use Rattle.core_elab.specs.of_core_rules.Choices.{Choices, no_choice}
use Rattle.core_elab.specs.of_core_rules.Elaborated.{exception_type}
use Rattle.core_elab.specs.of_core_rules.Typing.{Chosen, all_general, is_matched}
use Rattle.core_elab.specs.of_ir_poly.Prog.{Exc}
use Rattle.core_elab.specs.of_ir_poly.Prog as prog
use Rattle.core_elab.specs.of_ir_poly.Types as program
use Rattle.core_elab.specs.of_ir_poly.Types.{admits_in, over, all_over, changed, AreAllowed, nth_type, Constructor, find, argument_at, prim_type, arguments_at, result_at, tuple_type}
use Rattle.core_elab.specs.of_ir_poly.TestsChecked.{of_type, own, at, alone_type, HasConstructor}
use Rattle.core_elab.specs.of_ir_poly.TestsChecked as checked
use Rattle.core_elab.specs.of_ir_poly.ProgChecked.{ExcChecked}
use Rattle.core_elab.specs.Scopes.{Denotes, variable, constructor, reference, exception, primitive}
use Rattle.elab_typed.specs.Numbers.{type_as}
use Rattle.elab_typed.specs.Contexts.{Kept, given, general, single, raised, Around}

-- a type of the source in the program
abbrev pub as_typed : Around → Typ → Typ
as_typed A = type_as A.number

-- t is what v has at these types for its parameters, whatever the parameters in scope stand for [4.5]
pub record IsGivenAt (A : Around) (v : Value) (ts : List Typ) (t : Typ) (k : Choices) : Type 0 where
  pub allowed : AllAllowed (admits_in A.parameters) (nth_type ts) 0 v.scheme.marks
  pub over : Over A.names t
  pub is : (s : ℕ → Typ) → replace s t ≡ put (length v.scheme.marks) (λ i. replace s (nth_type ts i)) v.scheme.body
  pub chosen : Chosen v.scheme.marks (nth_type ts) k

-- t is what b over these parameters is at these types
pub record IsInstanceAt (A : Around) (qs : List Quantified) (b : Typ) (ts : List Typ) (t : Typ) : Type 0 where
  pub marks : all_general (map (λ q. q.mark) qs) ≡ true
  pub allowed : AreAllowed (admits_in A.parameters) qs ts
  pub over : Over A.names t
  pub body : program.over (qs ++ A.parameters) b ≡ true
  pub is : t ≡ replace (changed qs ts var) b

module _ (table : List Constructor) where
  -- a constructor of the program's datatype, at the program's types
  pub record ConHas (A : Around) (c : ℕ) (y : TyName) (us : List Typ) (t : Typ) : Type 0 where
    pub row : Constructor
    pub found : find table y c ≡ Some row
    pub same : row.datatype ≡ y
    pub over : all_over A.parameters (typs_of us) ≡ true
    pub is : t ≡ alone_type (argument_at us row.argument) (con (name y) (typs_of us))

  -- a primitive at the type that its parameter stands for
  pub record PrimHas (A : Around) (q : BasisPrimitive) (u t : Typ) : Type 0 where
    pub over : program.over A.parameters u ≡ true
    pub allows : Allows (prim_type q).mark (admits_in A.parameters) u
    pub is : t ≡ function_type (tuple_type (arguments_at q u)) (result_at q u)

  -- an identifier used: what is kept of it, what it denotes, and the program's expression, with its type and choice
  pub data UseElab (A : Around) : Kept → Denotes → prog.Exp → Typ → Choices → Type 0 where
    use_general : (n : ℕ) {qs : List Quantified} {b : Typ} (ts : List Typ) {t : Typ}
        → at A.known n ≡ Some (checked.general qs var (as_typed A b)) → all_over A.parameters (typs_of ts) ≡ true → IsInstanceAt A qs b ts t
        → UseElab A (general qs b) (variable n) (prog.variable_exp n (map (as_typed A) ts) (as_typed A t)) t no_choice
    -- of a binding that isn't generalised; its type has none of the parameters
    use_plain : (n : ℕ) {qs : List Quantified} {b : Typ} (ts : List Typ) {t : Typ} → at A.known n ≡ Some (of_type (as_typed A t)) → IsInstanceAt A qs b ts t
        → UseElab A (general qs b) (variable n) (prog.variable_exp n [] (as_typed A t)) t no_choice
    use_single : (n : ℕ) {t : Typ} → at A.known n ≡ Some (of_type (as_typed A t)) → Over A.names t
        → UseElab A (single t) (variable n) (prog.variable_exp n [] (as_typed A t)) t no_choice
    -- a function inside its group
    use_own : (n : ℕ) {t : Typ} → at A.known n ≡ Some (own (as_typed A t)) → Over A.names t
        → UseElab A (single t) (variable n) (prog.own_exp n (as_typed A t)) t no_choice
    use_constructor : (c : ℕ) {v : Value} (ts : List Typ) (y : TyName) (us : List Typ) {t : Typ} {k : Choices} → IsGivenAt A v ts t k
        → ConHas A c y us (as_typed A t) → UseElab A (given v) (constructor c) (prog.con_exp c y us (as_typed A t)) t k
    use_reference : {v : Value} (ts : List Typ) (a : Typ) {k : Choices} → IsGivenAt A v ts (function_type a (ref_type a)) k
        → program.over A.parameters (as_typed A a) ≡ true
        → UseElab A (given v) reference (prog.ref_exp (as_typed A a) (as_typed A (function_type a (ref_type a)))) (function_type a (ref_type a)) k
    use_exception : (x : Exc) {a : Option Typ} → ExcChecked A.known x (option_map (as_typed A) a) → Over A.names (exception_type a)
        → UseElab A (raised a) (exception x) (prog.exn_exp x (as_typed A (exception_type a))) (exception_type a) no_choice
    use_given_exception : (x : Exc) {v : Value} (ts : List Typ) {k : Choices} → IsGivenAt A v ts exn_type k → ExcChecked A.known x None
        → UseElab A (given v) (exception x) (prog.exn_exp x (as_typed A exn_type)) exn_type k
    use_primitive : (q : BasisPrimitive) {v : Value} (ts : List Typ) (u : Typ) {t : Typ} {k : Choices} → IsGivenAt A v ts t k
        → PrimHas A q u (as_typed A t) → UseElab A (given v) (primitive q) (prog.prim_exp q (u ∷ []) (as_typed A t)) t k

  -- an identifier matched alone
  pub data AloneElab (A : Around) : Kept → Denotes → prog.Pat → Typ → Type 0 where
    alone_constructor : (c : ℕ) {v : Value} (ts : List Typ) (n : TyName) (us : Typs) → is_matched v.status ≡ true
        → IsGivenAt A v ts (con (name n) us) no_choice → HasConstructor table c (as_typed A (con (name n) us)) None
        → AloneElab A (given v) (constructor c) (prog.con_pat c) (con (name n) us)
    alone_exception : (x : Exc) → ExcChecked A.known x None → Over A.names exn_type → AloneElab A (raised None) (exception x) (prog.exn_pat x) exn_type
    alone_given_exception : (x : Exc) {v : Value} (ts : List Typ) → is_matched v.status ≡ true → IsGivenAt A v ts exn_type no_choice
        → ExcChecked A.known x None → AloneElab A (given v) (exception x) (prog.exn_pat x) exn_type

  -- and before an argument, whose type stands first
  pub data BeforeElab (A : Around) : Kept → Denotes → prog.Pat → prog.Pat → Typ → Typ → Type 0 where
    before_constructor : (c : ℕ) {v : Value} (ts : List Typ) (n : TyName) (us : Typs) {u : Typ} {a : prog.Pat} → is_matched v.status ≡ true
        → IsGivenAt A v ts (function_type u (con (name n) us)) no_choice → HasConstructor table c (as_typed A (con (name n) us)) (Some (as_typed A u))
        → program.over A.parameters (as_typed A u) ≡ true
        → BeforeElab A (given v) (constructor c) a (prog.con_of_pat c (as_typed A u) a) u (con (name n) us)
    before_reference : {v : Value} (ts : List Typ) {u : Typ} {a : prog.Pat} → is_matched v.status ≡ true
        → IsGivenAt A v ts (function_type u (ref_type u)) no_choice → program.over A.parameters (as_typed A u) ≡ true
        → BeforeElab A (given v) reference a (prog.ref_of_pat (as_typed A u) a) u (ref_type u)
    before_exception : (x : Exc) {u : Typ} {a : prog.Pat} → ExcChecked A.known x (Some (as_typed A u)) → Over A.names (exception_type (Some u))
        → program.over A.parameters (as_typed A u) ≡ true
        → BeforeElab A (raised (Some u)) (exception x) a (prog.exn_of_pat x (as_typed A u) a) u exn_type
