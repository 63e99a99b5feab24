-- What a phrase elaborates to: a program that resolves it, with the types of a typing that is generic: parameters stand for themselves. Each rule has what the
-- rules of the source ask [Definition 4.10], what the program's types need, and what identifiers denote; k is above all variables in scope.
use Rattle.std.specs.Prelude.{◌≡◌, ℕ, suc, ◌+◌, ◌≤◌, Bool, true, false, List, [], ◌∷◌, ◌++◌, map, length, nat_eq, Option, Some, None, option_map, ⊤}
use Rattle.std.specs.List.{list_all}
use Rattle.std.specs.Map.{lookup}
use Rattle.mlc_names.specs.declared.label.Label.{Label}
use Rattle.mlc_base.specs.declared.place.Place.{Place}
use Rattle.ty_core.specs.Types.{Typ, Typs, var, con, name}
use Rattle.ty_core.specs.Statics.{replace}
use Rattle.ty_core.specs.declared.name.TyName.{TyName}
use Rattle.ty_core.specs.declared.mark.Mark.{Mark}
use Rattle.ty_core.specs.declared.scheme.Quantified.{Quantified}
use Rattle.ty_core.specs.declared.env.Status.TheVariants.{Constructor}
use Rattle.core_elab.specs.of_ty_basis.Types.{Row, bool_type, exn_type, function_type, labels_in, row_type}
use Rattle.core_elab.specs.of_sml_tree.Terminal.{Constant, LongVid}
use Rattle.core_elab.specs.of_sml_tree.Derived.{short, and_of, or_of}
use Rattle.core_elab.specs.of_sml_tree.declared.ident.Tyvar.{Tyvar}
use Rattle.core_elab.specs.of_sml_tree.declared.ident.Vid.{Vid}
use Rattle.core_elab.specs.of_sml_tree.declared.ident.BuiltIn.{BuiltIn}
use Rattle.core_elab.specs.of_sml_tree.BareTree.{Ty, LongIdAt, TypeBind, DataBind, ExBind, new_exn, same_exn}
use Rattle.core_elab.specs.of_sml_tree.BareTree as bare
use Rattle.core_elab.specs.of_core_rules.Words.{same_label as same_source_label}
use Rattle.core_elab.specs.of_core_rules.Objects.{sorted, Map, Value, TypeStructure, Env, no_structures, value_in, Over}
use Rattle.core_elab.specs.of_core_rules.Restrictions.{distinct, is_kept}
use Rattle.core_elab.specs.of_core_rules.Match.{constant_of}
use Rattle.core_elab.specs.of_core_rules.Eval.{identifier}
use Rattle.core_elab.specs.of_core_rules.Initial.{built_scheme}
use Rattle.core_elab.specs.of_core_rules.Choices.{Choices, no_choice, both, further, settled}
use Rattle.core_elab.specs.of_core_rules.Elaborated.{type_of, types_bound, behind_of, datatypes, all_constructors, respects_equality, AllBelow, is_exception, replicated, opened}
use Rattle.core_elab.specs.of_core_rules.Typing.{Bound, bound_in, AreDistinct, constant_type, is_matched_in, is_non_expansive, all_general, scoped_in, marks_of, settles, together}
use Rattle.core_elab.specs.of_ir_values.Values.{same_label}
use Rattle.core_elab.specs.of_ir_poly.Prog.{held, is_value}
use Rattle.core_elab.specs.of_ir_poly.Prog as prog
use Rattle.core_elab.specs.of_ir_poly.Types.{ascend, over, are_new, Constructor as ConRow}
use Rattle.core_elab.specs.of_ir_poly.TestsChecked.{of_type, own, exception as exception_known, Knowns, declared, HasConstructor}
use Rattle.core_elab.specs.of_ir_poly.ProgChecked.{pat_onto, funs_onto, binds_onto}
use Rattle.core_elab.specs.Scopes.{Denotes, variable, exception, Scope, empty, scoped, typed_by, plus_scope, denotes_in, long_denotes_in, long_typed_in, opened_scope, is_free_in, built_number, types_scope}
use Rattle.core_elab.specs.Resolves.{HeadsTo, DatatypesTo, IsCalled, joined}
use Rattle.elab_typed.specs.Numbers.{row_as, KeepsInitial, AgreeBelow}
use Rattle.elab_typed.specs.Contexts.{Kept, given, general, single, raised, KeptValues, KeptEnv, kept_values, given_values, kept_env, plus_kept, kept_in, Around, context_under, generic, IsOver, singles, generals, with_bound, after}
use Rattle.elab_typed.specs.Instances.{as_typed, IsGivenAt, ConHas, UseElab, AloneElab, BeforeElab}

-- a type expression stands for t, whatever the parameters in scope stand for
abbrev pub Stands : Around → Ty → Typ → Type 0
Stands A ty t = (s : ℕ → Typ) → type_of (context_under s A) ty ≡ Some (replace s t)

abbrev pub StandsIf : Around → Option Ty → Typ → Type 0
StandsIf A o t = elim o [ None ↦ ⊤ | Some ty ↦ Stands A ty t ]

-- an identifier that a pattern binds
pub record Binds (A : Around) (x : Vid) (t : Typ) : Type 0 where
  pub unmatched : is_matched_in (value_in (generic A).env x) ≡ false
  pub unkept : is_kept x ≡ false
  pub free : is_free_in (denotes_in A.scope x) ≡ true
  pub over : Over A.names t

abbrev pub built_value : BuiltIn → Value
built_value b = record { scheme = built_scheme b; status = Constructor }

-- a parameter that takes every value
pub data ParameterElab (A : Around) (n : ℕ) : bare.Pat → Typ → Bound → Scope → Type 0 where
  any_elab : (p : Place) {t : Typ} → Over A.names t → ParameterElab A n (bare.wild_pat p) t [] empty
  named_elab : (p : Place) (x : Vid) {t : Typ} → Binds A x t
      → ParameterElab A n (bare.vid_pat p (short x)) t ((x, t) ∷ []) (scoped x (variable n) empty)
  annotated_elab : (p : Place) {a : bare.Pat} {ty : Ty} {t : Typ} {vs : Bound} {r : Scope} → ParameterElab A n a t vs r → Stands A ty t
      → ParameterElab A n (bare.typed_pat p a ty) t vs r

-- the pattern of a recursive function
pub data HeadElab (A : Around) : bare.Pat → Typ → Bound → Type 0 where
  head_wild : (p : Place) {t : Typ} → Over A.names t → HeadElab A (bare.wild_pat p) t []
  head_variable : (p : Place) (x : Vid) {t : Typ} → is_matched_in (value_in (generic A).env x) ≡ false → is_kept x ≡ false → Over A.names t
      → HeadElab A (bare.vid_pat p (short x)) t ((x, t) ∷ [])
  head_typed : (p : Place) {a : bare.Pat} {ty : Ty} {t : Typ} {vs : Bound} → HeadElab A a t vs → Stands A ty t → HeadElab A (bare.typed_pat p a ty) t vs
  head_as : (p : Place) (x : Vid) {ty : Option Ty} {a : bare.Pat} {t : Typ} {vs : Bound} → is_matched_in (value_in (generic A).env x) ≡ false
      → is_kept x ≡ false → StandsIf A ty t → HeadElab A a t vs → HeadElab A (bare.as_pat p x ty a) t ((x, t) ∷ vs)

-- inside a `val` declaration: with the type variables that are scoped there, and its parameters
abbrev pub scoped_as : List Tyvar → List Quantified → Map ℕ Typ
scoped_as (a ∷ as_) (q ∷ qs) = (a.name, var q.variable) ∷ scoped_as as_ qs
scoped_as as_ qs = []

abbrev pub inner : Around → List Tyvar → bare.Binds → bare.Binds → List Quantified → Around
inner A as_ bs rs qs = record A { tyvars = scoped_as (scoped_in (generic A) as_ bs rs) qs ++ A.tyvars; parameters = qs ++ A.parameters }

-- what a binding that isn't generalised may have in its pattern
abbrev pub without : Around → List Quantified → Around
without A qs = record A { parameters = qs }

-- the exceptions of a declaration
pub data ExnsElab (A : Around) : Knowns → ℕ → List ExBind → prog.Decs → KeptValues → Scope → ℕ → Knowns → Type 0 where
  no_exns_elab : {G : Knowns} {k : ℕ} → ExnsElab A G k [] prog.no_decs [] empty k G
  new_exn_elab : (p : Place) (x : Vid) (n : ℕ) (a : Option Typ) {t : Option Ty} {G G' : Knowns} {bs : List ExBind} {ds : prog.Decs} {vs : KeptValues}
      {r : Scope} {k j : ℕ} → k ≤ n → ((s : ℕ → Typ) → behind_of (context_under s A) t ≡ Some (option_map (replace s) a))
      → ((u : Typ) → a ≡ Some u → over A.parameters (as_typed A u) ≡ true)
      → ExnsElab A ((n, exception_known (option_map (as_typed A) a)) ∷ G) (suc n) bs ds vs r j G'
      → ExnsElab A G k (new_exn p x t ∷ bs) (prog.exception_dec n (identifier x) (option_map (as_typed A) a) ds) ((x, raised a) ∷ vs)
      (scoped x (exception (held n)) r) j G'
  same_exn_elab : (p : Place) (x : Vid) (q : Place) {y : LongVid} {v : Kept} {d : Denotes} {G G' : Knowns} {bs : List ExBind} {ds : prog.Decs}
      {vs : KeptValues} {r : Scope} {k j : ℕ} → kept_in A.env y ≡ Some v → is_exception (Rattle.elab_typed.specs.Contexts.value_under var v).status ≡ true
      → long_denotes_in A.scope y ≡ Some d → ExnsElab A G k bs ds vs r j G' → ExnsElab A G k (same_exn p x q y ∷ bs) ds ((x, v) ∷ vs) (scoped x d r) j G'

module _ (table : List ConRow) where
  mutual
    -- a pattern, with its type, what it binds, its choices, the scope that it makes and the next number
    pub data PatElab (A : Around) : ℕ → bare.Pat → prog.Pat → Typ → Bound → Choices → Scope → ℕ → Type 0 where
      wild_elab : (p : Place) {t : Typ} {k : ℕ} → Over A.names t → PatElab A k (bare.wild_pat p) prog.any_pat t [] no_choice empty k
      constant_elab : (p : Place) (c : Constant) {k : ℕ}
          → PatElab A k (bare.constant_pat p c) (prog.constant_pat (constant_of c)) (constant_type c) [] no_choice empty k
      variable_elab : (p : Place) (x : Vid) (n : ℕ) {t : Typ} {k : ℕ} → k ≤ n → Binds A x t
          → PatElab A k (bare.vid_pat p (short x)) (prog.variable_pat n) t ((x, t) ∷ []) no_choice (scoped x (variable n) empty) (suc n)
      alone_elab : (p : Place) {x : LongVid} {v : Kept} {d : Denotes} {a : prog.Pat} {n : TyName} {ts : Typs} {k : ℕ} → kept_in A.env x ≡ Some v
          → long_denotes_in A.scope x ≡ Some d → AloneElab table A v d a (con (name n) ts)
          → PatElab A k (bare.vid_pat p x) a (con (name n) ts) [] no_choice empty k
      built_elab : (p : Place) (b : BuiltIn) (ts : List Typ) {n : TyName} {us : Typs} {k : ℕ} → IsGivenAt A (built_value b) ts (con (name n) us) no_choice
          → HasConstructor table (built_number b) (as_typed A (con (name n) us)) None
          → PatElab A k (bare.built_pat p b) (prog.con_pat (built_number b)) (con (name n) us) [] no_choice empty k
      fields_elab : (p : Place) {fs : bare.PatFields} {gs : prog.PatFields} {r : Row} {vs : Bound} {c : Choices} {q : Scope} {k j : ℕ}
          → PatsElab A (sorted r) k fs gs r vs c q j → nat_eq (prog.pat_count gs) (length (row_as A.number (sorted r))) ≡ true
          → PatElab A k (bare.fields_pat p fs false) (prog.fields_pat false gs) (row_type (sorted r)) vs c q j
      -- `...` stands for the other fields
      open_elab : (p : Place) {fs : bare.PatFields} {gs : prog.PatFields} {r : Row} (others : Row) {vs : Bound} {c : Choices} {q : Scope} {k j : ℕ}
          → PatsElab A (sorted (r ++ others)) k fs gs r vs c q j → distinct same_source_label (labels_in (r ++ others)) ≡ true
          → Over A.names (row_type (sorted (r ++ others)))
          → PatElab A k (bare.fields_pat p fs true) (prog.fields_pat true gs) (row_type (sorted (r ++ others))) vs
          (both c (further (labels_in (sorted others)))) q j
      con_elab : (p q : Place) {x : LongVid} {v : Kept} {d : Denotes} {a : bare.Pat} {b b' : prog.Pat} {u : Typ} {n : TyName} {ts : Typs} {vs : Bound}
          {c : Choices} {r : Scope} {k j : ℕ} → kept_in A.env x ≡ Some v → long_denotes_in A.scope x ≡ Some d → BeforeElab table A v d b b' u (con (name n) ts)
          → PatElab A k a b u vs c r j → PatElab A k (bare.con_pat p q x a) b' (con (name n) ts) vs c r j
      built_con_elab : (p : Place) (b : BuiltIn) (ts : List Typ) {a : bare.Pat} {a' : prog.Pat} {u : Typ} {n : TyName} {us : Typs} {vs : Bound} {c : Choices}
          {r : Scope} {k j : ℕ} → IsGivenAt A (built_value b) ts (function_type u (con (name n) us)) no_choice
          → HasConstructor table (built_number b) (as_typed A (con (name n) us)) (Some (as_typed A u)) → over A.parameters (as_typed A u) ≡ true
          → PatElab A k a a' u vs c r j
          → PatElab A k (bare.built_con_pat p b a) (prog.con_of_pat (built_number b) (as_typed A u) a') (con (name n) us) vs c r j
      typed_elab : (p : Place) {a : bare.Pat} {ty : Ty} {a' : prog.Pat} {t : Typ} {vs : Bound} {c : Choices} {r : Scope} {k j : ℕ}
          → PatElab A k a a' t vs c r j → Stands A ty t → PatElab A k (bare.typed_pat p a ty) a' t vs c r j
      as_elab : (p : Place) (x : Vid) (n : ℕ) {ty : Option Ty} {a : bare.Pat} {a' : prog.Pat} {t : Typ} {vs : Bound} {c : Choices} {r : Scope} {k j : ℕ}
          → k ≤ n → Binds A x t → StandsIf A ty t → PatElab A (suc n) a a' t vs c r j
          → PatElab A k (bare.as_pat p x ty a) (prog.as_pat n a') t ((x, t) ∷ vs) c (plus_scope (scoped x (variable n) empty) r) j

    -- fields of a pattern, against a row
    pub data PatsElab (A : Around) : Row → ℕ → bare.PatFields → prog.PatFields → Row → Bound → Choices → Scope → ℕ → Type 0 where
      no_pats_elab : {whole : Row} {k : ℕ} → PatsElab A whole k bare.no_pat_fields prog.no_pats [] [] no_choice empty k
      a_pat_elab : {whole : Row} (l : Label) {a : bare.Pat} {fs : bare.PatFields} {a' : prog.Pat} {gs : prog.PatFields} {t : Typ} {r : Row}
          {vs us : Bound} {c d : Choices} {q o : Scope} {k j i : ℕ} → lookup (same_label l) whole ≡ Some t → over A.parameters (as_typed A t) ≡ true
          → PatElab A k a a' t vs c q j
          → PatsElab A whole j fs gs r us d o i
          → PatsElab A whole k (bare.pat_field l a fs) (prog.a_pat l (as_typed A t) a' gs) ((l, t) ∷ r) (vs ++ us) (both c d) (plus_scope q o) i

  mutual
    -- an expression, with its type and its choices
    pub data ExpElab : Around → ℕ → bare.Exp → prog.Exp → Typ → Choices → Type 0 where
      constant_exp_elab : {A : Around} {k : ℕ} (p : Place) (c : Constant)
          → ExpElab A k (bare.constant_exp p c) (prog.constant_exp (constant_of c) (as_typed A (constant_type c))) (constant_type c) no_choice
      vid_elab : {A : Around} {k : ℕ} (p : Place) {x : LongVid} {v : Kept} {d : Denotes} {e : prog.Exp} {t : Typ} {c : Choices} → kept_in A.env x ≡ Some v
          → long_denotes_in A.scope x ≡ Some d → UseElab table A v d e t c → ExpElab A k (bare.vid_exp p x) e t c
      built_exp_elab : {A : Around} {k : ℕ} (p : Place) (b : BuiltIn) (ts : List Typ) (y : TyName) (us : List Typ) {t : Typ} {c : Choices}
          → IsGivenAt A (built_value b) ts t c → ConHas table A (built_number b) y us (as_typed A t)
          → ExpElab A k (bare.built_exp p b) (prog.con_exp (built_number b) y us (as_typed A t)) t c
      record_elab : {A : Around} {k : ℕ} (p : Place) {fs : bare.ExpFields} {gs : prog.Fields} {r : Row} {c : Choices} → FieldsElab A k fs gs r c
          → ascend (labels_in (sorted r)) ≡ true
          → ExpElab A k (bare.fields_exp p fs) (prog.fields_exp (as_typed A (row_type (sorted r))) gs) (row_type (sorted r)) c
      let_elab : {A : Around} {k : ℕ} (p : Place) {ds : bare.Decs} {e : bare.Exp} {ds' : prog.Decs} {e' : prog.Exp} {made : ℕ} {number : ℕ → ℕ} {d : KeptEnv}
          {r : Scope} {G : Knowns} {t : Typ} {c b : Choices} {j : ℕ} → DecsElab A k ds ds' made number d r G c j
          → ExpElab (after A made number d r G) j e e' t b → Over A.names t
          → ExpElab A k (bare.let_in p ds e) (prog.let_exp (as_typed A t) ds' e') t (both c b)
      case_elab : {A : Around} {k : ℕ} (p q place : Place) {rs : bare.Rules} {a : bare.Exp} {rs' : prog.Rules} {a' : prog.Exp} {t u : Typ} {c d : Choices}
          → RulesElab A k rs rs' t u c → ExpElab A k a a' t d → over A.parameters (as_typed A t) ≡ true
          → ExpElab A k (bare.app p (bare.fn q rs) a) (prog.case_exp place (as_typed A u) a' rs') u (both c d)
      app_elab : {A : Around} {k : ℕ} (p : Place) {f a : bare.Exp} {f' a' : prog.Exp} {t u : Typ} {c d : Choices} → IsCalled f
          → ExpElab A k f f' (function_type t u) c → ExpElab A k a a' t d → ExpElab A k (bare.app p f a) (prog.app_exp p (as_typed A u) f' a') u (both c d)
      chain_elab : {A : Around} {k : ℕ} (b : Bool) {e : bare.Exp} {x : prog.Chain} {c : Choices} → ChainElab A k b e x c
          → ExpElab A k e (prog.chain_exp b (as_typed A bool_type) x) bool_type c
      typed_exp_elab : {A : Around} {k : ℕ} (p : Place) {e : bare.Exp} {ty : Ty} {e' : prog.Exp} {t : Typ} {c : Choices} → ExpElab A k e e' t c
          → Stands A ty t → ExpElab A k (bare.typed p e ty) e' t c
      handle_elab : {A : Around} {k : ℕ} (p : Place) {e : bare.Exp} {rs : bare.Rules} {e' : prog.Exp} {rs' : prog.Rules} {t : Typ} {c d : Choices}
          → ExpElab A k e e' t c → RulesElab A k rs rs' exn_type t d → ExpElab A k (bare.handle p e rs) (prog.handle_exp (as_typed A t) e' rs') t (both c d)
      raise_elab : {A : Around} {k : ℕ} (p : Place) {e : bare.Exp} {e' : prog.Exp} {t : Typ} {c : Choices} → ExpElab A k e e' exn_type c → Over A.names t
          → ExpElab A k (bare.raise p e) (prog.raise_exp (as_typed A t) e') t c
      fn_elab : {A : Around} {k : ℕ} (p : Place) {rs : bare.Rules} {f : prog.Fun} {t u : Typ} {c : Choices} → FunElab A k rs f t u c
          → ExpElab A k (bare.fn p rs) (prog.fn_exp (as_typed A (function_type t u)) f) (function_type t u) c
      counted_elab : {A : Around} {k : ℕ} (n : ℕ) {e : bare.Exp} {e' : prog.Exp} {t : Typ} {c : Choices} → ExpElab A k e e' t c
          → ExpElab A k e (prog.counted_exp n (as_typed A t) e') t c

    -- fields as they are written, with their row
    pub data FieldsElab : Around → ℕ → bare.ExpFields → prog.Fields → Row → Choices → Type 0 where
      no_fields_elab : {A : Around} {k : ℕ} → FieldsElab A k bare.no_exp_fields prog.no_fields [] no_choice
      a_field_elab : {A : Around} {k : ℕ} (l : Label) {e : bare.Exp} {fs : bare.ExpFields} {e' : prog.Exp} {gs : prog.Fields} {t : Typ} {r : Row}
          {c d : Choices} → ExpElab A k e e' t c → FieldsElab A k fs gs r d
          → FieldsElab A k (bare.exp_field l e fs) (prog.a_field l e' gs) ((l, t) ∷ r) (both c d)

    -- operands of andalso (true) and orelse (false), with the choices of the derived form
    pub data ChainElab : Around → ℕ → Bool → bare.Exp → prog.Chain → Choices → Type 0 where
      only_elab : {A : Around} {k : ℕ} (b : Bool) {e : bare.Exp} {e' : prog.Exp} {c : Choices} → ExpElab A k e e' bool_type c
          → ChainElab A k b e (prog.only e') c
      and_elab : {A : Around} {k : ℕ} (p : Place) {a e : bare.Exp} {a' : prog.Exp} {x : prog.Chain} {c d : Choices} → Over A.names bool_type
          → ExpElab A k a a' bool_type c → ChainElab A k true e x d
          → ChainElab A k true (and_of p a e) (prog.link a' x) (both (both no_choice (both d (both no_choice (both no_choice no_choice)))) c)
      or_elab : {A : Around} {k : ℕ} (p : Place) {a e : bare.Exp} {a' : prog.Exp} {x : prog.Chain} {c d : Choices} → Over A.names bool_type
          → ExpElab A k a a' bool_type c → ChainElab A k false e x d
          → ChainElab A k false (or_of p a e) (prog.link a' x) (both (both no_choice (both no_choice (both no_choice (both d no_choice)))) c)

    pub data RulesElab : Around → ℕ → bare.Rules → prog.Rules → Typ → Typ → Choices → Type 0 where
      no_rules_elab : {A : Around} {k : ℕ} {t u : Typ} → RulesElab A k bare.no_rules prog.no_rules t u no_choice
      a_rule_elab : {A : Around} {k : ℕ} (p : Place) {a : bare.Pat} {e : bare.Exp} {rs : bare.Rules} {a' : prog.Pat} {e' : prog.Exp} {rs' : prog.Rules}
          {t u : Typ} {vs : Bound} {c d b : Choices} {r : Scope} {j : ℕ} → PatElab A k a a' t vs c r j → AreDistinct (bound_in vs)
          → ExpElab (with_bound A vs r (pat_onto of_type a' (as_typed A t) A.known)) j e e' u d → RulesElab A k rs rs' t u b
          → RulesElab A k (bare.rule p a e rs) (prog.a_rule a' e' rs') t u (both c (both d b))

    pub data FunElab : Around → ℕ → bare.Rules → prog.Fun → Typ → Typ → Choices → Type 0 where
      by_rules_elab : {A : Around} {k : ℕ} (place : Place) {rs : bare.Rules} {rs' : prog.Rules} {t u : Typ} {c : Choices}
          → over A.parameters (as_typed A t) ≡ true → RulesElab A k rs rs' t u c → FunElab A k rs (prog.by_rules place (as_typed A t) (as_typed A u) rs') t u c
      last_elab : {A : Around} {k : ℕ} (p : Place) (n : ℕ) {a : bare.Pat} {e : bare.Exp} {e' : prog.Exp} {t u : Typ} {vs : Bound} {c : Choices} {r : Scope}
          → k ≤ n → over A.parameters (as_typed A t) ≡ true → ParameterElab A n a t vs r
          → ExpElab (with_bound A vs r ((n, of_type (as_typed A t)) ∷ A.known)) (suc n) e e' u c
          → FunElab A k (bare.rule p a e bare.no_rules) (prog.last n (as_typed A t) e') t u (both no_choice (both c no_choice))
      more_elab : {A : Around} {k : ℕ} (p q : Place) (n : ℕ) {a : bare.Pat} {rs : bare.Rules} {f : prog.Fun} {t u v : Typ} {vs : Bound} {c : Choices}
          {r : Scope} → k ≤ n → over A.parameters (as_typed A t) ≡ true → ParameterElab A n a t vs r
          → FunElab (with_bound A vs r ((n, of_type (as_typed A t)) ∷ A.known)) (suc n) rs f u v c
          → FunElab A k (bare.rule p a (bare.fn q rs) bare.no_rules) (prog.more n (as_typed A t) f) t (function_type u v) (both no_choice (both c no_choice))

    -- declarations, with so many names made and their numbers, what they bind, the scope, and what is known of the program's variables after them
    pub data DecsElab : Around → ℕ → bare.Decs → prog.Decs → ℕ → (ℕ → ℕ) → KeptEnv → Scope → Knowns → Choices → ℕ → Type 0 where
      no_decs_elab : {A : Around} {k : ℕ} → DecsElab A k bare.no_decs prog.no_decs 0 A.number (kept_values []) empty A.known no_choice k
      a_dec_elab : {A : Around} {k : ℕ} {d : bare.Dec} {ds : bare.Decs} {d' ds' : prog.Decs} {n n' : ℕ} {number number' : ℕ → ℕ} {e e' : KeptEnv} {r r' : Scope}
          {G G' : Knowns} {c c' : Choices} {j i : ℕ} → DecElab A k d d' n number e r G c j → DecsElab (after A n number e r G) j ds ds' n' number' e' r' G' c' i
          → DecsElab A k (bare.dec d ds) (joined d' ds') (n + n') number' (plus_kept e e') (plus_scope r r') G' (both c c') i
      counted_decs_elab : {A : Around} {k : ℕ} (m : ℕ) {ds : bare.Decs} {ds' : prog.Decs} {n : ℕ} {number : ℕ → ℕ} {e : KeptEnv} {r : Scope} {G : Knowns}
          {c : Choices} {j : ℕ} → DecsElab A k ds ds' n number e r G c j → DecsElab A k ds (prog.counted_dec m ds') n number e r G c j

    pub data DecElab : Around → ℕ → bare.Dec → prog.Decs → ℕ → (ℕ → ℕ) → KeptEnv → Scope → Knowns → Choices → ℕ → Type 0 where
      -- Parameters are new; nothing outside speaks of them. Those of scoped type variables come first, in their order.
      val_elab : {A : Around} {k : ℕ} (p q : Place) {as_ : List Tyvar} (qs : List Quantified) (extra : List Mark) {bs rs : bare.Binds} {bs' : prog.Binds}
          {fs : prog.Funs} {vs us : List Bound} {c d : Choices} {r f : Scope} {j i : ℕ} → are_new qs A.parameters ≡ true → IsOver A
          → map (λ q. q.mark) qs ≡ marks_of (generic A) as_ bs rs extra → all_general extra ≡ true
          → AreDistinct (bound_in (together vs ++ together us)) → HeadsTo k rs fs f j
          → FunsElab (with_bound (inner A as_ bs rs qs) (together us) f (funs_onto own fs A.known)) j rs fs us d
          → BindsElab A (inner A as_ bs rs qs) k j bs bs' vs c r i
          → DecElab A k (bare.val_dec p q as_ bs rs) (prog.val_dec qs bs' fs prog.no_decs) 0 A.number (kept_values (generals qs (together vs ++ together us)))
          (plus_scope r f) (binds_onto qs bs' (funs_onto (declared qs) fs A.known)) (both c d) i
      type_elab : {A : Around} {k : ℕ} (p : Place) {bs : List TypeBind} {ts : Map ℕ TypeStructure}
          → types_bound (generic A) bs ≡ Some ts
          → DecElab A k (bare.type_dec p bs) prog.no_decs 0 A.number (record { values = []; types = ts; structures = no_structures }) (types_scope bs) A.known
          no_choice k
      -- new names have any numbers
      datatype_elab : {A : Around} {k : ℕ} (p : Place) {bs : List DataBind} {ts : Map ℕ TypeStructure} (qs : List Bool) (number : ℕ → ℕ) {r : Scope}
          → length qs ≡ length bs → datatypes (generic A) qs bs ≡ Some ts → respects_equality qs ts ≡ true
          → ((qs' : List Bool) (ts' : Map ℕ TypeStructure) → length qs' ≡ length bs → datatypes (generic A) qs' bs ≡ Some ts'
          → respects_equality qs' ts' ≡ true → AllBelow qs' qs)
          → AgreeBelow A.names A.number number → KeepsInitial number → DatatypesTo bs r
          → DecElab A k (bare.datatype_dec p bs) prog.no_decs (length bs) number
          (record { values = given_values (all_constructors ts); types = ts; structures = no_structures }) r A.known no_choice k
      replicate_elab : {A : Around} {k : ℕ} (p : Place) (x : ℕ) {y : LongIdAt} {v : TypeStructure} {r : Scope} → replicated (generic A).env y ≡ Some v
          → long_typed_in A.scope y ≡ Some r
          → DecElab A k (bare.replicate_dec p x y) prog.no_decs 0 A.number
          (record { values = given_values v.constructors; types = (x, v) ∷ []; structures = no_structures }) (typed_by x r r) A.known no_choice k
      exception_elab : {A : Around} {k : ℕ} (p : Place) {bs : List ExBind} {ds : prog.Decs} {vs : KeptValues} {r : Scope} {G : Knowns} {j : ℕ}
          → ExnsElab A A.known k bs ds vs r j G → DecElab A k (bare.exception_dec p bs) ds 0 A.number (kept_values vs) r G no_choice j
      local_elab : {A : Around} {k : ℕ} (p : Place) {ds es : bare.Decs} {ds' es' : prog.Decs} {n n' : ℕ} {number number' : ℕ → ℕ} {e e' : KeptEnv}
          {r r' : Scope} {G G' : Knowns} {c c' : Choices} {j i : ℕ} → DecsElab A k ds ds' n number e r G c j
          → DecsElab (after A n number e r G) j es es' n' number' e' r' G' c' i
          → DecElab A k (bare.local_dec p ds es) (joined ds' es') (n + n') number' e' r' G' (both c c') i
      open_dec_elab : {A : Around} {k : ℕ} (p : Place) {xs : List LongIdAt} {e : Env} {r : Scope} → opened (generic A).env xs ≡ Some e
          → opened_scope A.scope xs ≡ Some r → DecElab A k (bare.open_dec p xs) prog.no_decs 0 A.number (kept_env e) r A.known no_choice k
      sequence_elab : {A : Around} {k : ℕ} (p : Place) {ds : bare.Decs} {ds' : prog.Decs} {n : ℕ} {number : ℕ → ℕ} {e : KeptEnv} {r : Scope} {G : Knowns}
          {c : Choices} {j : ℕ} → DecsElab A k ds ds' n number e r G c j → DecElab A k (bare.sequence_dec p ds) ds' n number e r G c j
      counted_dec_elab : {A : Around} {k : ℕ} (m : ℕ) {d : bare.Dec} {ds : prog.Decs} {n : ℕ} {number : ℕ → ℕ} {e : KeptEnv} {r : Scope} {G : Knowns}
          {c : Choices} {j : ℕ} → DecElab A k d ds n number e r G c j → DecElab A k d (prog.counted_dec m ds) n number e r G c j

    -- bindings outside and inside their declaration; a generalised one is of a value, and another one binds nothing with its parameters
    pub data BindsElab : Around → Around → ℕ → ℕ → bare.Binds → prog.Binds → List Bound → Choices → Scope → ℕ → Type 0 where
      no_binds_elab : {A B : Around} {h k : ℕ} → BindsElab A B h k bare.no_binds prog.no_binds [] no_choice empty k
      general_elab : {A B : Around} {h k : ℕ} (p place : Place) {a : bare.Pat} {e : bare.Exp} {bs : bare.Binds} {a' : prog.Pat} {e' : prog.Exp}
          {bs' : prog.Binds} {t : Typ} {v : Bound} {vs : List Bound} {c d b : Choices} {r r' : Scope} {j i : ℕ} → PatElab B k a a' t v c r j
          → ExpElab B h e e' t d → is_non_expansive (generic A).env e ≡ true → is_value e' ≡ true → over B.parameters (as_typed B t) ≡ true
          → BindsElab A B h j bs bs' vs b r' i
          → BindsElab A B h k (bare.bind p a e bs) (prog.a_bind place true a' (as_typed B t) e' bs') (v ∷ vs) (both (settled (both c d)) b) (plus_scope r r') i
      plain_elab : {A B : Around} {h k : ℕ} (p place : Place) {a : bare.Pat} {e : bare.Exp} {bs : bare.Binds} {a' : prog.Pat} {e' : prog.Exp}
          {bs' : prog.Binds} {t : Typ} {v : Bound} {vs : List Bound} {c d b : Choices} {r r' : Scope} {j i : ℕ}
          → PatElab (without B A.parameters) k a a' t v c r j → ExpElab B h e e' t d → list_all (λ b. over A.parameters b.1) v ≡ true
          → over A.parameters (as_typed B t) ≡ true → BindsElab A B h j bs bs' vs b r' i
          → BindsElab A B h k (bare.bind p a e bs) (prog.a_bind place false a' (as_typed B t) e' bs') (v ∷ vs)
          (both (settles (is_non_expansive (generic A).env e) (both c d)) b) (plus_scope r r') i

    -- the functions of a group, inside it
    pub data FunsElab : Around → ℕ → bare.Binds → prog.Funs → List Bound → Choices → Type 0 where
      no_funs_elab : {A : Around} {k : ℕ} → FunsElab A k bare.no_binds prog.no_funs [] no_choice
      a_fun_elab : {A : Around} {k : ℕ} (p q : Place) (ns : List ℕ) {a : bare.Pat} {rs : bare.Rules} {bs : bare.Binds} {f : prog.Fun} {fs : prog.Funs}
          {t u : Typ} {v : Bound} {us : List Bound} {c d : Choices} → HeadElab A a (function_type t u) v
          → over A.parameters (as_typed A (function_type t u)) ≡ true → FunElab A k rs f t u c → FunsElab A k bs fs us d
          → FunsElab A k (bare.bind p a (bare.fn q rs) bs) (prog.a_fun ns (as_typed A (function_type t u)) f fs) (v ∷ us)
          (both (settled (both no_choice c)) d)
