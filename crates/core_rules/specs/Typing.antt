-- Core typing: relations that guess types, over type names of the context alone. [Definition 4.10] Each typing tells its choices.
-- A `val` declaration is typed at once for all types of its parameters: this is the closure of its types [4.7, 4.8], with no type variables to keep apart.
use Rattle.std.specs.Prelude.{◌≡◌, ℕ, ◌+◌, ◌<◌, Bool, true, false, not, ◌&&◌, nat_eq, nat_lt, if◌then◌else◌, List, [], ◌∷◌, ◌++◌, map, flat_map, length, Option, Some, None, ⊤}
use Rattle.std.specs.List.{list_all}
use Rattle.mlc_names.specs.declared.label.Label.{Label}
use Rattle.mlc_base.specs.declared.place.Place.{Place}
use Rattle.ty_basis.specs.of_ty_core.Types.{Typ, var, con, Typs, none, more, arrow, name}
use Rattle.ty_basis.specs.of_ty_core.Marks.{overloaded}
use Rattle.ty_basis.specs.of_ty_core.declared.name.TyName.{TyName}
use Rattle.ty_basis.specs.of_ty_core.declared.mark.Mark.{Mark}
use Rattle.ty_basis.specs.of_ty_core.declared.mark.Mark.TheVariants.{Any, Equality, Class}
use Rattle.ty_basis.specs.of_ty_core.declared.env.Status.{Status}
use Rattle.ty_basis.specs.of_ty_core.declared.env.Status.TheVariants.{Variable}
use Rattle.sml_tree.specs.Terminal as term
use Rattle.sml_tree.specs.Terminal.{LongVid}
use Rattle.sml_tree.specs.Derived.{short}
use Rattle.sml_tree.specs.declared.ident.Tyvar.{Tyvar}
use Rattle.sml_tree.specs.declared.ident.Vid.{Vid}
use Rattle.sml_tree.specs.declared.ident.BuiltIn.{BuiltIn}
use Rattle.sml_tree.specs.BareTree.{Ty, LongIdAt, TypeBind, DataBind, ExBind, Pat, wild_pat, constant_pat, vid_pat, built_pat, fields_pat, con_pat, built_con_pat, typed_pat, as_pat, PatFields, no_pat_fields, pat_field, Exp, constant_exp, vid_exp, built_exp, fields_exp, let_in, app, typed, handle, raise, fn, ExpFields, no_exp_fields, exp_field, Rules, no_rules, rule, Decs, no_decs, dec, Dec, val_dec, type_dec, datatype_dec, replicate_dec, exception_dec, local_dec, open_dec, sequence_dec, Binds, no_binds, bind}
use Rattle.ty_basis.specs.Types.{Row, char_type, exn_type, function_type, int_type, labels_in, ref_name, row_type, string_type, word_type}
use Rattle.core_rules.specs.Objects.{sorted, Scheme, monomorphic, put, AllAllowed, Map, Value, Values, TypeStructure, Env, env, no_structures, no_env, values_env, types_env, plus, value_in, long_value_in, Context, with_env, Over}
use Rattle.core_rules.specs.Initial.{built_scheme}
use Rattle.core_rules.specs.Match.{is_variable}
use Rattle.core_rules.specs.Eval.{all_fns}
use Rattle.core_rules.specs.Scoping.{scoped_at}
use Rattle.core_rules.specs.Choices.{Choices, no_choice, both, base, further, settled}
use Rattle.core_rules.specs.Elaborated.{scope, type_of, types_bound, datatypes, datatypes_env, respects_equality, AllBelow, exceptions_of, replicated, opened}
use Rattle.core_rules.specs.Words.{same_vid, same_label}
use Rattle.core_rules.specs.Restrictions.{distinct, is_kept}

abbrev pub constant_type : term.Constant → Typ
constant_type k = elim k [ term.int z ↦ int_type | term.word n ↦ word_type | term.char n ↦ char_type | term.string s ↦ string_type ]

-- Statuses [4.1]

abbrev pub is_matched : Status → Bool
is_matched s = not (is_variable s)

-- an identifier that a pattern matches, as a constructor or exception
abbrev pub is_matched_in : Option Value → Bool
is_matched_in o = elim o [ None ↦ false | Some v ↦ is_matched v.status ]

-- Non-expansive expressions [4.7]. `ref` is the constructor of references, under whatever name.

abbrev pub gives_reference : Typ → Bool
gives_reference (con arrow (more t (more (con (name n) ts) us))) = nat_eq n.stamp ref_name.stamp
gives_reference t = false

abbrev pub is_conexp_in : Option Value → Bool
is_conexp_in o = elim o [ None ↦ false | Some v ↦ is_matched v.status && not (gives_reference v.scheme.body) ]

abbrev pub is_conexp : Env → Exp → Bool
is_conexp e (vid_exp p x) = is_conexp_in (long_value_in e x)
is_conexp e (built_exp p b) = true
is_conexp e (typed p f t) = is_conexp e f
is_conexp e f = false

abbrev mutual
  pub is_non_expansive : Env → Exp → Bool
  is_non_expansive e (constant_exp p c) = true
  is_non_expansive e (vid_exp p x) = true
  is_non_expansive e (built_exp p b) = true
  is_non_expansive e (fields_exp p fs) = all_non_expansive e fs
  is_non_expansive e (app p f a) = is_conexp e f && is_non_expansive e a
  is_non_expansive e (typed p b t) = is_non_expansive e b
  is_non_expansive e (fn p rs) = true
  is_non_expansive e b = false

  pub all_non_expansive : Env → ExpFields → Bool
  all_non_expansive e no_exp_fields = true
  all_non_expansive e (exp_field l b fs) = is_non_expansive e b && all_non_expansive e fs

-- What patterns bind

abbrev pub Bound : Type 0
Bound = List (Vid × Typ)

abbrev pub bound_in : Bound → List Vid
bound_in = map (λ b. b.0)

abbrev pub AreDistinct : List Vid → Type 0
AreDistinct xs = distinct same_vid xs ≡ true

-- C + VE, of variables with one type
abbrev pub with_bound : Context → Bound → Context
with_bound c vs = record c { env = plus c.env (values_env (map (λ b. (b.0, record { scheme = monomorphic b.1; status = Variable })) vs)) }

-- Parameters of a declaration: no class is among them, since overloaded types are never generalised.

abbrev pub is_general : Mark → Bool
is_general a = elim a [ Class c ↦ false | Any ↦ true | Equality ↦ true ]

abbrev pub all_general : List Mark → Bool
all_general = list_all is_general

abbrev pub mark_of : Tyvar → Mark
mark_of a = if a.equality then Equality else Any

abbrev pub scoped_in : Context → List Tyvar → Binds → Binds → List Tyvar
scoped_in c as_ bs rs = scoped_at (map (λ a. a.0) c.tyvars) as_ bs rs

-- the variables that are scoped there stand for r's first types
abbrev pub scoping : Context → List Tyvar → Binds → Binds → (ℕ → Typ) → Context
scoping c as_ bs rs r = record c { tyvars = scope 0 r (scoped_in c as_ bs rs) ++ c.tyvars }

-- what is asked of all parameters of a declaration: of the variables scoped there, and of others
abbrev pub marks_of : Context → List Tyvar → Binds → Binds → List Mark → List Mark
marks_of c as_ bs rs extra = map mark_of (scoped_in c as_ bs rs) ++ extra

-- r for n parameters in the types bound
abbrev pub put_bound : ℕ → (ℕ → Typ) → Bound → Bound
put_bound n r = map (λ b. (b.0, put n r b.1))

abbrev pub together : List Bound → Bound
together = flat_map (λ b. b)

-- no parameter stands in a type
abbrev mutual
  pub has_none : ℕ → Typ → Bool
  has_none n (var v) = not (nat_lt v n)
  has_none n (con h ts) = have_none n ts

  pub have_none : ℕ → Typs → Bool
  have_none n none = true
  have_none n (more t ts) = has_none n t && have_none n ts

abbrev pub bound_have_none : ℕ → Bound → Bool
bound_have_none n = list_all (λ b. has_none n b.1)

-- Clos VE [4.8]
abbrev pub closed : List Mark → Bound → Env
closed marks vs = values_env (map (λ b. (b.0, record { scheme = record { marks = marks; body = b.1 }; status = Variable })) vs)

-- a binding's choices, where it counts as settled
abbrev pub settles : Bool → Choices → Choices
settles b k = if b then settled k else k

-- the choice of an occurrence: only schemes of the initial basis are overloaded, in their one parameter
abbrev pub Chosen : List Mark → (ℕ → Typ) → Choices → Type 0
Chosen [] f k = k ≡ no_choice
Chosen (Any ∷ as_) f k = k ≡ no_choice
Chosen (Equality ∷ as_) f k = k ≡ no_choice
Chosen (Class c ∷ as_) f k = (n : ℕ) × (f 0 ≡ con (name (overloaded n)) none) × (k ≡ base n)

-- m says which type variables admit equality
module _ (m : ℕ → Bool) where
  -- t is an instance of s [4.5]
  pub record IsInstance (c : Context) (s : Scheme) (t : Typ) (k : Choices) : Type 0 where
    pub types : ℕ → Typ
    pub allowed : AllAllowed m types 0 s.marks
    pub over : Over c.names t
    pub is : t ≡ put (length s.marks) types s.body
    pub chosen : Chosen s.marks types k

  -- types that parameters may stand for
  pub record IsChoiceOf (c : Context) (marks : List Mark) (r : ℕ → Typ) : Type 0 where
    pub allowed : AllAllowed m r 0 marks
    pub over : (v : ℕ) → v < length marks → Over c.names (r v)

  -- the type of an optional annotation
  abbrev pub Annotated : Context → Option Ty → Typ → Type 0
  Annotated c o t = elim o [ None ↦ ⊤ | Some a ↦ type_of c a ≡ Some t ]

  mutual
    -- C ⊢ pat ⇒ (VE, t) [rules 32 to 43]
    pub data PatHas (c : Context) : Pat → Typ → Bound → Choices → Type 0 where
      wild_has : (p : Place) {t : Typ} → Over c.names t → PatHas c (wild_pat p) t [] no_choice
      constant_has : (p : Place) (k : term.Constant) → PatHas c (constant_pat p k) (constant_type k) [] no_choice
      variable_has : (p : Place) {x : Vid} {t : Typ} → is_matched_in (value_in c.env x) ≡ false → is_kept x ≡ false → Over c.names t →
          PatHas c (vid_pat p (short x)) t ((x, t) ∷ []) no_choice
      constructor_has : (p : Place) {x : LongVid} {v : Value} {n : TyName} {ts : Typs} → long_value_in c.env x ≡ Some v → is_matched v.status ≡ true →
          IsInstance c v.scheme (con (name n) ts) no_choice → PatHas c (vid_pat p x) (con (name n) ts) [] no_choice
      built_has : (p : Place) {b : BuiltIn} {n : TyName} {ts : Typs} → IsInstance c (built_scheme b) (con (name n) ts) no_choice →
          PatHas c (built_pat p b) (con (name n) ts) [] no_choice
      fields_has : (p : Place) {fs : PatFields} {r : Row} {t : Typ} {vs : Bound} {k : Choices} → PatsHave c fs r vs k → t ≡ row_type (sorted r) →
          PatHas c (fields_pat p fs false) t vs k
      -- `...` stands for any further fields
      open_has : (p : Place) {fs : PatFields} {r : Row} {t : Typ} {vs : Bound} {k : Choices} (others : Row) → PatsHave c fs r vs k →
          distinct same_label (labels_in (r ++ others)) ≡ true →
          t ≡ row_type (sorted (r ++ others)) → Over c.names t → PatHas c (fields_pat p fs true) t vs (both k (further (labels_in (sorted others))))
      con_has : (p q : Place) {x : LongVid} {v : Value} {a : Pat} {u : Typ} {n : TyName} {ts : Typs} {vs : Bound} {k : Choices} →
          long_value_in c.env x ≡ Some v → is_matched v.status ≡ true → IsInstance c v.scheme (function_type u (con (name n) ts)) no_choice →
          PatHas c a u vs k → PatHas c (con_pat p q x a) (con (name n) ts) vs k
      built_con_has : (p : Place) {b : BuiltIn} {a : Pat} {u : Typ} {n : TyName} {ts : Typs} {vs : Bound} {k : Choices} →
          IsInstance c (built_scheme b) (function_type u (con (name n) ts)) no_choice → PatHas c a u vs k →
          PatHas c (built_con_pat p b a) (con (name n) ts) vs k
      typed_has : (p : Place) {a : Pat} {ty : Ty} {t : Typ} {vs : Bound} {k : Choices} → PatHas c a t vs k → type_of c ty ≡ Some t →
          PatHas c (typed_pat p a ty) t vs k
      as_has : (p : Place) {x : Vid} {ty : Option Ty} {a : Pat} {t : Typ} {vs : Bound} {k : Choices} → is_matched_in (value_in c.env x) ≡ false →
          is_kept x ≡ false → Annotated c ty t → PatHas c a t vs k → PatHas c (as_pat p x ty a) t ((x, t) ∷ vs) k

    pub data PatsHave (c : Context) : PatFields → Row → Bound → Choices → Type 0 where
      no_field_has : PatsHave c no_pat_fields [] [] no_choice
      field_has : (l : Label) {a : Pat} {fs : PatFields} {t : Typ} {r : Row} {vs us : Bound} {k j : Choices} → PatHas c a t vs k → PatsHave c fs r us j →
          PatsHave c (pat_field l a fs) ((l, t) ∷ r) (vs ++ us) (both k j)

  mutual
    -- C ⊢ exp ⇒ t [rules 1 to 12]
    pub data HasType : Context → Exp → Typ → Choices → Type 0 where
      constant_exp_has : {c : Context} (p : Place) (k : term.Constant) → HasType c (constant_exp p k) (constant_type k) no_choice
      vid_has : {c : Context} (p : Place) {x : LongVid} {v : Value} {t : Typ} {k : Choices} → long_value_in c.env x ≡ Some v → IsInstance c v.scheme t k →
          HasType c (vid_exp p x) t k
      built_exp_has : {c : Context} (p : Place) {b : BuiltIn} {t : Typ} {k : Choices} → IsInstance c (built_scheme b) t k → HasType c (built_exp p b) t k
      record_has : {c : Context} (p : Place) {fs : ExpFields} {r : Row} {t : Typ} {k : Choices} → HaveTypes c fs r k → t ≡ row_type (sorted r) →
          HasType c (fields_exp p fs) t k
      -- no type name of the declarations escapes
      let_has : {c : Context} (p : Place) {ds : Decs} {e : Exp} {made : ℕ} {d : Env} {t : Typ} {k j : Choices} → DecsHave c ds made d k →
          HasType (with_env c made d) e t j → Over c.names t → HasType c (let_in p ds e) t (both k j)
      app_has : {c : Context} (p : Place) {f a : Exp} {t u : Typ} {k j : Choices} → HasType c f (function_type t u) k → HasType c a t j →
          HasType c (app p f a) u (both k j)
      typed_exp_has : {c : Context} (p : Place) {e : Exp} {ty : Ty} {t : Typ} {k : Choices} → HasType c e t k → type_of c ty ≡ Some t →
          HasType c (typed p e ty) t k
      handle_has : {c : Context} (p : Place) {e : Exp} {rs : Rules} {t : Typ} {k j : Choices} → HasType c e t k → RulesHave c rs exn_type t j →
          HasType c (handle p e rs) t (both k j)
      raise_has : {c : Context} (p : Place) {e : Exp} {t : Typ} {k : Choices} → HasType c e exn_type k → Over c.names t → HasType c (raise p e) t k
      fn_has : {c : Context} (p : Place) {rs : Rules} {t u : Typ} {k : Choices} → RulesHave c rs t u k → HasType c (fn p rs) (function_type t u) k

    pub data HaveTypes : Context → ExpFields → Row → Choices → Type 0 where
      no_exp_field_has : {c : Context} → HaveTypes c no_exp_fields [] no_choice
      exp_field_has : {c : Context} (l : Label) {e : Exp} {fs : ExpFields} {t : Typ} {r : Row} {k j : Choices} → HasType c e t k → HaveTypes c fs r j →
          HaveTypes c (exp_field l e fs) ((l, t) ∷ r) (both k j)

    -- C ⊢ match ⇒ t → u [rules 13, 14]
    pub data RulesHave : Context → Rules → Typ → Typ → Choices → Type 0 where
      no_rule_has : {c : Context} {t u : Typ} → RulesHave c no_rules t u no_choice
      rule_has : {c : Context} (p : Place) {a : Pat} {e : Exp} {rs : Rules} {t u : Typ} {vs : Bound} {k j l : Choices} → PatHas c a t vs k →
          AreDistinct (bound_in vs) → HasType (with_bound c vs) e u j → RulesHave c rs t u l → RulesHave c (rule p a e rs) t u (both k (both j l))

    -- C ⊢ dec ⇒ E, with the number of type names that it makes [rules 15 to 24]
    pub data DecHas : Context → Dec → ℕ → Env → Choices → Type 0 where
      val_has : {c : Context} (p q : Place) {as_ : List Tyvar} {bs rs : Binds} (extra : List Mark) {vs us : List Bound} {k j : Choices} →
          all_general extra ≡ true → all_fns rs ≡ true → AreDistinct (bound_in (together vs ++ together us)) →
          ((r : ℕ → Typ) → IsChoiceOf c (marks_of c as_ bs rs extra) r → BindsHave (scoping c as_ bs rs r) (length (marks_of c as_ bs rs extra)) r bs vs k) →
          ((r : ℕ → Typ) → IsChoiceOf c (marks_of c as_ bs rs extra) r →
          BindsHave (with_bound (scoping c as_ bs rs r) (put_bound (length (marks_of c as_ bs rs extra)) r (together us)))
          (length (marks_of c as_ bs rs extra)) r rs us j) →
          DecHas c (val_dec p q as_ bs rs) 0 (closed (marks_of c as_ bs rs extra) (together vs ++ together us)) (both k j)
      type_has : {c : Context} (p : Place) {bs : List TypeBind} {ts : Map ℕ TypeStructure} → types_bound c bs ≡ Some ts →
          DecHas c (type_dec p bs) 0 (types_env ts) no_choice
      -- as many of the new names admit equality as can
      datatype_has : {c : Context} (p : Place) {bs : List DataBind} {ts : Map ℕ TypeStructure} (qs : List Bool) → length qs ≡ length bs →
          datatypes c qs bs ≡ Some ts → respects_equality qs ts ≡ true →
          ((qs' : List Bool) (ts' : Map ℕ TypeStructure) → length qs' ≡ length bs → datatypes c qs' bs ≡ Some ts' → respects_equality qs' ts' ≡ true →
          AllBelow qs' qs) → DecHas c (datatype_dec p bs) (length bs) (datatypes_env ts) no_choice
      replicate_has : {c : Context} (p : Place) {x : ℕ} {y : LongIdAt} {s : TypeStructure} → replicated c.env y ≡ Some s →
          DecHas c (replicate_dec p x y) 0 (env s.constructors ((x, s) ∷ []) no_structures) no_choice
      exception_has : {c : Context} (p : Place) {bs : List ExBind} {vs : Values} → exceptions_of c bs ≡ Some vs →
          DecHas c (exception_dec p bs) 0 (values_env vs) no_choice
      local_has : {c : Context} (p : Place) {ds ds' : Decs} {n n' : ℕ} {d d' : Env} {k j : Choices} → DecsHave c ds n d k →
          DecsHave (with_env c n d) ds' n' d' j → DecHas c (local_dec p ds ds') (n + n') d' (both k j)
      open_has : {c : Context} (p : Place) {xs : List LongIdAt} {d : Env} → opened c.env xs ≡ Some d → DecHas c (open_dec p xs) 0 d no_choice
      sequence_has : {c : Context} (p : Place) {ds : Decs} {n : ℕ} {d : Env} {k : Choices} → DecsHave c ds n d k → DecHas c (sequence_dec p ds) n d k

    pub data DecsHave : Context → Decs → ℕ → Env → Choices → Type 0 where
      no_dec_has : {c : Context} → DecsHave c no_decs 0 no_env no_choice
      dec_has : {c : Context} {d : Dec} {ds : Decs} {n n' : ℕ} {e e' : Env} {k j : Choices} → DecHas c d n e k → DecsHave (with_env c n e) ds n' e' j →
          DecsHave c (dec d ds) (n + n') (plus e e') (both k j)

    -- C ⊢ valbind ⇒ VE, with r for n parameters; an expansive binding has none of them [rules 25, 26]
    pub data BindsHave : Context → ℕ → (ℕ → Typ) → Binds → List Bound → Choices → Type 0 where
      no_bind_has : {c : Context} {n : ℕ} {r : ℕ → Typ} → BindsHave c n r no_binds [] no_choice
      bind_has : {c : Context} {n : ℕ} {r : ℕ → Typ} (p : Place) {a : Pat} {e : Exp} {bs : Binds} {t : Typ} {v vs : Bound} {us : List Bound} {k j l : Choices} →
          PatHas c a t v k → v ≡ put_bound n r vs → HasType c e t j → (is_non_expansive c.env e ≡ false → bound_have_none n vs ≡ true) →
          BindsHave c n r bs us l → BindsHave c n r (bind p a e bs) (vs ∷ us) (both (settles (is_non_expansive c.env e) (both k j)) l)
