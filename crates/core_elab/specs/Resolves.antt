-- A program resolves declarations, under a scope. k is above all variables in scope: what a pattern or a declaration binds has a number from k on, and the
-- next number is told. What is inside an expression is out of scope after it. No type is looked at.
use Rattle.std.specs.Prelude.{◌≡◌, ℕ, suc, ◌≤◌, Bool, true, false, List, [], ◌∷◌, Option, Some}
use Rattle.mlc_names.specs.declared.label.Label.{Label}
use Rattle.mlc_base.specs.declared.place.Place.{Place}
use Rattle.mlc_prims.specs.declared.basis.BasisPrimitive.{BasisPrimitive}
use Rattle.ty_core.specs.Types.{Typ}
use Rattle.ty_core.specs.declared.name.TyName.{TyName}
use Rattle.ty_core.specs.declared.scheme.Quantified.{Quantified}
use Rattle.core_rules.specs.of_sml_tree.Terminal.{Constant, LongVid}
use Rattle.core_rules.specs.of_sml_tree.Derived.{short, and_of, or_of}
use Rattle.core_rules.specs.of_sml_tree.declared.ident.Tyvar.{Tyvar}
use Rattle.core_rules.specs.of_sml_tree.declared.ident.Vid.{Vid}
use Rattle.core_rules.specs.of_sml_tree.declared.ident.BuiltIn.{BuiltIn}
use Rattle.core_rules.specs.of_sml_tree.BareTree.{Ty, TypeBind, ConBind, DataBind, ExBind, new_exn, same_exn, LongIdAt}
use Rattle.core_rules.specs.of_sml_tree.BareTree as bare
use Rattle.core_rules.specs.Values.{declared}
use Rattle.core_rules.specs.Match.{constant_of}
use Rattle.core_rules.specs.Eval.{identifier}
use Rattle.ir_poly.specs.Prog.{Exc, fixed, held}
use Rattle.ir_poly.specs.Prog as prog
use Rattle.core_elab.specs.Scopes.{Denotes, variable, constructor, reference, exception, primitive, Scope, empty, scoped, typed_by, plus_scope, denotes_in, long_denotes_in, long_typed_in, opened_scope, is_free_in, con_number, built_number, types_scope}

-- an identifier used
pub data UseTo : Denotes → prog.Exp → Type 0 where
  use_variable : (n : ℕ) (ts : List Typ) (t : Typ) → UseTo (variable n) (prog.variable_exp n ts t)
  use_own : (n : ℕ) (t : Typ) → UseTo (variable n) (prog.own_exp n t)
  use_constructor : (c : ℕ) (y : TyName) (ts : List Typ) (t : Typ) → UseTo (constructor c) (prog.con_exp c y ts t)
  use_reference : (a t : Typ) → UseTo reference (prog.ref_exp a t)
  use_exception : (x : Exc) (t : Typ) → UseTo (exception x) (prog.exn_exp x t)
  use_primitive : (q : BasisPrimitive) (ts : List Typ) (t : Typ) → UseTo (primitive q) (prog.prim_exp q ts t)

-- an identifier matched, alone and before an argument

pub data AloneTo : Denotes → prog.Pat → Type 0 where
  alone_constructor : (c : ℕ) → AloneTo (constructor c) (prog.con_pat c)
  alone_exception : (x : Exc) → AloneTo (exception x) (prog.exn_pat x)

pub data BeforeTo : Denotes → prog.Pat → prog.Pat → Type 0 where
  before_constructor : (c : ℕ) (t : Typ) (a : prog.Pat) → BeforeTo (constructor c) a (prog.con_of_pat c t a)
  before_reference : (t : Typ) (a : prog.Pat) → BeforeTo reference a (prog.ref_of_pat t a)
  before_exception : (x : Exc) (t : Typ) (a : prog.Pat) → BeforeTo (exception x) a (prog.exn_of_pat x t a)

-- patterns in the scope s, with the scope that they make
module _ (s : Scope) where
  mutual
    pub data PatTo : ℕ → bare.Pat → prog.Pat → Scope → ℕ → Type 0 where
      wild_to : (p : Place) {k : ℕ} → PatTo k (bare.wild_pat p) prog.any_pat empty k
      constant_to : (p : Place) (c : Constant) {k : ℕ} → PatTo k (bare.constant_pat p c) (prog.constant_pat (constant_of c)) empty k
      variable_to : (p : Place) (x : Vid) (n : ℕ) {k : ℕ} → k ≤ n → is_free_in (denotes_in s x) ≡ true
          → PatTo k (bare.vid_pat p (short x)) (prog.variable_pat n) (scoped x (variable n) empty) (suc n)
      alone_to : (p : Place) {x : LongVid} {d : Denotes} {a : prog.Pat} {k : ℕ} → long_denotes_in s x ≡ Some d → AloneTo d a
          → PatTo k (bare.vid_pat p x) a empty k
      built_to : (p : Place) (b : BuiltIn) {k : ℕ} → PatTo k (bare.built_pat p b) (prog.con_pat (built_number b)) empty k
      -- `...` stays
      fields_to : (p : Place) (further : Bool) {fs : bare.PatFields} {gs : prog.PatFields} {r : Scope} {k j : ℕ} → PatFieldsTo k fs gs r j
          → PatTo k (bare.fields_pat p fs further) (prog.fields_pat further gs) r j
      con_to : (p q : Place) {x : LongVid} {d : Denotes} {a : bare.Pat} {b c : prog.Pat} {r : Scope} {k j : ℕ} → long_denotes_in s x ≡ Some d
          → BeforeTo d b c → PatTo k a b r j → PatTo k (bare.con_pat p q x a) c r j
      built_con_to : (p : Place) (b : BuiltIn) (t : Typ) {a : bare.Pat} {c : prog.Pat} {r : Scope} {k j : ℕ} → PatTo k a c r j
          → PatTo k (bare.built_con_pat p b a) (prog.con_of_pat (built_number b) t c) r j
      typed_to : (p : Place) {a : bare.Pat} {t : Ty} {c : prog.Pat} {r : Scope} {k j : ℕ} → PatTo k a c r j → PatTo k (bare.typed_pat p a t) c r j
      as_to : (p : Place) (x : Vid) (n : ℕ) {t : Option Ty} {a : bare.Pat} {c : prog.Pat} {r : Scope} {k j : ℕ} → k ≤ n
          → is_free_in (denotes_in s x) ≡ true → PatTo (suc n) a c r j
          → PatTo k (bare.as_pat p x t a) (prog.as_pat n c) (plus_scope (scoped x (variable n) empty) r) j

    pub data PatFieldsTo : ℕ → bare.PatFields → prog.PatFields → Scope → ℕ → Type 0 where
      no_pats_to : {k : ℕ} → PatFieldsTo k bare.no_pat_fields prog.no_pats empty k
      pat_field_to : (l : Label) (t : Typ) {a : bare.Pat} {fs : bare.PatFields} {b : prog.Pat} {gs : prog.PatFields} {r q : Scope} {k j i : ℕ}
          → PatTo k a b r j → PatFieldsTo j fs gs q i → PatFieldsTo k (bare.pat_field l a fs) (prog.a_pat l t b gs) (plus_scope r q) i

-- a parameter that takes every value, as the variable n
pub data ParameterTo (s : Scope) (n : ℕ) : bare.Pat → Scope → Type 0 where
  any_parameter : (p : Place) → ParameterTo s n (bare.wild_pat p) empty
  variable_parameter : (p : Place) (x : Vid) → is_free_in (denotes_in s x) ≡ true → ParameterTo s n (bare.vid_pat p (short x)) (scoped x (variable n) empty)
  typed_parameter : (p : Place) {a : bare.Pat} {t : Ty} {r : Scope} → ParameterTo s n a r → ParameterTo s n (bare.typed_pat p a t) r

-- the variables of one recursive function, in front of a scope; what stands in front has the greater number
pub data HeadTo : ℕ → bare.Pat → List ℕ → Scope → ℕ → Scope → Type 0 where
  head_wild : (p : Place) {k : ℕ} {r : Scope} → HeadTo k (bare.wild_pat p) [] r k r
  head_variable : (p : Place) (x : LongVid) (n : ℕ) {k : ℕ} {r : Scope} → k ≤ n → HeadTo k (bare.vid_pat p x) (n ∷ []) r (suc n) (scoped x.vid (variable n) r)
  head_typed : (p : Place) {a : bare.Pat} {t : Ty} {ns : List ℕ} {k j : ℕ} {r q : Scope} → HeadTo k a ns r j q → HeadTo k (bare.typed_pat p a t) ns r j q
  head_as : (p : Place) (x : Vid) (n : ℕ) {t : Option Ty} {a : bare.Pat} {ns : List ℕ} {k j : ℕ} {r q : Scope} → HeadTo k a ns r j q → j ≤ n
      → HeadTo k (bare.as_pat p x t a) (n ∷ ns) r (suc n) (scoped x (variable n) q)

-- exceptions: those that are new get variables, the others are what they were
pub data ExnsTo (s : Scope) : ℕ → List ExBind → prog.Decs → Scope → ℕ → Type 0 where
  no_exns_to : {k : ℕ} → ExnsTo s k [] prog.no_decs empty k
  new_exn_to : (p : Place) (x : Vid) (n : ℕ) (a : Option Typ) {t : Option Ty} {bs : List ExBind} {ds : prog.Decs} {r : Scope} {k j : ℕ} → k ≤ n
      → ExnsTo s (suc n) bs ds r j → ExnsTo s k (new_exn p x t ∷ bs) (prog.exception_dec n (identifier x) a ds) (scoped x (exception (held n)) r) j
  same_exn_to : (p : Place) (x : Vid) (q : Place) {y : LongVid} {d : Denotes} {bs : List ExBind} {ds : prog.Decs} {r : Scope} {k j : ℕ}
      → long_denotes_in s y ≡ Some d → ExnsTo s k bs ds r j → ExnsTo s k (same_exn p x q y ∷ bs) ds (scoped x d r) j

-- constructors and datatypes
pub data ConsTo : List ConBind → Scope → Type 0 where
  no_cons_to : ConsTo [] empty
  a_con_to : (c : ConBind) {n : ℕ} {cs : List ConBind} {r : Scope} → con_number (declared c.vid) ≡ Some n → ConsTo cs r
      → ConsTo (c ∷ cs) (scoped c.vid (constructor n) r)

pub data DatatypesTo : List DataBind → Scope → Type 0 where
  no_datatypes_to : DatatypesTo [] empty
  a_datatype_to : (b : DataBind) {bs : List DataBind} {c r : Scope} → ConsTo b.cons c → DatatypesTo bs r
      → DatatypesTo (b ∷ bs) (plus_scope r (typed_by b.tycon c c))

-- no operator written as `fn`
pub data IsCalled : bare.Exp → Type 0 where
  called_constant : (p : Place) (c : Constant) → IsCalled (bare.constant_exp p c)
  called_vid : (p : Place) (x : LongVid) → IsCalled (bare.vid_exp p x)
  called_built : (p : Place) (b : BuiltIn) → IsCalled (bare.built_exp p b)
  called_fields : (p : Place) (fs : bare.ExpFields) → IsCalled (bare.fields_exp p fs)
  called_let : (p : Place) (ds : bare.Decs) (e : bare.Exp) → IsCalled (bare.let_in p ds e)
  called_app : (p : Place) (f a : bare.Exp) → IsCalled (bare.app p f a)
  called_typed : (p : Place) (e : bare.Exp) (t : Ty) → IsCalled (bare.typed p e t)
  called_handle : (p : Place) (e : bare.Exp) (rs : bare.Rules) → IsCalled (bare.handle p e rs)
  called_raise : (p : Place) (e : bare.Exp) → IsCalled (bare.raise p e)

-- declarations one after the other
abbrev pub joined : prog.Decs → prog.Decs → prog.Decs
joined prog.no_decs es = es
joined (prog.val_dec qs bs fs ds) es = prog.val_dec qs bs fs (joined ds es)
joined (prog.exception_dec x i t ds) es = prog.exception_dec x i t (joined ds es)
joined (prog.counted_dec n ds) es = prog.counted_dec n (joined ds es)

mutual
  pub data ExpTo : Scope → ℕ → bare.Exp → prog.Exp → Type 0 where
    constant_exp_to : {s : Scope} {k : ℕ} (p : Place) (c : Constant) (t : Typ) → ExpTo s k (bare.constant_exp p c) (prog.constant_exp (constant_of c) t)
    vid_to : {s : Scope} {k : ℕ} (p : Place) {x : LongVid} {d : Denotes} {e : prog.Exp} → long_denotes_in s x ≡ Some d → UseTo d e
        → ExpTo s k (bare.vid_exp p x) e
    built_exp_to : {s : Scope} {k : ℕ} (p : Place) (b : BuiltIn) (y : TyName) (ts : List Typ) (t : Typ)
        → ExpTo s k (bare.built_exp p b) (prog.con_exp (built_number b) y ts t)
    fields_exp_to : {s : Scope} {k : ℕ} (p : Place) (t : Typ) {fs : bare.ExpFields} {gs : prog.Fields} → FieldsTo s k fs gs
        → ExpTo s k (bare.fields_exp p fs) (prog.fields_exp t gs)
    let_to : {s : Scope} {k : ℕ} (p : Place) (t : Typ) {ds : bare.Decs} {e : bare.Exp} {ds' : prog.Decs} {e' : prog.Exp} {r : Scope} {j : ℕ}
        → DecsTo s k ds ds' r j → ExpTo (plus_scope s r) j e e' → ExpTo s k (bare.let_in p ds e) (prog.let_exp t ds' e')
    case_to : {s : Scope} {k : ℕ} (p q place : Place) (t : Typ) {rs : bare.Rules} {a : bare.Exp} {rs' : prog.Rules} {a' : prog.Exp}
        → RulesTo s k rs rs' → ExpTo s k a a' → ExpTo s k (bare.app p (bare.fn q rs) a) (prog.case_exp place t a' rs')
    app_to : {s : Scope} {k : ℕ} (p : Place) (t : Typ) {f a : bare.Exp} {f' a' : prog.Exp} → IsCalled f → ExpTo s k f f' → ExpTo s k a a'
        → ExpTo s k (bare.app p f a) (prog.app_exp p t f' a')
    chain_to : {s : Scope} {k : ℕ} (b : Bool) (t : Typ) {e : bare.Exp} {c : prog.Chain} → ChainTo s k b e c → ExpTo s k e (prog.chain_exp b t c)
    typed_exp_to : {s : Scope} {k : ℕ} (p : Place) {e : bare.Exp} {t : Ty} {e' : prog.Exp} → ExpTo s k e e' → ExpTo s k (bare.typed p e t) e'
    handle_to : {s : Scope} {k : ℕ} (p : Place) (t : Typ) {e : bare.Exp} {rs : bare.Rules} {e' : prog.Exp} {rs' : prog.Rules} → ExpTo s k e e'
        → RulesTo s k rs rs' → ExpTo s k (bare.handle p e rs) (prog.handle_exp t e' rs')
    raise_to : {s : Scope} {k : ℕ} (p : Place) (t : Typ) {e : bare.Exp} {e' : prog.Exp} → ExpTo s k e e' → ExpTo s k (bare.raise p e) (prog.raise_exp t e')
    fn_to : {s : Scope} {k : ℕ} (p : Place) (t : Typ) {rs : bare.Rules} {f : prog.Fun} → FunTo s k rs f → ExpTo s k (bare.fn p rs) (prog.fn_exp t f)
    counted_to : {s : Scope} {k : ℕ} (n : ℕ) (t : Typ) {e : bare.Exp} {e' : prog.Exp} → ExpTo s k e e' → ExpTo s k e (prog.counted_exp n t e')

  -- fields as they are written
  pub data FieldsTo : Scope → ℕ → bare.ExpFields → prog.Fields → Type 0 where
    no_fields_to : {s : Scope} {k : ℕ} → FieldsTo s k bare.no_exp_fields prog.no_fields
    field_to : {s : Scope} {k : ℕ} (l : Label) {e : bare.Exp} {fs : bare.ExpFields} {e' : prog.Exp} {gs : prog.Fields} → ExpTo s k e e'
        → FieldsTo s k fs gs → FieldsTo s k (bare.exp_field l e fs) (prog.a_field l e' gs)

  -- operands of andalso (true) and orelse (false)
  pub data ChainTo : Scope → ℕ → Bool → bare.Exp → prog.Chain → Type 0 where
    only_to : {s : Scope} {k : ℕ} (b : Bool) {e : bare.Exp} {e' : prog.Exp} → ExpTo s k e e' → ChainTo s k b e (prog.only e')
    and_to : {s : Scope} {k : ℕ} (p : Place) {a e : bare.Exp} {a' : prog.Exp} {c : prog.Chain} → ExpTo s k a a' → ChainTo s k true e c
        → ChainTo s k true (and_of p a e) (prog.link a' c)
    or_to : {s : Scope} {k : ℕ} (p : Place) {a e : bare.Exp} {a' : prog.Exp} {c : prog.Chain} → ExpTo s k a a' → ChainTo s k false e c
        → ChainTo s k false (or_of p a e) (prog.link a' c)

  pub data RulesTo : Scope → ℕ → bare.Rules → prog.Rules → Type 0 where
    no_rules_to : {s : Scope} {k : ℕ} → RulesTo s k bare.no_rules prog.no_rules
    rule_to : {s : Scope} {k : ℕ} (p : Place) {a : bare.Pat} {e : bare.Exp} {rs : bare.Rules} {a' : prog.Pat} {e' : prog.Exp} {rs' : prog.Rules} {r : Scope}
        {j : ℕ} → PatTo s k a a' r j → ExpTo (plus_scope s r) j e e' → RulesTo s k rs rs' → RulesTo s k (bare.rule p a e rs) (prog.a_rule a' e' rs')

  -- a match as a function: by its rules, or with a parameter for its one rule, and so with further ones
  pub data FunTo : Scope → ℕ → bare.Rules → prog.Fun → Type 0 where
    by_rules_to : {s : Scope} {k : ℕ} (place : Place) (a u : Typ) {rs : bare.Rules} {rs' : prog.Rules} → RulesTo s k rs rs'
        → FunTo s k rs (prog.by_rules place a u rs')
    last_to : {s : Scope} {k : ℕ} (p : Place) (n : ℕ) (t : Typ) {a : bare.Pat} {e : bare.Exp} {e' : prog.Exp} {r : Scope} → k ≤ n → ParameterTo s n a r
        → ExpTo (plus_scope s r) (suc n) e e' → FunTo s k (bare.rule p a e bare.no_rules) (prog.last n t e')
    more_to : {s : Scope} {k : ℕ} (p q : Place) (n : ℕ) (t : Typ) {a : bare.Pat} {rs : bare.Rules} {f : prog.Fun} {r : Scope} → k ≤ n → ParameterTo s n a r
        → FunTo (plus_scope s r) (suc n) rs f → FunTo s k (bare.rule p a (bare.fn q rs) bare.no_rules) (prog.more n t f)

  pub data DecsTo : Scope → ℕ → bare.Decs → prog.Decs → Scope → ℕ → Type 0 where
    no_decs_to : {s : Scope} {k : ℕ} → DecsTo s k bare.no_decs prog.no_decs empty k
    dec_to : {s : Scope} {k : ℕ} {d : bare.Dec} {ds : bare.Decs} {d' ds' : prog.Decs} {r q : Scope} {j i : ℕ} → DecTo s k d d' r j
        → DecsTo (plus_scope s r) j ds ds' q i → DecsTo s k (bare.dec d ds) (joined d' ds') (plus_scope r q) i
    counted_decs_to : {s : Scope} {k : ℕ} (n : ℕ) {ds : bare.Decs} {ds' : prog.Decs} {r : Scope} {j : ℕ} → DecsTo s k ds ds' r j
        → DecsTo s k ds (prog.counted_dec n ds') r j

  -- one declaration, as the declarations of a program; those without expressions leave none
  pub data DecTo : Scope → ℕ → bare.Dec → prog.Decs → Scope → ℕ → Type 0 where
    -- functions are numbered before what the bindings bind
    val_to : {s : Scope} {k : ℕ} (p q : Place) {as_ : List Tyvar} (qs : List Quantified) {bs rs : bare.Binds} {bs' : prog.Binds} {fs : prog.Funs}
        {r f : Scope} {j i : ℕ} → HeadsTo k rs fs f j → FunsTo (plus_scope s f) j rs fs → BindsTo s k j bs bs' r i
        → DecTo s k (bare.val_dec p q as_ bs rs) (prog.val_dec qs bs' fs prog.no_decs) (plus_scope r f) i
    type_to : {s : Scope} {k : ℕ} (p : Place) (bs : List TypeBind) → DecTo s k (bare.type_dec p bs) prog.no_decs (types_scope bs) k
    datatype_to : {s : Scope} {k : ℕ} (p : Place) {bs : List DataBind} {r : Scope} → DatatypesTo bs r → DecTo s k (bare.datatype_dec p bs) prog.no_decs r k
    replicate_to : {s : Scope} {k : ℕ} (p : Place) (x : ℕ) {y : LongIdAt} {r : Scope} → long_typed_in s y ≡ Some r
        → DecTo s k (bare.replicate_dec p x y) prog.no_decs (typed_by x r r) k
    exception_to : {s : Scope} {k : ℕ} (p : Place) {bs : List ExBind} {ds : prog.Decs} {r : Scope} {j : ℕ} → ExnsTo s k bs ds r j
        → DecTo s k (bare.exception_dec p bs) ds r j
    -- both parts are declared: what the second gives may stand for an exception of the first
    local_to : {s : Scope} {k : ℕ} (p : Place) {ds es : bare.Decs} {ds' es' : prog.Decs} {r q : Scope} {j i : ℕ} → DecsTo s k ds ds' r j
        → DecsTo (plus_scope s r) j es es' q i → DecTo s k (bare.local_dec p ds es) (joined ds' es') q i
    open_to : {s : Scope} {k : ℕ} (p : Place) {xs : List LongIdAt} {r : Scope} → opened_scope s xs ≡ Some r → DecTo s k (bare.open_dec p xs) prog.no_decs r k
    sequence_to : {s : Scope} {k : ℕ} (p : Place) {ds : bare.Decs} {ds' : prog.Decs} {r : Scope} {j : ℕ} → DecsTo s k ds ds' r j
        → DecTo s k (bare.sequence_dec p ds) ds' r j
    counted_dec_to : {s : Scope} {k : ℕ} (n : ℕ) {d : bare.Dec} {ds : prog.Decs} {r : Scope} {j : ℕ} → DecTo s k d ds r j
        → DecTo s k d (prog.counted_dec n ds) r j

  -- expressions from the first number on, and patterns from the second on
  pub data BindsTo : Scope → ℕ → ℕ → bare.Binds → prog.Binds → Scope → ℕ → Type 0 where
    no_binds_to : {s : Scope} {h k : ℕ} → BindsTo s h k bare.no_binds prog.no_binds empty k
    bind_to : {s : Scope} {h k : ℕ} (p place : Place) (general : Bool) (t : Typ) {a : bare.Pat} {e : bare.Exp} {bs : bare.Binds} {a' : prog.Pat}
        {e' : prog.Exp} {bs' : prog.Binds} {r q : Scope} {j i : ℕ} → PatTo s k a a' r j → ExpTo s h e e' → BindsTo s h j bs bs' q i
        → BindsTo s h k (bare.bind p a e bs) (prog.a_bind place general a' t e' bs') (plus_scope r q) i

  -- the functions of a group, in the scope of them all
  pub data FunsTo : Scope → ℕ → bare.Binds → prog.Funs → Type 0 where
    no_funs_to : {s : Scope} {k : ℕ} → FunsTo s k bare.no_binds prog.no_funs
    fun_to : {s : Scope} {k : ℕ} (p q : Place) (a : bare.Pat) (ns : List ℕ) (t : Typ) {rs : bare.Rules} {bs : bare.Binds} {f : prog.Fun} {fs : prog.Funs}
        → FunTo s k rs f → FunsTo s k bs fs → FunsTo s k (bare.bind p a (bare.fn q rs) bs) (prog.a_fun ns t f fs)

  -- their scope and numbers, from the last one on
  pub data HeadsTo : ℕ → bare.Binds → prog.Funs → Scope → ℕ → Type 0 where
    no_heads_to : {k : ℕ} → HeadsTo k bare.no_binds prog.no_funs empty k
    heads_to : {k j i : ℕ} (p q : Place) (rs : bare.Rules) (t : Typ) (f : prog.Fun) {a : bare.Pat} {bs : bare.Binds} {ns : List ℕ} {fs : prog.Funs}
        {r r' : Scope} → HeadsTo k bs fs r j → HeadTo j a ns r i r' → HeadsTo k (bare.bind p a (bare.fn q rs) bs) (prog.a_fun ns t f fs) r' i
