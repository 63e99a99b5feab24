-- What declarations elaborate to resolves them.
use Rattle.std.proofs.Common.{ℕ, Bool, List}
use Rattle.ty_core.specs.Types.{Typ}
use Rattle.core_elab.specs.of_sml_tree.BareTree.{ExBind}
use Rattle.core_elab.specs.of_sml_tree.BareTree as bare
use Rattle.core_elab.specs.of_core_rules.Choices.{Choices}
use Rattle.core_elab.specs.of_core_rules.Typing.{Bound}
use Rattle.core_elab.specs.of_ty_basis.Types.{Row}
use Rattle.core_elab.specs.of_ir_poly.Prog as prog
use Rattle.core_elab.specs.of_ir_poly.Types.{Constructor}
use Rattle.core_elab.specs.of_ir_poly.TestsChecked.{Knowns}
use Rattle.core_elab.specs.Scopes.{Denotes, Scope}
use Rattle.core_elab.specs.Resolves as to
use Rattle.core_elab.specs.Resolves.{UseTo, AloneTo, BeforeTo, PatTo, PatFieldsTo, ParameterTo, ExnsTo, ExpTo, FieldsTo, ChainTo, RulesTo, FunTo, DecsTo, DecTo, BindsTo, FunsTo}
use Rattle.elab_typed.specs.Contexts.{Kept, KeptValues, KeptEnv, Around}
use Rattle.elab_typed.specs.Instances.{UseElab, use_general, use_plain, use_single, use_own, use_constructor, use_reference, use_exception, use_given_exception, use_primitive, AloneElab, alone_constructor, alone_exception, alone_given_exception, BeforeElab, before_constructor, before_reference, before_exception}
use Rattle.elab_typed.specs.Elaborates.{PatElab, wild_elab, constant_elab, variable_elab, alone_elab, built_elab, fields_elab, open_elab, con_elab, built_con_elab, typed_elab, as_elab, PatsElab, no_pats_elab, a_pat_elab, ParameterElab, any_elab, named_elab, annotated_elab, ExnsElab, no_exns_elab, new_exn_elab, same_exn_elab, ExpElab, chain_elab, ChainElab, only_elab, and_elab, or_elab, constant_exp_elab, vid_elab, built_exp_elab, record_elab, let_elab, case_elab, app_elab, typed_exp_elab, handle_elab, raise_elab, fn_elab, counted_elab, FieldsElab, no_fields_elab, a_field_elab, RulesElab, no_rules_elab, a_rule_elab, FunElab, by_rules_elab, last_elab, more_elab, DecsElab, no_decs_elab, a_dec_elab, counted_decs_elab, DecElab, val_elab, type_elab, datatype_elab, replicate_elab, exception_elab, local_elab, open_dec_elab, sequence_elab, counted_dec_elab, BindsElab, no_binds_elab, general_elab, plain_elab, FunsElab, no_funs_elab, a_fun_elab}

parameter-to : {A : Around} {n : ℕ} {a : bare.Pat} {t : Typ} {vs : Bound} {r : Scope} → ParameterElab A n a t vs r → ParameterTo A.scope n a r
parameter-to (any_elab p o) = to.any_parameter p
parameter-to (named_elab p x b) = to.variable_parameter p x b.free
parameter-to (annotated_elab p a h) = to.typed_parameter p (parameter-to a)

exns-to : {A : Around} {G G' : Knowns} {k j : ℕ} {bs : List ExBind} {ds : prog.Decs} {vs : KeptValues} {r : Scope}
    → ExnsElab A G k bs ds vs r j G' → ExnsTo A.scope k bs ds r j
exns-to no_exns_elab = to.no_exns_to
exns-to (new_exn_elab p x n a le h o bs) = to.new_exn_to p x n _ le (exns-to bs)
exns-to (same_exn_elab p x q i s d bs) = to.same_exn_to p x q d (exns-to bs)

module _ {table : List Constructor} where
  use-to : {A : Around} {v : Kept} {d : Denotes} {e : prog.Exp} {t : Typ} {c : Choices} → UseElab table A v d e t c → UseTo d e
  use-to (use_general n ts e o i) = to.use_variable n _ _
  use-to (use_plain n ts e i) = to.use_variable n _ _
  use-to (use_single n e o) = to.use_variable n _ _
  use-to (use_own n e o) = to.use_own n _
  use-to (use_constructor c ts y us g h) = to.use_constructor c y us _
  use-to (use_reference ts a g o) = to.use_reference _ _
  use-to (use_exception x e o) = to.use_exception x _
  use-to (use_given_exception x ts g e) = to.use_exception x _
  use-to (use_primitive q ts u g h) = to.use_primitive q _ _

  alone-to : {A : Around} {v : Kept} {d : Denotes} {a : prog.Pat} {t : Typ} → AloneElab table A v d a t → AloneTo d a
  alone-to (alone_constructor c ts n us m g h) = to.alone_constructor c
  alone-to (alone_exception x e o) = to.alone_exception x
  alone-to (alone_given_exception x ts m g e) = to.alone_exception x

  before-to : {A : Around} {v : Kept} {d : Denotes} {a b : prog.Pat} {u t : Typ} → BeforeElab table A v d a b u t → BeforeTo d a b
  before-to (before_constructor c ts n us m g h o) = to.before_constructor c _ _
  before-to (before_reference ts m g o) = to.before_reference _ _
  before-to (before_exception x e w o) = to.before_exception x _ _

  mutual
    pat-to : {A : Around} {k j : ℕ} {a : bare.Pat} {b : prog.Pat} {t : Typ} {vs : Bound} {c : Choices} {r : Scope} → PatElab table A k a b t vs c r j
        → PatTo A.scope k a b r j
    pat-to (wild_elab p o) = to.wild_to p
    pat-to (constant_elab p c) = to.constant_to p c
    pat-to (variable_elab p x n le b) = to.variable_to p x n le b.free
    pat-to (alone_elab p i d a) = to.alone_to p d (alone-to a)
    pat-to (built_elab p b ts g h) = to.built_to p b
    pat-to (fields_elab p fs n) = to.fields_to p _ (pats-to fs)
    pat-to (open_elab p others fs d o) = to.fields_to p _ (pats-to fs)
    pat-to (con_elab p q i d b a) = to.con_to p q d (before-to b) (pat-to a)
    pat-to (built_con_elab p b ts g h o a) = to.built_con_to p b _ (pat-to a)
    pat-to (typed_elab p a h) = to.typed_to p (pat-to a)
    pat-to (as_elab p x n le b h a) = to.as_to p x n le b.free (pat-to a)

    pats-to : {A : Around} {whole r : Row} {k j : ℕ} {fs : bare.PatFields} {gs : prog.PatFields} {vs : Bound} {c : Choices} {q : Scope}
        → PatsElab table A whole k fs gs r vs c q j → PatFieldsTo A.scope k fs gs q j
    pats-to no_pats_elab = to.no_pats_to
    pats-to (a_pat_elab l e o a fs) = to.pat_field_to l _ (pat-to a) (pats-to fs)

  mutual
    exp-to : {A : Around} {k : ℕ} {e : bare.Exp} {e' : prog.Exp} {t : Typ} {c : Choices} → ExpElab table A k e e' t c → ExpTo A.scope k e e'
    exp-to (constant_exp_elab p c) = to.constant_exp_to p c _
    exp-to (vid_elab p i d u) = to.vid_to p d (use-to u)
    exp-to (built_exp_elab p b ts y us g h) = to.built_exp_to p b y us _
    exp-to (record_elab p fs o) = to.fields_exp_to p _ (fields-to fs)
    exp-to (chain_elab b x) = to.chain_to b _ (chain-to x)
    exp-to (let_elab p ds e o) = to.let_to p _ (decs-to ds) (exp-to e)
    exp-to (case_elab p q place rs a o) = to.case_to p q place _ (rules-to rs) (exp-to a)
    exp-to (app_elab p i f a) = to.app_to p _ i (exp-to f) (exp-to a)
    exp-to (typed_exp_elab p e h) = to.typed_exp_to p (exp-to e)
    exp-to (handle_elab p e rs) = to.handle_to p _ (exp-to e) (rules-to rs)
    exp-to (raise_elab p e o) = to.raise_to p _ (exp-to e)
    exp-to (fn_elab p f) = to.fn_to p _ (fun-to f)
    exp-to (counted_elab n e) = to.counted_to n _ (exp-to e)

    fields-to : {A : Around} {k : ℕ} {fs : bare.ExpFields} {gs : prog.Fields} {r : Row} {c : Choices} → FieldsElab table A k fs gs r c
        → FieldsTo A.scope k fs gs
    fields-to no_fields_elab = to.no_fields_to
    fields-to (a_field_elab l e fs) = to.field_to l (exp-to e) (fields-to fs)

    chain-to : {A : Around} {k : ℕ} {b : Bool} {e : bare.Exp} {x : prog.Chain} {c : Choices} → ChainElab table A k b e x c → ChainTo A.scope k b e x
    chain-to (only_elab b e) = to.only_to b (exp-to e)
    chain-to (and_elab p o a x) = to.and_to p (exp-to a) (chain-to x)
    chain-to (or_elab p o a x) = to.or_to p (exp-to a) (chain-to x)

    rules-to : {A : Around} {k : ℕ} {rs : bare.Rules} {rs' : prog.Rules} {t u : Typ} {c : Choices} → RulesElab table A k rs rs' t u c
        → RulesTo A.scope k rs rs'
    rules-to no_rules_elab = to.no_rules_to
    rules-to (a_rule_elab p a d e rs) = to.rule_to p (pat-to a) (exp-to e) (rules-to rs)

    fun-to : {A : Around} {k : ℕ} {rs : bare.Rules} {f : prog.Fun} {t u : Typ} {c : Choices} → FunElab table A k rs f t u c → FunTo A.scope k rs f
    fun-to (by_rules_elab place o rs) = to.by_rules_to place _ _ (rules-to rs)
    fun-to (last_elab p n le o a e) = to.last_to p n _ le (parameter-to a) (exp-to e)
    fun-to (more_elab p q n le o a f) = to.more_to p q n _ le (parameter-to a) (fun-to f)

    pub decs-to : {A : Around} {k j : ℕ} {ds : bare.Decs} {ds' : prog.Decs} {made : ℕ} {number : ℕ → ℕ} {d : KeptEnv} {r : Scope} {G : Knowns} {c : Choices}
        → DecsElab table A k ds ds' made number d r G c j → DecsTo A.scope k ds ds' r j
    decs-to no_decs_elab = to.no_decs_to
    decs-to (a_dec_elab d ds) = to.dec_to (dec-to d) (decs-to ds)
    decs-to (counted_decs_elab m ds) = to.counted_decs_to m (decs-to ds)

    dec-to : {A : Around} {k j : ℕ} {d : bare.Dec} {ds : prog.Decs} {made : ℕ} {number : ℕ → ℕ} {e : KeptEnv} {r : Scope} {G : Knowns} {c : Choices}
        → DecElab table A k d ds made number e r G c j → DecTo A.scope k d ds r j
    dec-to (val_elab p q qs extra n o m g d hs fs bs) = to.val_to p q qs hs (funs-to fs) (binds-to bs)
    dec-to (type_elab p h) = to.type_to p _
    dec-to (datatype_elab p qs number l h e m a i b) = to.datatype_to p b
    dec-to (replicate_elab p x h i) = to.replicate_to p x i
    dec-to (exception_elab p bs) = to.exception_to p (exns-to bs)
    dec-to (local_elab p ds es) = to.local_to p (decs-to ds) (decs-to es)
    dec-to (open_dec_elab p h i) = to.open_to p i
    dec-to (sequence_elab p ds) = to.sequence_to p (decs-to ds)
    dec-to (counted_dec_elab m d) = to.counted_dec_to m (dec-to d)

    binds-to : {A B : Around} {h k j : ℕ} {bs : bare.Binds} {bs' : prog.Binds} {vs : List Bound} {c : Choices} {r : Scope}
        → BindsElab table A B h k bs bs' vs c r j → BindsTo B.scope h k bs bs' r j
    binds-to no_binds_elab = to.no_binds_to
    binds-to (general_elab p place a x n v o bs) = to.bind_to p place _ _ (pat-to a) (exp-to x) (binds-to bs)
    binds-to (plain_elab p place a x l o bs) = to.bind_to p place _ _ (pat-to a) (exp-to x) (binds-to bs)

    funs-to : {A : Around} {k : ℕ} {bs : bare.Binds} {fs : prog.Funs} {us : List Bound} {c : Choices} → FunsElab table A k bs fs us c
        → FunsTo A.scope k bs fs
    funs-to no_funs_elab = to.no_funs_to
    funs-to (a_fun_elab p q ns h o f fs) = to.fun_to p q _ ns _ (fun-to f) (funs-to fs)
