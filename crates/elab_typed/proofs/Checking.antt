-- What declarations elaborate to is well typed.
use Rattle.std.proofs.Common.{◌≡◌, ℕ, ◌+◌, Bool, true, List, ◌++◌, nat_lt, Option, Some, None, refl, sym, ap, subst, ◌∙◌, arith}
use Rattle.std.specs.Prelude.{option_map}
use Rattle.std.proofs.lemmas.Bool.{lt-ltb, ltb-true}
use Rattle.ty_core.specs.Types.{Typ}
use Rattle.core_elab.specs.of_ty_basis.Types.{Row, labels_in, int_name, word_name, char_name, string_name, bool_name, exn_name, function_type, row_type}
use Rattle.core_elab.specs.of_sml_tree.Terminal as term
use Rattle.core_elab.specs.of_sml_tree.BareTree.{ExBind}
use Rattle.core_elab.specs.of_sml_tree.BareTree as bare
use Rattle.core_elab.specs.of_core_rules.Match.{constant_of}
use Rattle.core_elab.specs.of_core_rules.Choices.{Choices}
use Rattle.core_elab.specs.of_core_rules.Elaborated.{exception_type}
use Rattle.core_elab.specs.of_core_rules.Objects.{sorted}
use Rattle.core_elab.specs.of_core_rules.Typing.{Bound, constant_type}
use Rattle.core_elab.specs.Scopes.{Denotes, Scope}
use Rattle.core_elab.specs.Resolves.{joined}
use Rattle.ty_core.specs.declared.scheme.Quantified.{Quantified}
use Rattle.core_elab.specs.of_ir_values.Values.{same_label}
use Rattle.core_elab.specs.of_ir_poly.Prog as prog
use Rattle.core_elab.specs.of_ir_poly.Types.{ascend, over, Constructor}
use Rattle.core_elab.specs.of_ir_poly.TestsChecked.{HasLiteral, has_int, has_word, has_char, has_string, Knowns, value_type}
use Rattle.core_elab.specs.of_ir_poly.ProgChecked.{PatChecked, any_checked, variable_checked, constant_checked, con_checked, con_of_checked, ref_of_checked, exn_checked, exn_of_checked, fields_checked, as_checked, PatsChecked, no_pats_checked, a_pat_checked, Checked, c_constant, c_variable, c_variable_one, c_own, c_con, c_ref, c_exn, c_prim, c_fields, c_let, c_app, c_case, c_handle, c_raise, c_fn, c_counted, c_chain, ChainChecked, c_only, c_link, FieldsChecked, c_no_fields, c_field, RulesChecked, c_no_rules, c_rule, FunChecked, c_last, c_by_rules, c_more, DecsChecked, c_no_decs, c_val, c_exception, c_exception_alone, c_counted_dec, BindsChecked, c_no_binds, c_general, c_plain, FunsChecked, c_no_funs, c_fun}
use Rattle.elab_typed.specs.Numbers.{type_as, row_as, KeepsInitial, AgreeBelow}
use Rattle.elab_typed.specs.Contexts.{Kept, KeptValues, KeptEnv, Around}
use Rattle.elab_typed.specs.Instances.{as_typed, UseElab, use_general, use_plain, use_single, use_own, use_constructor, use_reference, use_exception, use_given_exception, use_primitive, AloneElab, alone_constructor, alone_exception, alone_given_exception, BeforeElab, before_constructor, before_reference, before_exception}
use Rattle.elab_typed.specs.Elaborates.{PatElab, wild_elab, constant_elab, variable_elab, alone_elab, built_elab, fields_elab, open_elab, con_elab, built_con_elab, typed_elab, as_elab, PatsElab, no_pats_elab, a_pat_elab, ExnsElab, no_exns_elab, new_exn_elab, same_exn_elab, ExpElab, chain_elab, ChainElab, only_elab, and_elab, or_elab, constant_exp_elab, vid_elab, built_exp_elab, record_elab, let_elab, case_elab, app_elab, typed_exp_elab, handle_elab, raise_elab, fn_elab, counted_elab, FieldsElab, no_fields_elab, a_field_elab, RulesElab, no_rules_elab, a_rule_elab, FunElab, by_rules_elab, last_elab, more_elab, DecsElab, no_decs_elab, a_dec_elab, counted_decs_elab, DecElab, val_elab, type_elab, datatype_elab, replicate_elab, exception_elab, local_elab, open_dec_elab, sequence_elab, counted_dec_elab, BindsElab, no_binds_elab, general_elab, plain_elab, FunsElab, no_funs_elab, a_fun_elab}
use Rattle.elab_typed.proofs.Names.{of_name-kept, ref-kept, sorted-as, labels-as, row_type-as, part-as, args-over, instance-as, are-allowed-as, type-agrees}

-- Numbers

agree-refl : (n : ℕ) (f : ℕ → ℕ) → AgreeBelow n f f
agree-refl n f k h = refl

below-more : (n m k : ℕ) → nat_lt k n ≡ true → nat_lt k (n + m) ≡ true
below-more n m k h = lt-ltb k (n + m) (omega (arith, ltb-true k n h))

agree-then : (n m : ℕ) {f g h : ℕ → ℕ} → AgreeBelow n f g → AgreeBelow (n + m) g h → AgreeBelow n f h
agree-then n m a b k l = b k (below-more n m k l) ∙ a k l

record Numbered (A : Around) (number : ℕ → ℕ) : Type 0 where
  agree : AgreeBelow A.names A.number number
  initial : KeepsInitial A.number → KeepsInitial number

same-numbers : (A : Around) → Numbered A A.number
same-numbers A = record { agree = agree-refl A.names A.number; initial = λ i. i }

module _ {table : List Constructor} where
  mutual
    decs-numbered : {A : Around} {k j : ℕ} {ds : bare.Decs} {ds' : prog.Decs} {made : ℕ} {number : ℕ → ℕ} {d : KeptEnv} {r : Scope} {G : Knowns} {c : Choices}
        → DecsElab table A k ds ds' made number d r G c j → Numbered A number
    decs-numbered {A} no_decs_elab = same-numbers A
    decs-numbered {A} (a_dec_elab {n = n} d ds) = let a = dec-numbered d in let b = decs-numbered ds in
        record { agree = agree-then A.names n a.agree b.agree; initial = λ i. b.initial (a.initial i) }
    decs-numbered (counted_decs_elab m ds) = decs-numbered ds

    dec-numbered : {A : Around} {k j : ℕ} {d : bare.Dec} {ds : prog.Decs} {made : ℕ} {number : ℕ → ℕ} {e : KeptEnv} {r : Scope} {G : Knowns} {c : Choices}
        → DecElab table A k d ds made number e r G c j → Numbered A number
    dec-numbered {A} (val_elab p q qs extra n o m g d hs fs bs) = same-numbers A
    dec-numbered {A} (type_elab p h) = same-numbers A
    dec-numbered (datatype_elab p qs number l h e m a i b) = record { agree = a; initial = λ z. i }
    dec-numbered {A} (replicate_elab p x h i) = same-numbers A
    dec-numbered {A} (exception_elab p bs) = same-numbers A
    dec-numbered {A} (local_elab p {n = n} ds es) = let a = decs-numbered ds in let b = decs-numbered es in
        record { agree = agree-then A.names n a.agree b.agree; initial = λ i. b.initial (a.initial i) }
    dec-numbered {A} (open_dec_elab p h i) = same-numbers A
    dec-numbered (sequence_elab p ds) = decs-numbered ds
    dec-numbered (counted_dec_elab m d) = dec-numbered d

-- Identifiers

literal-checked : {n : ℕ → ℕ} (c : term.Constant) → KeepsInitial n → HasLiteral (constant_of c) (type_as n (constant_type c))
literal-checked (term.int z) i = subst (HasLiteral (constant_of (term.int z))) (sym (of_name-kept int_name i refl)) (has_int z)
literal-checked (term.word k) i = subst (HasLiteral (constant_of (term.word k))) (sym (of_name-kept word_name i refl)) (has_word k)
literal-checked (term.char k) i = subst (HasLiteral (constant_of (term.char k))) (sym (of_name-kept char_name i refl)) (has_char k)
literal-checked (term.string s) i = subst (HasLiteral (constant_of (term.string s))) (sym (of_name-kept string_name i refl)) (has_string s)

value-as : {n : ℕ → ℕ} (a : Option Typ) → KeepsInitial n → type_as n (exception_type a) ≡ value_type (option_map (type_as n) a)
value-as None i = of_name-kept exn_name i refl
value-as {n} (Some a) i = ap (function_type (type_as n a)) (of_name-kept exn_name i refl)

moved : (P : List Quantified → Knowns → Type 0) {D E : List Quantified} {G H : Knowns} → D ≡ E → G ≡ H → P D G → P E H
moved P {D} {E} {G} {H} e g x = subst (λ F. P F H) e (subst (P D) g x)

module _ {table : List Constructor} where
  use-checked : {A : Around} {v : Kept} {d : Denotes} {e : prog.Exp} {t : Typ} {c : Choices} → UseElab table A v d e t c → KeepsInitial A.number
      → Checked table A.parameters A.known e (as_typed A t)
  use-checked {A} (use_general n {qs = qs} {b = b} ts e o h) i =
      c_variable e (are-allowed-as A.number _ qs ts h.marks h.allowed) (args-over A.number A.parameters ts o)
      (ap (type_as A.number) h.is ∙ instance-as A.number qs ts b)
  use-checked (use_plain n ts e h) i = c_variable_one e
  use-checked (use_single n e o) i = c_variable_one e
  use-checked (use_own n e o) i = c_own e
  use-checked (use_constructor c ts y us g h) i = c_con h.row h.found h.same h.over h.is
  use-checked {A} (use_reference ts a g o) i = c_ref o (ap (function_type (type_as A.number a)) (ref-kept a i))
  use-checked (use_exception x {a = a} e o) i = c_exn e (value-as a i)
  use-checked (use_given_exception x ts g e) i = c_exn e (of_name-kept exn_name i refl)
  use-checked (use_primitive q ts u g h) i = c_prim h.over h.allows h.is

  alone-checked : {A : Around} {v : Kept} {d : Denotes} {a : prog.Pat} {t : Typ} → AloneElab table A v d a t → KeepsInitial A.number
      → PatChecked table A.parameters A.known a (as_typed A t)
  alone-checked (alone_constructor c ts n us m g h) i = con_checked h
  alone-checked (alone_exception x e o) i = exn_checked e (of_name-kept exn_name i refl)
  alone-checked (alone_given_exception x ts m g e) i = exn_checked e (of_name-kept exn_name i refl)

  before-checked : {A : Around} {v : Kept} {d : Denotes} {a b : prog.Pat} {u t : Typ} → BeforeElab table A v d a b u t → KeepsInitial A.number
      → PatChecked table A.parameters A.known a (as_typed A u) → PatChecked table A.parameters A.known b (as_typed A t)
  before-checked (before_constructor c ts n us m g h o) i p = con_of_checked h o p
  before-checked (before_reference ts {u = u} m g o) i p = ref_of_checked (ref-kept u i) o p
  before-checked (before_exception x e w o) i p = exn_of_checked e (of_name-kept exn_name i refl) o p

  -- Patterns
  mutual
    pat-checked : {A : Around} {k j : ℕ} {a : bare.Pat} {b : prog.Pat} {t : Typ} {vs : Bound} {c : Choices} {r : Scope} → PatElab table A k a b t vs c r j
        → KeepsInitial A.number → PatChecked table A.parameters A.known b (as_typed A t)
    pat-checked (wild_elab p o) i = any_checked
    pat-checked (constant_elab p c) i = constant_checked (literal-checked c i)
    pat-checked (variable_elab p x n le b) i = variable_checked
    pat-checked (alone_elab p h d a) i = alone-checked a i
    pat-checked (built_elab p b ts g h) i = con_checked h
    pat-checked {A} (fields_elab p {r = r} fs n) i = fields_checked (row_as A.number (sorted r)) (row_type-as A.number (sorted r)) (pats-checked fs i) n
    pat-checked {A} (open_elab p {r = r} others fs d o) i =
        fields_checked (row_as A.number (sorted (r ++ others))) (row_type-as A.number (sorted (r ++ others))) (pats-checked fs i) refl
    pat-checked (con_elab p q h d b a) i = before-checked b i (pat-checked a i)
    pat-checked (built_con_elab p b ts g h o a) i = con_of_checked h o (pat-checked a i)
    pat-checked (typed_elab p a h) i = pat-checked a i
    pat-checked (as_elab p x n le b h a) i = as_checked (pat-checked a i)

    pats-checked : {A : Around} {whole r : Row} {k j : ℕ} {fs : bare.PatFields} {gs : prog.PatFields} {vs : Bound} {c : Choices} {q : Scope}
        → PatsElab table A whole k fs gs r vs c q j → KeepsInitial A.number → PatsChecked table A.parameters A.known gs (row_as A.number whole)
    pats-checked no_pats_elab i = no_pats_checked
    pats-checked {A} {whole} (a_pat_elab l {t = t} e o a fs) i =
        a_pat_checked (part-as A.number (same_label l) whole t e) o (pat-checked a i) (pats-checked fs i)

  -- Declarations one after the other
  joined-checked : {D : List Quantified} {G H K : Knowns} {ds es : prog.Decs} → DecsChecked table D G ds H → DecsChecked table D H es K
      → DecsChecked table D G (joined ds es) K
  joined-checked c_no_decs es = es
  joined-checked (c_val n b f ds) es = c_val n b f (joined-checked ds es)
  joined-checked (c_exception o ds) es = c_exception o (joined-checked ds es)
  joined-checked (c_exception_alone ds) es = c_exception_alone (joined-checked ds es)
  joined-checked (c_counted_dec ds) es = c_counted_dec (joined-checked ds es)

  exns-checked : {A : Around} {G G' : Knowns} {k j : ℕ} {bs : List ExBind} {ds : prog.Decs} {vs : KeptValues} {r : Scope}
      → ExnsElab A G k bs ds vs r j G' → DecsChecked table A.parameters G ds G'
  exns-checked no_exns_elab = c_no_decs
  exns-checked (new_exn_elab p x n None le h o bs) = c_exception_alone (exns-checked bs)
  exns-checked (new_exn_elab p x n (Some a) le h o bs) = c_exception (o a refl) (exns-checked bs)
  exns-checked (same_exn_elab p x q h s d bs) = exns-checked bs

  mutual
    exp-checked : {A : Around} {k : ℕ} {e : bare.Exp} {e' : prog.Exp} {t : Typ} {c : Choices} → ExpElab table A k e e' t c → KeepsInitial A.number
        → Checked table A.parameters A.known e' (as_typed A t)
    exp-checked (constant_exp_elab p c) i = c_constant (literal-checked c i)
    exp-checked (vid_elab p h d u) i = use-checked u i
    exp-checked (built_exp_elab p b ts y us g h) i = c_con h.row h.found h.same h.over h.is
    exp-checked {A} (record_elab p {r = r} fs o) i =
        c_fields (fields-checked fs i) (row_type-as A.number (sorted r) ∙ ap row_type (sorted-as A.number r))
        (ap (λ q. ascend (labels_in q)) (sym (sorted-as A.number r)) ∙ ap ascend (labels-as A.number (sorted r)) ∙ o)
    exp-checked (chain_elab b x) i = c_chain (chain-checked x i) (of_name-kept bool_name i refl)
    exp-checked {A} (let_elab p {e' = e'} {G = G} {t = t} ds e o) i =
        let n = decs-numbered ds in
        c_let G (decs-checked ds i) (subst (λ u. Checked table A.parameters G e' u) (type-agrees A.names n.agree t o) (exp-checked e (n.initial i)))
    exp-checked (case_elab p q place rs a o) i = c_case (exp-checked a i) o (rules-checked rs i)
    exp-checked (app_elab p h f a) i = c_app (exp-checked f i) (exp-checked a i) refl
    exp-checked (typed_exp_elab p e h) i = exp-checked e i
    exp-checked {A} (handle_elab p {rs' = rs'} {t = t} e rs) i =
        c_handle (exp-checked e i) (subst (λ u. RulesChecked table A.parameters A.known rs' u (as_typed A t)) (of_name-kept exn_name i refl) (rules-checked rs i))
    exp-checked (raise_elab p e o) i = c_raise (exp-checked e i) (of_name-kept exn_name i refl)
    exp-checked (fn_elab p f) i = c_fn (fun-checked f i)
    exp-checked (counted_elab n e) i = c_counted (exp-checked e i)

    fields-checked : {A : Around} {k : ℕ} {fs : bare.ExpFields} {gs : prog.Fields} {r : Row} {c : Choices} → FieldsElab table A k fs gs r c
        → KeepsInitial A.number → FieldsChecked table A.parameters A.known gs (row_as A.number r)
    fields-checked no_fields_elab i = c_no_fields
    fields-checked (a_field_elab l e fs) i = c_field (exp-checked e i) (fields-checked fs i)

    chain-checked : {A : Around} {k : ℕ} {b : Bool} {e : bare.Exp} {x : prog.Chain} {c : Choices} → ChainElab table A k b e x c → KeepsInitial A.number
        → ChainChecked table A.parameters A.known x
    chain-checked (only_elab b e) i = c_only (exp-checked e i) (of_name-kept bool_name i refl)
    chain-checked (and_elab p o a x) i = c_link (exp-checked a i) (of_name-kept bool_name i refl) (chain-checked x i)
    chain-checked (or_elab p o a x) i = c_link (exp-checked a i) (of_name-kept bool_name i refl) (chain-checked x i)

    rules-checked : {A : Around} {k : ℕ} {rs : bare.Rules} {rs' : prog.Rules} {t u : Typ} {c : Choices} → RulesElab table A k rs rs' t u c
        → KeepsInitial A.number → RulesChecked table A.parameters A.known rs' (as_typed A t) (as_typed A u)
    rules-checked no_rules_elab i = c_no_rules
    rules-checked (a_rule_elab p a d e rs) i = c_rule (pat-checked a i) (exp-checked e i) (rules-checked rs i)

    fun-checked : {A : Around} {k : ℕ} {rs : bare.Rules} {f : prog.Fun} {t u : Typ} {c : Choices} → FunElab table A k rs f t u c → KeepsInitial A.number
        → FunChecked table A.parameters A.known f (as_typed A (function_type t u))
    fun-checked (by_rules_elab place o rs) i = c_by_rules o (rules-checked rs i) refl
    fun-checked (last_elab p n le o a e) i = c_last o (exp-checked e i) refl
    fun-checked (more_elab p q n le o a f) i = c_more o (fun-checked f i) refl

    pub decs-checked : {A : Around} {k j : ℕ} {ds : bare.Decs} {ds' : prog.Decs} {made : ℕ} {number : ℕ → ℕ} {d : KeptEnv} {r : Scope} {G : Knowns}
        {c : Choices} → DecsElab table A k ds ds' made number d r G c j → KeepsInitial A.number → DecsChecked table A.parameters A.known ds' G
    decs-checked no_decs_elab i = c_no_decs
    decs-checked (a_dec_elab d ds) i = joined-checked (dec-checked d i) (decs-checked ds ((dec-numbered d).initial i))
    decs-checked (counted_decs_elab m ds) i = c_counted_dec (decs-checked ds i)

    dec-checked : {A : Around} {k j : ℕ} {d : bare.Dec} {ds : prog.Decs} {made : ℕ} {number : ℕ → ℕ} {e : KeptEnv} {r : Scope} {G : Knowns} {c : Choices}
        → DecElab table A k d ds made number e r G c j → KeepsInitial A.number → DecsChecked table A.parameters A.known ds G
    dec-checked (val_elab p q qs extra n o m g d hs fs bs) i = c_val n (binds-checked bs refl refl i) (funs-checked fs i) c_no_decs
    dec-checked (type_elab p h) i = c_no_decs
    dec-checked (datatype_elab p qs number l h e m a n b) i = c_no_decs
    dec-checked (replicate_elab p x h d) i = c_no_decs
    dec-checked (exception_elab p bs) i = exns-checked bs
    dec-checked (local_elab p ds es) i = joined-checked (decs-checked ds i) (decs-checked es ((decs-numbered ds).initial i))
    dec-checked (open_dec_elab p h d) i = c_no_decs
    dec-checked (sequence_elab p ds) i = decs-checked ds i
    dec-checked (counted_dec_elab m d) i = c_counted_dec (dec-checked d i)

    binds-checked : {A B : Around} {qs : List Quantified} {h k j : ℕ} {bs : bare.Binds} {bs' : prog.Binds} {vs : List Bound} {c : Choices} {r : Scope}
        → BindsElab table A B h k bs bs' vs c r j → B.parameters ≡ qs ++ A.parameters → B.known ≡ A.known → KeepsInitial B.number
        → BindsChecked table qs A.parameters A.known bs'
    binds-checked no_binds_elab e g i = c_no_binds
    binds-checked {A} {B} (general_elab p place {a' = a'} {e' = e'} {t = t} a x n v o bs) e g i =
        c_general v (subst (λ D. over D (as_typed B t) ≡ true) e o) (moved (λ D G. PatChecked table D G a' (as_typed B t)) e g (pat-checked a i))
        (moved (λ D G. Checked table D G e' (as_typed B t)) e g (exp-checked x i)) (binds-checked bs e g i)
    binds-checked {A} {B} (plain_elab p place {a' = a'} {e' = e'} {t = t} a x l o bs) e g i =
        c_plain o (subst (λ G. PatChecked table A.parameters G a' (as_typed B t)) g (pat-checked a i))
        (moved (λ D G. Checked table D G e' (as_typed B t)) e g (exp-checked x i)) (binds-checked bs e g i)

    funs-checked : {A : Around} {k : ℕ} {bs : bare.Binds} {fs : prog.Funs} {us : List Bound} {c : Choices} → FunsElab table A k bs fs us c
        → KeepsInitial A.number → FunsChecked table A.parameters A.known fs
    funs-checked no_funs_elab i = c_no_funs
    funs-checked (a_fun_elab p q ns h o f fs) i = c_fun o (fun-checked f i) (funs-checked fs i)
