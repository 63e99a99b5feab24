-- What elaborates has a typing, whatever the parameters in scope stand for.
use Rattle.std.proofs.Common.{◌≡◌, ℕ, ◌+◌, ◌<◌, Bool, true, false, if◌then◌else◌, List, [], ◌∷◌, ◌++◌, map, length, Option, Some, None, refl, sym, ap, subst, ◌∙◌}
use Rattle.std.specs.Prelude.{option_map, option_and_then}
use Rattle.std.specs.Option.{option_zip}
use Rattle.std.proofs.lemmas.List.{length-map}
use Rattle.mlc_base.specs.declared.place.Place.{Place}
use Rattle.ty_core.specs.Types.{Typ, var, no_variable}
use Rattle.ty_core.specs.Statics.{replace}
use Rattle.ty_core.specs.declared.env.Status.TheVariants.{Exception}
use Rattle.ty_core.specs.declared.mark.Mark.{Mark}
use Rattle.ty_core.specs.declared.scheme.Quantified.{Quantified}
use Rattle.core_elab.specs.of_ty_basis.Types.{Row, labels_in, bool_type, exn_type, function_type, row_type}
use Rattle.core_elab.specs.of_sml_tree.Terminal as term
use Rattle.core_elab.specs.of_sml_tree.declared.ident.Tyvar.{Tyvar}
use Rattle.core_elab.specs.of_sml_tree.BareTree.{Ty, ExBind, new_exn, same_exn}
use Rattle.core_elab.specs.of_sml_tree.BareTree as bare
use Rattle.core_elab.specs.of_core_rules.Words.{same_label, same_vid}
use Rattle.core_elab.specs.of_core_rules.Restrictions.{distinct}
use Rattle.core_elab.specs.of_core_rules.Objects.{sorted, monomorphic, env, no_structures, AllAllowed, long_value_in, Context, Over}
use Rattle.core_elab.specs.of_core_rules.Choices.{Choices, no_choice, both, further}
use Rattle.core_elab.specs.of_core_rules.Elaborated.{exceptions_of, exception_type, is_exception, if_exception, all_constructors}
use Rattle.core_elab.specs.of_core_rules.Eval.{all_fns}
use Rattle.core_elab.specs.of_core_rules.Initial.{built_scheme}
use Rattle.core_elab.specs.of_sml_tree.declared.ident.BuiltIn.{BuiltIn}
use Rattle.core_elab.specs.of_sml_tree.declared.ident.BuiltIn.TheVariants.{True, False}
use Rattle.core_elab.specs.of_core_rules.Typing.{all_general, Bound, bound_in, AreDistinct, constant_type, is_non_expansive, scoping, marks_of, IsInstance, settles, together, put_bound, closed, Annotated, IsChoiceOf, PatHas, PatsHave, no_field_has, field_has, wild_has, constant_has, variable_has, constructor_has, built_has, fields_has, con_has, built_con_has, typed_has, as_has, HasType, constant_exp_has, vid_has, built_exp_has, record_has, let_has, app_has, typed_exp_has, handle_has, raise_has, fn_has, HaveTypes, no_exp_field_has, exp_field_has, RulesHave, no_rule_has, rule_has, DecHas, val_has, type_has, datatype_has, replicate_has, exception_has, local_has, sequence_has, DecsHave, no_dec_has, dec_has, BindsHave, no_bind_has, bind_has}
use Rattle.core_elab.specs.of_core_rules.Typing as rules
use Rattle.core_elab.specs.Scopes.{Denotes, Scope}
use Rattle.core_elab.specs.of_ir_poly.Prog as prog
use Rattle.core_elab.specs.of_ir_poly.Types.{are_new, Constructor}
use Rattle.core_elab.specs.of_ir_poly.TestsChecked.{Knowns}
use Rattle.core_elab.proofs.of_ir_poly.ReplaceLemmas.{row_read, row_type-read}
use Rattle.elab_typed.specs.Contexts.{Kept, given, general, single, raised, value_under, KeptValues, KeptEnv, values_under, env_under, kept_values, kept_in, Around, context_under, generic, IsOver, generals, with_bound, after}
use Rattle.elab_typed.specs.Instances.{AloneElab, alone_constructor, alone_exception, alone_given_exception, BeforeElab, before_constructor, before_reference, before_exception}
use Rattle.elab_typed.specs.Elaborates.{StandsIf, PatElab, wild_elab, constant_elab, variable_elab, alone_elab, built_elab, fields_elab, open_elab, con_elab, built_con_elab, typed_elab, as_elab, PatsElab, no_pats_elab, a_pat_elab, ParameterElab, any_elab, named_elab, annotated_elab, HeadElab, head_wild, head_variable, head_typed, head_as, ExnsElab, no_exns_elab, new_exn_elab, same_exn_elab, inner, without, ExpElab, chain_elab, ChainElab, only_elab, and_elab, or_elab, constant_exp_elab, vid_elab, built_exp_elab, record_elab, let_elab, case_elab, app_elab, typed_exp_elab, handle_elab, raise_elab, fn_elab, counted_elab, FieldsElab, no_fields_elab, a_field_elab, RulesElab, no_rules_elab, a_rule_elab, FunElab, by_rules_elab, last_elab, more_elab, DecsElab, no_decs_elab, a_dec_elab, counted_decs_elab, DecElab, val_elab, type_elab, datatype_elab, replicate_elab, exception_elab, local_elab, open_dec_elab, sequence_elab, counted_dec_elab, BindsElab, no_binds_elab, general_elab, plain_elab, FunsElab, no_funs_elab, a_fun_elab}
use Rattle.elab_typed.specs.Laws.{Fits}
use Rattle.elab_typed.proofs.Under.{bound_under, plus-under, with-bound-under, with-nothing, after-under, long-under, matched-under, non-expansive-under, replicated-under, opened-under, given-under, kept-env-under, sorted-under, append-row, labels-under, bound-in-under, bound-append, over-under, over-more}
use Rattle.elab_typed.proofs.Closed.{types-bound-under, datatypes-under}
use Rattle.elab_typed.proofs.Instancing.{given-instance, single-instance, raised-instance, use-typed}
use Rattle.elab_typed.proofs.Vals.{at_types, inner-fits, without-fits, marks-same, scoping-under, closing, put-closing, closing-in, closing-append, closing-together, closed-under, bound-none}

constant-same : (s : ℕ → Typ) (c : term.Constant) → constant_type c ≡ replace s (constant_type c)
constant-same s (term.int z) = refl
constant-same s (term.word n) = refl
constant-same s (term.char n) = refl
constant-same s (term.string t) = refl

annotated : (A : Around) (s : ℕ → Typ) (o : Option Ty) (t : Typ) → StandsIf A o t → Annotated no_variable (context_under s A) o (replace s t)
annotated A s None t h = tt
annotated A s (Some ty) t h = h s

row-sorted : (s : ℕ → Typ) (r : Row) → replace s (row_type (sorted r)) ≡ row_type (sorted (row_read s r))
row-sorted s r = row_type-read s (sorted r) ∙ ap row_type (sorted-under s r)

open-sorted : (s : ℕ → Typ) (r q : Row) → replace s (row_type (sorted (r ++ q))) ≡ row_type (sorted (row_read s r ++ row_read s q))
open-sorted s r q = row-sorted s (r ++ q) ∙ ap (λ x. row_type (sorted x)) (append-row s r q)

open-labels : (s : ℕ → Typ) (r q : Row) → labels_in (row_read s r ++ row_read s q) ≡ labels_in (r ++ q)
open-labels s r q = ap labels_in (sym (append-row s r q)) ∙ labels-under s (r ++ q)

further-same : (s : ℕ → Typ) (q : Row) → labels_in (sorted (row_read s q)) ≡ labels_in (sorted q)
further-same s q = ap labels_in (sym (sorted-under s q)) ∙ labels-under s (sorted q)

-- an identifier, found
found : (s : ℕ → Typ) (A : Around) (x : term.LongVid) {v : Kept} → kept_in A.env x ≡ Some v → long_value_in (context_under s A).env x ≡ Some (value_under s v)
found s A x h = long-under s A.env x ∙ ap (option_map (value_under s)) h

module _ {table : List Constructor} where
  module _ {A : Around} (s : ℕ → Typ) (f : Fits A s) where
    alone-typed : (p : Place) (x : term.LongVid) {v : Kept} {d : Denotes} {a : prog.Pat} {t : Typ} → kept_in A.env x ≡ Some v
        → AloneElab table A v d a t → PatHas no_variable (context_under s A) (bare.vid_pat p x) (replace s t) [] no_choice
    alone-typed p x h (alone_constructor c ts n us m g k) = constructor_has p (found s A x h) m (given-instance f g)
    alone-typed p x h (alone_exception e k o) = constructor_has p (found s A x h) refl (single-instance f exn_type o)
    alone-typed p x h (alone_given_exception e ts m g k) = constructor_has p (found s A x h) m (given-instance f g)

    before-typed : (p q : Place) (x : term.LongVid) {v : Kept} {d : Denotes} {a : bare.Pat} {b b' : prog.Pat} {u t : Typ} {vs : Bound}
        {c : Choices} → kept_in A.env x ≡ Some v → BeforeElab table A v d b b' u t → PatHas no_variable (context_under s A) a (replace s u) vs c
        → PatHas no_variable (context_under s A) (bare.con_pat p q x a) (replace s t) vs c
    before-typed p q x h (before_constructor c ts n us m g k o) a = con_has p q (found s A x h) m (given-instance f g) a
    before-typed p q x h (before_reference ts m g o) a = con_has p q (found s A x h) m (given-instance f g) a
    before-typed p q x h (before_exception e {u = u} k w o) a = con_has p q (found s A x h) refl (raised-instance f (Some u) w) a

  mutual
    pat-typed : {A : Around} {k j : ℕ} {a : bare.Pat} {b : prog.Pat} {t : Typ} {vs : Bound} {c : Choices} {r : Scope} → PatElab table A k a b t vs c r j
        → (s : ℕ → Typ) → Fits A s → PatHas no_variable (context_under s A) a (replace s t) (bound_under s vs) c
    pat-typed {A} (wild_elab p {t = t} o) s f = wild_has p (over-under A.names s f.over t o)
    pat-typed {A} (constant_elab p c) s f =
        subst (λ t. PatHas no_variable (context_under s A) (bare.constant_pat p c) t [] no_choice) (constant-same s c) (constant_has p c)
    pat-typed {A} (variable_elab p x n {t = t} le b) s f = variable_has p (matched-under s A.env x ∙ b.unmatched) b.unkept (over-under A.names s f.over t b.over)
    pat-typed (alone_elab p {x = x} h d a) s f = alone-typed s f p x h a
    pat-typed (built_elab p b ts g h) s f = built_has p (given-instance f g)
    pat-typed (fields_elab p {r = r} fs n) s f = fields_has p (pats-typed fs s f) (row-sorted s r)
    pat-typed {A} (open_elab p {fs = fs} {r = r} others {vs = vs} {c = c} ps d o) s f =
        subst (λ ls. PatHas no_variable (context_under s A) (bare.fields_pat p fs true) (replace s (row_type (sorted (r ++ others)))) (bound_under s vs)
        (both c (further ls))) (further-same s others)
        (rules.open_has p (row_read s others) (pats-typed ps s f) (ap (distinct same_label) (open-labels s r others) ∙ d) (open-sorted s r others)
        (over-under A.names s f.over (row_type (sorted (r ++ others))) o))
    pat-typed (con_elab p q {x = x} h d b a) s f = before-typed s f p q x h b (pat-typed a s f)
    pat-typed (built_con_elab p b ts g h o a) s f = built_con_has p (given-instance f g) (pat-typed a s f)
    pat-typed (typed_elab p a h) s f = typed_has p (pat-typed a s f) (h s)
    pat-typed {A} (as_elab p x n {ty = ty} {t = t} le b h a) s f =
        as_has p (matched-under s A.env x ∙ b.unmatched) b.unkept (annotated A s ty t h) (pat-typed a s f)

    pats-typed : {A : Around} {whole r : Row} {k j : ℕ} {fs : bare.PatFields} {gs : prog.PatFields} {vs : Bound} {c : Choices} {q : Scope}
        → PatsElab table A whole k fs gs r vs c q j → (s : ℕ → Typ) → Fits A s
        → PatsHave no_variable (context_under s A) fs (row_read s r) (bound_under s vs) c
    pats-typed no_pats_elab s f = no_field_has
    pats-typed {A} (a_pat_elab l {a = a} {fs = fs} {t = t} {r = r} {vs = vs} {us = us} {c = c} {d = d} e o x xs) s f =
        subst (λ ws. PatsHave no_variable (context_under s A) (bare.pat_field l a fs) ((l, replace s t) ∷ row_read s r) ws (both c d)) (sym (bound-append s vs us))
        (field_has l (pat-typed x s f) (pats-typed xs s f))

-- a parameter's pattern binds one variable at most
parameter-distinct : {A : Around} {n : ℕ} {a : bare.Pat} {t : Typ} {vs : Bound} {r : Scope} → ParameterElab A n a t vs r → AreDistinct (bound_in vs)
parameter-distinct (any_elab p o) = refl
parameter-distinct (named_elab p x b) = refl
parameter-distinct (annotated_elab p a h) = parameter-distinct a

parameter-typed : {A : Around} {n : ℕ} {a : bare.Pat} {t : Typ} {vs : Bound} {r : Scope} → ParameterElab A n a t vs r → (s : ℕ → Typ) → Fits A s
    → PatHas no_variable (context_under s A) a (replace s t) (bound_under s vs) no_choice
parameter-typed {A} (any_elab p {t = t} o) s f = wild_has p (over-under A.names s f.over t o)
parameter-typed {A} (named_elab p x {t = t} b) s f = variable_has p (matched-under s A.env x ∙ b.unmatched) b.unkept (over-under A.names s f.over t b.over)
parameter-typed (annotated_elab p a h) s f = typed_has p (parameter-typed a s f) (h s)

head-typed : {A : Around} {a : bare.Pat} {t : Typ} {vs : Bound} → HeadElab A a t vs → (s : ℕ → Typ) → Fits A s
    → PatHas no_variable (context_under s A) a (replace s t) (bound_under s vs) no_choice
head-typed {A} (head_wild p {t = t} o) s f = wild_has p (over-under A.names s f.over t o)
head-typed {A} (head_variable p x {t = t} m u o) s f = variable_has p (matched-under s A.env x ∙ m) u (over-under A.names s f.over t o)
head-typed (head_typed p a h) s f = typed_has p (head-typed a s f) (h s)
head-typed {A} (head_as p x {ty = ty} {t = t} m u h a) s f = as_has p (matched-under s A.env x ∙ m) u (annotated A s ty t h) (head-typed a s f)

under-distinct : (s : ℕ → Typ) (vs : Bound) → AreDistinct (bound_in vs) → AreDistinct (bound_in (bound_under s vs))
under-distinct s vs d = ap (distinct same_vid) (bound-in-under s vs) ∙ d

-- Exceptions

status-same : (s : ℕ → Typ) (v : Kept) → is_exception (value_under var v).status ≡ true → if_exception (value_under s v) ≡ Some (value_under s v)
status-same s (given v) h = ap (λ b. if b then Some v else None) h
status-same s (general qs t) h = absurd (cc)
status-same s (single t) h = absurd (cc)
status-same s (raised a) h = refl

exns-typed : {A : Around} {G G' : Knowns} {k j : ℕ} {bs : List ExBind} {ds : prog.Decs} {vs : KeptValues} {r : Scope} → ExnsElab A G k bs ds vs r j G'
    → (s : ℕ → Typ) → exceptions_of (context_under s A) bs ≡ Some (values_under s vs)
exns-typed no_exns_elab s = refl
exns-typed {A} (new_exn_elab p x n a {t = t} le h o bs) s =
    λ i. option_map (λ r. (x, record { scheme = monomorphic (exception_type r.0); status = Exception }) ∷ r.1)
    (option_zip (h s i) (exns-typed bs s i))
exns-typed {A} (same_exn_elab p x q {y = y} {v = v} h k d bs) s =
    λ i. option_map (λ r. (x, r.0) ∷ r.1)
    (option_zip ((ap (option_and_then if_exception) (found s A y h) ∙ status-same s v k) i) (exns-typed bs s i))

fits-after : {A : Around} {s : ℕ → Typ} → Fits A s → (made : ℕ) (number : ℕ → ℕ) (d : KeptEnv) (r : Scope) (G : Knowns) → Fits (after A made number d r G) s
fits-after {A} {s} f made number d r G = record { admits = f.admits; over = λ v. over-more A.names made (s v) (f.over v) }

fits-bound : {A : Around} {s : ℕ → Typ} → Fits A s → (vs : Bound) (r : Scope) (G : Knowns) → Fits (with_bound A vs r G) s
fits-bound f vs r G = record { admits = f.admits; over = f.over }

-- truth values
of-bool : (c : Context) (b : BuiltIn) → built_scheme b ≡ monomorphic bool_type → Over c.names bool_type → IsInstance no_variable c (built_scheme b) bool_type no_choice
of-bool c b e o = subst (λ z. IsInstance no_variable c z bool_type no_choice) (sym e) (record { types = λ i. exn_type; allowed = tt; over = o; is = refl; chosen = refl })

truth : (A : Around) (s : ℕ → Typ) → Over A.names bool_type → IsInstance no_variable (context_under s A) (built_scheme True) bool_type no_choice
truth A s o = of-bool (context_under s A) True refl o

falsehood : (A : Around) (s : ℕ → Typ) → Over A.names bool_type → IsInstance no_variable (context_under s A) (built_scheme False) bool_type no_choice
falsehood A s o = of-bool (context_under s A) False refl o

truth-after : (A : Around) (s : ℕ → Typ) → Over A.names bool_type → IsInstance no_variable (rules.with_bound (context_under s A) []) (built_scheme True) bool_type no_choice
truth-after A s o = of-bool (rules.with_bound (context_under s A) []) True refl o

falsehood-after : (A : Around) (s : ℕ → Typ) → Over A.names bool_type
    → IsInstance no_variable (rules.with_bound (context_under s A) []) (built_scheme False) bool_type no_choice
falsehood-after A s o = of-bool (rules.with_bound (context_under s A) []) False refl o

never : {A : Type 0} → true ≡ false → A
never e = absurd (cc)

-- a `val` declaration, where its bindings have types at all types of its parameters
val-typed : {A : Around} (p q : Place) {as_ : List Tyvar} (qs : List Quantified) (extra : List Mark) {bs rs : bare.Binds} (vs us : List Bound) (c d : Choices)
    (h : Scope) (G : Knowns) → are_new qs A.parameters ≡ true → IsOver A → map (λ q. q.mark) qs ≡ marks_of (generic A) as_ bs rs extra → all_general extra ≡ true
    → AreDistinct (bound_in (together vs ++ together us)) → all_fns rs ≡ true → (s : ℕ → Typ) → Fits A s
    → ((r : ℕ → Typ) → Fits (inner A as_ bs rs qs) (at_types r qs s) → Fits (without (inner A as_ bs rs qs) A.parameters) (at_types r qs s)
    → BindsHave no_variable (context_under (at_types r qs s) (inner A as_ bs rs qs)) (length qs) r bs (map (closing s qs) vs) c)
    → ((r : ℕ → Typ) → Fits (with_bound (inner A as_ bs rs qs) (together us) h G) (at_types r qs s)
    → BindsHave no_variable (context_under (at_types r qs s) (with_bound (inner A as_ bs rs qs) (together us) h G)) (length qs) r rs (map (closing s qs) us) d)
    → DecHas no_variable (context_under s A) (bare.val_dec p q as_ bs rs) 0 (env_under s (kept_values (generals qs (together vs ++ together us)))) (both c d)
val-typed {A} p q {as_} qs extra {bs} {rs} vs us c d h G new over e g apart fns s f first second =
    let C : Context = context_under s A in
    let marks : List Mark = marks_of C as_ bs rs extra in
    let m : map (λ q. q.mark) qs ≡ marks = e ∙ sym (marks-same s A as_ bs rs extra) in
    let count : length qs ≡ length marks = sym (length-map qs (λ q. q.mark)) ∙ ap length m in
    let allowed : (r : ℕ → Typ) → IsChoiceOf no_variable C marks r → AllAllowed no_variable r 0 (map (λ q. q.mark) qs) =
    λ r i. subst (λ z. AllAllowed no_variable r 0 z) (sym m) i.allowed in
    let few : (r : ℕ → Typ) → IsChoiceOf no_variable C marks r → (v : ℕ) → v < length qs → Over A.names (r v) =
    λ r i v l. i.over v (subst (λ z. v < z) count l) in
    let fits : (r : ℕ → Typ) → IsChoiceOf no_variable C marks r → Fits (inner A as_ bs rs qs) (at_types r qs s) =
    λ r i. inner-fits A s f qs new r (allowed r i) (few r i) as_ bs rs in
    let scoped : (r : ℕ → Typ) → scoping C as_ bs rs r ≡ context_under (at_types r qs s) (inner A as_ bs rs qs) = scoping-under A s f as_ bs rs extra qs new over e in
    let bound : closing s qs (together vs ++ together us) ≡ together (map (closing s qs) vs) ++ together (map (closing s qs) us) =
    sym (closing-append s qs (together vs) (together us)) ∙ (λ i. sym (closing-together s qs vs) i ++ sym (closing-together s qs us) i) in
    subst (λ z. DecHas no_variable C (bare.val_dec p q as_ bs rs) 0 z (both c d))
    (ap (closed marks) (sym bound) ∙ closed-under s qs marks (together vs ++ together us) m)
    (val_has p q extra g fns
    (ap (distinct same_vid) (ap bound_in (sym bound) ∙ closing-in s qs (together vs ++ together us)) ∙ apart)
    (λ r i. subst (λ z. BindsHave no_variable (scoping C as_ bs rs r) z r bs (map (closing s qs) vs) c) count
    (subst (λ z. BindsHave no_variable z (length qs) r bs (map (closing s qs) vs) c) (sym (scoped r))
    (first r (fits r i) (without-fits A s f qs new r (allowed r i) (few r i) as_ bs rs))))
    (λ r i. subst (λ z. BindsHave no_variable (rules.with_bound (scoping C as_ bs rs r) (put_bound z r (together (map (closing s qs) us)))) z r rs (map (closing s qs) us) d) count
    (subst (λ z. BindsHave no_variable z (length qs) r rs (map (closing s qs) us) d)
    (sym ((λ k. rules.with_bound (scoped r k) ((ap (put_bound (length qs) r) (closing-together s qs us) ∙ put-closing s r qs (together us)) k))
    ∙ with-bound-under (at_types r qs s) (inner A as_ bs rs qs) (together us) h G))
    (second r (fits-bound (fits r i) (together us) h G)))))

module _ {table : List Constructor} where
  all-functions : {A : Around} {k : ℕ} {bs : bare.Binds} {fs : prog.Funs} {us : List Bound} {c : Choices} → FunsElab table A k bs fs us c → all_fns bs ≡ true
  all-functions no_funs_elab = refl
  all-functions (a_fun_elab p q ns h o f fs) = all-functions fs

  mutual
    exp-typed : {A : Around} {k : ℕ} {e : bare.Exp} {e' : prog.Exp} {t : Typ} {c : Choices} → ExpElab table A k e e' t c → (s : ℕ → Typ) → Fits A s
        → HasType no_variable (context_under s A) e (replace s t) c
    exp-typed {A} (constant_exp_elab p c) s f =
        subst (λ t. HasType no_variable (context_under s A) (bare.constant_exp p c) t no_choice) (constant-same s c) (constant_exp_has p c)
    exp-typed {A} (vid_elab p {x = x} h d u) s f = vid_has p (found s A x h) (use-typed f u)
    exp-typed (built_exp_elab p b ts y us g h) s f = built_exp_has p (given-instance f g)
    exp-typed (record_elab p {r = r} fs o) s f = record_has p (fields-typed fs s f) (row-sorted s r)
    exp-typed (chain_elab b x) s f = chain-typed x s f
    exp-typed {A} (let_elab p {e = e} {made = made} {number = number} {d = d} {r = r} {G = G} {t = t} {b = b} ds x o) s f =
        let_has p (decs-typed ds s f)
        (subst (λ c. HasType no_variable c e (replace s t) b) (sym (after-under s A made number d r G)) (exp-typed x s (fits-after f made number d r G)))
        (over-under A.names s f.over t o)
    exp-typed (case_elab p q place rs a o) s f = app_has p (fn_has q (rules-typed rs s f)) (exp-typed a s f)
    exp-typed (app_elab p h x a) s f = app_has p (exp-typed x s f) (exp-typed a s f)
    exp-typed (typed_exp_elab p e h) s f = typed_exp_has p (exp-typed e s f) (h s)
    exp-typed (handle_elab p e rs) s f = handle_has p (exp-typed e s f) (rules-typed rs s f)
    exp-typed {A} (raise_elab p {t = t} e o) s f = raise_has p (exp-typed e s f) (over-under A.names s f.over t o)
    exp-typed (fn_elab p x) s f = fn_has p (fun-typed x s f)
    exp-typed (counted_elab n e) s f = exp-typed e s f

    fields-typed : {A : Around} {k : ℕ} {fs : bare.ExpFields} {gs : prog.Fields} {r : Row} {c : Choices} → FieldsElab table A k fs gs r c
        → (s : ℕ → Typ) → Fits A s → HaveTypes no_variable (context_under s A) fs (row_read s r) c
    fields-typed no_fields_elab s f = no_exp_field_has
    fields-typed (a_field_elab l e fs) s f = exp_field_has l (exp-typed e s f) (fields-typed fs s f)

    chain-typed : {A : Around} {k : ℕ} {b : Bool} {e : bare.Exp} {x : prog.Chain} {c : Choices} → ChainElab table A k b e x c → (s : ℕ → Typ) → Fits A s
        → HasType no_variable (context_under s A) e bool_type c
    chain-typed (only_elab b e) s f = exp-typed e s f
    chain-typed {A} (and_elab p {e = e} {d = d} o a x) s f =
        app_has p (fn_has p (rule_has p (built_has p (truth A s o)) refl (subst (λ z. HasType no_variable z e bool_type d) (sym (with-nothing s A)) (chain-typed x s f))
        (rule_has p (built_has p (falsehood A s o)) refl (built_exp_has p (falsehood-after A s o)) no_rule_has))) (exp-typed a s f)
    chain-typed {A} (or_elab p {e = e} {d = d} o a x) s f =
        app_has p (fn_has p (rule_has p (built_has p (truth A s o)) refl (built_exp_has p (truth-after A s o))
        (rule_has p (built_has p (falsehood A s o)) refl (subst (λ z. HasType no_variable z e bool_type d) (sym (with-nothing s A)) (chain-typed x s f)) no_rule_has)))
        (exp-typed a s f)

    rules-typed : {A : Around} {k : ℕ} {rs : bare.Rules} {rs' : prog.Rules} {t u : Typ} {c : Choices} → RulesElab table A k rs rs' t u c
        → (s : ℕ → Typ) → Fits A s → RulesHave no_variable (context_under s A) rs (replace s t) (replace s u) c
    rules-typed no_rules_elab s f = no_rule_has
    rules-typed {A} (a_rule_elab p {e = e} {u = u} {vs = vs} {d = d} {r = r} a n x rs) s f =
        rule_has p (pat-typed a s f) (under-distinct s vs n)
        (subst (λ c. HasType no_variable c e (replace s u) d) (sym (with-bound-under s A vs r A.known)) (exp-typed x s (fits-bound f vs r _))) (rules-typed rs s f)

    fun-typed : {A : Around} {k : ℕ} {rs : bare.Rules} {x : prog.Fun} {t u : Typ} {c : Choices} → FunElab table A k rs x t u c → (s : ℕ → Typ) → Fits A s
        → RulesHave no_variable (context_under s A) rs (replace s t) (replace s u) c
    fun-typed (by_rules_elab place o rs) s f = rules-typed rs s f
    fun-typed {A} (last_elab p n {e = e} {u = u} {vs = vs} {c = c} {r = r} le o a x) s f =
        rule_has p (parameter-typed a s f) (under-distinct s vs (parameter-distinct a))
        (subst (λ z. HasType no_variable z e (replace s u) c) (sym (with-bound-under s A vs r A.known)) (exp-typed x s (fits-bound f vs r _))) no_rule_has
    fun-typed {A} (more_elab p q n {rs = rs} {u = u} {v = v} {vs = vs} {c = c} {r = r} le o a x) s f =
        rule_has p (parameter-typed a s f) (under-distinct s vs (parameter-distinct a))
        (subst (λ z. HasType no_variable z (bare.fn q rs) (replace s (function_type u v)) c) (sym (with-bound-under s A vs r A.known))
        (fn_has q (fun-typed x s (fits-bound f vs r _)))) no_rule_has

    pub decs-typed : {A : Around} {k j : ℕ} {ds : bare.Decs} {ds' : prog.Decs} {made : ℕ} {number : ℕ → ℕ} {d : KeptEnv} {r : Scope} {G : Knowns}
        {c : Choices} → DecsElab table A k ds ds' made number d r G c j → (s : ℕ → Typ) → Fits A s
        → DecsHave no_variable (context_under s A) ds made (env_under s d) c
    decs-typed no_decs_elab s f = no_dec_has
    decs-typed {A} (a_dec_elab {d = d} {ds = ds} {n = n} {n' = n'} {number = number} {e = e} {e' = e'} {r = r} {G = G} {c = c} {c' = c'} x xs) s f =
        subst (λ z. DecsHave no_variable (context_under s A) (bare.dec d ds) (n + n') z (both c c')) (plus-under s e e')
        (dec_has (dec-typed x s f)
        (subst (λ z. DecsHave no_variable z ds n' (env_under s e') c') (sym (after-under s A n number e r G)) (decs-typed xs s (fits-after f n number e r G))))
    decs-typed (counted_decs_elab m ds) s f = decs-typed ds s f

    dec-typed : {A : Around} {k j : ℕ} {d : bare.Dec} {ds : prog.Decs} {made : ℕ} {number : ℕ → ℕ} {e : KeptEnv} {r : Scope} {G : Knowns} {c : Choices}
        → DecElab table A k d ds made number e r G c j → (s : ℕ → Typ) → Fits A s → DecHas no_variable (context_under s A) d made (env_under s e) c
    dec-typed {A} (val_elab p q {as_ = as_} qs extra {bs = bs} {rs = rs} {vs = vs} {us = us} {c = c} {d = d} {f = h} new over e g apart hs xs ys) s f =
        val-typed p q qs extra vs us c d h _ new over e g apart (all-functions xs) s f
        (λ r i i'. binds-typed qs ys s new refl r i i') (λ r i. funs-typed xs s qs r i)
    dec-typed {A} (type_elab p {bs = bs} h) s f = type_has p (types-bound-under s A bs ∙ h)
    dec-typed {A} (datatype_elab p {bs = bs} {ts = ts} qs number l h e m a i b) s f =
        subst (λ vs. DecHas no_variable (context_under s A) (bare.datatype_dec p bs) (length bs) (env vs ts no_structures) no_choice)
        (sym (given-under s (all_constructors ts))) (datatype_has p qs l (datatypes-under s A qs bs ∙ h) e (λ qs' ts' k d. m qs' ts' k (sym (datatypes-under s A qs' bs) ∙ d)))
    dec-typed {A} (replicate_elab p x {y = y} {v = v} h i) s f =
        subst (λ vs. DecHas no_variable (context_under s A) (bare.replicate_dec p x y) 0 (env vs ((x, v) ∷ []) no_structures) no_choice)
        (sym (given-under s v.constructors)) (replicate_has p (replicated-under s A.env y ∙ h))
    dec-typed (exception_elab p bs) s f = exception_has p (exns-typed bs s)
    dec-typed {A} (local_elab p {es = es} {n = n} {n' = n'} {number = number} {e = e} {e' = e'} {r = r} {G = G} {c' = c'} ds xs) s f =
        local_has p (decs-typed ds s f)
        (subst (λ z. DecsHave no_variable z es n' (env_under s e') c') (sym (after-under s A n number e r G)) (decs-typed xs s (fits-after f n number e r G)))
    dec-typed {A} (open_dec_elab p {xs = xs} {e = e} h i) s f =
        subst (λ z. DecHas no_variable (context_under s A) (bare.open_dec p xs) 0 z no_choice) (sym (kept-env-under s e))
        (rules.open_has p (opened-under s A.env xs ∙ h))
    dec-typed (sequence_elab p ds) s f = sequence_has p (decs-typed ds s f)
    dec-typed (counted_dec_elab m d) s f = dec-typed d s f

    -- at the types g of inside, where B is inside
    binds-typed : {A B : Around} (qs : List Quantified) {h k j : ℕ} {bs : bare.Binds} {bs' : prog.Binds} {vs : List Bound} {c : Choices} {o : Scope}
        → BindsElab table A B h k bs bs' vs c o j → (s : ℕ → Typ) → are_new qs A.parameters ≡ true → B.env ≡ A.env → (r : ℕ → Typ)
        → Fits B (at_types r qs s) → Fits (without B A.parameters) (at_types r qs s)
        → BindsHave no_variable (context_under (at_types r qs s) B) (length qs) r bs (map (closing s qs) vs) c
    binds-typed qs no_binds_elab s new w r f f' = no_bind_has
    binds-typed {A} {B} qs (general_elab p place {a = a} {e = e} {bs = bs} {v = v} {vs = vs} {c = c} {d = d} {b = b} x y n i o rest) s new w r f f' =
        let g : ℕ → Typ = at_types r qs s in
        let same : is_non_expansive (env_under g B.env) e ≡ true = ap (λ z. is_non_expansive (env_under g z) e) w ∙ non-expansive-under g A.env e ∙ n in
        subst (λ z. BindsHave no_variable (context_under g B) (length qs) r (bare.bind p a e bs) (closing s qs v ∷ map (closing s qs) vs) (both (settles z (both c d)) b))
        same
        (bind_has p (pat-typed x g f) (sym (put-closing s r qs v)) (exp-typed y g f) (λ z. never (sym same ∙ z)) (binds-typed qs rest s new w r f f'))
    binds-typed {A} {B} qs (plain_elab p place {a = a} {e = e} {bs = bs} {v = v} {vs = vs} {c = c} {d = d} {b = b} x y l o rest) s new w r f f' =
        let g : ℕ → Typ = at_types r qs s in
        let same : is_non_expansive (env_under g B.env) e ≡ is_non_expansive (env_under var A.env) e =
        ap (λ z. is_non_expansive (env_under g z) e) w ∙ non-expansive-under g A.env e in
        subst (λ z. BindsHave no_variable (context_under g B) (length qs) r (bare.bind p a e bs) (closing s qs v ∷ map (closing s qs) vs) (both (settles z (both c d)) b))
        same
        (bind_has p (pat-typed x g f') (sym (put-closing s r qs v)) (exp-typed y g f) (λ z. bound-none qs A.parameters new s v l)
        (binds-typed qs rest s new w r f f'))

    funs-typed : {A : Around} {k : ℕ} {bs : bare.Binds} {fs : prog.Funs} {us : List Bound} {c : Choices} → FunsElab table A k bs fs us c → (s : ℕ → Typ)
        (qs : List Quantified) (r : ℕ → Typ) → Fits A (at_types r qs s)
        → BindsHave no_variable (context_under (at_types r qs s) A) (length qs) r bs (map (closing s qs) us) c
    funs-typed no_funs_elab s qs r f = no_bind_has
    funs-typed (a_fun_elab p q ns {v = v} h o x fs) s qs r f =
        bind_has p (head-typed h (at_types r qs s) f) (sym (put-closing s r qs v)) (fn_has q (fun-typed x (at_types r qs s) f)) (λ z. never z)
        (funs-typed fs s qs r f)
