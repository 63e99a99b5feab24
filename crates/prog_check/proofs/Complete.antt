-- What the rules of typing allow is answered by yes.
use Rattle.std.proofs.Common.{◌≡◌, Bool, true, ◌&&◌, List, length, Some, None, refl, sym, ap, subst, ◌∙◌}
use Rattle.std.proofs.lemmas.Bool.{and_from}
use Rattle.mlc_names.specs.declared.label.Label.{Label}
use Rattle.ty_core.specs.Types.{Typ}
use Rattle.ty_core.specs.declared.scheme.Quantified.{Quantified}
use Rattle.ir_poly.specs.Prog.{Pat, PatFields, Exp, type_of, Fields, Chain, Rules, Fun, Decs, Binds, Funs, fields_pat}
use Rattle.ir_poly.specs.ProgMeaning.{size_of}
use Rattle.ir_poly.specs.ProgChecked.{PatChecked, any_checked, variable_checked, constant_checked, con_checked, con_of_checked, ref_of_checked, exn_checked, exn_of_checked, fields_checked, as_checked, PatsChecked, no_pats_checked, a_pat_checked, Checked, c_constant, c_variable, c_variable_one, c_own, c_con, c_ref, c_exn, c_prim, c_fields, c_let, c_app, c_case, c_chain, c_handle, c_raise, c_fn, c_counted, FieldsChecked, c_no_fields, c_field, ChainChecked, c_only, c_link, RulesChecked, c_no_rules, c_rule, FunChecked, c_last, c_by_rules, c_more, DecsChecked, c_no_decs, c_val, c_exception, c_exception_alone, c_counted_dec, BindsChecked, c_no_binds, c_general, c_plain, FunsChecked, c_no_funs, c_fun}
use Rattle.ir_poly.specs.Types.{Constructor, function_type, row_type, labels_in, ascend, sorted, over, admits_in, prim_type}
use Rattle.ir_poly.specs.TestsChecked.{Knowns, is_size}
use Rattle.prog_check.specs.Deciding.{row_in}
use Rattle.prog_check.specs.Checking.{decs_onto, row_of, fun_type, check_pat, check_pats, check_exp, check_fields, check_chain, check_rules, check_fun, check_decs, check_binds, check_funs}
use Rattle.prog_check.proofs.SameLemmas.{same-name, same-since, same-option-since}
use Rattle.prog_check.proofs.DecidingLemmas.{literal-complete, row-complete, takes-complete, constructor-complete, exc-complete, allows-complete, are-allowed-complete}

-- An expression has the type that it has written.

said : {table : List Constructor} {D : List Quantified} {G : Knowns} {e : Exp} {t : Typ} → Checked table D G e t → t ≡ type_of e
said (c_constant h) = refl
said (c_variable e a o h) = refl
said (c_variable_one e) = refl
said (c_own e) = refl
said (c_con k f s o h) = refl
said (c_ref o h) = refl
said (c_exn x h) = refl
said (c_prim o a h) = refl
said (c_fields fs h a) = refl
said (c_let G' ds e) = refl
said (c_app f a h) = refl
said (c_case e o rs) = refl
said (c_chain c h) = refl
said (c_handle e rs) = refl
said (c_raise e h) = refl
said (c_fn f) = refl
said (c_counted e) = refl

row-said : {table : List Constructor} {D : List Quantified} {G : Knowns} {fs : Fields} {r : List (Label × Typ)} → FieldsChecked table D G fs r → r ≡ row_of fs
row-said c_no_fields = refl
row-said (c_field {l = l} e fs) = rw (said e, row-said fs) refl

fun-said : {table : List Constructor} {D : List Quantified} {G : Knowns} {f : Fun} {t : Typ} → FunChecked table D G f t → t ≡ fun_type f
fun-said (c_last {a = a} o e h) = h ∙ ap (function_type a) (said e)
fun-said (c_by_rules o rs h) = h
fun-said (c_more {a = a} o f h) = h ∙ ap (function_type a) (fun-said f)

-- what is known after declarations is determined
pub decs-after : {table : List Constructor} {D : List Quantified} {G G' : Knowns} {ds : Decs} → DecsChecked table D G ds G' → G' ≡ decs_onto ds G
decs-after c_no_decs = refl
decs-after (c_val n bs fs ds) = decs-after ds
decs-after (c_exception o ds) = decs-after ds
decs-after (c_exception_alone ds) = decs-after ds
decs-after (c_counted_dec ds) = decs-after ds

row-asked : (table : List Constructor) (D : List Quantified) (G : Knowns) (further : Bool) (ps : PatFields) (t : Typ) (r : List (Label × Typ)) → row_in t ≡ Some r
    → (check_pats table D G ps r && is_size (size_of further ps) (length r)) ≡ true → check_pat table D G (fields_pat further ps) t ≡ true
row-asked table D G further ps t r e h = rw e h

module _ {table : List Constructor} where
  mutual
    pat-complete : {D : List Quantified} {G : Knowns} {p : Pat} {t : Typ} → PatChecked table D G p t → check_pat table D G p t ≡ true
    pat-complete any_checked = refl
    pat-complete variable_checked = refl
    pat-complete (constant_checked h) = literal-complete h
    pat-complete (con_checked h) = takes-complete None _ (constructor-complete h)
    pat-complete (con_of_checked {a = a} h o p) = and_from _ _ (takes-complete (Some a) _ (constructor-complete h)) (and_from _ _ o (pat-complete p))
    pat-complete (ref_of_checked e o p) = and_from _ _ (same-since e) (and_from _ _ o (pat-complete p))
    pat-complete (exn_checked x e) = and_from _ _ (takes-complete None _ (exc-complete x)) (same-since e)
    pat-complete (exn_of_checked {a = a} x e o p) = and_from _ _ (takes-complete (Some a) _ (exc-complete x)) (and_from _ _ (same-since e) (and_from _ _ o (pat-complete p)))
    pat-complete {D = D} {G = G} (fields_checked {further = further} {ps = ps} {t = t} r e qs n) = row-asked table D G further ps t r (row-complete t r e) (and_from _ _ (pats-complete qs) n)
    pat-complete (as_checked p) = pat-complete p

    pats-complete : {D : List Quantified} {G : Knowns} {ps : PatFields} {r : List (Label × Typ)} → PatsChecked table D G ps r → check_pats table D G ps r ≡ true
    pats-complete no_pats_checked = refl
    pats-complete (a_pat_checked e o p ps) = and_from _ _ (same-option-since e) (and_from _ _ o (and_from _ _ (pat-complete p) (pats-complete ps)))

  mutual
    pub exp-complete : {D : List Quantified} {G : Knowns} {e : Exp} {t : Typ} → Checked table D G e t → check_exp table D G e ≡ true
    exp-complete (c_constant h) = literal-complete h
    exp-complete (c_variable {D = D} {qs = qs} {ts = ts} e al o h) = rw e (and_from _ _ (are-allowed-complete (admits_in D) qs ts al) (and_from _ _ o (same-since h)))
    exp-complete (c_variable_one {t = t} e) = rw e (same-since {t = t} {u = t} refl)
    exp-complete (c_own {t = t} e) = rw e (same-since {t = t} {u = t} refl)
    exp-complete (c_con {y = y} k e n o h) = rw e (rw n (and_from _ _ (same-name y) (and_from _ _ o (same-since h))))
    exp-complete (c_ref o h) = and_from _ _ o (same-since h)
    exp-complete (c_exn x h) = rw (exc-complete x) (same-since h)
    exp-complete (c_prim {D = D} {p = p} {u = u} o al e) = and_from _ _ o (and_from _ _ (allows-complete (prim_type p).mark (admits_in D) u al) (same-since e))
    exp-complete (c_fields fs h a) = and_from _ _ (fields-complete fs) (and_from _ _ (subst (λ r. ascend (labels_in (sorted r)) ≡ true) (row-said fs) a) (same-since (h ∙ ap (λ r. row_type (sorted r)) (row-said fs))))
    exp-complete {D = D} (c_let G' {ds = ds} {e = e} d h) = and_from _ _ (decs-complete d) (and_from _ _ (subst (λ H. check_exp table D H e ≡ true) (decs-after d) (exp-complete h)) (same-since (sym (said h))))
    exp-complete (c_app {t = t} f a h) = and_from _ _ (exp-complete f) (and_from _ _ (exp-complete a) (same-since (sym (said f) ∙ (h ∙ ap (λ v. function_type v t) (said a)))))
    exp-complete {D = D} {G = G} (c_case {rs = rules} {t = t} e o rs) =
        and_from _ _ (exp-complete e) (and_from _ _ (subst (λ u. over D u ≡ true) (said e) o) (subst (λ u. check_rules table D G rules u t ≡ true) (said e) (rules-complete rs)))
    exp-complete (c_chain c h) = and_from _ _ (chain-complete c) (same-since h)
    exp-complete (c_handle e rs) = and_from _ _ (exp-complete e) (and_from _ _ (same-since (sym (said e))) (rules-complete rs))
    exp-complete (c_raise e h) = and_from _ _ (exp-complete e) (same-since (sym (said e) ∙ h))
    exp-complete (c_fn f) = and_from _ _ (fun-complete f) (same-since (fun-said f))
    exp-complete (c_counted e) = and_from _ _ (exp-complete e) (same-since (sym (said e)))

    fields-complete : {D : List Quantified} {G : Knowns} {fs : Fields} {r : List (Label × Typ)} → FieldsChecked table D G fs r → check_fields table D G fs ≡ true
    fields-complete c_no_fields = refl
    fields-complete (c_field e fs) = and_from _ _ (exp-complete e) (fields-complete fs)

    chain-complete : {D : List Quantified} {G : Knowns} {c : Chain} → ChainChecked table D G c → check_chain table D G c ≡ true
    chain-complete (c_only e h) = and_from _ _ (exp-complete e) (same-since (sym (said e) ∙ h))
    chain-complete (c_link e h c) = and_from _ _ (exp-complete e) (and_from _ _ (same-since (sym (said e) ∙ h)) (chain-complete c))

    rules-complete : {D : List Quantified} {G : Knowns} {rs : Rules} {u t : Typ} → RulesChecked table D G rs u t → check_rules table D G rs u t ≡ true
    rules-complete c_no_rules = refl
    rules-complete (c_rule p e rs) = and_from _ _ (pat-complete p) (and_from _ _ (exp-complete e) (and_from _ _ (same-since (sym (said e))) (rules-complete rs)))

    fun-complete : {D : List Quantified} {G : Knowns} {f : Fun} {t : Typ} → FunChecked table D G f t → check_fun table D G f ≡ true
    fun-complete (c_last o e h) = and_from _ _ o (exp-complete e)
    fun-complete (c_by_rules o rs h) = and_from _ _ o (rules-complete rs)
    fun-complete (c_more o f h) = and_from _ _ o (fun-complete f)

    pub decs-complete : {D : List Quantified} {G G' : Knowns} {ds : Decs} → DecsChecked table D G ds G' → check_decs table D G ds ≡ true
    decs-complete c_no_decs = refl
    decs-complete (c_val n bs fs ds) = and_from _ _ n (and_from _ _ (binds-complete bs) (and_from _ _ (funs-complete fs) (decs-complete ds)))
    decs-complete (c_exception o ds) = and_from _ _ o (decs-complete ds)
    decs-complete (c_exception_alone ds) = decs-complete ds
    decs-complete (c_counted_dec ds) = decs-complete ds

    binds-complete : {qs D : List Quantified} {G : Knowns} {bs : Binds} → BindsChecked table qs D G bs → check_binds table qs D G bs ≡ true
    binds-complete c_no_binds = refl
    binds-complete (c_general v o p e bs) =
        and_from _ _ v (and_from _ _ o (and_from _ _ (pat-complete p) (and_from _ _ (exp-complete e) (and_from _ _ (same-since (sym (said e))) (binds-complete bs)))))
    binds-complete (c_plain o p e bs) = and_from _ _ o (and_from _ _ (pat-complete p) (and_from _ _ (exp-complete e) (and_from _ _ (same-since (sym (said e))) (binds-complete bs))))

    funs-complete : {D : List Quantified} {G : Knowns} {fs : Funs} → FunsChecked table D G fs → check_funs table D G fs ≡ true
    funs-complete c_no_funs = refl
    funs-complete (c_fun o f fs) = and_from _ _ o (and_from _ _ (fun-complete f) (and_from _ _ (same-since (fun-said f)) (funs-complete fs)))
