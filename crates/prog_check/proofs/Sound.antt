-- Where the answer is yes, the rules of typing hold.
use Rattle.std.proofs.Common.{◌≡◌, ℕ, Bool, true, false, List, [], ◌∷◌, ◌++◌, Option, Some, None, nat_eq, if◌then◌else◌, refl, sym, ap, subst, ◌∙◌}
use Rattle.std.proofs.lemmas.Bool.{and_parts}
use Rattle.std.specs.Map.{lookup}
use Rattle.std.specs.Prelude.{⊤}
use Rattle.mlc_names.specs.declared.label.Label.{Label}
use Rattle.mlc_prims.specs.declared.basis.BasisPrimitive.{BasisPrimitive}
use Rattle.ty_core.specs.Types.{Typ, var, con, name, typs_of}
use Rattle.ty_core.specs.Statics.{replace}
use Rattle.ty_core.specs.declared.name.TyName.{TyName}
use Rattle.ty_core.specs.declared.scheme.Quantified.{Quantified}
use Rattle.ir_poly.specs.of_ir_values.Values.{same_label}
use Rattle.ir_poly.specs.Prog.{Exc, Pat, any_pat, variable_pat, constant_pat, con_pat, con_of_pat, ref_of_pat, exn_pat, exn_of_pat, fields_pat, as_pat, PatFields, no_pats, a_pat, Exp, constant_exp, variable_exp, own_exp, con_exp, ref_exp, exn_exp, prim_exp, fields_exp, let_exp, app_exp, case_exp, chain_exp, handle_exp, raise_exp, fn_exp, counted_exp, Fields, no_fields, a_field, Chain, only, link, Rules, no_rules, a_rule, Fun, last, by_rules, more, Decs, no_decs, val_dec, exception_dec, counted_dec, Binds, no_binds, a_bind, Funs, no_funs, a_fun, type_of, is_value}
use Rattle.ir_poly.specs.ProgChecked.{pat_onto, pats_onto, each_onto, funs_onto, binds_onto, parameters_if, PatChecked, any_checked, variable_checked, constant_checked, con_checked, con_of_checked, ref_of_checked, exn_checked, exn_of_checked, fields_checked, as_checked, PatsChecked, no_pats_checked, a_pat_checked, Checked, c_constant, c_variable, c_variable_one, c_own, c_con, c_ref, c_exn, c_prim, c_fields, c_let, c_app, c_case, c_chain, c_handle, c_raise, c_fn, c_counted, FieldsChecked, c_no_fields, c_field, ChainChecked, c_only, c_link, RulesChecked, c_no_rules, c_rule, FunChecked, c_last, c_by_rules, c_more, DecsChecked, c_no_decs, c_val, c_exception, c_exception_alone, c_counted_dec, BindsChecked, c_no_binds, c_general, c_plain, FunsChecked, c_no_funs, c_fun}
use Rattle.ir_poly.specs.Types.{Constructor, of_name, bool_name, function_type, ref_type, row_type, labels_in, ascend, sorted, over, all_over, are_new, admits_in, changed, find, argument_at, prim_type, arguments_at, result_at, tuple_type}
use Rattle.ir_poly.specs.TestsChecked.{Known, of_type, general, own, exception, Knowns, at, exn_type, value_type, alone_type, declared}
use Rattle.prog_check.specs.Same.{same_name, same_type, same_option}
use Rattle.prog_check.specs.Deciding.{row_in, argument_of, takes, exc_argument, is_nil, is_use, is_own, is_con, is_exception, is_prim, allows, are_allowed}
use Rattle.prog_check.specs.Checking.{decs_onto, row_of, fun_type, check_pat, check_pats, check_exp, check_fields, check_chain, check_rules, check_fun, check_decs, check_binds, check_funs}
use Rattle.prog_check.proofs.SameLemmas.{name-same, type-same, option-same}
use Rattle.prog_check.proofs.DecidingLemmas.{literal-sound, row-sound, on-row, takes-sound, constructor-sound, exc-sound, allows-sound, are-allowed-sound}

-- What is known of a generalised variable: the other variables of its type stand for themselves.
abbrev IsDeclared : Known → Type 0
IsDeclared (of_type t) = ⊤
IsDeclared (general qs s t) = s ≡ var
IsDeclared (own t) = ⊤
IsDeclared (exception a) = ⊤

abbrev pub AreDeclared : Knowns → Type 0
AreDeclared [] = ⊤
AreDeclared (e ∷ G) = IsDeclared e.1 × AreDeclared G

abbrev FoundDeclared : Option Known → Type 0
FoundDeclared None = ⊤
FoundDeclared (Some k) = IsDeclared k

found-declared : (G : Knowns) (x : ℕ) → AreDeclared G → FoundDeclared (at G x)
found-declared [] x d = tt
found-declared (e ∷ G) x d = choose (nat_eq x e.0) (found-declared G x d.1)
  where
    choose : (b : Bool) → FoundDeclared (at G x) → FoundDeclared (if b then Some e.1 else at G x)
    choose true h = d.0
    choose false h = h

is-declared : (qs : List Quantified) (t : Typ) → IsDeclared (declared qs t)
is-declared [] t = tt
is-declared (q ∷ qs) t = refl

module _ (f : Typ → Known) (k : (t : Typ) → IsDeclared (f t)) where
  mutual
    pat-declared : (p : Pat) (t : Typ) (G : Knowns) → AreDeclared G → AreDeclared (pat_onto f p t G)
    pat-declared any_pat t G d = d
    pat-declared (variable_pat x) t G d = (k t, d)
    pat-declared (constant_pat l) t G d = d
    pat-declared (con_pat c) t G d = d
    pat-declared (con_of_pat c a p) t G d = pat-declared p a G d
    pat-declared (ref_of_pat a p) t G d = pat-declared p a G d
    pat-declared (exn_pat x) t G d = d
    pat-declared (exn_of_pat x a p) t G d = pat-declared p a G d
    pat-declared (fields_pat further ps) t G d = pats-declared ps G d
    pat-declared (as_pat x p) t G d = pat-declared p t ((x, f t) ∷ G) (k t, d)

    pats-declared : (ps : PatFields) (G : Knowns) → AreDeclared G → AreDeclared (pats_onto f ps G)
    pats-declared no_pats G d = d
    pats-declared (a_pat l a p ps) G d = pats-declared ps (pat_onto f p a G) (pat-declared p a G d)

  each-declared : (xs : List ℕ) (t : Typ) (G : Knowns) → AreDeclared G → AreDeclared (each_onto xs (f t) G)
  each-declared [] t G d = d
  each-declared (x ∷ xs) t G d = (k t, each-declared xs t G d)

  funs-declared : (fs : Funs) (G : Knowns) → AreDeclared G → AreDeclared (funs_onto f fs G)
  funs-declared no_funs G d = d
  funs-declared (a_fun xs t g fs) G d = each-declared xs t (funs_onto f fs G) (funs-declared fs G d)

binds-declared : (qs : List Quantified) (bs : Binds) (G : Knowns) → AreDeclared G → AreDeclared (binds_onto qs bs G)
binds-declared qs no_binds G d = d
binds-declared qs (a_bind place b p t e bs) G d =
    binds-declared qs bs (pat_onto (declared (parameters_if b qs)) p t G) (pat-declared (declared (parameters_if b qs)) (is-declared (parameters_if b qs)) p t G d)

val-declared : (qs : List Quantified) (bs : Binds) (fs : Funs) (G : Knowns) → AreDeclared G → AreDeclared (binds_onto qs bs (funs_onto (declared qs) fs G))
val-declared qs bs fs G d = binds-declared qs bs (funs_onto (declared qs) fs G) (funs-declared (declared qs) (is-declared qs) fs G d)

decs-declared : (ds : Decs) (G : Knowns) → AreDeclared G → AreDeclared (decs_onto ds G)
decs-declared no_decs G d = d
decs-declared (val_dec qs bs fs ds) G d = decs-declared ds (binds_onto qs bs (funs_onto (declared qs) fs G)) (val-declared qs bs fs G d)
decs-declared (exception_dec x i a ds) G d = decs-declared ds ((x, exception a) ∷ G) (tt, d)
decs-declared (counted_dec n ds) G d = decs-declared ds G d

nil-since : (ts : List Typ) → is_nil ts ≡ true → ts ≡ []
nil-since [] e = refl
nil-since (t ∷ ts) e = absurd (cc)

module _ (table : List Constructor) where
  use-sound : (D : List Quantified) (G : Knowns) (x : ℕ) (ts : List Typ) (t : Typ) (o : Option Known) → at G x ≡ o → FoundDeclared o → is_use D ts t o ≡ true
      → Checked table D G (variable_exp x ts t) t
  use-sound D G x ts t None e d h = absurd (cc)
  use-sound D G x ts t (Some (of_type u)) e d h =
      let a = and_parts (is_nil ts) _ h in
      subst (λ us. Checked table D G (variable_exp x us t) t) (sym (nil-since ts a.0)) (c_variable_one (e ∙ ap (λ v. Some (of_type v)) (sym (type-same t u a.1))))
  use-sound D G x ts t (Some (general qs s b)) e d h =
      let a = and_parts (are_allowed (admits_in D) qs ts) _ h in let c = and_parts (all_over D (typs_of ts)) _ a.1 in
      c_variable (e ∙ ap (λ r. Some (general qs r b)) d) (are-allowed-sound (admits_in D) qs ts a.0) c.0
      (subst (λ r. t ≡ replace (changed qs ts r) b) d (type-same t (replace (changed qs ts s) b) c.1))
  use-sound D G x ts t (Some (own u)) e d h = absurd (cc)
  use-sound D G x ts t (Some (exception a)) e d h = absurd (cc)

  own-sound : (D : List Quantified) (G : Knowns) (x : ℕ) (t : Typ) (o : Option Known) → at G x ≡ o → is_own t o ≡ true → Checked table D G (own_exp x t) t
  own-sound D G x t None e h = absurd (cc)
  own-sound D G x t (Some (of_type u)) e h = absurd (cc)
  own-sound D G x t (Some (general qs s b)) e h = absurd (cc)
  own-sound D G x t (Some (own u)) e h = c_own (e ∙ ap (λ v. Some (own v)) (sym (type-same t u h)))
  own-sound D G x t (Some (exception a)) e h = absurd (cc)

  con-sound : (D : List Quantified) (G : Knowns) (c : ℕ) (y : TyName) (ts : List Typ) (t : Typ) (o : Option Constructor) → find table y c ≡ o → is_con D y ts t o ≡ true
      → Checked table D G (con_exp c y ts t) t
  con-sound D G c y ts t None e h = absurd (cc)
  con-sound D G c y ts t (Some k) e h =
      let a = and_parts (same_name k.datatype y) _ h in let b = and_parts (all_over D (typs_of ts)) _ a.1 in
      c_con k e (name-same k.datatype y a.0) b.0 (type-same t (alone_type (argument_at ts k.argument) (con (name y) (typs_of ts))) b.1)

  exception-sound : (D : List Quantified) (G : Knowns) (x : Exc) (t : Typ) (o : Option (Option Typ)) → exc_argument G x ≡ o → is_exception t o ≡ true → Checked table D G (exn_exp x t) t
  exception-sound D G x t None e h = absurd (cc)
  exception-sound D G x t (Some a) e h = c_exn (exc-sound G x a e) (type-same t (value_type a) h)

  prim-sound : (D : List Quantified) (G : Knowns) (p : BasisPrimitive) (ts : List Typ) (t : Typ) → is_prim D p ts t ≡ true → Checked table D G (prim_exp p ts t) t
  prim-sound D G p [] t h = absurd (cc)
  prim-sound D G p (u ∷ []) t h =
      let a = and_parts (over D u) _ h in let b = and_parts (allows (prim_type p).mark (admits_in D) u) _ a.1 in
      c_prim a.0 (allows-sound (prim_type p).mark (admits_in D) u b.0) (type-same t (function_type (tuple_type (arguments_at p u)) (result_at p u)) b.1)
  prim-sound D G p (u ∷ v ∷ ts) t h = absurd (cc)

  mutual
    pat-sound : (D : List Quantified) (G : Knowns) (p : Pat) (t : Typ) → check_pat table D G p t ≡ true → PatChecked table D G p t
    pat-sound D G any_pat t h = any_checked
    pat-sound D G (variable_pat x) t h = variable_checked
    pat-sound D G (constant_pat l) t h = constant_checked (literal-sound l t h)
    pat-sound D G (con_pat c) t h = con_checked (constructor-sound table c t None (takes-sound None (argument_of table c t) h))
    pat-sound D G (con_of_pat c a p) t h =
        let k = and_parts (takes (Some a) (argument_of table c t)) _ h in let j = and_parts (over D a) _ k.1 in
        con_of_checked (constructor-sound table c t (Some a) (takes-sound (Some a) (argument_of table c t) k.0)) j.0 (pat-sound D G p a j.1)
    pat-sound D G (ref_of_pat a p) t h =
        let k = and_parts (same_type t (ref_type a)) _ h in let j = and_parts (over D a) _ k.1 in ref_of_checked (type-same t (ref_type a) k.0) j.0 (pat-sound D G p a j.1)
    pat-sound D G (exn_pat x) t h =
        let k = and_parts (takes None (exc_argument G x)) _ h in exn_checked (exc-sound G x None (takes-sound None (exc_argument G x) k.0)) (type-same t exn_type k.1)
    pat-sound D G (exn_of_pat x a p) t h =
        let k = and_parts (takes (Some a) (exc_argument G x)) _ h in let j = and_parts (same_type t exn_type) _ k.1 in let i = and_parts (over D a) _ j.1 in
        exn_of_checked (exc-sound G x (Some a) (takes-sound (Some a) (exc_argument G x) k.0)) (type-same t exn_type j.0) i.0 (pat-sound D G p a i.1)
    pat-sound D G (fields_pat further ps) t h =
        let k = on-row (row_in t) _ h in let j = and_parts (check_pats table D G ps k.0) _ k.2 in
        fields_checked k.0 (row-sound t k.0 k.1) (pats-sound D G ps k.0 j.0) j.1
    pat-sound D G (as_pat x p) t h = as_checked (pat-sound D G p t h)

    pats-sound : (D : List Quantified) (G : Knowns) (ps : PatFields) (r : List (Label × Typ)) → check_pats table D G ps r ≡ true → PatsChecked table D G ps r
    pats-sound D G no_pats r h = no_pats_checked
    pats-sound D G (a_pat l a p ps) r h =
        let k = and_parts (same_option (lookup (same_label l) r) (Some a)) _ h in let j = and_parts (over D a) _ k.1 in let i = and_parts (check_pat table D G p a) _ j.1 in
        a_pat_checked (option-same (lookup (same_label l) r) (Some a) k.0) j.0 (pat-sound D G p a i.0) (pats-sound D G ps r i.1)

  mutual
    exp-sound : (D : List Quantified) (G : Knowns) → AreDeclared G → (e : Exp) → check_exp table D G e ≡ true → Checked table D G e (type_of e)
    exp-sound D G d (constant_exp l t) h = c_constant (literal-sound l t h)
    exp-sound D G d (variable_exp x ts t) h = use-sound D G x ts t (at G x) refl (found-declared G x d) h
    exp-sound D G d (own_exp x t) h = own-sound D G x t (at G x) refl h
    exp-sound D G d (con_exp c y ts t) h = con-sound D G c y ts t (find table y c) refl h
    exp-sound D G d (ref_exp a t) h = let k = and_parts (over D a) _ h in c_ref k.0 (type-same t (function_type a (ref_type a)) k.1)
    exp-sound D G d (exn_exp x t) h = exception-sound D G x t (exc_argument G x) refl h
    exp-sound D G d (prim_exp p ts t) h = prim-sound D G p ts t h
    exp-sound D G d (fields_exp t fs) h =
        let k = and_parts (check_fields table D G fs) _ h in let j = and_parts (ascend (labels_in (sorted (row_of fs)))) _ k.1 in
        c_fields (fields-sound D G d fs k.0) (type-same t (row_type (sorted (row_of fs))) j.1) j.0
    exp-sound D G d (let_exp t ds e) h =
        let k = and_parts (check_decs table D G ds) _ h in let j = and_parts (check_exp table D (decs_onto ds G) e) _ k.1 in
        c_let (decs_onto ds G) (decs-sound D G d ds k.0) (subst (λ u. Checked table D (decs_onto ds G) e u) (type-same (type_of e) t j.1) (exp-sound D (decs_onto ds G) (decs-declared ds G d) e j.0))
    exp-sound D G d (app_exp place t f a) h =
        let k = and_parts (check_exp table D G f) _ h in let j = and_parts (check_exp table D G a) _ k.1 in
        c_app (exp-sound D G d f k.0) (exp-sound D G d a j.0) (type-same (type_of f) (function_type (type_of a) t) j.1)
    exp-sound D G d (case_exp place t e rs) h =
        let k = and_parts (check_exp table D G e) _ h in let j = and_parts (over D (type_of e)) _ k.1 in
        c_case (exp-sound D G d e k.0) j.0 (rules-sound D G d rs (type_of e) t j.1)
    exp-sound D G d (chain_exp b t c) h = let k = and_parts (check_chain table D G c) _ h in c_chain (chain-sound D G d c k.0) (type-same t (of_name bool_name) k.1)
    exp-sound D G d (handle_exp t e rs) h =
        let k = and_parts (check_exp table D G e) _ h in let j = and_parts (same_type (type_of e) t) _ k.1 in
        c_handle (subst (λ u. Checked table D G e u) (type-same (type_of e) t j.0) (exp-sound D G d e k.0)) (rules-sound D G d rs exn_type t j.1)
    exp-sound D G d (raise_exp t e) h = let k = and_parts (check_exp table D G e) _ h in c_raise (exp-sound D G d e k.0) (type-same (type_of e) exn_type k.1)
    exp-sound D G d (fn_exp t f) h =
        let k = and_parts (check_fun table D G f) _ h in c_fn (subst (λ u. FunChecked table D G f u) (sym (type-same t (fun_type f) k.1)) (fun-sound D G d f k.0))
    exp-sound D G d (counted_exp n t e) h =
        let k = and_parts (check_exp table D G e) _ h in c_counted (subst (λ u. Checked table D G e u) (type-same (type_of e) t k.1) (exp-sound D G d e k.0))

    fields-sound : (D : List Quantified) (G : Knowns) → AreDeclared G → (fs : Fields) → check_fields table D G fs ≡ true → FieldsChecked table D G fs (row_of fs)
    fields-sound D G d no_fields h = c_no_fields
    fields-sound D G d (a_field l e fs) h = let k = and_parts (check_exp table D G e) _ h in c_field (exp-sound D G d e k.0) (fields-sound D G d fs k.1)

    chain-sound : (D : List Quantified) (G : Knowns) → AreDeclared G → (c : Chain) → check_chain table D G c ≡ true → ChainChecked table D G c
    chain-sound D G d (only e) h = let k = and_parts (check_exp table D G e) _ h in c_only (exp-sound D G d e k.0) (type-same (type_of e) (of_name bool_name) k.1)
    chain-sound D G d (link e c) h =
        let k = and_parts (check_exp table D G e) _ h in let j = and_parts (same_type (type_of e) (of_name bool_name)) _ k.1 in
        c_link (exp-sound D G d e k.0) (type-same (type_of e) (of_name bool_name) j.0) (chain-sound D G d c j.1)

    rules-sound : (D : List Quantified) (G : Knowns) → AreDeclared G → (rs : Rules) (u t : Typ) → check_rules table D G rs u t ≡ true → RulesChecked table D G rs u t
    rules-sound D G d no_rules u t h = c_no_rules
    rules-sound D G d (a_rule p e rs) u t h =
        let k = and_parts (check_pat table D G p u) _ h in let j = and_parts (check_exp table D (pat_onto of_type p u G) e) _ k.1 in let i = and_parts (same_type (type_of e) t) _ j.1 in
        c_rule (pat-sound D G p u k.0)
        (subst (λ v. Checked table D (pat_onto of_type p u G) e v) (type-same (type_of e) t i.0) (exp-sound D (pat_onto of_type p u G) (pat-declared of_type (λ a. tt) p u G d) e j.0))
        (rules-sound D G d rs u t i.1)

    fun-sound : (D : List Quantified) (G : Knowns) → AreDeclared G → (f : Fun) → check_fun table D G f ≡ true → FunChecked table D G f (fun_type f)
    fun-sound D G d (last x a e) h = let k = and_parts (over D a) _ h in c_last k.0 (exp-sound D ((x, of_type a) ∷ G) (tt, d) e k.1) refl
    fun-sound D G d (by_rules place a u rs) h = let k = and_parts (over D a) _ h in c_by_rules k.0 (rules-sound D G d rs a u k.1) refl
    fun-sound D G d (more x a f) h = let k = and_parts (over D a) _ h in c_more k.0 (fun-sound D ((x, of_type a) ∷ G) (tt, d) f k.1) refl

    pub decs-sound : (D : List Quantified) (G : Knowns) → AreDeclared G → (ds : Decs) → check_decs table D G ds ≡ true → DecsChecked table D G ds (decs_onto ds G)
    decs-sound D G d no_decs h = c_no_decs
    decs-sound D G d (val_dec qs bs fs ds) h =
        let k = and_parts (are_new qs D) _ h in let j = and_parts (check_binds table qs D G bs) _ k.1 in
        let i = and_parts (check_funs table (qs ++ D) (funs_onto own fs G) fs) _ j.1 in
        c_val k.0 (binds-sound qs D G d bs j.0) (funs-sound (qs ++ D) (funs_onto own fs G) (funs-declared own (λ t. tt) fs G d) fs i.0)
        (decs-sound D (binds_onto qs bs (funs_onto (declared qs) fs G)) (val-declared qs bs fs G d) ds i.1)
    decs-sound D G d (exception_dec x i None ds) h = c_exception_alone (decs-sound D ((x, exception None) ∷ G) (tt, d) ds h)
    decs-sound D G d (exception_dec x i (Some a) ds) h = let k = and_parts (over D a) _ h in c_exception k.0 (decs-sound D ((x, exception (Some a)) ∷ G) (tt, d) ds k.1)
    decs-sound D G d (counted_dec n ds) h = c_counted_dec (decs-sound D G d ds h)

    binds-sound : (qs D : List Quantified) (G : Knowns) → AreDeclared G → (bs : Binds) → check_binds table qs D G bs ≡ true → BindsChecked table qs D G bs
    binds-sound qs D G d no_binds h = c_no_binds
    binds-sound qs D G d (a_bind place true p t e bs) h =
        let k = and_parts (is_value e) _ h in let j = and_parts (over (qs ++ D) t) _ k.1 in let i = and_parts (check_pat table (qs ++ D) G p t) _ j.1 in
        let a = and_parts (check_exp table (qs ++ D) G e) _ i.1 in let b = and_parts (same_type (type_of e) t) _ a.1 in
        c_general k.0 j.0 (pat-sound (qs ++ D) G p t i.0) (subst (λ u. Checked table (qs ++ D) G e u) (type-same (type_of e) t b.0) (exp-sound (qs ++ D) G d e a.0)) (binds-sound qs D G d bs b.1)
    binds-sound qs D G d (a_bind place false p t e bs) h =
        let j = and_parts (over D t) _ h in let i = and_parts (check_pat table D G p t) _ j.1 in
        let a = and_parts (check_exp table (qs ++ D) G e) _ i.1 in let b = and_parts (same_type (type_of e) t) _ a.1 in
        c_plain j.0 (pat-sound D G p t i.0) (subst (λ u. Checked table (qs ++ D) G e u) (type-same (type_of e) t b.0) (exp-sound (qs ++ D) G d e a.0)) (binds-sound qs D G d bs b.1)

    funs-sound : (D : List Quantified) (G : Knowns) → AreDeclared G → (fs : Funs) → check_funs table D G fs ≡ true → FunsChecked table D G fs
    funs-sound D G d no_funs h = c_no_funs
    funs-sound D G d (a_fun xs t f fs) h =
        let k = and_parts (over D t) _ h in let j = and_parts (check_fun table D G f) _ k.1 in let i = and_parts (same_type t (fun_type f)) _ j.1 in
        c_fun k.0 (subst (λ u. FunChecked table D G f u) (sym (type-same t (fun_type f) i.0)) (fun-sound D G d f j.0)) (funs-sound D G d fs i.1)
