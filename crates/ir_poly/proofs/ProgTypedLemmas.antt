-- What a checker accepts of a program with source matches is typed whatever its parameters stand for.
use Rattle.std.proofs.Common.{◌≡◌, ℕ, true, List, [], ◌∷◌, ◌++◌, Option, refl, sym, ap, subst, ◌∙◌}
use Rattle.ir_plain.specs.of_mlc_names.declared.label.Label.{Label}
use Rattle.ty_basis.specs.of_ty_core.Types.{Typ, con, name, typs_of}
use Rattle.ty_basis.specs.of_ty_core.Statics.{replace}
use Rattle.ty_basis.specs.of_ty_core.declared.scheme.Quantified.{Quantified}
use Rattle.ir_plain.specs.of_ir_values.Values.{same_label}
use Rattle.ir_poly.specs.Prog.{Exc, Pat, PatFields, Exp, type_of, Fields, Chain, Rules, Fun, Decs, Binds, Funs}
use Rattle.ir_poly.specs.ProgMeaning.{size_of}
use Rattle.ir_poly.specs.ProgChecked.{pat_onto, pats_onto, each_onto, funs_onto, binds_onto, ExcChecked, fixed_checked, held_checked, PatChecked, any_checked, variable_checked, constant_checked, con_checked, con_of_checked, ref_of_checked, exn_checked, exn_of_checked, fields_checked, as_checked, PatsChecked, no_pats_checked, a_pat_checked, Checked, c_constant, c_variable, c_variable_one, c_own, c_con, c_ref, c_exn, c_prim, c_fields, c_let, c_app, c_case, c_chain, c_handle, c_raise, c_fn, c_counted, FieldsChecked, c_no_fields, c_field, ChainChecked, c_only, c_link, RulesChecked, c_no_rules, c_rule, FunChecked, c_last, c_by_rules, c_more, DecsChecked, c_no_decs, c_val, c_exception, c_exception_alone, c_counted_dec, BindsChecked, c_no_binds, c_general, c_plain, FunsChecked, c_no_funs, c_fun}
use Rattle.ir_poly.specs.ProgTyped.{type_at, binds_at, PatTyped, any_typed, variable_typed, constant_typed, con_typed, con_of_typed, ref_of_typed, exn_typed, exn_of_typed, fields_typed, as_typed, PatsTyped, no_pats_typed, a_pat_typed, Typed, t_constant, t_variable, t_variable_one, t_own, t_con, t_ref, t_exn, t_prim, t_fields, t_let, t_app, t_case, t_chain, t_handle, t_raise, t_fn, t_counted, FieldsTyped, t_no_fields, t_field, ChainTyped, t_only, t_link, RulesTyped, t_no_rules, t_rule, FunTyped, t_last, t_by_rules, t_more, DecsTyped, t_no_decs, t_val, t_exception, t_counted_dec, BindsTyped, t_no_binds, t_general, t_plain, FunsTyped, t_no_funs, t_fun}
use Rattle.ir_poly.specs.Types.{row_type, labels_in, ascend, sorted, over, are_new, changed, Constructor, argument_at, prim_type, arguments_at}
use Rattle.ir_poly.specs.TestsChecked.{Known, of_type, own, Knowns, declared, bound, is_size}
use Rattle.ir_poly.specs.TestsTyped.{option_read, own_at}
use Rattle.ir_poly.proofs.ReplaceLemmas.{replace-agree, Fits, allows-read, are-allowed-read, typs_of-read, row_read, sorted-read, row_type-read, labels-read, length-read, part-read, argument-read, arguments-read, result-read, tuple-read, changed-outside, changed-fits}
use Rattle.ir_poly.proofs.TypedLemmas.{KnownRead, read_type, read_own, read_exception, Reads, reads_more, read-at, own-found, general-found, type-at, exception-at, literal-read, value-read, alone-read, constructor-read, under, declared-read}

exc-read : (D : List Quantified) (s : ℕ → Typ) {G H : Knowns} {x : Exc} {a : Option Typ} → ExcChecked G x a → Reads D s G H → ExcChecked H x (option_read s a)
exc-read D s (fixed_checked e) rs = fixed_checked e
exc-read D s (held_checked {x = x} e) rs = held_checked (exception-at D s rs x e)

each-read : (D : List Quantified) (s : ℕ → Typ) (xs : List ℕ) {k k' : Known} {G H : Knowns} → KnownRead D s k k' → Reads D s G H → Reads D s (each_onto xs k G) (each_onto xs k' H)
each-read D s [] r rs = rs
each-read D s (x ∷ xs) r rs = reads_more x r (each-read D s xs r rs)

module _ {table : List Constructor} where
  mutual
    pat-read : {D : List Quantified} {G : Knowns} {p : Pat} {t : Typ} → PatChecked table D G p t → (s : ℕ → Typ) → {H : Knowns} → Reads D s G H → PatTyped table s H p (replace s t)
    pat-read any_checked s rs = any_typed
    pat-read variable_checked s rs = variable_typed
    pat-read (constant_checked h) s rs = constant_typed (literal-read s h)
    pat-read (con_checked h) s rs = con_typed (constructor-read s h)
    pat-read (con_of_checked h o p) s rs = con_of_typed (constructor-read s h) (pat-read p s rs)
    pat-read (ref_of_checked e o p) s rs = ref_of_typed (ap (replace s) e) (pat-read p s rs)
    pat-read (exn_checked x e) s rs = exn_typed (exc-read _ s x rs) (ap (replace s) e)
    pat-read (exn_of_checked x e o p) s rs = exn_of_typed (exc-read _ s x rs) (ap (replace s) e) (pat-read p s rs)
    pat-read (fields_checked {further = further} {ps = ps} r e qs n) s rs =
        fields_typed (row_read s r) (ap (replace s) e ∙ row_type-read s r) (pats-read qs s rs) (ap (is_size (size_of further ps)) (length-read s r) ∙ n)
    pat-read (as_checked p) s rs = as_typed (pat-read p s rs)

    pats-read : {D : List Quantified} {G : Knowns} {ps : PatFields} {r : List (Label × Typ)} → PatsChecked table D G ps r → (s : ℕ → Typ) → {H : Knowns} → Reads D s G H → PatsTyped table s H ps (row_read s r)
    pats-read no_pats_checked s rs = no_pats_typed
    pats-read (a_pat_checked {l = l} {a = a} {r = r} h o p ps) s rs = a_pat_typed (part-read s (same_label l) r a h) (pat-read p s rs) (pats-read ps s rs)

  -- what a pattern binds, where its types are over D'
  module _ (D' D : List Quantified) (s : ℕ → Typ) (f g : Typ → Known) (k : (a : Typ) → over D' a ≡ true → KnownRead D s (f a) (g a)) where
    mutual
      onto-read : {G0 : Knowns} {p : Pat} {t : Typ} → PatChecked table D' G0 p t → over D' t ≡ true → {G H : Knowns} → Reads D s G H → Reads D s (pat_onto f p t G) (pat_onto g p t H)
      onto-read any_checked h rs = rs
      onto-read (variable_checked {x = x} {t = t}) h rs = reads_more x (k t h) rs
      onto-read (constant_checked l) h rs = rs
      onto-read (con_checked c) h rs = rs
      onto-read (con_of_checked c o p) h rs = onto-read p o rs
      onto-read (ref_of_checked e o p) h rs = onto-read p o rs
      onto-read (exn_checked x e) h rs = rs
      onto-read (exn_of_checked x e o p) h rs = onto-read p o rs
      onto-read (fields_checked r e ps n) h rs = parts-onto-read ps rs
      onto-read (as_checked {x = x} {t = t} p) h rs = onto-read p h (reads_more x (k t h) rs)

      parts-onto-read : {G0 : Knowns} {ps : PatFields} {r : List (Label × Typ)} → PatsChecked table D' G0 ps r → {G H : Knowns} → Reads D s G H → Reads D s (pats_onto f ps G) (pats_onto g ps H)
      parts-onto-read no_pats_checked rs = rs
      parts-onto-read (a_pat_checked e o p ps) rs = parts-onto-read ps (onto-read p o rs)

  rule-read : (D : List Quantified) (s : ℕ → Typ) {G0 : Knowns} {p : Pat} {u : Typ} → PatChecked table D G0 p u → over D u ≡ true → {G H : Knowns} → Reads D s G H → Reads D s (pat_onto of_type p u G) (pat_onto (type_at s) p u H)
  rule-read D s p h rs = onto-read D D s of_type (type_at s) (λ a o. read_type o refl) p h rs

  binds-onto-read : (D : List Quantified) (s : ℕ → Typ) {qs : List Quantified} {G0 : Knowns} {bs : Binds} → BindsChecked table qs D G0 bs → {G H : Knowns} → Reads D s G H → Reads D s (binds_onto qs bs G) (binds_at s qs bs H)
  binds-onto-read D s c_no_binds rs = rs
  binds-onto-read D s {qs = qs} (c_general v o p e bs) rs = binds-onto-read D s bs (onto-read (qs ++ D) D s (declared qs) (bound qs s) (λ a h. declared-read D s qs a h) p o rs)
  binds-onto-read D s (c_plain o p e bs) rs = binds-onto-read D s bs (onto-read D D s (declared []) (bound [] s) (λ a h. declared-read D s [] a h) p o rs)

  funs-own : (D : List Quantified) (s : ℕ → Typ) {G0 : Knowns} {fs : Funs} → FunsChecked table D G0 fs → {G H : Knowns} → Reads D s G H → Reads D s (funs_onto own fs G) (funs_onto (own_at s) fs H)
  funs-own D s c_no_funs rs = rs
  funs-own D s (c_fun {xs = xs} h f fs) rs = each-read D s xs (read_own h refl) (funs-own D s fs rs)

  funs-declared : (D : List Quantified) (s : ℕ → Typ) (qs : List Quantified) {D' : List Quantified} {G0 : Knowns} {fs : Funs} → D' ≡ qs ++ D → FunsChecked table D' G0 fs → {G H : Knowns} → Reads D s G H → Reads D s (funs_onto (declared qs) fs G) (funs_onto (bound qs s) fs H)
  funs-declared D s qs e c_no_funs rs = rs
  funs-declared D s qs e (c_fun {xs = xs} {t = t} h f fs) rs = each-read D s xs (declared-read D s qs t (subst (λ d. over d t ≡ true) e h)) (funs-declared D s qs e fs rs)

  mutual
    pub typed-read : {D : List Quantified} {G : Knowns} {e : Exp} {t : Typ} → Checked table D G e t → (s : ℕ → Typ) → Fits D s → {H : Knowns} → Reads D s G H → Typed table s H e (replace s t)
    typed-read (c_constant h) s f rs = t_constant (literal-read s h) refl
    typed-read (c_variable {D = D} {qs = qs} {x = x} {ts = ts} e al o h) s f rs =
        let k = general-found D s ts _ (read-at D s x rs) e al in t_variable k.1 (are-allowed-read D s f qs ts al) (ap (replace s) h ∙ k.2) refl
    typed-read (c_variable_one {x = x} e) s f rs = t_variable_one (type-at _ s rs x e) refl
    typed-read (c_own {x = x} e) s f rs = t_own (own-found _ s (read-at _ s x rs) e) refl
    typed-read (c_con {y = y} {ts = ts} k e n o h) s f rs =
        t_con k e n (ap (replace s) h ∙ (alone-read s (argument_at ts k.argument) (con (name y) (typs_of ts)) ∙ rw (argument-read s ts k.argument, typs_of-read s ts) refl)) refl
    typed-read (c_ref o h) s f rs = t_ref (ap (replace s) h) refl
    typed-read (c_exn {a = a} x h) s f rs = t_exn (exc-read _ s x rs) (ap (replace s) h ∙ value-read s a) refl
    typed-read (c_prim {D = D} {p = p} {u = u} o al e) s f rs =
        t_prim (allows-read (prim_type p).mark D s f u al) (ap (replace s) e ∙ rw (tuple-read s (arguments_at p u), arguments-read s p u, result-read s p u) refl) refl
    typed-read (c_fields {r = r} fs h a) s f rs =
        t_fields (fields-read fs s f rs) (ap (replace s) h ∙ row_type-read s (sorted r) ∙ ap row_type (sorted-read s r))
        (ap (λ q. ascend (labels_in q)) (sym (sorted-read s r)) ∙ ap ascend (labels-read s (sorted r)) ∙ a) refl
    typed-read (c_let G' ds e) s f rs = let k = decs-read ds s f rs in t_let k.0 k.1 (typed-read e s f k.2) refl
    typed-read (c_app g a h) s f rs = t_app (typed-read g s f rs) (typed-read a s f rs) (ap (replace s) h) refl
    typed-read (c_case e o rules) s f rs = t_case (typed-read e s f rs) (rules-read rules o s f rs) refl
    typed-read (c_chain c h) s f rs = t_chain (chain-read c s f rs) (ap (replace s) h) refl
    typed-read (c_handle e rules) s f rs = t_handle (typed-read e s f rs) (rules-read rules refl s f rs) refl
    typed-read (c_raise e h) s f rs = t_raise (typed-read e s f rs) (ap (replace s) h) refl
    typed-read (c_fn g) s f rs = t_fn (fun-read g s f rs) refl
    typed-read (c_counted e) s f rs = t_counted (typed-read e s f rs) refl

    fields-read : {D : List Quantified} {G : Knowns} {fs : Fields} {r : List (Label × Typ)} → FieldsChecked table D G fs r → (s : ℕ → Typ) → Fits D s → {H : Knowns} → Reads D s G H → FieldsTyped table s H fs (row_read s r)
    fields-read c_no_fields s f rs = t_no_fields
    fields-read (c_field e fs) s f rs = t_field (typed-read e s f rs) (fields-read fs s f rs)

    chain-read : {D : List Quantified} {G : Knowns} {c : Chain} → ChainChecked table D G c → (s : ℕ → Typ) → Fits D s → {H : Knowns} → Reads D s G H → ChainTyped table s H c
    chain-read (c_only e h) s f rs = t_only (typed-read e s f rs) (ap (replace s) h)
    chain-read (c_link e h c) s f rs = t_link (typed-read e s f rs) (ap (replace s) h) (chain-read c s f rs)

    rules-read : {D : List Quantified} {G : Knowns} {rules : Rules} {u t : Typ} → RulesChecked table D G rules u t → over D u ≡ true → (s : ℕ → Typ) → Fits D s → {H : Knowns} → Reads D s G H → RulesTyped table s H rules u (replace s t)
    rules-read c_no_rules o s f rs = t_no_rules
    rules-read (c_rule p e rules) o s f rs = t_rule (pat-read p s rs) (typed-read e s f (rule-read _ s p o rs)) (rules-read rules o s f rs)

    fun-read : {D : List Quantified} {G : Knowns} {g : Fun} {t : Typ} → FunChecked table D G g t → (s : ℕ → Typ) → Fits D s → {H : Knowns} → Reads D s G H → FunTyped table s H g (replace s t)
    fun-read (c_last {x = x} o e h) s f rs = t_last (typed-read e s f (reads_more x (read_type o refl) rs)) (ap (replace s) h)
    fun-read (c_by_rules o rules h) s f rs = t_by_rules (rules-read rules o s f rs) refl (ap (replace s) h)
    fun-read (c_more {x = x} o g h) s f rs = t_more (fun-read g s f (reads_more x (read_type o refl) rs)) (ap (replace s) h)

    pub decs-read : {D : List Quantified} {G G' : Knowns} {ds : Decs} → DecsChecked table D G ds G' → (s : ℕ → Typ) → Fits D s → {H : Knowns} → Reads D s G H → (H' : Knowns) × DecsTyped table s H ds H' × Reads D s G' H'
    decs-read c_no_decs s f {H = H} rs = (H, t_no_decs, rs)
    decs-read (c_val {D = D} {qs = qs} n bs fs ds) s f rs =
        let k = decs-read ds s f (binds-onto-read D s bs (funs-declared D s qs refl fs rs)) in
        (k.0, t_val (binds-read bs n s f rs) (λ ts al. funs-read fs (changed qs ts s) (changed-fits D s f qs ts al) (funs-own (qs ++ D) (changed qs ts s) fs (under D s qs ts n rs))) k.1, k.2)
    decs-read (c_exception {x = x} o ds) s f rs = let k = decs-read ds s f (reads_more x (read_exception o refl) rs) in (k.0, t_exception k.1, k.2)
    decs-read (c_exception_alone {x = x} ds) s f rs = let k = decs-read ds s f (reads_more x (read_exception refl refl) rs) in (k.0, t_exception k.1, k.2)
    decs-read (c_counted_dec ds) s f rs = let k = decs-read ds s f rs in (k.0, t_counted_dec k.1, k.2)

    binds-read : {D : List Quantified} {qs : List Quantified} {G : Knowns} {bs : Binds} → BindsChecked table qs D G bs → are_new qs D ≡ true → (s : ℕ → Typ) → Fits D s → {H : Knowns} → Reads D s G H → BindsTyped table s qs H bs
    binds-read c_no_binds n s f rs = t_no_binds
    binds-read {D = D} {qs = qs} (c_general v o p e bs) n s f rs =
        t_general v (λ ts al. pat-read p (changed qs ts s) (under D s qs ts n rs)) (λ ts al. typed-read e (changed qs ts s) (changed-fits D s f qs ts al) (under D s qs ts n rs)) (binds-read bs n s f rs)
    binds-read {D = D} {qs = qs} (c_plain {t = t} {e = a} o p e bs) n s f {H = H} rs =
        t_plain (pat-read p s rs)
        (λ ts al. subst (λ u. Typed table (changed qs ts s) H a u) (sym (replace-agree D t o s (changed qs ts s) (changed-outside D s qs ts n))) (typed-read e (changed qs ts s) (changed-fits D s f qs ts al) (under D s qs ts n rs)))
        (binds-read bs n s f rs)

    funs-read : {D : List Quantified} {G : Knowns} {fs : Funs} → FunsChecked table D G fs → (s : ℕ → Typ) → Fits D s → {H : Knowns} → Reads D s G H → FunsTyped table s H fs
    funs-read c_no_funs s f rs = t_no_funs
    funs-read (c_fun o g fs) s f rs = t_fun (fun-read g s f rs) (funs-read fs s f rs)

-- the type is the one that is written, read
pub said-read : {table : List Constructor} {s : ℕ → Typ} {G : Knowns} {e : Exp} {u : Typ} → Typed table s G e u → u ≡ replace s (type_of e)
said-read (t_constant h e) = e
said-read (t_variable a al h e) = e
said-read (t_variable_one a e) = e
said-read (t_own a e) = e
said-read (t_con k a n h e) = e
said-read (t_ref h e) = e
said-read (t_exn x h e) = e
said-read (t_prim al h e) = e
said-read (t_fields fs h a e) = e
said-read (t_let G' ds a e) = e
said-read (t_app f a h e) = e
said-read (t_case a rs e) = e
said-read (t_chain c h e) = e
said-read (t_handle a rs e) = e
said-read (t_raise a h e) = e
said-read (t_fn f e) = e
said-read (t_counted a e) = e
