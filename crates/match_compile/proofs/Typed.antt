-- The compiled program is well typed where the program is.
use Rattle.std.proofs.Common.{if◌then◌else◌, ◌≡◌, ℕ, zero, suc, ◌<◌, ◌≤◌, Bool, true, false, not, List, [], ◌∷◌, ◌++◌, map, Option, Some, None, nat_lt, refl, sym, ap, ap₂, subst, ◌∙◌, arith}
use Rattle.mlc_names.specs.declared.label.Label.{Label}
use Rattle.mlc_names.specs.declared.label.Label.TheVariants.{Number}
use Rattle.mlc_base.specs.declared.place.Place.{Place}
use Rattle.mlc_prims.specs.declared.basis.BasisPrimitive.{BasisPrimitive}
use Rattle.ty_core.specs.Types.{Typ, con, name, typs_of}
use Rattle.ty_core.specs.Marks.{Allows}
use Rattle.ty_core.specs.declared.scheme.Quantified.{Quantified}
use Rattle.label_rows.specs.Order.{label_before, put_by}
use Rattle.ir_poly.specs.of_ir_values.Values.{same_label, truth_number}
use Rattle.ir_poly.specs.of_ir_values.Primitives.{match_name, bind_name}
use Rattle.ir_poly.specs.of_ir_plain.Tree as te
use Rattle.ir_poly.specs.Prog.{Exc, Pat, any_pat, variable_pat, constant_pat, con_pat, con_of_pat, ref_of_pat, exn_pat, exn_of_pat, fields_pat, as_pat, Exp, constant_exp, variable_exp, own_exp, con_exp, ref_exp, exn_exp, prim_exp, fields_exp, let_exp, app_exp, case_exp, chain_exp, handle_exp, raise_exp, fn_exp, counted_exp, Fields, Chain, Rules, Fun, Decs, Binds, Funs, type_of, is_value}
use Rattle.ir_poly.specs.ProgChecked as pr
use Rattle.ir_poly.specs.ProgChecked.{ExcChecked, pat_onto, funs_onto, binds_onto}
use Rattle.ir_poly.specs.Tests.{Tests}
use Rattle.ir_poly.specs.Types.{function_type, ref_type, row_type, labels_in, ascend, sorted, unit_type, admits_in, over, are_new, Constructor, argument_at, prim_type, arguments_at, result_at, numbered, tuple_type, put}
use Rattle.ir_poly.specs.TestsChecked.{Known, of_type, own, exception, Knowns, exn_type, HasConstructor, value_type, alone_type, declared, AtomChecked, AtomsChecked, no_atoms_checked, an_atom_checked, RowChecked, no_row_checked, a_row_checked, con_checked, Checked, c_ret, c_let, c_exception, c_exception_alone, c_name, c_switch, c_first, c_counted, c_no_arms, c_arm, OpChecked, c_use, c_use_one, c_use_own, c_use_exception, c_const, c_con_alone, c_construct, c_ref_alone, c_refer, c_pack, c_make_record, c_prim_alone, c_prim, c_app, c_fn, c_block, c_handle, c_raise, c_raise_initial, FunChecked, c_last, c_more, FunsChecked, c_no_funs, c_fun}
use Rattle.ir_poly.proofs.SaidLemmas.{said}
use Rattle.ir_poly.proofs.ReplaceLemmas.{left-true, both-true, row_read, sorted-read, row_type-read, labels-read, arguments-read, result-read, tuple-read}
use Rattle.match_compile.specs.Compile as pass
use Rattle.match_compile.specs.Compile.{are_numbered, Names, no_names, named, funs_named, past_group, scoped, all_scoped, option_scoped, standing, unclassed, bool_type, exception_type, atom, excepted, Otherwise, again, initial, otherwise, otherwise_op, Spots, no_spots, spot, spots, spots_named, past_pat, tests, Shape, plain, alone, recorded, general_shape, shape, record_type, together, past_shape, shape_spots, shaped, grouped, Built, a_con, a_ref, an_exn, Way, by_call, by_building, by_performing, used_at, is_tuple, arity, performed, way, weighed, past_built, beginning, building, along, fits_all, is_direct, value_at, value_of_rule, past_tuple, past_fields, past_chain, past_rules, past_fun, past_decs, past_binds, past_funs, binds_spots, val_named, decs_named, field_row, field_atoms, tuple_atoms, making, making_rule, making_tuple, making_all, links, rules, function, functions, bindings, decs, compile}
use Rattle.match_compile.proofs.Numbers.{le-trans, le-suc, le-refl, le-less, less-of, pat-up, shape-up, group-up, up, tuple-up, fields-up, chain-up, fun-up, rules-up, binds-up, funs-up}
use Rattle.match_compile.proofs.Sorted.{sorted-checked}
use Rattle.match_compile.proofs.Keeps.{performed-not-built, performed-tuple, right-true, label-is, less-not, sole}
use Rattle.match_compile.proofs.Values.{tests-value, value-made}
use Rattle.match_compile.proofs.TypeLemmas.{scoped-over, scoped-all-over, Within, within-none, within-more, within-less, new-within, allows-scoped, are-allowed-scoped, instance-scoped, allowed-unclassed, literal-scoped, value-scoped, alone-scoped, constructor-scoped, tuple-many}
use Rattle.match_compile.proofs.TypedLemmas.{SameKnowns, Holds, holds-refl, holds-trans, holds-bind, here, knowns-up, knowns-bind, knowns-one, knowns-more, knowns-less, KnownAs, as_own, as_exception, declared-known, type-found, own-found, exception-found, general-found, atom-holds, atom-here, may-general, name-typed, put-typed, otherwise-typed, Places, places_none, places_one, tests-typed, Bound, bound_none, bound_one, bound-more, bound-onto, bound-places, Along, along_none, together-typed, record-split, AllOver, none_over, one_over, group-holds, group-known, grouped-typed}
use Rattle.match_compile.proofs.TypedLemmas as lemmas

performed-all : (x : Bool) (p q : BasisPrimitive) (u v : Typ) → performed x p u ≡ by_performing q v → (x ≡ true) × (p ≡ q) × (u ≡ v)
performed-all true p q u v e = (refl, cc, cc)
performed-all false p q u v e = absurd (cc)

function-left : {a b c d : Typ} → function_type a b ≡ function_type c d → a ≡ c
function-left e = cc

function-right : {a b c d : Typ} → function_type a b ≡ function_type c d → b ≡ d
function-right e = cc

typs-same : (ts us : List Typ) → typs_of ts ≡ typs_of us → ts ≡ us
typs-same [] [] e = refl
typs-same [] (u ∷ us) e = absurd (cc)
typs-same (t ∷ ts) [] e = absurd (cc)
typs-same (t ∷ ts) (u ∷ us) e =
    let one : t ≡ u = cc in let two : typs_of ts ≡ typs_of us = cc in
    ap (λ x. x ∷ ts) one ∙ ap (λ xs. u ∷ xs) (typs-same ts us two)

numbered-types : (k : ℕ) (ts : List Typ) → map (λ f. f.1) (numbered k ts) ≡ ts
numbered-types k [] = refl
numbered-types k (t ∷ ts) = ap (λ xs. t ∷ xs) (numbered-types (suc k) ts)

row-types : (r q : List (Label × Typ)) → row_type r ≡ row_type q → map (λ f. f.1) r ≡ map (λ f. f.1) q
row-types r q e = typs-same (map (λ f. f.1) r) (map (λ f. f.1) q) cc

not-plain : (p : Pat) → general_shape p ≡ plain → ⊥
not-plain (variable_pat x) e = cc
not-plain any_pat e = cc
not-plain (constant_pat l) e = cc
not-plain (con_pat c) e = cc
not-plain (con_of_pat c u p) e = cc
not-plain (ref_of_pat u p) e = cc
not-plain (exn_pat x) e = cc
not-plain (exn_of_pat x u p) e = cc
not-plain (fields_pat further ps) e = cc
not-plain (as_pat x p) e = cc

module _ (table : List Constructor) (truths : (b : Bool) → HasConstructor table (truth_number b) bool_type None) where
  -- a value in the variable k, and the rest
  abbrev Follows : Bool → List Quantified → (n k : ℕ) → Knowns → Typ → Tests → Typ → Type 0
  Follows m D n k H a rest t = (H' : Knowns) → Holds n H H' → AtomChecked H' (atom k) (scoped D a) → Checked table m D H' rest t

  more-follows : {m : Bool} (D : List Quantified) (n k j : ℕ) (H H1 : Knowns) (a : Typ) {rest : Tests} {t : Typ} → n ≤ k → Holds n H H1 → Follows m D n j H a rest t → Follows m D k j H1 a rest t
  more-follows D n k j H H1 a le h f H' h' w = f H' (holds-trans n k H H1 H' le h h') w

  abbrev MakingTyped : (S D : List Quantified) → Names → Knowns → Exp → Typ → Type 0
  MakingTyped S D N G e a = (m : Bool) (n : ℕ) (H : Knowns) (rest : Tests) (t : Typ) → SameKnowns n S D N G H → Follows m D n (value_at e n) H a rest t → Checked table m D H (making D N e n rest) t

  abbrev TupleTyped : (S D : List Quantified) → Names → Knowns → Exp → Typ → Type 0
  TupleTyped S D N G e a =
      (m : Bool) (n : ℕ) (H : Knowns) (rest : Tests) (t : Typ) → SameKnowns n S D N G H
      → ((H' : Knowns) → Holds n H H' → (r : List (Label × Typ)) → a ≡ row_type r → AtomsChecked H' (tuple_atoms e n) (all_scoped D (map (λ f. f.1) r)) → Checked table m D H' rest t) → Checked table m D H (making_tuple D N e n rest) t

  weighed-typed : (f : Exp) {m : Bool} {D : List Quantified} {H : Knowns} {rest : Tests} {t : Typ} → Checked table m D H rest t → Checked table m D H (weighed f rest) t
  weighed-typed (constant_exp l t) h = h
  weighed-typed (variable_exp x ts t) h = h
  weighed-typed (own_exp x t) h = h
  weighed-typed (con_exp c y ts t) h = h
  weighed-typed (ref_exp v t) h = h
  weighed-typed (exn_exp x t) h = h
  weighed-typed (prim_exp p ts t) h = h
  weighed-typed (fields_exp t fs) h = h
  weighed-typed (let_exp t ds e) h = h
  weighed-typed (app_exp place t f a) h = h
  weighed-typed (case_exp place t e rs) h = h
  weighed-typed (chain_exp b t c) h = h
  weighed-typed (handle_exp t e rs) h = h
  weighed-typed (raise_exp t e) h = h
  weighed-typed (fn_exp t f) h = h
  weighed-typed (counted_exp n t f) h = c_counted (weighed-typed f h)

  -- What an operator is that isn't made itself.

  data BuiltAs (G : Knowns) : Built → Typ → Type 0 where
    as_con : {c : ℕ} {u : Typ} (w : Typ) (o : Option Typ) → HasConstructor table c w o → u ≡ alone_type o w → BuiltAs G (a_con c) u
    as_ref : {v u : Typ} → u ≡ function_type v (ref_type v) → BuiltAs G (a_ref v) u
    as_exn : {x : Exc} {u : Typ} (o : Option Typ) → ExcChecked G x o → u ≡ value_type o → BuiltAs G (an_exn x) u

  built-as : {S : List Quantified} {G : Knowns} {f : Exp} {u : Typ} (a : Exp) (b : Built) → pr.Checked table S G f u → way f a ≡ by_building b → BuiltAs G b u
  built-as {G = G} {u = u} a b (pr.c_con {c = c} {y = y} {ts = ts} k found same o d) e =
      let one : a_con c ≡ b = cc in
      subst (λ z. BuiltAs G z u) one (as_con (con (name y) (typs_of ts)) (argument_at ts k.argument) (record { datatype = y; arguments = ts; row = k; found = found; same = same; type = refl; argument = refl }) d)
  built-as {G = G} {u = u} a b (pr.c_ref {a = v} o d) e = let one : a_ref v ≡ b = cc in subst (λ z. BuiltAs G z u) one (as_ref d)
  built-as {G = G} {u = u} a b (pr.c_exn {x = x} {a = o} c d) e = let one : an_exn x ≡ b = cc in subst (λ z. BuiltAs G z u) one (as_exn o c d)
  built-as a b (pr.c_prim {p = p} o al d) e = absurd (performed-not-built _ p _ b e)
  built-as a b (pr.c_counted h) e = built-as a b h e
  built-as a b (pr.c_constant h) e = absurd (cc)
  built-as a b (pr.c_variable h al o d) e = absurd (cc)
  built-as a b (pr.c_variable_one h) e = absurd (cc)
  built-as a b (pr.c_own h) e = absurd (cc)
  built-as a b (pr.c_fields h d o) e = absurd (cc)
  built-as a b (pr.c_let G' h k) e = absurd (cc)
  built-as a b (pr.c_app h k d) e = absurd (cc)
  built-as a b (pr.c_case h o k) e = absurd (cc)
  built-as a b (pr.c_chain h d) e = absurd (cc)
  built-as a b (pr.c_handle h k) e = absurd (cc)
  built-as a b (pr.c_raise h d) e = absurd (cc)
  built-as a b (pr.c_fn h) e = absurd (cc)

  data PerformedAs (S : List Quantified) (p : BasisPrimitive) (w u : Typ) : Type 0 where
    as_primitive : Allows (prim_type p).mark (admits_in S) w → u ≡ function_type (tuple_type (arguments_at p w)) (result_at p w) → nat_lt 1 (arity p) ≡ true → PerformedAs S p w u

  performed-as : {S : List Quantified} {G : Knowns} {f : Exp} {u : Typ} (a : Exp) (p : BasisPrimitive) (w : Typ) → pr.Checked table S G f u → way f a ≡ by_performing p w → PerformedAs S p w u
  performed-as {S} {u = u} a p w (pr.c_prim {p = q} {u = v} o al d) e =
      let k = performed-all _ q p v w e in
      subst (λ z. PerformedAs S z w u) k.1 (subst (λ z. PerformedAs S q z u) k.2 (as_primitive al d (left-true (nat_lt 1 (arity q)) (is_tuple (arity q) a) k.0)))
  performed-as a p w (pr.c_counted h) e = performed-as a p w h e
  performed-as a p w (pr.c_con k found same o d) e = absurd (cc)
  performed-as a p w (pr.c_ref o d) e = absurd (cc)
  performed-as a p w (pr.c_exn c d) e = absurd (cc)
  performed-as a p w (pr.c_constant h) e = absurd (cc)
  performed-as a p w (pr.c_variable h al o d) e = absurd (cc)
  performed-as a p w (pr.c_variable_one h) e = absurd (cc)
  performed-as a p w (pr.c_own h) e = absurd (cc)
  performed-as a p w (pr.c_fields h d o) e = absurd (cc)
  performed-as a p w (pr.c_let G' h k) e = absurd (cc)
  performed-as a p w (pr.c_app h k d) e = absurd (cc)
  performed-as a p w (pr.c_case h o k) e = absurd (cc)
  performed-as a p w (pr.c_chain h d) e = absurd (cc)
  performed-as a p w (pr.c_handle h k) e = absurd (cc)
  performed-as a p w (pr.c_raise h d) e = absurd (cc)
  performed-as a p w (pr.c_fn h) e = absurd (cc)

  -- a constructor's argument is the function's
  con-argument : {c : ℕ} {w v t : Typ} (o : Option Typ) → HasConstructor table c w o → alone_type o w ≡ function_type v t → HasConstructor table c t (Some v)
  con-argument {c} {w} {v} {t} (Some a) h e = let one : a ≡ v = cc in let two : w ≡ t = cc in subst (λ z. HasConstructor table c t (Some z)) one (subst (λ z. HasConstructor table c z (Some a)) two h)
  con-argument {w = w} {v = v} {t = t} None h e = absurd (let d : con (name h.datatype) (typs_of h.arguments) ≡ function_type v t = sym h.type ∙ e in cc)

  exn-argument : {G : Knowns} {x : Exc} {v t : Typ} (o : Option Typ) → ExcChecked G x o → value_type o ≡ function_type v t → (o ≡ Some v) × (t ≡ exn_type)
  exn-argument (Some a) h e = (ap Some (function-left e), sym (function-right e))
  exn-argument None h e = absurd (cc)

  builds-typed : {S D : List Quantified} {N : Names} {G : Knowns} (b : Built) (f a : Exp) (place : Place) {u v t : Typ} → BuiltAs G b u → u ≡ function_type v t → v ≡ type_of a → MakingTyped S D N G a v → (m : Bool) (n : ℕ) (H : Knowns) (rest : Tests) (z : Typ) → SameKnowns n S D N G H
      → Follows m D n (suc (value_at a (past_built b n))) H t rest z
      → Checked table m D H (beginning N b n (weighed f (making D N a (past_built b n) (pass.put D (suc (value_at a (past_built b n))) t (building D b place t (type_of a) n (value_at a (past_built b n))) rest)))) z
  builds-typed {D = D} (a_con c) f a place {v = v} {t = t} (as_con w o hc d) e g ma m n H rest z s k =
      let i = value_at a n in let le = le-suc _ _ (up a n) in
      weighed-typed f (ma m n H _ z s (λ H1 h1 w1. put-typed table D (suc i) (suc i) t (le-refl (suc i)) (c_construct (constructor-scoped D (con-argument o hc (sym d ∙ e))) w1) (more-follows D n (suc i) (suc i) H H1 t le h1 k)))
  builds-typed {D = D} (a_ref q) f a place {v = v} {t = t} (as_ref d) e g ma m n H rest z s k =
      let i = value_at a n in let le = le-suc _ _ (up a n) in let same : function_type q (ref_type q) ≡ function_type v t = sym d ∙ e in
      weighed-typed f (ma m n H _ z s (λ H1 h1 w1. put-typed table D (suc i) (suc i) t (le-refl (suc i)) (c_refer (subst (λ y. AtomChecked H1 (atom i) (scoped D y)) (sym (function-left same)) w1) (ap (scoped D) (sym (function-right same)))) (more-follows D n (suc i) (suc i) H H1 t le h1 k)))
  builds-typed {D = D} {G = G} (an_exn x) f a place {v = v} {t = t} (as_exn o c d) e g ma m n H rest z s k =
      let i = value_at a (suc n) in let le : n ≤ suc n = le-suc n n (le-refl n) in let l2 : n ≤ suc i = le-suc _ _ (le-trans _ _ _ le (up a (suc n))) in
      let is = exn-argument o c (sym d ∙ e) in
      let c' : ExcChecked G x (Some v) = subst (ExcChecked G x) is.0 c in
      let w0 = exception (Some (scoped D v)) in let H0 = (n, w0) ∷ H in let h0 = holds-bind n n w0 H (le-refl n) in
      c_name (name-typed c' s) (weighed-typed f (ma m (suc n) H0 _ z (knowns-up n (suc n) le h0 s) (λ H1 h1 w1.
      put-typed table D (suc i) (suc i) t (le-refl (suc i)) (c_pack (h1 n (omega arith) ∙ (here n w0 H ∙ ap (λ y. Some (exception (Some (scoped D y)))) g)) (subst (λ y. AtomChecked H1 (atom i) (scoped D y)) g w1) (ap (scoped D) is.1))
      (more-follows D n (suc i) (suc i) H H1 t l2 (holds-trans n (suc n) H H0 H1 le h0 h1) k))))

  performs-typed : {S D : List Quantified} {N : Names} {G : Knowns} (p : BasisPrimitive) (q : Typ) (f a : Exp) (place : Place) {u v t : Typ} → Within D S → PerformedAs S p q u → u ≡ function_type v t → TupleTyped S D N G a v → (m : Bool) (n : ℕ) (H : Knowns) (rest : Tests) (z : Typ) → SameKnowns n S D N G H
      → Follows m D n (past_tuple a n) H t rest z
      → Checked table m D H (weighed f (making_tuple D N a n (pass.put D (past_tuple a n) t (te.prim (Some place) p (scoped D q) (tuple_atoms a n)) rest))) z
  performs-typed {S} {D} p q f a place {v = v} {t = t} w (as_primitive al d many) e ta m n H rest z s k =
      let j = past_tuple a n in let same : function_type (tuple_type (arguments_at p q)) (result_at p q) ≡ function_type v t = sym d ∙ e in
      weighed-typed f (ta m n H _ z s (λ H1 h1 r is ws.
      let args : map (λ f. f.1) r ≡ arguments_at p q = row-types r (numbered 1 (arguments_at p q)) (sym is ∙ (sym (function-left same) ∙ tuple-many (put q) (prim_type p).arguments many)) ∙ numbered-types 1 (arguments_at p q) in
      put-typed table D j j t (le-refl j) (c_prim (allows-scoped (prim_type p).mark D S w q al) ws (ap (all_scoped D) args ∙ arguments-read (standing D) p q) (ap (scoped D) (sym (function-right same)) ∙ result-read (standing D) p q))
      (more-follows D n j j H H1 t (tuple-up a n) h1 k)))

  calls-typed : {S D : List Quantified} {N : Names} {G : Knowns} (f a : Exp) (place : Place) {u v t : Typ} → u ≡ function_type v t → MakingTyped S D N G f u → MakingTyped S D N G a v → (m : Bool) (n : ℕ) (H : Knowns) (rest : Tests) (z : Typ) → SameKnowns n S D N G H
      → Follows m D n (suc (value_at a (suc (value_at f n)))) H t rest z
      → Checked table m D H (making D N f n (making D N a (suc (value_at f n)) (pass.put D (suc (value_at a (suc (value_at f n)))) t (te.app place (atom (value_at f n)) (atom (value_at a (suc (value_at f n))))) rest))) z
  calls-typed {D = D} f a place {t = t} e mf ma m n H rest z s k =
      let i = value_at f n in let j = value_at a (suc i) in let le = le-suc _ _ (up f n) in
      mf m n H _ z s (λ H1 h1 w1. ma m (suc i) H1 _ z (knowns-up n (suc i) le h1 s) (λ H2 h2 w2.
      put-typed table D (suc j) (suc j) t (le-refl (suc j)) (c_app (atom-holds i (h2 i (omega arith)) w1) w2 (ap (scoped D) e))
      (more-follows D n (suc j) (suc j) H H2 t (le-suc _ _ (le-trans _ _ _ le (up a (suc i)))) (holds-trans n (suc i) H H1 H2 le h1 h2) k)))

  ways-typed : {S D : List Quantified} {N : Names} {G : Knowns} (y : Way) (f a : Exp) (place : Place) {u v t : Typ} → way f a ≡ y → Within D S → pr.Checked table S G f u → u ≡ function_type v t → v ≡ type_of a → MakingTyped S D N G f u → MakingTyped S D N G a v → ((k : ℕ) → is_tuple k a ≡ true → TupleTyped S D N G a v)
      → (m : Bool) (n : ℕ) (H : Knowns) (rest : Tests) (z : Typ) → SameKnowns n S D N G H
      → Follows m D n (along y (suc (value_at a (suc (value_at f n)))) (λ b. suc (value_at a (past_built b n))) (λ p v. past_tuple a n)) H t rest z
      → Checked table m D H (along y (making D N f n (making D N a (suc (value_at f n)) (pass.put D (suc (value_at a (suc (value_at f n)))) t (te.app place (atom (value_at f n)) (atom (value_at a (suc (value_at f n))))) rest)))
      (λ b. beginning N b n (weighed f (making D N a (past_built b n) (pass.put D (suc (value_at a (past_built b n))) t (building D b place t (type_of a) n (value_at a (past_built b n))) rest))))
      (λ p v. weighed f (making_tuple D N a n (pass.put D (past_tuple a n) t (te.prim (Some place) p (scoped D v) (tuple_atoms a n)) rest)))) z
  ways-typed by_call f a place d w cf e g mf ma mt m n H rest z s k = calls-typed f a place e mf ma m n H rest z s k
  ways-typed (by_building b) f a place d w cf e g mf ma mt m n H rest z s k = builds-typed b f a place (built-as a b cf d) e g ma m n H rest z s k
  ways-typed (by_performing p q) f a place d w cf e g mf ma mt m n H rest z s k = performs-typed p q f a place w (performed-as a p q cf d) e (mt (arity p) (performed-tuple f a p q d)) m n H rest z s k

  -- the fields of a tuple that is written stand in their places
  first-row : {S : List Quantified} {G : Knowns} (l k : ℕ) (m : Label) (t : Typ) {fs : Fields} {r : List (Label × Typ)} → pr.FieldsChecked table S G fs r → Number l ≡ m → are_numbered (suc l) k fs ≡ true → put_by (λ f. f.0) (m, t) r ≡ (m, t) ∷ r
  first-row l k m t pr.c_no_fields p e = refl
  first-row l zero m t (pr.c_field h hs) p e = absurd (cc)
  first-row l (suc k) m t (pr.c_field {l = j} {fs = fs} {t = u} {r = r} h hs) p e =
      let q = label-is (suc l) j (left-true _ (are_numbered (suc (suc l)) k fs) e) in
      ap (λ b. if b then (j, u) ∷ put_by (λ f. f.0) (m, t) r else (m, t) ∷ (j, u) ∷ r) (ap₂ label_before (sym q) (sym p) ∙ less-not l)

  numbered-row : {S : List Quantified} {G : Knowns} (l k : ℕ) {fs : Fields} {r : List (Label × Typ)} → pr.FieldsChecked table S G fs r → are_numbered l k fs ≡ true → sorted r ≡ r
  numbered-row l zero pr.c_no_fields e = refl
  numbered-row l zero (pr.c_field h hs) e = absurd (cc)
  numbered-row l (suc k) pr.c_no_fields e = absurd (cc)
  numbered-row l (suc k) (pr.c_field {l = m} {fs = fs} {t = t} h hs) e =
      let d = right-true (same_label (Number l) m) _ e in
      ap (put_by (λ f. f.0) (m, t)) (numbered-row (suc l) k hs d) ∙ first-row l k m t hs (label-is l m (left-true _ (are_numbered (suc l) k fs) e)) d

  -- a binding that is generalised
  general-typed : (y : Shape) (qs S D : List Quantified) (N : Names) {G : Knowns} (p : Pat) (t : Typ) (e : Exp) → general_shape p ≡ y → ((x : ℕ) → y ≡ alone x → p ≡ variable_pat x) → are_new qs S ≡ true → Within D S → is_value e ≡ true → over (qs ++ S) t ≡ true → pr.PatChecked table (qs ++ S) G p t → MakingTyped (qs ++ S) (unclassed qs ++ D) N G e t
      → (n : ℕ) {H G0 G1 : Knowns} {us : Spots} (plainly next : Tests) {u : Typ} → SameKnowns n S D N G H → Bound table n S D H G0 us G1
      → ((H' : Knowns) → Holds n H H' → Bound table (past_shape y p t (value_at e n)) S D H' G0 (shape_spots y p t (value_at e n) us) (pat_onto (declared qs) p t G1) → Checked table true D H' next u)
      → Checked table true D H (shaped y D (unclassed qs) p t (value_at e n) plainly (making (unclassed qs ++ D) N e n (te.ret (atom (value_at e n))))
      (making (unclassed qs ++ D) N e n (tests (unclassed qs ++ D) N p t (suc (value_at e n)) (value_at e n) (together (unclassed qs ++ D) (spots p t (suc (value_at e n)) (value_at e n) no_spots) (past_pat p (suc (value_at e n)))))) next) u
  general-typed plain qs S D N p t e d z new w v o cp me n plainly next s b k = absurd (not-plain p d)
  general-typed (alone x) qs S D N p t e d z new w v o cp me n {H} {G0} {G1} {us} plainly next {u} s b k =
      let rs = unclassed qs in let E = rs ++ D in let i = value_at e n in let le : n ≤ suc i = le-suc _ _ (up e n) in let k0 = declared rs (scoped E t) in let H1 = (suc i, k0) ∷ H in let h1 = holds-bind n (suc i) k0 H le in
      c_let (may-general rs (te.block (making E N e n (te.ret (atom i)))) (value-made E N e n (te.ret (atom i)) v refl)) (new-within qs D S w new) (scoped-over E t)
      (c_block (me false n H (te.ret (atom i)) (scoped E t) (knowns-more qs S D new s) (λ H' h' w'. c_ret w')))
      (k H1 h1 (subst (λ q. Bound table (suc (suc i)) S D H1 G0 (spot x (suc i) t us) (pat_onto (declared qs) q t G1)) (sym (z x refl)) (bound_one (omega arith) (here (suc i) k0 H) (declared-known qs S D t o) (bound-more table n (suc (suc i)) (le-suc _ _ le) h1 b))))
  general-typed recorded qs S D N {G} p t e d z new w v o cp me n {H} {G0} {G1} {us} plainly next {u} s b k =
      let rs = unclassed qs in let E = rs ++ D in let i = value_at e n in let le : n ≤ suc i = le-suc _ _ (up e n) in let vs = spots p t (suc i) i no_spots in let j = past_pat p (suc i) in let r = suc (suc j) in
      let ty = record_type vs in let k0 = declared rs (scoped E ty) in let H1 = (r, k0) ∷ H in let lr : n ≤ r = le-suc _ _ (le-suc _ _ (le-trans _ _ _ le (pat-up p (suc i)))) in let h1 = holds-bind n r k0 H lr in
      let all = making E N e n (tests E N p t (suc i) i (together E vs j)) in let failed = otherwise E (suc j) ty i (initial bind_name) in
      let whole : Checked table true E H all (scoped E ty) = me true n H (tests E N p t (suc i) i (together E vs j)) (scoped E ty) (knowns-more qs S D new s) (λ H2 h2 w2.
      tests-typed table (declared qs) (qs ++ S) E N G no_spots G1 cp o (suc i) i (knowns-up n (suc i) le h2 (knowns-more qs S D new s)) w2 (omega arith) places_none (λ H3 h3 p3. together-typed table p3 j)) in
      c_let (may-general rs (te.block (te.first all failed)) (both-true (value-made E N e n _ v (tests-value E N p t (suc i) i (together E vs j) refl)) refl)) (new-within qs D S w new) (scoped-over E ty)
      (c_block (c_first whole (otherwise-typed table E (suc j) i (initial bind_name) ty (c_raise_initial refl))))
      (record-split table qs S D (new-within qs D S w new) r (lemmas.along table cp o (suc i) i along_none) (suc r) (here r k0 H) (omega arith) (bound-more table n (suc r) (le-suc _ _ lr) h1 b)
      (λ H2 h2 b2. k H2 (holds-trans n (suc r) H H1 H2 (le-suc _ _ lr) h1 h2) b2))

  -- the variables of a pattern that any value fits
  fit-places : {S : List Quantified} (p : Pat) → fits_all p ≡ true → (f : Typ → Known) (D : List Quantified) (H : Knowns) (us : Spots) (G0 : Knowns) (n k : ℕ) (t : Typ) {vs : Spots} {G : Knowns} → k < n → over S t ≡ true → AtomChecked H (atom k) (scoped D t) → Places table f n S D H us G0 vs G
      → Places table f n S D H us G0 (spots p t n k vs) (pat_onto f p t G)
  fit-places any_pat d f D H us G0 n k t lt o a h = h
  fit-places (variable_pat x) d f D H us G0 n k t lt o a h = places_one lt o a h
  fit-places (as_pat x p) d f D H us G0 n k t lt o a h = fit-places p d f D H us G0 n k t lt o a (places_one lt o a h)
  fit-places (constant_pat l) d f D H us G0 n k t lt o a h = absurd (cc)
  fit-places (con_pat c) d f D H us G0 n k t lt o a h = absurd (cc)
  fit-places (con_of_pat c u p) d f D H us G0 n k t lt o a h = absurd (cc)
  fit-places (ref_of_pat u p) d f D H us G0 n k t lt o a h = absurd (cc)
  fit-places (exn_pat x) d f D H us G0 n k t lt o a h = absurd (cc)
  fit-places (exn_of_pat x u p) d f D H us G0 n k t lt o a h = absurd (cc)
  fit-places (fields_pat further ps) d f D H us G0 n k t lt o a h = absurd (cc)

  direct-typed : {m : Bool} (b : Bool) (D : List Quantified) (n i j : ℕ) (H : Knowns) (a : Typ) (x y : Tests) {rest : Tests} (z : Typ) → (b ≡ true → Follows m D n i H a rest z → Checked table m D H x z) → (Follows m D n j H a rest z → Checked table m D H y z) → Follows m D n (if b then i else j) H a rest z
      → Checked table m D H (if b then x else y) z
  direct-typed true D n i j H a x y z h g f = h refl f
  direct-typed false D n i j H a x y z h g f = g f

  funs-over : {S : List Quantified} {G : Knowns} {fs : Funs} → pr.FunsChecked table S G fs → AllOver table S fs
  funs-over pr.c_no_funs = none_over
  funs-over (pr.c_fun o f fs) = one_over o (funs-over fs)

  mutual
    pub making-typed : {S D : List Quantified} {G : Knowns} {e : Exp} {a : Typ} → pr.Checked table S G e a → Within D S → (N : Names) → MakingTyped S D N G e a
    making-typed {D = D} (pr.c_constant {t = t} h) w N m n H rest z s f = put-typed table D n n t (le-refl n) (c_const (literal-scoped D h)) f
    making-typed {S} {D} (pr.c_variable {qs = qs} {x = x} {ts = ts} {b = b} {t = t} e al o d) w N m n H rest z s f =
        put-typed table D n n t (le-refl n) (c_use (general-found (s.known x _ e)) (allowed-unclassed (admits_in D) qs (all_scoped D ts) (are-allowed-scoped D S w qs ts al)) (scoped-all-over D ts) (ap (scoped D) d ∙ instance-scoped D qs ts (admits_in S) al b)) f
    making-typed {D = D} (pr.c_variable_one {x = x} {t = t} e) w N m n H rest z s f = put-typed table D n n t (le-refl n) (c_use_one (type-found (s.known x _ e))) f
    making-typed {D = D} (pr.c_own {x = x} {t = t} e) w N m n H rest z s f = put-typed table D n n t (le-refl n) (c_use_own (own-found (s.known x _ e))) f
    making-typed {D = D} (pr.c_con {c = c} {y = y} {ts = ts} {t = t} k found same o d) w N m n H rest z s f =
        let a = argument_at ts k.argument in let u = con (name y) (typs_of ts) in
        let h : HasConstructor table c u a = record { datatype = y; arguments = ts; row = k; found = found; same = same; type = refl; argument = refl } in
        put-typed table D n n t (le-refl n) (c_con_alone (constructor-scoped D h) (ap (scoped D) d ∙ alone-scoped D a u)) f
    making-typed {D = D} (pr.c_ref {t = t} o d) w N m n H rest z s f = put-typed table D n n t (le-refl n) (c_ref_alone (ap (scoped D) d)) f
    making-typed {D = D} (pr.c_exn {x = x} {a = a} {t = t} c d) w N m n H rest z s f =
        let k = exception (option_scoped D a) in let H1 = (n, k) ∷ H in let le = le-suc n n (le-refl n) in
        c_name (name-typed c s) (put-typed table D (suc n) (suc n) t (le-refl (suc n)) (c_use_exception (here n k H) (ap (scoped D) d ∙ value-scoped D a)) (more-follows D n (suc n) (suc n) H H1 t le (holds-bind n n k H (le-refl n)) f))
    making-typed {S} {D} (pr.c_prim {p = p} {u = u} {t = t} o al d) w N m n H rest z s f =
        put-typed table D n n t (le-refl n) (c_prim_alone (allows-scoped (prim_type p).mark D S w u al) (ap (scoped D) d ∙ rw (tuple-read (standing D) (arguments_at p u), arguments-read (standing D) p u, result-read (standing D) p u) refl)) f
    making-typed {D = D} (pr.c_fields {fs = fs} {r = r} {t = t} h d a) w N m n H rest z s f =
        let i = past_fields fs n in
        fields-typed h w N m n H _ z s (λ H1 h1 w1 a1. put-typed table D i i t (le-refl i) (c_make_record (sorted-checked w1)
        (ap (scoped D) d ∙ row_type-read (standing D) (sorted r) ∙ ap row_type (sorted-read (standing D) r))
        (ap (λ q. ascend (labels_in q)) (sym (sorted-read (standing D) r)) ∙ ap ascend (labels-read (standing D) (sorted r)) ∙ a)) (more-follows D n i i H H1 t (fields-up fs n) h1 f))
    making-typed {D = D} (pr.c_let G' {ds = ds} {e = e} {t = t} h k) w N m n H rest z s f =
        let i = past_decs ds n in let j = value_at e i in
        put-typed table D n (suc (suc j)) t (up (let_exp t ds e) n)
        (c_block (c_first (decs-typed h w N n s (λ H1 s1. making-typed k w (decs_named ds n N) true i H1 (te.ret (atom j)) (scoped D t) s1 (λ H' h' w'. c_ret w'))) (otherwise-typed table D (suc j) n (initial bind_name) t (c_raise_initial refl)))) f
    making-typed (pr.c_app {place = place} {f = g} {a = a} h k e) w N m n H rest z s f = ways-typed (way g a) g a place refl w h e (said k) (making-typed h w N) (making-typed k w N) (λ j d. tuple-typed j k d w N) m n H rest z s f
    making-typed {S} {D} (pr.c_case {e = e} {rs = rs} {u = u} {t = t} h o k) w N m n H rest z s f =
        let i = value_at e n in let j = past_rules rs (suc i) in let le = le-suc _ _ (up e n) in
        making-typed h w N m n H _ z s (λ H1 h1 w1. let s1 = knowns-up n (suc i) le h1 s in
        direct-typed (is_direct rs) D (suc i) (value_of_rule rs (suc i)) j H1 t (making_rule D N rs (type_of e) (suc i) i rest) _ z
        (λ d f1. subst (λ y. Checked table m D H1 (making_rule D N rs y (suc i) i rest) z) (said h) (rule-typed k d w o N m (suc i) i H1 rest z s1 w1 (omega arith) f1))
        (λ f1. put-typed table D (suc i) j t (rules-up rs (suc i))
        (c_block (subst (λ y. Checked table false D H1 (rules D N rs y t (suc i) i (initial match_name)) (scoped D t)) (said h) (rules-typed k w o N (suc i) i (initial match_name) s1 w1 (omega arith) (c_raise_initial refl)))) f1)
        (more-follows D n (suc i) (if is_direct rs then value_of_rule rs (suc i) else j) H H1 t le h1 f))
    making-typed {D = D} (pr.c_chain {b = b} {c = c} {t = t} h d) w N m n H rest z s f =
        let i = past_chain c n in
        put-typed table D n (suc i) t (le-suc _ _ (chain-up c n)) (c_block (subst (λ y. Checked table false D H (te.first (links D N c b n) (otherwise D i bool_type n (initial match_name))) (scoped D y)) (sym d) (c_first (links-typed h w N b n s) (otherwise-typed table D i n (initial match_name) bool_type (c_raise_initial refl))))) f
    making-typed {S} {D} (pr.c_handle {e = e} {rs = rs} {t = t} h k) w N m n H rest z s f =
        let i = value_at e n in let le : n ≤ suc (suc i) = le-suc _ _ (le-suc _ _ (up e n)) in let H1 = (suc i, of_type exn_type) ∷ H in let h1 = holds-bind n (suc i) (of_type exn_type) H (le-suc _ _ (up e n)) in
        put-typed table D n (past_rules rs (suc (suc i))) t (up (handle_exp t e rs) n)
        (c_handle (making-typed h w N false n H (te.ret (atom i)) (scoped D t) s (λ H' h' w'. c_ret w')) (rules-typed k w refl N (suc (suc i)) (suc i) again (knowns-up n (suc (suc i)) le h1 s) (atom-here (suc i) exn_type H) (omega arith) (c_raise (atom-here (suc i) exn_type H) refl))) f
    making-typed {D = D} (pr.c_raise {e = e} {t = t} h d) w N m n H rest z s f =
        let i = value_at e n in let le = le-suc _ _ (up e n) in
        making-typed h w N m n H _ z s (λ H1 h1 w1. put-typed table D (suc i) (suc i) t (le-refl (suc i)) (c_raise w1 (ap (scoped D) d)) (more-follows D n (suc i) (suc i) H H1 t le h1 f))
    making-typed {D = D} (pr.c_fn {f = g} {t = t} h) w N m n H rest z s f = put-typed table D n (past_fun g n) t (le-less _ _ (fun-up g n)) (c_fn (fun-typed h w N n s)) f
    making-typed (pr.c_counted h) w N m n H rest z s f = c_counted (making-typed h w N m n H rest z s f)

    -- a rule that any value fits
    rule-typed : {S D : List Quantified} {G : Knowns} {rs : Rules} {u t : Typ} → pr.RulesChecked table S G rs u t → is_direct rs ≡ true → Within D S → over S u ≡ true → (N : Names) (m : Bool) (n k : ℕ) (H : Knowns) (rest : Tests) (z : Typ) → SameKnowns n S D N G H → AtomChecked H (atom k) (scoped D u) → k < n
        → Follows m D n (value_of_rule rs n) H t rest z → Checked table m D H (making_rule D N rs u n k rest) z
    rule-typed pr.c_no_rules d w o N m n k H rest z s a lt f = absurd (cc)
    rule-typed {S} {D} {G} (pr.c_rule {p = p} {u = u} c l pr.c_no_rules) d w o N m n k H rest z s a lt f =
        making-typed l w (spots_named (spots p u n k no_spots) N) m n H rest z (bound-onto table s (bound-places table (λ t. refl) bound_none (fit-places p d of_type D H no_spots G n k u lt o a places_none))) f
    rule-typed (pr.c_rule c l (pr.c_rule b k ks)) d w o N m n j H rest z s a lt f = absurd (cc)

    tuple-typed : {S D : List Quantified} {G : Knowns} {e : Exp} {a : Typ} (k : ℕ) → pr.Checked table S G e a → is_tuple k e ≡ true → Within D S → (N : Names) → TupleTyped S D N G e a
    tuple-typed k (pr.c_fields {r = r} h d o) e w N m n H rest z s f = fields-typed h w N m n H rest z s (λ H1 h1 w1 a1. f H1 h1 r (d ∙ ap row_type (numbered-row 1 k h e)) a1)
    tuple-typed k (pr.c_counted h) e w N m n H rest z s f = c_counted (tuple-typed k h e w N m n H rest z s f)
    tuple-typed k (pr.c_constant h) e w N m n H rest z s f = absurd (cc)
    tuple-typed k (pr.c_variable h al o d) e w N m n H rest z s f = absurd (cc)
    tuple-typed k (pr.c_variable_one h) e w N m n H rest z s f = absurd (cc)
    tuple-typed k (pr.c_own h) e w N m n H rest z s f = absurd (cc)
    tuple-typed k (pr.c_con j found same o d) e w N m n H rest z s f = absurd (cc)
    tuple-typed k (pr.c_ref o d) e w N m n H rest z s f = absurd (cc)
    tuple-typed k (pr.c_exn c d) e w N m n H rest z s f = absurd (cc)
    tuple-typed k (pr.c_prim o al d) e w N m n H rest z s f = absurd (cc)
    tuple-typed k (pr.c_let G' h l) e w N m n H rest z s f = absurd (cc)
    tuple-typed k (pr.c_app h l d) e w N m n H rest z s f = absurd (cc)
    tuple-typed k (pr.c_case h o l) e w N m n H rest z s f = absurd (cc)
    tuple-typed k (pr.c_chain h d) e w N m n H rest z s f = absurd (cc)
    tuple-typed k (pr.c_handle h l) e w N m n H rest z s f = absurd (cc)
    tuple-typed k (pr.c_raise h d) e w N m n H rest z s f = absurd (cc)
    tuple-typed k (pr.c_fn h) e w N m n H rest z s f = absurd (cc)

    fields-typed : {S D : List Quantified} {G : Knowns} {fs : Fields} {r : List (Label × Typ)} → pr.FieldsChecked table S G fs r → Within D S → (N : Names) (m : Bool) (n : ℕ) (H : Knowns) (rest : Tests) (t : Typ) → SameKnowns n S D N G H
        → ((H' : Knowns) → Holds n H H' → RowChecked H' (field_row fs n) (row_read (standing D) r) → AtomsChecked H' (field_atoms fs n) (all_scoped D (map (λ f. f.1) r)) → Checked table m D H' rest t) → Checked table m D H (making_all D N fs n rest) t
    fields-typed pr.c_no_fields w N m n H rest t s f = f H (holds-refl n H) no_row_checked no_atoms_checked
    fields-typed (pr.c_field {e = e} h k) w N m n H rest t s f =
        let i = value_at e n in let le = le-suc _ _ (up e n) in
        making-typed h w N m n H _ t s (λ H1 h1 w1. fields-typed k w N m (suc i) H1 rest t (knowns-up n (suc i) le h1 s) (λ H2 h2 r2 a2.
        let w2 = atom-holds i (h2 i (omega arith)) w1 in f H2 (holds-trans n (suc i) H H1 H2 le h1 h2) (a_row_checked w2 r2) (an_atom_checked w2 a2)))

    links-typed : {S D : List Quantified} {G : Knowns} {c : Chain} → pr.ChainChecked table S G c → Within D S → (N : Names) (b : Bool) (n : ℕ) {H : Knowns} → SameKnowns n S D N G H → Checked table true D H (links D N c b n) bool_type
    links-typed {D = D} (pr.c_only {e = e} h d) w N b n {H} s = making-typed h w N true n H _ bool_type s (λ H1 h1 w1. c_ret (subst (λ y. AtomChecked H1 (atom (value_at e n)) (scoped D y)) d w1))
    links-typed {D = D} (pr.c_link {e = e} h d k) w N b n {H} s =
        let i = value_at e n in
        making-typed h w N true n H _ bool_type s (λ H1 h1 w1. let w2 : AtomChecked H1 (atom i) bool_type = subst (λ y. AtomChecked H1 (atom i) (scoped D y)) d w1 in
        c_switch w2 (c_arm (con_checked (truths b)) (links-typed k w N b (suc i) (knowns-up n (suc i) (le-suc _ _ (up e n)) h1 s)) (c_arm (con_checked (truths (not b))) (c_ret w2) c_no_arms)))

    rules-typed : {S D : List Quantified} {G : Knowns} {rs : Rules} {u t : Typ} → pr.RulesChecked table S G rs u t → Within D S → over S u ≡ true → (N : Names) (n k : ℕ) (o : Otherwise) {H : Knowns} → SameKnowns n S D N G H → AtomChecked H (atom k) (scoped D u) → k < n → OpChecked table D H (otherwise_op k o) (scoped D t)
        → Checked table false D H (rules D N rs u t n k o) (scoped D t)
    rules-typed {D = D} (pr.c_no_rules {t = t}) w ou N n k o s a lt z = otherwise-typed table D n k o t z
    rules-typed {S} {D} {G} (pr.c_rule {p = p} {e = e} {u = u} {t = t} d l ks) w ou N n k o {H} s a lt z =
        let i = past_pat p n in let j = value_at e i in let M = spots_named (spots p u n k no_spots) N in let le : n ≤ suc j = le-suc _ _ (le-trans _ _ _ (pat-up p n) (up e i)) in
        c_first (tests-typed table of_type S D N G no_spots G d ou n k s a lt places_none (λ H1 h1 p1.
        making-typed l w M true i H1 (te.ret (atom j)) (scoped D t) (bound-onto table (knowns-up n i (pat-up p n) h1 s) (bound-places table (λ t. refl) bound_none p1)) (λ H' h' w'. c_ret w')))
        (rules-typed ks w ou N (suc j) k o (knowns-up n (suc j) le (holds-refl n H) s) a (less-of k n (suc j) lt le) z)

    fun-typed : {S D : List Quantified} {G : Knowns} {f : Fun} {t : Typ} → pr.FunChecked table S G f t → Within D S → (N : Names) (n : ℕ) {H : Knowns} → SameKnowns n S D N G H → FunChecked table D H (function D N f n) (scoped D t)
    fun-typed {D = D} (pr.c_last {x = x} {a = a} {u = u} {e = e} o h d) w N n {H} s =
        c_last (scoped-over D a) (making-typed h w (named x n N) false (suc n) ((n, of_type (scoped D a)) ∷ H) (te.ret (atom (value_at e (suc n)))) (scoped D u) (knowns-one n x a o s) (λ H' h' w'. c_ret w')) (ap (scoped D) d)
    fun-typed {D = D} (pr.c_by_rules {a = a} o h d) w N n {H} s =
        c_last (scoped-over D a) (rules-typed h w o N (suc n) n (initial match_name) (knowns-up n (suc n) (le-suc n n (le-refl n)) (holds-bind n n (of_type (scoped D a)) H (le-refl n)) s) (atom-here n (scoped D a) H) (omega arith) (c_raise_initial refl)) (ap (scoped D) d)
    fun-typed {D = D} (pr.c_more {x = x} {a = a} o h d) w N n {H} s = c_more (scoped-over D a) (fun-typed h w (named x n N) (suc n) (knowns-one n x a o s)) (ap (scoped D) d)

    functions-typed : {S D : List Quantified} {G : Knowns} {fs : Funs} → pr.FunsChecked table S G fs → Within D S → (N : Names) (b n : ℕ) {H : Knowns} → SameKnowns n S D N G H → FunsChecked table D H (functions D N fs b n)
    functions-typed pr.c_no_funs w N b n s = c_no_funs
    functions-typed {D = D} (pr.c_fun {t = t} {f = g} o h k) w N b n {H} s =
        c_fun (scoped-over D t) (fun-typed h w N n s) (functions-typed k w N (suc b) (past_fun g n) (knowns-up n (past_fun g n) (le-less _ _ (fun-up g n)) (holds-refl n H) s))

    bindings-typed : {S D qs : List Quantified} {G : Knowns} {bs : Binds} → pr.BindsChecked table qs S G bs → are_new qs S ≡ true → Within D S → (N : Names) (n : ℕ) {H G0 G1 : Knowns} {us : Spots} {rest : Tests} {t : Typ} → SameKnowns n S D N G H → Bound table n S D H G0 us G1
        → ((H' : Knowns) → Holds n H H' → Bound table (past_binds (unclassed qs) bs n) S D H' G0 (binds_spots (unclassed qs) bs n us) (binds_onto qs bs G1) → Checked table true D H' rest t) → Checked table true D H (bindings D N (unclassed qs) bs n rest) t
    bindings-typed pr.c_no_binds new w N n {H} s b f = f H (holds-refl n H) b
    bindings-typed {S} {D} {qs} {G} (pr.c_plain {p = p} {t = t} {e = e} o d h k) new w N n {H} {G0} {G1} {us} s b f =
        let i = value_at e n in let j = past_pat p (suc i) in let le = le-suc _ _ (up e n) in let lj : n ≤ j = le-trans _ _ _ le (pat-up p (suc i)) in
        making-typed h (within-less qs D S new w) N true n H _ _ (knowns-less qs S D s) (λ H1 h1 w1.
        tests-typed table (declared []) S D N G us G1 d o (suc i) i (knowns-up n (suc i) le h1 s) w1 (omega arith) places_none (λ H2 h2 p2.
        let h3 = holds-trans n (suc i) H H1 H2 le h1 h2 in
        bindings-typed k new w N j (knowns-up n j lj h3 s) (bound-places table (λ t. refl) (bound-more table n j lj h3 b) p2) (λ H3 h4 b3. f H3 (holds-trans n j H H2 H3 lj h3 h4) b3)))
    bindings-typed {S = S} {D = D} {qs = []} {G = G} (pr.c_general {p = p} {t = t} {e = e} v o d h k) new w N n {H} {G0} {G1} {us} s b f =
        let i = value_at e n in let j = past_pat p (suc i) in let le = le-suc _ _ (up e n) in let lj : n ≤ j = le-trans _ _ _ le (pat-up p (suc i)) in
        making-typed h w N true n H _ _ s (λ H1 h1 w1.
        tests-typed table (declared []) S D N G us G1 d o (suc i) i (knowns-up n (suc i) le h1 s) w1 (omega arith) places_none (λ H2 h2 p2.
        let h3 = holds-trans n (suc i) H H1 H2 le h1 h2 in
        bindings-typed k new w N j (knowns-up n j lj h3 s) (bound-places table (λ t. refl) (bound-more table n j lj h3 b) p2) (λ H3 h4 b3. f H3 (holds-trans n j H H2 H3 lj h3 h4) b3)))
    bindings-typed {S = S} {D = D} {qs = q ∷ qs} {G = G} (pr.c_general {p = p} {t = t} {e = e} {bs = bs} v o d h k) new w N n {H = H} {G0 = G0} {G1 = G1} {us = us} {rest = rest} s b f =
        let i = value_at e n in let y = general_shape p in let j = past_shape y p t i in let lj : n ≤ j = le-trans _ _ _ (le-suc _ _ (up e n)) (shape-up y p t i) in
        general-typed y (q ∷ qs) S D N p t e refl (λ x z. sole (unclassed (q ∷ qs)) p x z) new w v o d (making-typed h (within-more (q ∷ qs) D S w) N) n _ (bindings D N (unclassed (q ∷ qs)) bs j rest) s b (λ H1 h1 b1.
        bindings-typed k new w N j (knowns-up n j lj h1 s) b1 (λ H2 h2 b2. f H2 (holds-trans n j H H1 H2 lj h1 h2) b2))

    decs-typed : {S D : List Quantified} {G G' : Knowns} {ds : Decs} → pr.DecsChecked table S G ds G' → Within D S → (N : Names) (n : ℕ) {H : Knowns} {rest : Tests} {t : Typ} → SameKnowns n S D N G H
        → ((H' : Knowns) → SameKnowns (past_decs ds n) S D (decs_named ds n N) G' H' → Checked table true D H' rest t) → Checked table true D H (decs D N ds n rest) t
    decs-typed pr.c_no_decs w N n {H} s f = f H s
    decs-typed {S} {D} {G} (pr.c_val {qs = qs} {bs = bs} {fs = fs} {ds = ds} new hb hf hd) w N n {H} s f =
        let rs = unclassed qs in let E = rs ++ D in let b = past_binds rs bs n in let m = past_group fs b in let N1 = funs_named fs b N in let group = functions E N1 fs b m in
        bindings-typed hb new w N n {G0 = funs_onto (declared qs) fs G} s bound_none (λ H1 h1 b1.
        let s1 = knowns-up n b (binds-up rs bs n) h1 s in
        grouped-typed table rs D group (new-within qs D S w new)
        (functions-typed hf (within-more qs D S w) N1 b m (group-known table E N1 own own (qs ++ S) (qs ++ S) E (λ t o. as_own o refl) fs (funs-over hf) b b m (le-refl b) (knowns-more qs S D new s1)))
        (decs-typed hd w (val_named rs bs fs n N) (past_funs fs m)
        (knowns-up m (past_funs fs m) (funs-up fs m) (holds-refl m _) (bound-onto table (group-known table E N1 (declared rs) (declared qs) (qs ++ S) S D (λ t o. declared-known qs S D t o) fs (funs-over hf) b b m (le-refl b) s1)
        (bound-more table b m (group-up fs b) (group-holds table E N1 (declared rs) fs b b m H1 (le-refl b)) b1))) f))
    decs-typed {D = D} (pr.c_exception {x = x} {a = a} o h) w N n {H} s f =
        let k = exception (Some (scoped D a)) in
        c_exception (scoped-over D a) (decs-typed h w (named x n N) (suc n) (knowns-bind x n (here n k H) (as_exception o refl) (omega arith) (knowns-up n (suc n) (le-suc n n (le-refl n)) (holds-bind n n k H (le-refl n)) s)) f)
    decs-typed (pr.c_exception_alone {x = x} h) w N n {H} s f =
        c_exception_alone (decs-typed h w (named x n N) (suc n) (knowns-bind x n (here n (exception None) H) (as_exception refl refl) (omega arith) (knowns-up n (suc n) (le-suc n n (le-refl n)) (holds-bind n n (exception None) H (le-refl n)) s)) f)
    decs-typed (pr.c_counted_dec h) w N n s f = c_counted (decs-typed h w N n s f)

  nothing-known : SameKnowns 1 [] [] no_names [] []
  nothing-known = record { known = λ x k e. absurd (cc) }

  pub run-typed : (ds : Decs) (G : Knowns) → pr.DecsChecked table [] [] ds G → Checked table false [] [] (compile ds) unit_type
  run-typed ds G h =
      let k = past_decs ds 1 in
      c_first (decs-typed h within-none no_names 1 nothing-known (λ H s. put-typed table [] k k unit_type (le-refl k) (c_make_record no_row_checked refl refl) (λ H1 h1 w1. c_ret w1))) (otherwise-typed table [] (suc k) 0 (initial bind_name) unit_type (c_raise_initial refl))
