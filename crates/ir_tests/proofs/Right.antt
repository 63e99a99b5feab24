-- What fits is typed, named where it may be and bound nowhere twice; and what is so fits.
use Rattle.std.proofs.Common.{◌≡◌, ℕ, Bool, true, false, List, [], ◌∷◌, ◌++◌, Option, Some, None, refl, sym, ap, ◌∙◌, subst}
use Rattle.mlc_names.specs.declared.label.Label.{Label}
use Rattle.ty_core.specs.Types.{Typ}
use Rattle.ty_core.specs.declared.scheme.Quantified.{Quantified}
use Rattle.ir_plain.specs.Tree.{Case, is_literal, is_con, is_con_of, is_exn, is_exn_of, is_record, Exception, fixed, held, Atoms, no_atoms, an_atom, Row, no_row, a_row, Exp, ret, let_in, exception_in, name_in, rec_in, switch, first, miss, counted, Arms, no_arms, arm, Op, use_of, const, con_alone, construct, ref_alone, refer, content, pack, make_record, select, prim_alone, prim, app, fn, block, handle, raise, raise_initial, Fun, last, more, Funs, no_funs, fun}
use Rattle.ir_plain.specs.Scoped.{IsAmong, AtomsScoped, no_atoms_scoped, an_atom_scoped, RowScoped, no_row_scoped, a_row_scoped, CaseScoped, literal_scoped, con_scoped, con_of_scoped, exn_scoped, exn_of_scoped, record_scoped, IsScoped, ret_scoped, let_scoped, exception_scoped, name_scoped, rec_scoped, switch_scoped, first_scoped, miss_scoped, counted_scoped, ArmsScoped, no_arms_scoped, arm_scoped, OpScoped, use_scoped, const_scoped, con_alone_scoped, construct_scoped, ref_alone_scoped, refer_scoped, content_scoped, pack_scoped, make_record_scoped, select_scoped, prim_alone_scoped, prim_scoped, app_scoped, fn_scoped, block_scoped, handle_scoped, raise_scoped, raise_initial_scoped, FunScoped, last_scoped, more_scoped, FunsScoped, no_funs_scoped, fun_scoped, ReachesName, group_onto}
use Rattle.ir_plain.specs.Unique.{IsOutside, AreNew, none_new, one_new, CaseUnique, literal_unique, con_unique, con_of_unique, exn_unique, exn_of_unique, record_unique, IsUnique, ret_unique, let_unique, exception_unique, name_unique, rec_unique, switch_unique, first_unique, miss_unique, counted_unique, ArmsUnique, no_arms_unique, arm_unique, OpUnique, use_unique, const_unique, con_alone_unique, construct_unique, ref_alone_unique, refer_unique, content_unique, pack_unique, make_record_unique, select_unique, prim_alone_unique, prim_unique, app_unique, fn_unique, block_unique, handle_unique, raise_unique, raise_initial_unique, FunUnique, last_unique, more_unique, FunsUnique, no_funs_unique, fun_unique, funs_onto}
use Rattle.ir_poly.specs.Tests.{Use, inst, poly}
use Rattle.ir_poly.specs.Types.{function_type, ref_type, row_type, Constructor, arguments_at, over, AreAllowed, admits_in}
use Rattle.ir_poly.specs.TestsChecked.{Known, of_type, general, own, exception, Knowns, at, exn_type, group_knowns, declared, NameChecked, AtomChecked, atom_checked, AtomsChecked, no_atoms_checked, an_atom_checked, RowChecked, no_row_checked, a_row_checked, CaseChecked, literal_checked, con_checked, con_of_checked, exn_checked, exn_of_checked, record_checked, Checked, c_ret, c_let, c_exception, c_exception_alone, c_name, c_rec, c_switch, c_first, c_miss, c_counted, ArmsChecked, c_no_arms, c_arm, OpChecked, c_use, c_use_one, c_use_own, c_use_exception, c_const, c_con_alone, c_construct, c_ref_alone, c_refer, c_content, c_pack, c_make_record, c_select, c_prim_alone, c_prim, c_app, c_fn, c_block, c_handle, c_raise, c_raise_initial, FunChecked, c_last, c_more, FunsChecked, c_no_funs, c_fun, value_type}
use Rattle.tests_check.specs.Fits.{AtomFits, ExceptionFits, AtomsFit, RowFits, UseFits, ArgumentFits, case_onto, FunsNew, CaseFits, ExpFits, ArmsFit, OpFits, FunFits, FunsFit}
use Rattle.ir_tests.specs.Laws.{IsRight, FitsIsRight}
use Rattle.ir_tests.proofs.Known.{keys, Within, within-none, within-more, within-group, known-among, among-within, outside-unknown, unknown-outside, group-scoped, group-unique}

-- Atoms

atom-typed : (L G : Knowns) (a : Use) (t : Typ) → Within L G → AtomFits L a t → AtomChecked G a t
atom-typed L G (inst x ts) t w (n, e) = subst (λ ts. AtomChecked G (inst x ts) t) (sym n) (atom_checked (w x (of_type t) e))

atom-scoped : (L : Knowns) (a : Use) (t : Typ) → AtomFits L a t → IsAmong poly a (keys L)
atom-scoped L (inst x ts) t (n, e) = known-among L x ts (of_type t) e

atom-fits : (L G : Knowns) (a : Use) (t : Typ) → Within L G → AtomChecked G a t → IsAmong poly a (keys L) → AtomFits L a t
atom-fits L G a t w (atom_checked {x = x} e) s = (refl, among-within L G x [] (of_type t) w s e)

exception-scoped : (L : Knowns) (a : Use) (o : Option Typ) → ExceptionFits L a o → IsAmong poly a (keys L)
exception-scoped L (inst x ts) o (n, e) = known-among L x ts (exception o) e

atoms-typed : (L G : Knowns) (as_ : Atoms poly) (ts : List Typ) → Within L G → AtomsFit L as_ ts → AtomsChecked G as_ ts
atoms-typed L G no_atoms ts w e = subst (AtomsChecked G no_atoms) (sym e) no_atoms_checked
atoms-typed L G (an_atom a as_) [] w e = elim e [ ]
atoms-typed L G (an_atom a as_) (t ∷ ts) w (p, ps) = an_atom_checked (atom-typed L G a t w p) (atoms-typed L G as_ ts w ps)

atoms-scoped : (L : Knowns) (as_ : Atoms poly) (ts : List Typ) → AtomsFit L as_ ts → AtomsScoped poly (keys L) as_
atoms-scoped L no_atoms ts e = no_atoms_scoped
atoms-scoped L (an_atom a as_) [] e = elim e [ ]
atoms-scoped L (an_atom a as_) (t ∷ ts) (p, ps) = an_atom_scoped (atom-scoped L a t p) (atoms-scoped L as_ ts ps)

atoms-fit : (L G : Knowns) (as_ : Atoms poly) (ts : List Typ) → Within L G → AtomsChecked G as_ ts → AtomsScoped poly (keys L) as_ → AtomsFit L as_ ts
atoms-fit L G no_atoms ts w no_atoms_checked s = refl
atoms-fit L G (an_atom a as_) [] w p s = elim p [ ]
atoms-fit L G (an_atom a as_) (t ∷ ts) w (an_atom_checked p ps) (an_atom_scoped s ss) = (atom-fits L G a t w p s, atoms-fit L G as_ ts w ps ss)

row-typed : (L G : Knowns) (row : Row poly) (r : List (Label × Typ)) → Within L G → RowFits L row r → RowChecked G row r
row-typed L G no_row r w e = subst (RowChecked G no_row) (sym e) no_row_checked
row-typed L G (a_row l a row) [] w e = elim e [ ]
row-typed L G (a_row l a row) ((l', t) ∷ r) w (e, p, ps) =
    subst (λ l'. RowChecked G (a_row l a row) ((l', t) ∷ r)) (sym e) (a_row_checked (atom-typed L G a t w p) (row-typed L G row r w ps))

row-scoped : (L : Knowns) (row : Row poly) (r : List (Label × Typ)) → RowFits L row r → RowScoped poly (keys L) row
row-scoped L no_row r e = no_row_scoped
row-scoped L (a_row l a row) [] e = elim e [ ]
row-scoped L (a_row l a row) (f ∷ r) (e, p, ps) = a_row_scoped (atom-scoped L a f.1 p) (row-scoped L row r ps)

row-fits : (L G : Knowns) (row : Row poly) (r : List (Label × Typ)) → Within L G → RowChecked G row r → RowScoped poly (keys L) row → RowFits L row r
row-fits L G no_row r w no_row_checked s = refl
row-fits L G (a_row l a row) [] w p s = elim p [ ]
row-fits L G (a_row l a row) (f ∷ r) w (a_row_checked {t = t} p ps) (a_row_scoped s ss) = (refl, atom-fits L G a t w p s, row-fits L G row r w ps ss)

-- Groups

funs-new : (G : Knowns) (fs : Funs poly) → FunsNew G fs → AreNew {F = poly} (λ x. x) (keys G) fs
funs-new G no_funs n = none_new
funs-new G (fun x a f fs) (n, ns) = one_new (subst (IsOutside x) (group-unique own fs G) (unknown-outside (group_knowns own fs G) x n)) (funs-new G fs ns)

new-funs : (G : Knowns) (fs : Funs poly) → AreNew {F = poly} (λ x. x) (keys G) fs → FunsNew G fs
new-funs G no_funs n = tt
new-funs G (fun x a f fs) (one_new n ns) = (outside-unknown (group_knowns own fs G) x (subst (IsOutside x) (sym (group-unique own fs G)) n), new-funs G fs ns)

module _ (table : List Constructor) where
  -- Arms

  case-typed : (D : List Quantified) (L G : Knowns) (c : Case poly) (t : Typ) → Within L G → CaseFits table D G L c t → CaseChecked table D G c t (case_onto c G)
  case-typed D L G (is_literal l) t w p = literal_checked p
  case-typed D L G (is_con c) t w p = con_checked p
  case-typed D L G (is_con_of c x a) t w (p, o, n) = con_of_checked p o
  case-typed D L G (is_exn (inst y ts)) t w ((n, e), i) =
      subst (λ t. CaseChecked table D G (is_exn (inst y ts)) t G) (sym i) (subst (λ ts. CaseChecked table D G (is_exn (inst y ts)) exn_type G) (sym n) (exn_checked (w y (exception None) e)))
  case-typed D L G (is_exn_of (inst y ts) x a) t w ((n, e), o, i, u) =
      subst (λ t. CaseChecked table D G (is_exn_of (inst y ts) x a) t ((x, of_type a) ∷ G)) (sym i)
      (subst (λ ts. CaseChecked table D G (is_exn_of (inst y ts) x a) exn_type ((x, of_type a) ∷ G)) (sym n) (exn_of_checked (w y (exception (Some a)) e) o))
  case-typed D L G (is_record size) t w (r, e, s) = record_checked r e s

  case-scoped : (D : List Quantified) (L G : Knowns) (c : Case poly) (t : Typ) → CaseFits table D G L c t → CaseScoped poly (keys L) c (keys (case_onto c L))
  case-scoped D L G (is_literal l) t p = literal_scoped
  case-scoped D L G (is_con c) t p = con_scoped
  case-scoped D L G (is_con_of c x a) t p = con_of_scoped
  case-scoped D L G (is_exn y) t (e, i) = exn_scoped (exception-scoped L y None e)
  case-scoped D L G (is_exn_of y x a) t (e, o, i, u) = exn_of_scoped (exception-scoped L y (Some a) e)
  case-scoped D L G (is_record size) t p = record_scoped

  case-unique : (D : List Quantified) (L G : Knowns) (c : Case poly) (t : Typ) → CaseFits table D G L c t → CaseUnique {F = poly} (λ x. x) (keys G) c (keys (case_onto c G))
  case-unique D L G (is_literal l) t p = literal_unique
  case-unique D L G (is_con c) t p = con_unique
  case-unique D L G (is_con_of c x a) t (p, o, n) = con_of_unique (unknown-outside G x n)
  case-unique D L G (is_exn y) t p = exn_unique
  case-unique D L G (is_exn_of y x a) t (e, o, i, n) = exn_of_unique (unknown-outside G x n)
  case-unique D L G (is_record size) t p = record_unique

  within-case : (L G : Knowns) (c : Case poly) → Within L G → Within (case_onto c L) (case_onto c G)
  within-case L G (is_literal l) w = w
  within-case L G (is_con c) w = w
  within-case L G (is_con_of c x a) w = within-more L G x (of_type a) w
  within-case L G (is_exn y) w = w
  within-case L G (is_exn_of y x a) w = within-more L G x (of_type a) w
  within-case L G (is_record size) w = w

  record ExpRight (m : Bool) (D : List Quantified) (G L : Knowns) (e : Exp poly) (t : Typ) : Type 0 where
    typed : Checked table m D G e t
    scoped : IsScoped poly false (keys L) e
    unique : IsUnique {F = poly} (λ x. x) (keys G) e

  record ArmsRight (D : List Quantified) (G L : Knowns) (arms : Arms poly) (u t : Typ) : Type 0 where
    typed : ArmsChecked table D G arms u t
    scoped : ArmsScoped poly false (keys L) arms
    unique : ArmsUnique {F = poly} (λ x. x) (keys G) arms

  record OpRight (D : List Quantified) (G L : Knowns) (o : Op poly) (t : Typ) : Type 0 where
    typed : OpChecked table D G o t
    scoped : OpScoped poly false (keys L) o
    unique : OpUnique {F = poly} (λ x. x) (keys G) o

  record FunRight (D : List Quantified) (G : Knowns) (f : Fun poly) (t : Typ) : Type 0 where
    typed : FunChecked table D G f t
    scoped : FunScoped poly false [] f
    unique : FunUnique {F = poly} (λ x. x) (keys G) f

  record FunsRight (D : List Quantified) (G : Knowns) (fs : Funs poly) : Type 0 where
    typed : FunsChecked table D G fs
    scoped : FunsScoped poly false [] fs
    unique : FunsUnique {F = poly} (λ x. x) (keys G) fs

  use-typed : (D : List Quantified) (G : Knowns) (x : ℕ) (ts : List Typ) (t : Typ) (o : Option Known) → at G x ≡ o → UseFits D o ts t → OpChecked table D G (use_of (inst x ts)) t
  use-typed D G x ts t None e p = elim p [ ]
  use-typed D G x ts t (Some (of_type u)) e (n, i) =
      subst (λ ts. OpChecked table D G (use_of (inst x ts)) t) (sym n) (subst (OpChecked table D G (use_of (inst x []))) i (c_use_one e))
  use-typed D G x ts t (Some (own u)) e (n, i) =
      subst (λ ts. OpChecked table D G (use_of (inst x ts)) t) (sym n) (subst (OpChecked table D G (use_of (inst x []))) i (c_use_own e))
  use-typed D G x ts t (Some (exception a)) e (n, i) = subst (λ ts. OpChecked table D G (use_of (inst x ts)) t) (sym n) (c_use_exception e i)
  use-typed D G x ts t (Some (general qs s b)) e (v, a, o, i) = c_use (e ∙ ap (λ s. Some (general qs s b)) v) a o i

  use-fits : (D : List Quantified) (G : Knowns) (x : ℕ) (ts : List Typ) (t : Typ) → OpChecked table D G (use_of (inst x ts)) t → UseFits D (at G x) ts t
  use-fits D G x ts t (c_use e a o i) = subst (λ k. UseFits D k ts t) (sym e) (refl, a, o, i)
  use-fits D G x ts t (c_use_one e) = subst (λ k. UseFits D k [] t) (sym e) (refl, refl)
  use-fits D G x ts t (c_use_own e) = subst (λ k. UseFits D k [] t) (sym e) (refl, refl)
  use-fits D G x ts t (c_use_exception e i) = subst (λ k. UseFits D k [] t) (sym e) (refl, i)

  name-scoped : (L : Knowns) (y : Exception poly) → ReachesName poly false y (keys L)
  name-scoped L (fixed n) = tt
  name-scoped L (held u) = tt

  mutual
    exp-right : (m : Bool) (D : List Quantified) (G L : Knowns) (e : Exp poly) (t : Typ) → Within L G → ExpFits table m D G L e t → ExpRight m D G L e t
    exp-right m D G L (ret a) t w p = record { typed = c_ret (atom-typed L G a t w p); scoped = ret_scoped (atom-scoped L a t p); unique = ret_unique }
    exp-right m D G L (let_in x qs a o e) t w (g, n, v, p, u, q) =
        let i = op-right (qs ++ D) G L o a w p in
        let j = exp-right m D ((x, declared qs a) ∷ G) ((x, declared qs a) ∷ L) e t (within-more L G x (declared qs a) w) q in
        record { typed = c_let g n v i.typed j.typed; scoped = let_scoped i.scoped j.scoped; unique = let_unique (unknown-outside G x u) i.unique j.unique }
    exp-right m D G L (exception_in x i None e) t w (o, u, q) =
        let j = exp-right m D ((x, exception None) ∷ G) ((x, exception None) ∷ L) e t (within-more L G x (exception None) w) q in
        record { typed = c_exception_alone j.typed; scoped = exception_scoped j.scoped; unique = exception_unique (unknown-outside G x u) j.unique }
    exp-right m D G L (exception_in x i (Some a) e) t w (o, u, q) =
        let j = exp-right m D ((x, exception (Some a)) ∷ G) ((x, exception (Some a)) ∷ L) e t (within-more L G x (exception (Some a)) w) q in
        record { typed = c_exception o j.typed; scoped = exception_scoped j.scoped; unique = exception_unique (unknown-outside G x u) j.unique }
    exp-right m D G L (name_in x y e) t w (u, (a, n, q)) =
        let j = exp-right m D ((x, exception a) ∷ G) ((x, exception a) ∷ L) e t (within-more L G x (exception a) w) q in
        record { typed = c_name n j.typed; scoped = name_scoped (name-scoped L y) j.scoped; unique = name_unique (unknown-outside G x u) j.unique }
    exp-right m D G L (rec_in qs fs e) t w (n, u, p, q) =
        let i = funs-right (qs ++ D) (group_knowns own fs G) fs p in
        let j = exp-right m D (group_knowns (declared qs) fs G) (group_knowns (declared qs) fs L) e t (within-group (declared qs) fs L G w) q in
        record {
          typed = c_rec n i.typed j.typed;
          scoped = rec_scoped i.scoped (subst (λ xs. IsScoped poly false xs e) (group-scoped (declared qs) fs L) j.scoped);
          unique = rec_unique (funs-new G fs u) (subst (λ xs. FunsUnique {F = poly} (λ x. x) xs fs) (group-unique own fs G) i.unique)
              (subst (λ xs. IsUnique {F = poly} (λ x. x) xs e) (group-unique (declared qs) fs G) j.unique);
        }
    exp-right m D G L (switch a u arms) t w (k, p, q) =
        let i = arms-right D G L arms u t w q in
        record {
          typed = subst (λ m. Checked table m D G (switch a u arms) t) (sym k) (c_switch (atom-typed L G a u w p) i.typed);
          scoped = switch_scoped (atom-scoped L a u p) i.scoped;
          unique = switch_unique i.unique;
        }
    exp-right m D G L (first e d) t w (p, q) =
        let i = exp-right true D G L e t w p in
        let j = exp-right m D G L d t w q in
        record { typed = c_first i.typed j.typed; scoped = first_scoped i.scoped j.scoped; unique = first_unique i.unique j.unique }
    exp-right m D G L miss t w k = record { typed = subst (λ m. Checked table m D G miss t) (sym k) c_miss; scoped = miss_scoped; unique = miss_unique }
    exp-right m D G L (counted n e) t w p =
        let i = exp-right m D G L e t w p in record { typed = c_counted i.typed; scoped = counted_scoped i.scoped; unique = counted_unique i.unique }

    arms-right : (D : List Quantified) (G L : Knowns) (arms : Arms poly) (u t : Typ) → Within L G → ArmsFit table D G L arms u t → ArmsRight D G L arms u t
    arms-right D G L no_arms u t w p = record { typed = c_no_arms; scoped = no_arms_scoped; unique = no_arms_unique }
    arms-right D G L (arm c e arms) u t w (p, q, r) =
        let i = exp-right true D (case_onto c G) (case_onto c L) e t (within-case L G c w) q in
        let j = arms-right D G L arms u t w r in
        record {
          typed = c_arm (case-typed D L G c u w p) i.typed j.typed;
          scoped = arm_scoped (case-scoped D L G c u p) i.scoped j.scoped;
          unique = arm_unique (case-unique D L G c u p) i.unique j.unique;
        }

    op-right : (D : List Quantified) (G L : Knowns) (o : Op poly) (t : Typ) → Within L G → OpFits table D G L o t → OpRight D G L o t
    op-right D G L (use_of (inst x ts)) t w p = record { typed = use-typed D G x ts t (at G x) refl p; scoped = use_scoped tt; unique = use_unique }
    op-right D G L (const l) t w p = record { typed = c_const p; scoped = const_scoped; unique = const_unique }
    op-right D G L (con_alone c u) t w (a, p, e) = record { typed = c_con_alone p e; scoped = con_alone_scoped; unique = con_alone_unique }
    op-right D G L (construct m c u k) t w (e, (a, p, q)) = record {
      typed = subst (λ u. OpChecked table D G (construct m c u k) t) (sym e) (c_construct p (atom-typed L G k a w q));
      scoped = construct_scoped (atom-scoped L k a q);
      unique = construct_unique;
    }
    op-right D G L (ref_alone a) t w e = record { typed = c_ref_alone e; scoped = ref_alone_scoped; unique = ref_alone_unique }
    op-right D G L (refer m a k) t w (p, e) = record { typed = c_refer (atom-typed L G k a w p) e; scoped = refer_scoped (atom-scoped L k a p); unique = refer_unique }
    op-right D G L (content u k) t w (e, p) = record {
      typed = subst (λ u. OpChecked table D G (content u k) t) (sym e) (c_content (atom-typed L G k (ref_type t) w p) refl);
      scoped = content_scoped (atom-scoped L k (ref_type t) p);
      unique = content_unique;
    }
    op-right D G L (pack m a (inst x ts) k) t w ((n, e), p, i) = record {
      typed = subst (λ ts. OpChecked table D G (pack m a (inst x ts) k) t) (sym n) (c_pack (w x (exception (Some a)) e) (atom-typed L G k a w p) i);
      scoped = pack_scoped (known-among L x ts (exception (Some a)) e) (atom-scoped L k a p);
      unique = pack_unique;
    }
    op-right D G L (make_record u row) t w (e, (r, p, i, a)) = record {
      typed = subst (λ u. OpChecked table D G (make_record u row) t) (sym e) (c_make_record (row-typed L G row r w p) i a);
      scoped = make_record_scoped (row-scoped L row r p);
      unique = make_record_unique;
    }
    op-right D G L (select u l k) t w (p, (r, e, i)) = record { typed = c_select r (atom-typed L G k u w p) e i; scoped = select_scoped (atom-scoped L k u p); unique = select_unique }
    op-right D G L (prim_alone p u) t w (a, e) = record { typed = c_prim_alone a e; scoped = prim_alone_scoped; unique = prim_alone_unique }
    op-right D G L (prim m p u as_) t w (a, q, e) =
        record { typed = c_prim a (atoms-typed L G as_ (arguments_at p u) w q) refl e; scoped = prim_scoped (atoms-scoped L as_ (arguments_at p u) q); unique = prim_unique }
    op-right D G L (app place f k) t w (v, p, q) = record {
      typed = c_app (atom-typed L G f (function_type v t) w q) (atom-typed L G k v w p) refl;
      scoped = app_scoped (atom-scoped L f (function_type v t) q) (atom-scoped L k v p);
      unique = app_unique;
    }
    op-right D G L (fn f) t w p = let i = fun-right D G f t p in record { typed = c_fn i.typed; scoped = fn_scoped i.scoped; unique = fn_unique i.unique }
    op-right D G L (block e) t w p = let i = exp-right false D G L e t w p in record { typed = c_block i.typed; scoped = block_scoped i.scoped; unique = block_unique i.unique }
    op-right D G L (handle e x h) t w (p, u, q) =
        let i = exp-right false D G L e t w p in
        let j = exp-right false D ((x, of_type exn_type) ∷ G) ((x, of_type exn_type) ∷ L) h t (within-more L G x (of_type exn_type) w) q in
        record { typed = c_handle i.typed j.typed; scoped = handle_scoped i.scoped j.scoped; unique = handle_unique i.unique (unknown-outside G x u) j.unique }
    op-right D G L (raise k) t w p = record { typed = c_raise (atom-typed L G k exn_type w p) refl; scoped = raise_scoped (atom-scoped L k exn_type p); unique = raise_unique }
    op-right D G L (raise_initial n) t w p = record { typed = c_raise_initial p; scoped = raise_initial_scoped; unique = raise_initial_unique }

    fun-right : (D : List Quantified) (G : Knowns) (f : Fun poly) (t : Typ) → FunFits table D G f t → FunRight D G f t
    fun-right D G (last x a e) t (o, u, (r, p, i)) =
        let j = exp-right false D ((x, of_type a) ∷ G) ((x, of_type a) ∷ []) e r (within-more [] G x (of_type a) (within-none G)) p in
        record { typed = c_last o j.typed i; scoped = last_scoped j.scoped; unique = last_unique (unknown-outside G x u) j.unique }
    fun-right D G (more x a f) t (o, u, (r, p, i)) =
        let j = fun-right D ((x, of_type a) ∷ G) f r p in
        record { typed = c_more o j.typed i; scoped = more_scoped j.scoped; unique = more_unique (unknown-outside G x u) j.unique }

    funs-right : (D : List Quantified) (G : Knowns) (fs : Funs poly) → FunsFit table D G fs → FunsRight D G fs
    funs-right D G no_funs p = record { typed = c_no_funs; scoped = no_funs_scoped; unique = no_funs_unique }
    funs-right D G (fun x a f fs) (o, p, ps) =
        let i = fun-right D G f a p in
        let j = funs-right D G fs ps in
        record { typed = c_fun o i.typed j.typed; scoped = fun_scoped i.scoped j.scoped; unique = fun_unique i.unique j.unique }

  -- The other way round.

  case-onto : (D : List Quantified) (G G' L : Knowns) (xs bs : List ℕ) (c : Case poly) (t : Typ) → CaseChecked table D G c t G' → CaseScoped poly (keys L) c xs → CaseUnique {F = poly} (λ x. x) (keys G) c bs
      → (G' ≡ case_onto c G) × (xs ≡ keys (case_onto c L)) × (bs ≡ keys (case_onto c G))
  case-onto D G G' L xs bs (is_literal l) t (literal_checked p) literal_scoped literal_unique = (refl, refl, refl)
  case-onto D G G' L xs bs (is_con c) t (con_checked p) con_scoped con_unique = (refl, refl, refl)
  case-onto D G G' L xs bs (is_con_of c x a) t (con_of_checked p o) con_of_scoped (con_of_unique n) = (refl, refl, refl)
  case-onto D G G' L xs bs (is_exn y) t (exn_checked e) (exn_scoped s) exn_unique = (refl, refl, refl)
  case-onto D G G' L xs bs (is_exn_of y x a) t (exn_of_checked e o) (exn_of_scoped s) (exn_of_unique n) = (refl, refl, refl)
  case-onto D G G' L xs bs (is_record size) t (record_checked r e s) record_scoped record_unique = (refl, refl, refl)

  case-fits : (D : List Quantified) (G G' L : Knowns) (xs bs : List ℕ) (c : Case poly) (t : Typ) → Within L G → CaseChecked table D G c t G' → CaseScoped poly (keys L) c xs → CaseUnique {F = poly} (λ x. x) (keys G) c bs
      → CaseFits table D G L c t
  case-fits D G G' L xs bs (is_literal l) t w (literal_checked p) s u = p
  case-fits D G G' L xs bs (is_con c) t w (con_checked p) s u = p
  case-fits D G G' L xs bs (is_con_of c x a) t w (con_of_checked p o) s (con_of_unique n) = (p, o, outside-unknown G x n)
  case-fits D G G' L xs bs (is_exn (inst y ts)) t w (exn_checked e) (exn_scoped s) u = ((refl, among-within L G y [] (exception None) w s e), refl)
  case-fits D G G' L xs bs (is_exn_of (inst y ts) x a) t w (exn_of_checked e o) (exn_of_scoped s) (exn_of_unique n) =
      ((refl, among-within L G y [] (exception (Some a)) w s e), o, refl, outside-unknown G x n)
  case-fits D G G' L xs bs (is_record size) t w (record_checked r e s) sc u = (r, e, s)

  mutual
    exp-fits : (m : Bool) (D : List Quantified) (G L : Knowns) (e : Exp poly) (t : Typ) → Within L G → Checked table m D G e t → IsScoped poly false (keys L) e → IsUnique {F = poly} (λ x. x) (keys G) e
        → ExpFits table m D G L e t
    exp-fits m D G L (ret a) t w (c_ret p) (ret_scoped s) ret_unique = atom-fits L G a t w p s
    exp-fits m D G L (let_in x qs a o e) t w (c_let g n v p q) (let_scoped s s') (let_unique n' u u') =
        (g, n, v, op-fits (qs ++ D) G L o a w p s u, outside-unknown G x n', exp-fits m D ((x, declared qs a) ∷ G) ((x, declared qs a) ∷ L) e t (within-more L G x (declared qs a) w) q s' u')
    exp-fits m D G L (exception_in x i (Some a) e) t w (c_exception o q) (exception_scoped s) (exception_unique n u) =
        (o, outside-unknown G x n, exp-fits m D ((x, exception (Some a)) ∷ G) ((x, exception (Some a)) ∷ L) e t (within-more L G x (exception (Some a)) w) q s u)
    exp-fits m D G L (exception_in x i None e) t w (c_exception_alone q) (exception_scoped s) (exception_unique n u) =
        (tt, outside-unknown G x n, exp-fits m D ((x, exception None) ∷ G) ((x, exception None) ∷ L) e t (within-more L G x (exception None) w) q s u)
    exp-fits m D G L (name_in x y e) t w (c_name {a = a} p q) (name_scoped s s') (name_unique n u) =
        (outside-unknown G x n, (a, p, exp-fits m D ((x, exception a) ∷ G) ((x, exception a) ∷ L) e t (within-more L G x (exception a) w) q s' u))
    exp-fits m D G L (rec_in qs fs e) t w (c_rec n p q) (rec_scoped s s') (rec_unique ns u u') = (
      n,
      new-funs G fs ns,
      funs-fit (qs ++ D) (group_knowns own fs G) fs p s (subst (λ xs. FunsUnique {F = poly} (λ x. x) xs fs) (sym (group-unique own fs G)) u),
      exp-fits m D (group_knowns (declared qs) fs G) (group_knowns (declared qs) fs L) e t (within-group (declared qs) fs L G w) q
          (subst (λ xs. IsScoped poly false xs e) (sym (group-scoped (declared qs) fs L)) s') (subst (λ xs. IsUnique {F = poly} (λ x. x) xs e) (sym (group-unique (declared qs) fs G)) u'),
    )
    exp-fits m D G L (switch a u arms) t w (c_switch p q) (switch_scoped s s') (switch_unique us) = (refl, atom-fits L G a u w p s, arms-fit D G L arms u t w q s' us)
    exp-fits m D G L (first e d) t w (c_first p q) (first_scoped s s') (first_unique u u') = (exp-fits true D G L e t w p s u, exp-fits m D G L d t w q s' u')
    exp-fits m D G L miss t w c_miss miss_scoped miss_unique = refl
    exp-fits m D G L (counted n e) t w (c_counted p) (counted_scoped s) (counted_unique u) = exp-fits m D G L e t w p s u

    arms-fit : (D : List Quantified) (G L : Knowns) (arms : Arms poly) (u t : Typ) → Within L G → ArmsChecked table D G arms u t → ArmsScoped poly false (keys L) arms → ArmsUnique {F = poly} (λ x. x) (keys G) arms
        → ArmsFit table D G L arms u t
    arms-fit D G L no_arms u t w c_no_arms no_arms_scoped no_arms_unique = tt
    arms-fit D G L (arm c e arms) u t w (c_arm {G' = G'} p q r) (arm_scoped {xs' = xs'} s s' ss) (arm_unique {bs' = bs'} n n' ns) =
        let same = case-onto D G G' L xs' bs' c u p s n in (
          case-fits D G G' L xs' bs' c u w p s n,
          exp-fits true D (case_onto c G) (case_onto c L) e t (within-case L G c w) (subst (λ G. Checked table true D G e t) same.0 q) (subst (λ xs. IsScoped poly false xs e) same.1 s')
              (subst (λ bs. IsUnique {F = poly} (λ x. x) bs e) same.2 n'),
          arms-fit D G L arms u t w r ss ns,
        )

    op-fits : (D : List Quantified) (G L : Knowns) (o : Op poly) (t : Typ) → Within L G → OpChecked table D G o t → OpScoped poly false (keys L) o → OpUnique {F = poly} (λ x. x) (keys G) o → OpFits table D G L o t
    op-fits D G L (use_of (inst x ts)) t w p s u = use-fits D G x ts t p
    op-fits D G L (const l) t w (c_const p) s u = p
    op-fits D G L (con_alone c k) t w (c_con_alone {a = a} p e) s u = (a, p, e)
    op-fits D G L (construct m c k a) t w (c_construct {a = r} p q) (construct_scoped s) u = (refl, (r, p, atom-fits L G a r w q s))
    op-fits D G L (ref_alone a) t w (c_ref_alone e) s u = e
    op-fits D G L (refer m a k) t w (c_refer p e) (refer_scoped s) u = (atom-fits L G k a w p s, e)
    op-fits D G L (content a k) t w (c_content {u = r} p e) (content_scoped s) u = (refl, atom-fits L G k (ref_type t) w (subst (AtomChecked G k) e p) s)
    op-fits D G L (pack m a (inst x ts) k) t w (c_pack e p i) (pack_scoped s s') u = ((refl, among-within L G x [] (exception (Some a)) w s e), atom-fits L G k a w p s', i)
    op-fits D G L (make_record k row) t w (c_make_record {r = r} p e a) (make_record_scoped s) u = (refl, (r, row-fits L G row r w p s, e, a))
    op-fits D G L (select k l a) t w (c_select r p e i) (select_scoped s) u = (atom-fits L G a k w p s, (r, e, i))
    op-fits D G L (prim_alone p k) t w (c_prim_alone a e) s u = (a, e)
    op-fits D G L (prim m p k as_) t w (c_prim {ts = ts} a q e i) (prim_scoped s) u = (a, atoms-fit L G as_ (arguments_at p k) w (subst (AtomsChecked G as_) e q) s, i)
    op-fits D G L (app place f k) t w (c_app {v = v} p q e) (app_scoped s s') u = (v, atom-fits L G k v w q s', atom-fits L G f (function_type v t) w (subst (AtomChecked G f) e p) s)
    op-fits D G L (fn f) t w (c_fn p) (fn_scoped s) (fn_unique u) = fun-fits D G f t p s u
    op-fits D G L (block e) t w (c_block p) (block_scoped s) (block_unique u) = exp-fits false D G L e t w p s u
    op-fits D G L (handle e x h) t w (c_handle p q) (handle_scoped s s') (handle_unique u n u') =
        (exp-fits false D G L e t w p s u, outside-unknown G x n, exp-fits false D ((x, of_type exn_type) ∷ G) ((x, of_type exn_type) ∷ L) h t (within-more L G x (of_type exn_type) w) q s' u')
    op-fits D G L (raise k) t w (c_raise p e) (raise_scoped s) u = atom-fits L G k exn_type w (subst (AtomChecked G k) e p) s
    op-fits D G L (raise_initial n) t w (c_raise_initial p) s u = p

    fun-fits : (D : List Quantified) (G : Knowns) (f : Fun poly) (t : Typ) → FunChecked table D G f t → FunScoped poly false [] f → FunUnique {F = poly} (λ x. x) (keys G) f → FunFits table D G f t
    fun-fits D G (last x a e) t (c_last {u = r} o p i) (last_scoped s) (last_unique n u) =
        (o, outside-unknown G x n, (r, exp-fits false D ((x, of_type a) ∷ G) ((x, of_type a) ∷ []) e r (within-more [] G x (of_type a) (within-none G)) p s u, i))
    fun-fits D G (more x a f) t (c_more {u = r} o p i) (more_scoped s) (more_unique n u) = (o, outside-unknown G x n, (r, fun-fits D ((x, of_type a) ∷ G) f r p s u, i))

    funs-fit : (D : List Quantified) (G : Knowns) (fs : Funs poly) → FunsChecked table D G fs → FunsScoped poly false [] fs → FunsUnique {F = poly} (λ x. x) (keys G) fs → FunsFit table D G fs
    funs-fit D G no_funs c_no_funs no_funs_scoped no_funs_unique = tt
    funs-fit D G (fun x a f fs) (c_fun o p ps) (fun_scoped s ss) (fun_unique u us) = (o, fun-fits D G f a p s u, funs-fit D G fs ps ss us)

pub fits-is-right : FitsIsRight
fits-is-right table m e t = (
  (λ p. let r = exp-right table m [] [] [] e t (within-none []) p in record { typed = r.typed; local = r.scoped; unique = r.unique }),
  (λ r. exp-fits table m [] [] [] e t (within-none []) r.typed r.local r.unique),
)
