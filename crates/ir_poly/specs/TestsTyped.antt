-- Which programs of tests are well typed where parameters stand for types: s says for which. What is generalised is typed whatever types, allowed by their
-- marks,
-- its parameters stand for. This follows from what a checker decides; it is what copies at types are made by.
use Rattle.std.specs.Prelude.{◌≡◌, ℕ, Bool, true, false, List, [], ◌∷◌, map, length, Option, Some, None, nat_lt}
use Rattle.std.specs.Map.{lookup}
use Rattle.ir_plain.specs.of_mlc_names.declared.label.Label.{Label}
use Rattle.mlc_base.specs.declared.place.Place.{Place}
use Rattle.ir_plain.specs.of_mlc_prims.LitOf.{Literal}
use Rattle.ir_plain.specs.of_mlc_prims.declared.basis.BasisPrimitive.{BasisPrimitive}
use Rattle.ty_basis.specs.of_ty_core.Types.{Typ, no_variable}
use Rattle.ty_basis.specs.of_ty_core.Marks.{Allows}
use Rattle.ty_basis.specs.of_ty_core.Statics.{replace}
use Rattle.ty_basis.specs.of_ty_core.declared.scheme.Quantified.{Quantified}
use Rattle.ir_plain.specs.of_ir_values.Values.{same_label}
use Rattle.ir_plain.specs.Tree.{Case, is_literal, is_con, is_con_of, is_exn, is_exn_of, is_record, Exception, Atoms, Row, Exp, ret, let_in, exception_in, name_in, rec_in, switch, first, miss, counted, Arms, no_arms, arm, Op, use_of, const, con_alone, construct, ref_alone, refer, content, pack, make_record, select, prim_alone, prim, app, fn, block, handle, raise, raise_initial, Fun, last, more, Funs, no_funs, fun}
use Rattle.ir_poly.specs.Tests.{Use, inst, poly}
use Rattle.ir_poly.specs.Types.{function_type, ref_type, row_type, labels_in, ascend, changed, AreAllowed, Constructor, prim_type, arguments_at, result_at, tuple_type}
use Rattle.ir_poly.specs.TestsChecked.{Known, of_type, general, own, exception, Knowns, at, exn_type, HasLiteral, value_type, alone_type, group_knowns, may_generalise, bound, AtomChecked, AtomsChecked, RowChecked, NameChecked, is_size, HasConstructor}

abbrev pub option_read : (ℕ → Typ) → Option Typ → Option Typ
option_read s None = None
option_read s (Some a) = Some (replace s a)

abbrev pub own_at : (ℕ → Typ) → Typ → Known
own_at s t = own (replace s t)

module _ (table : List Constructor) where
  pub data CaseTyped (s : ℕ → Typ) (G : Knowns) : Case poly → Typ → Knowns → Type 0 where
    literal_typed : {l : Literal} {t : Typ} → HasLiteral l t → CaseTyped s G (is_literal l) t G
    con_typed : {c : ℕ} {t : Typ} → HasConstructor table c t None → CaseTyped s G (is_con c) t G
    con_of_typed : {c x : ℕ} {t a : Typ} → HasConstructor table c t (Some (replace s a)) → CaseTyped s G (is_con_of c x a) t ((x, of_type (replace s a)) ∷ G)
    exn_typed : {x : ℕ} → at G x ≡ Some (exception None) → CaseTyped s G (is_exn (inst x [])) exn_type G
    exn_of_typed : {y x : ℕ} {a : Typ} → at G y ≡ Some (exception (Some (replace s a)))
        → CaseTyped s G (is_exn_of (inst y []) x a) exn_type ((x, of_type (replace s a)) ∷ G)
    record_typed : {size : Option ℕ} {t : Typ} (r : List (Label × Typ)) → t ≡ row_type r → is_size size (length r) ≡ true → CaseTyped s G (is_record size) t G

  mutual
    pub data Typed : Bool → (ℕ → Typ) → Knowns → Exp poly → Typ → Type 0 where
      t_ret : {m : Bool} {s : ℕ → Typ} {G : Knowns} {a : Use} {t : Typ} → AtomChecked G a t → Typed m s G (ret a) t
      t_let : {m : Bool} {s : ℕ → Typ} {qs : List Quantified} {G : Knowns} {x : ℕ} {a : Typ} {o : Op poly} {e : Exp poly} {t : Typ} → may_generalise qs o ≡ true
          → ((ts : List Typ) → AreAllowed no_variable qs ts → OpTyped (changed qs ts s) G o (replace (changed qs ts s) a))
          → Typed m s ((x, bound qs s a) ∷ G) e t → Typed m s G (let_in x qs a o e) t
      t_exception : {m : Bool} {s : ℕ → Typ} {G : Knowns} {x identifier : ℕ} {a : Option Typ} {e : Exp poly} {t : Typ}
          → Typed m s ((x, exception (option_read s a)) ∷ G) e t → Typed m s G (exception_in x identifier a e) t
      t_name : {m : Bool} {s : ℕ → Typ} {G : Knowns} {x : ℕ} {y : Exception poly} {a : Option Typ} {e : Exp poly} {t : Typ} → NameChecked G y a
          → Typed m s ((x, exception a) ∷ G) e t → Typed m s G (name_in x y e) t
      t_rec : {m : Bool} {s : ℕ → Typ} {qs : List Quantified} {G : Knowns} {fs : Funs poly} {e : Exp poly} {t : Typ}
          → ((ts : List Typ) → AreAllowed no_variable qs ts → FunsTyped (changed qs ts s) (group_knowns (own_at (changed qs ts s)) fs G) fs)
          → Typed m s (group_knowns (bound qs s) fs G) e t → Typed m s G (rec_in qs fs e) t
      t_switch : {s : ℕ → Typ} {G : Knowns} {a : Use} {b u : Typ} {arms : Arms poly} {t : Typ} → AtomChecked G a u → replace s b ≡ u → ArmsTyped s G arms u t
          → Typed true s G (switch a b arms) t
      t_first : {m : Bool} {s : ℕ → Typ} {G : Knowns} {e d : Exp poly} {t : Typ} → Typed true s G e t → Typed m s G d t → Typed m s G (first e d) t
      t_miss : {s : ℕ → Typ} {G : Knowns} {t : Typ} → Typed true s G miss t
      t_counted : {m : Bool} {s : ℕ → Typ} {G : Knowns} {n : ℕ} {e : Exp poly} {t : Typ} → Typed m s G e t → Typed m s G (counted n e) t

    pub data ArmsTyped : (ℕ → Typ) → Knowns → Arms poly → Typ → Typ → Type 0 where
      t_no_arms : {s : ℕ → Typ} {G : Knowns} {u t : Typ} → ArmsTyped s G no_arms u t
      t_arm : {s : ℕ → Typ} {G G' : Knowns} {c : Case poly} {e : Exp poly} {arms : Arms poly} {u t : Typ} → CaseTyped s G c u G' → Typed true s G' e t
          → ArmsTyped s G arms u t → ArmsTyped s G (arm c e arms) u t

    pub data OpTyped : (ℕ → Typ) → Knowns → Op poly → Typ → Type 0 where
      t_use : {s s' : ℕ → Typ} {qs : List Quantified} {G : Knowns} {x : ℕ} {ts : List Typ} {b t : Typ} → at G x ≡ Some (general qs s' b)
          → AreAllowed no_variable qs (map (replace s) ts)
          → t ≡ replace (changed qs (map (replace s) ts) s') b → OpTyped s G (use_of (inst x ts)) t
      t_use_one : {s : ℕ → Typ} {G : Knowns} {x : ℕ} {t : Typ} → at G x ≡ Some (of_type t) → OpTyped s G (use_of (inst x [])) t
      t_use_own : {s : ℕ → Typ} {G : Knowns} {x : ℕ} {t : Typ} → at G x ≡ Some (own t) → OpTyped s G (use_of (inst x [])) t
      t_use_exception : {s : ℕ → Typ} {G : Knowns} {x : ℕ} {a : Option Typ} {t : Typ} → at G x ≡ Some (exception a) → t ≡ value_type a
          → OpTyped s G (use_of (inst x [])) t
      t_const : {s : ℕ → Typ} {G : Knowns} {l : Literal} {t : Typ} → HasLiteral l t → OpTyped s G (const l) t
      t_con_alone : {s : ℕ → Typ} {G : Knowns} {c : ℕ} {u t : Typ} {a : Option Typ} → HasConstructor table c (replace s u) a → t ≡ alone_type a (replace s u)
          → OpTyped s G (con_alone c u) t
      t_construct : {s : ℕ → Typ} {G : Knowns} {m : Option Place} {c : ℕ} {k : Use} {u t a : Typ} → HasConstructor table c t (Some a) → AtomChecked G k a
          → replace s u ≡ t → OpTyped s G (construct m c u k) t
      t_ref_alone : {s : ℕ → Typ} {G : Knowns} {a t : Typ} → t ≡ function_type (replace s a) (ref_type (replace s a)) → OpTyped s G (ref_alone a) t
      t_refer : {s : ℕ → Typ} {G : Knowns} {m : Option Place} {a t : Typ} {k : Use} → AtomChecked G k (replace s a) → t ≡ ref_type (replace s a)
          → OpTyped s G (refer m a k) t
      t_content : {s : ℕ → Typ} {G : Knowns} {a t u : Typ} {k : Use} → AtomChecked G k u → u ≡ ref_type t → replace s a ≡ t → OpTyped s G (content a k) t
      t_pack : {s : ℕ → Typ} {G : Knowns} {m : Option Place} {x : ℕ} {k : Use} {a t : Typ} → at G x ≡ Some (exception (Some (replace s a)))
          → AtomChecked G k (replace s a) → t ≡ exn_type → OpTyped s G (pack m a (inst x []) k) t
      t_make_record : {s : ℕ → Typ} {G : Knowns} {b t : Typ} {row : Row poly} {r : List (Label × Typ)} → RowChecked G row r → t ≡ row_type r
          → ascend (labels_in r) ≡ true → replace s b ≡ t → OpTyped s G (make_record b row) t
      t_select : {s : ℕ → Typ} {G : Knowns} {b u t : Typ} {l : Label} {k : Use} (r : List (Label × Typ)) → AtomChecked G k u → u ≡ row_type r
          → lookup (same_label l) r ≡ Some t → replace s b ≡ u → OpTyped s G (select b l k) t
      t_prim_alone : {s : ℕ → Typ} {G : Knowns} {p : BasisPrimitive} {b t : Typ} → Allows (prim_type p).mark no_variable (replace s b)
          → t ≡ function_type (tuple_type (arguments_at p (replace s b))) (result_at p (replace s b)) → OpTyped s G (prim_alone p b) t
      t_prim : {s : ℕ → Typ} {G : Knowns} {m : Option Place} {p : BasisPrimitive} {b t : Typ} {as_ : Atoms poly} {ts : List Typ}
          → Allows (prim_type p).mark no_variable (replace s b) → AtomsChecked G as_ ts → ts ≡ arguments_at p (replace s b)
          → t ≡ result_at p (replace s b) → OpTyped s G (prim m p b as_) t
      t_app : {s : ℕ → Typ} {G : Knowns} {place : Place} {f k : Use} {u v t : Typ} → AtomChecked G f u → AtomChecked G k v → u ≡ function_type v t
          → OpTyped s G (app place f k) t
      t_fn : {s : ℕ → Typ} {G : Knowns} {f : Fun poly} {t : Typ} → FunTyped s G f t → OpTyped s G (fn f) t
      t_block : {s : ℕ → Typ} {G : Knowns} {e : Exp poly} {t : Typ} → Typed false s G e t → OpTyped s G (block e) t
      t_handle : {s : ℕ → Typ} {G : Knowns} {e h : Exp poly} {x : ℕ} {t : Typ} → Typed false s G e t → Typed false s ((x, of_type exn_type) ∷ G) h t
          → OpTyped s G (handle e x h) t
      t_raise : {s : ℕ → Typ} {G : Knowns} {k : Use} {u t : Typ} → AtomChecked G k u → u ≡ exn_type → OpTyped s G (raise k) t
      t_raise_initial : {s : ℕ → Typ} {G : Knowns} {n : ℕ} {t : Typ} → nat_lt n 7 ≡ true → OpTyped s G (raise_initial n) t

    pub data FunTyped : (ℕ → Typ) → Knowns → Fun poly → Typ → Type 0 where
      t_last : {s : ℕ → Typ} {G : Knowns} {x : ℕ} {a : Typ} {e : Exp poly} {t u : Typ} → Typed false s ((x, of_type (replace s a)) ∷ G) e u
          → t ≡ function_type (replace s a) u → FunTyped s G (last x a e) t
      t_more : {s : ℕ → Typ} {G : Knowns} {x : ℕ} {a : Typ} {f : Fun poly} {t u : Typ} → FunTyped s ((x, of_type (replace s a)) ∷ G) f u
          → t ≡ function_type (replace s a) u → FunTyped s G (more x a f) t

    pub data FunsTyped : (ℕ → Typ) → Knowns → Funs poly → Type 0 where
      t_no_funs : {s : ℕ → Typ} {G : Knowns} → FunsTyped s G no_funs
      t_fun : {s : ℕ → Typ} {G : Knowns} {x : ℕ} {a : Typ} {f : Fun poly} {fs : Funs poly} → FunTyped s G f (replace s a) → FunsTyped s G fs
          → FunsTyped s G (fun x a f fs)
