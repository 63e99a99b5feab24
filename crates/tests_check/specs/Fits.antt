-- What a checker asks of each node, by recursion along the tree: its type, that its atoms are bound in its own function, and that what it binds is new.
-- G has what is in scope, L of it what is bound in the same function. [Checked, IsLocal and IsUnique in one]
use Rattle.std.specs.Prelude.{◌≡◌, ℕ, Bool, true, false, List, [], ◌∷◌, ◌++◌, length, Option, Some, None, nat_lt, ⊤}
use Rattle.std.specs.Map.{lookup}
use Rattle.mlc_names.specs.declared.label.Label.{Label}
use Rattle.ty_core.specs.Types.{Typ, var, typs_of}
use Rattle.ty_core.specs.Marks.{Allows}
use Rattle.ty_core.specs.Statics.{replace}
use Rattle.ty_core.specs.declared.scheme.Quantified.{Quantified}
use Rattle.ir_values.specs.Values.{same_label}
use Rattle.ir_plain.specs.Tree.{Case, is_literal, is_con, is_con_of, is_exn, is_exn_of, is_record, Atoms, no_atoms, an_atom, Row, no_row, a_row, Exp, ret, let_in, exception_in, name_in, rec_in, switch, first, miss, counted, Arms, no_arms, arm, Op, use_of, const, con_alone, construct, ref_alone, refer, content, pack, make_record, select, prim_alone, prim, app, fn, block, handle, raise, raise_initial, Fun, last, more, Funs, no_funs, fun}
use Rattle.ir_poly.specs.Tests.{Use, inst, poly}
pub use Rattle.record_order.specs.of_ir_uses.Uses.{UseFits, ArgumentFits}
use Rattle.ir_poly.specs.Types.{function_type, ref_type, row_type, labels_in, ascend, admits_in, over, all_over, are_new, changed, AreAllowed, Constructor, prim_type, arguments_at, result_at, tuple_type}
use Rattle.ir_poly.specs.TestsChecked.{Known, of_type, general, own, exception, Knowns, at, exn_type, HasLiteral, value_type, alone_type, group_knowns, may_generalise, declared, NameChecked, is_size, HasConstructor}

-- an atom is a variable of one type
abbrev pub AtomFits : Knowns → Use → Typ → Type 0
AtomFits L (inst x ts) t = (ts ≡ []) × (at L x ≡ Some (of_type t))

-- an exception's name, with the type of its argument
abbrev pub ExceptionFits : Knowns → Use → Option Typ → Type 0
ExceptionFits L (inst x ts) a = (ts ≡ []) × (at L x ≡ Some (exception a))

abbrev pub AtomsFit : Knowns → Atoms poly → List Typ → Type 0
AtomsFit L no_atoms ts = ts ≡ []
AtomsFit L (an_atom a as_) [] = ⊥
AtomsFit L (an_atom a as_) (t ∷ ts) = AtomFits L a t × AtomsFit L as_ ts

abbrev pub RowFits : Knowns → Row poly → List (Label × Typ) → Type 0
RowFits L no_row r = r ≡ []
RowFits L (a_row l a row) [] = ⊥
RowFits L (a_row l a row) (f ∷ r) = (f.0 ≡ l) × AtomFits L a f.1 × RowFits L row r

-- what is in scope where an arm fits
abbrev pub case_onto : Case poly → Knowns → Knowns
case_onto (is_literal l) G = G
case_onto (is_con c) G = G
case_onto (is_con_of c x a) G = (x, of_type a) ∷ G
case_onto (is_exn y) G = G
case_onto (is_exn_of y x a) G = (x, of_type a) ∷ G
case_onto (is_record size) G = G

-- the functions of a group are new, and each once
abbrev pub FunsNew : Knowns → Funs poly → Type 0
FunsNew G no_funs = ⊤
FunsNew G (fun x a f fs) = (at (group_knowns own fs G) x ≡ None) × FunsNew G fs

module _ (table : List Constructor) where
  abbrev pub CaseFits : List Quantified → Knowns → Knowns → Case poly → Typ → Type 0
  CaseFits D G L (is_literal l) t = HasLiteral l t
  CaseFits D G L (is_con c) t = HasConstructor table c t None
  CaseFits D G L (is_con_of c x a) t = HasConstructor table c t (Some a) × (over D a ≡ true) × (at G x ≡ None)
  CaseFits D G L (is_exn y) t = ExceptionFits L y None × (t ≡ exn_type)
  CaseFits D G L (is_exn_of y x a) t = ExceptionFits L y (Some a) × (over D a ≡ true) × (t ≡ exn_type) × (at G x ≡ None)
  CaseFits D G L (is_record size) t = (r : List (Label × Typ)) × (t ≡ row_type r) × (is_size size (length r) ≡ true)

  abbrev mutual
    pub ExpFits : Bool → List Quantified → Knowns → Knowns → Exp poly → Typ → Type 0
    ExpFits m D G L (ret a) t = AtomFits L a t
    ExpFits m D G L (let_in x qs a o e) t =
        (may_generalise qs o ≡ true) × (are_new qs D ≡ true) × (over (qs ++ D) a ≡ true) × OpFits (qs ++ D) G L o a × (at G x ≡ None)
        × ExpFits m D ((x, declared qs a) ∷ G) ((x, declared qs a) ∷ L) e t
    ExpFits m D G L (exception_in x i a e) t = ArgumentFits D a × (at G x ≡ None) × ExpFits m D ((x, exception a) ∷ G) ((x, exception a) ∷ L) e t
    ExpFits m D G L (name_in x y e) t =
        (at G x ≡ None) × ((a : Option Typ) × NameChecked G y a × ExpFits m D ((x, exception a) ∷ G) ((x, exception a) ∷ L) e t)
    ExpFits m D G L (rec_in qs fs e) t =
        (are_new qs D ≡ true) × FunsNew G fs × FunsFit (qs ++ D) (group_knowns own fs G) fs
        × ExpFits m D (group_knowns (declared qs) fs G) (group_knowns (declared qs) fs L) e t
    ExpFits m D G L (switch a u arms) t = (m ≡ true) × AtomFits L a u × ArmsFit D G L arms u t
    ExpFits m D G L (first e d) t = ExpFits true D G L e t × ExpFits m D G L d t
    ExpFits m D G L miss t = m ≡ true
    ExpFits m D G L (counted n e) t = ExpFits m D G L e t

    pub ArmsFit : List Quantified → Knowns → Knowns → Arms poly → Typ → Typ → Type 0
    ArmsFit D G L no_arms u t = ⊤
    ArmsFit D G L (arm c e arms) u t = CaseFits D G L c u × ExpFits true D (case_onto c G) (case_onto c L) e t × ArmsFit D G L arms u t

    pub OpFits : List Quantified → Knowns → Knowns → Op poly → Typ → Type 0
    OpFits D G L (use_of (inst x ts)) t = UseFits D (at G x) ts t
    OpFits D G L (const l) t = HasLiteral l t
    OpFits D G L (con_alone c u) t = (a : Option Typ) × HasConstructor table c u a × (t ≡ alone_type a u)
    OpFits D G L (construct m c u k) t = (u ≡ t) × ((a : Typ) × HasConstructor table c t (Some a) × AtomFits L k a)
    OpFits D G L (ref_alone a) t = t ≡ function_type a (ref_type a)
    OpFits D G L (refer m a k) t = AtomFits L k a × (t ≡ ref_type a)
    OpFits D G L (content u k) t = (u ≡ t) × AtomFits L k (ref_type t)
    OpFits D G L (pack m a x k) t = ExceptionFits L x (Some a) × AtomFits L k a × (t ≡ exn_type)
    OpFits D G L (make_record u row) t = (u ≡ t) × ((r : List (Label × Typ)) × RowFits L row r × (t ≡ row_type r) × (ascend (labels_in r) ≡ true))
    OpFits D G L (select u l k) t = AtomFits L k u × ((r : List (Label × Typ)) × (u ≡ row_type r) × (lookup (same_label l) r ≡ Some t))
    OpFits D G L (prim_alone p u) t = Allows (prim_type p).mark (admits_in D) u × (t ≡ function_type (tuple_type (arguments_at p u)) (result_at p u))
    OpFits D G L (prim m p u as_) t = Allows (prim_type p).mark (admits_in D) u × AtomsFit L as_ (arguments_at p u) × (t ≡ result_at p u)
    OpFits D G L (app place f k) t = (v : Typ) × AtomFits L k v × AtomFits L f (function_type v t)
    OpFits D G L (fn f) t = FunFits D G f t
    OpFits D G L (block e) t = ExpFits false D G L e t
    OpFits D G L (handle e x h) t =
        ExpFits false D G L e t × (at G x ≡ None) × ExpFits false D ((x, of_type exn_type) ∷ G) ((x, of_type exn_type) ∷ L) h t
    OpFits D G L (raise k) t = AtomFits L k exn_type
    OpFits D G L (raise_initial n) t = nat_lt n 7 ≡ true

    -- each parameter belongs to a function of its own
    pub FunFits : List Quantified → Knowns → Fun poly → Typ → Type 0
    FunFits D G (last x a e) t =
        (over D a ≡ true) × (at G x ≡ None) × ((u : Typ) × ExpFits false D ((x, of_type a) ∷ G) ((x, of_type a) ∷ []) e u × (t ≡ function_type a u))
    FunFits D G (more x a f) t = (over D a ≡ true) × (at G x ≡ None) × ((u : Typ) × FunFits D ((x, of_type a) ∷ G) f u × (t ≡ function_type a u))

    pub FunsFit : List Quantified → Knowns → Funs poly → Type 0
    FunsFit D G no_funs = ⊤
    FunsFit D G (fun x a f fs) = (over D a ≡ true) × FunFits D G f a × FunsFit D G fs
