-- Which programs of tests are well typed, as a checker decides it: each binding once, its parameters standing for themselves. The Bool says whether a miss
-- goes on somewhere: only there may an expression miss, and a miss has any type.
use Rattle.std.specs.Prelude.{◌≡◌, ℕ, Bool, true, false, List, [], ◌∷◌, ◌++◌, length, Option, Some, None, nat_eq, nat_lt}
use Rattle.std.specs.Map.{lookup}
use Rattle.ir_plain.specs.of_mlc_names.declared.label.Label.{Label}
use Rattle.mlc_base.specs.declared.place.Place.{Place}
use Rattle.ir_plain.specs.of_mlc_prims.LitOf.{Literal, int, word, char, string}
use Rattle.ir_plain.specs.of_mlc_prims.declared.basis.BasisPrimitive.{BasisPrimitive}
use Rattle.ty_basis.specs.of_ty_core.Types.{Typ, name, var, con, typs_of}
use Rattle.ty_basis.specs.of_ty_core.Marks.{Allows}
use Rattle.ty_basis.specs.of_ty_core.Statics.{replace}
use Rattle.ty_basis.specs.of_ty_core.declared.name.TyName.{TyName}
use Rattle.ty_basis.specs.of_ty_core.declared.scheme.Quantified.{Quantified}
use Rattle.ir_plain.specs.Tree.{Case, is_literal, is_con, is_con_of, is_exn, is_exn_of, is_record, Exception, fixed, held, Atoms, no_atoms, an_atom, Row, no_row, a_row, Exp, ret, let_in, exception_in, name_in, rec_in, switch, first, miss, counted, Arms, no_arms, arm, Op, use_of, const, con_alone, construct, ref_alone, refer, content, pack, make_record, select, prim_alone, prim, app, fn, block, handle, raise, raise_initial, Fun, last, more, Funs, no_funs, fun, is_value_op}
use Rattle.ir_plain.specs.of_ir_values.Values.{same_label}
use Rattle.ir_poly.specs.Tests.{Use, inst, poly}
use Rattle.ir_poly.specs.Types.{int_name, word_name, char_name, string_name, exn_name, of_name, function_type, ref_type, row_type, labels_in, ascend, admits_in, over, all_over, are_new, changed, AreAllowed, Constructor, find, argument_at, prim_type, arguments_at, result_at, tuple_type}

-- What a variable is: of one type; generalised over parameters, with what the other variables of its type stand for; a function inside its own group; or an
-- exception, with the type of its argument.
pub data Known : Type 0 where
  of_type : Typ → Known
  general : List Quantified → (ℕ → Typ) → Typ → Known
  own : Typ → Known
  exception : Option Typ → Known

abbrev pub Knowns : Type 0
Knowns = List (ℕ × Known)

abbrev pub at : Knowns → ℕ → Option Known
at G x = lookup (nat_eq x) G

abbrev pub exn_type : Typ
exn_type = of_name exn_name

pub data HasLiteral : Literal → Typ → Type 0 where
  has_int : (z : _) → HasLiteral (int z) (of_name int_name)
  has_word : (n : ℕ) → HasLiteral (word n) (of_name word_name)
  has_char : (n : ℕ) → HasLiteral (char n) (of_name char_name)
  has_string : (s : List ℕ) → HasLiteral (string s) (of_name string_name)

-- an exception as a value: a packet, or a function to packets
abbrev pub value_type : Option Typ → Typ
value_type None = exn_type
value_type (Some t) = function_type t exn_type

-- a constructor alone: of its datatype, or a function to it
abbrev pub alone_type : Option Typ → Typ → Typ
alone_type None t = t
alone_type (Some a) t = function_type a t

-- the functions of a group
abbrev pub group_knowns : (Typ → Known) → Funs poly → Knowns → Knowns
group_knowns f no_funs G = G
group_knowns f (fun x t g fs) G = (x, f t) ∷ group_knowns f fs G

-- nothing is generalised over, or the operation gives a value
abbrev pub may_generalise : List Quantified → Op poly → Bool
may_generalise [] o = true
may_generalise (q ∷ qs) o = is_value_op o

-- the variable of a binding: generalised where it has parameters
abbrev pub bound : List Quantified → (ℕ → Typ) → Typ → Known
bound [] s t = of_type (replace s t)
bound (q ∷ qs) s t = general (q ∷ qs) s t

-- where variables stand for themselves
abbrev pub declared : List Quantified → Typ → Known
declared [] t = of_type t
declared (q ∷ qs) t = general (q ∷ qs) var t

-- an atom is a variable of one type
pub data AtomChecked (G : Knowns) : Use → Typ → Type 0 where
  atom_checked : {x : ℕ} {t : Typ} → at G x ≡ Some (of_type t) → AtomChecked G (inst x []) t

pub data AtomsChecked (G : Knowns) : Atoms poly → List Typ → Type 0 where
  no_atoms_checked : AtomsChecked G no_atoms []
  an_atom_checked : {a : Use} {as_ : Atoms poly} {t : Typ} {ts : List Typ} → AtomChecked G a t → AtomsChecked G as_ ts → AtomsChecked G (an_atom a as_) (t ∷ ts)

pub data RowChecked (G : Knowns) : Row poly → List (Label × Typ) → Type 0 where
  no_row_checked : RowChecked G no_row []
  a_row_checked : {l : Label} {a : Use} {row : Row poly} {t : Typ} {r : List (Label × Typ)} → AtomChecked G a t → RowChecked G row r
      → RowChecked G (a_row l a row) ((l, t) ∷ r)

-- an exception's name: those of the initial basis have no argument
pub data NameChecked (G : Knowns) : Exception poly → Option Typ → Type 0 where
  fixed_checked : {n : ℕ} → nat_lt n 7 ≡ true → NameChecked G (fixed n) None
  held_checked : {x : ℕ} {a : Option Typ} → at G x ≡ Some (exception a) → NameChecked G (held (inst x [])) a

-- the number of fields that is asked for, if one is
abbrev pub is_size : Option ℕ → ℕ → Bool
is_size None n = true
is_size (Some k) n = nat_eq k n

-- a constructor of a datatype at types
pub record HasConstructor (table : List Constructor) (c : ℕ) (t : Typ) (a : Option Typ) : Type 0 where
  pub datatype : TyName
  pub arguments : List Typ
  pub row : Constructor
  pub found : find table datatype c ≡ Some row
  pub same : row.datatype ≡ datatype
  pub type : t ≡ con (name datatype) (typs_of arguments)
  pub argument : argument_at arguments row.argument ≡ a

module _ (table : List Constructor) where
  -- an arm for values of the type, and what is known where it fits
  pub data CaseChecked (D : List Quantified) (G : Knowns) : Case poly → Typ → Knowns → Type 0 where
    literal_checked : {l : Literal} {t : Typ} → HasLiteral l t → CaseChecked D G (is_literal l) t G
    con_checked : {c : ℕ} {t : Typ} → HasConstructor table c t None → CaseChecked D G (is_con c) t G
    con_of_checked : {c x : ℕ} {t a : Typ} → HasConstructor table c t (Some a) → over D a ≡ true → CaseChecked D G (is_con_of c x a) t ((x, of_type a) ∷ G)
    exn_checked : {x : ℕ} → at G x ≡ Some (exception None) → CaseChecked D G (is_exn (inst x [])) exn_type G
    exn_of_checked : {y x : ℕ} {a : Typ} → at G y ≡ Some (exception (Some a)) → over D a ≡ true
        → CaseChecked D G (is_exn_of (inst y []) x a) exn_type ((x, of_type a) ∷ G)
    record_checked : {size : Option ℕ} {t : Typ} (r : List (Label × Typ)) → t ≡ row_type r → is_size size (length r) ≡ true
        → CaseChecked D G (is_record size) t G

  mutual
    pub data Checked : Bool → List Quantified → Knowns → Exp poly → Typ → Type 0 where
      c_ret : {m : Bool} {D : List Quantified} {G : Knowns} {a : Use} {t : Typ} → AtomChecked G a t → Checked m D G (ret a) t
      -- the parameters are new, and stand for themselves
      c_let : {m : Bool} {D qs : List Quantified} {G : Knowns} {x : ℕ} {a : Typ} {o : Op poly} {e : Exp poly} {t : Typ} → may_generalise qs o ≡ true
          → are_new qs D ≡ true
          → over (qs ++ D) a ≡ true → OpChecked (qs ++ D) G o a → Checked m D ((x, declared qs a) ∷ G) e t → Checked m D G (let_in x qs a o e) t
      c_exception : {m : Bool} {D : List Quantified} {G : Knowns} {x identifier : ℕ} {a : Typ} {e : Exp poly} {t : Typ} → over D a ≡ true
          → Checked m D ((x, exception (Some a)) ∷ G) e t
          → Checked m D G (exception_in x identifier (Some a) e) t
      c_exception_alone : {m : Bool} {D : List Quantified} {G : Knowns} {x identifier : ℕ} {e : Exp poly} {t : Typ}
          → Checked m D ((x, exception None) ∷ G) e t → Checked m D G (exception_in x identifier None e) t
      c_name : {m : Bool} {D : List Quantified} {G : Knowns} {x : ℕ} {y : Exception poly} {a : Option Typ} {e : Exp poly} {t : Typ} → NameChecked G y a
          → Checked m D ((x, exception a) ∷ G) e t → Checked m D G (name_in x y e) t
      c_rec : {m : Bool} {D qs : List Quantified} {G : Knowns} {fs : Funs poly} {e : Exp poly} {t : Typ} → are_new qs D ≡ true
          → FunsChecked (qs ++ D) (group_knowns own fs G) fs
          → Checked m D (group_knowns (declared qs) fs G) e t → Checked m D G (rec_in qs fs e) t
      c_switch : {D : List Quantified} {G : Knowns} {a : Use} {u : Typ} {arms : Arms poly} {t : Typ} → AtomChecked G a u → ArmsChecked D G arms u t
          → Checked true D G (switch a u arms) t
      c_first : {m : Bool} {D : List Quantified} {G : Knowns} {e d : Exp poly} {t : Typ} → Checked true D G e t → Checked m D G d t
          → Checked m D G (first e d) t
      c_miss : {D : List Quantified} {G : Knowns} {t : Typ} → Checked true D G miss t
      c_counted : {m : Bool} {D : List Quantified} {G : Knowns} {n : ℕ} {e : Exp poly} {t : Typ} → Checked m D G e t → Checked m D G (counted n e) t

    -- arms for values of the first type
    pub data ArmsChecked : List Quantified → Knowns → Arms poly → Typ → Typ → Type 0 where
      c_no_arms : {D : List Quantified} {G : Knowns} {u t : Typ} → ArmsChecked D G no_arms u t
      c_arm : {D : List Quantified} {G G' : Knowns} {c : Case poly} {e : Exp poly} {arms : Arms poly} {u t : Typ} → CaseChecked D G c u G'
          → Checked true D G' e t → ArmsChecked D G arms u t → ArmsChecked D G (arm c e arms) u t

    pub data OpChecked : List Quantified → Knowns → Op poly → Typ → Type 0 where
      -- a variable at types for its parameters, such as their marks ask for
      c_use : {D qs : List Quantified} {G : Knowns} {x : ℕ} {ts : List Typ} {b t : Typ} → at G x ≡ Some (general qs var b) → AreAllowed (admits_in D) qs ts
          → all_over D (typs_of ts) ≡ true → t ≡ replace (changed qs ts var) b → OpChecked D G (use_of (inst x ts)) t
      c_use_one : {D : List Quantified} {G : Knowns} {x : ℕ} {t : Typ} → at G x ≡ Some (of_type t) → OpChecked D G (use_of (inst x [])) t
      c_use_own : {D : List Quantified} {G : Knowns} {x : ℕ} {t : Typ} → at G x ≡ Some (own t) → OpChecked D G (use_of (inst x [])) t
      c_use_exception : {D : List Quantified} {G : Knowns} {x : ℕ} {a : Option Typ} {t : Typ} → at G x ≡ Some (exception a) → t ≡ value_type a
          → OpChecked D G (use_of (inst x [])) t
      c_const : {D : List Quantified} {G : Knowns} {l : Literal} {t : Typ} → HasLiteral l t → OpChecked D G (const l) t
      c_con_alone : {D : List Quantified} {G : Knowns} {c : ℕ} {u t : Typ} {a : Option Typ} → HasConstructor table c u a → t ≡ alone_type a u
          → OpChecked D G (con_alone c u) t
      c_construct : {D : List Quantified} {G : Knowns} {m : Option Place} {c : ℕ} {k : Use} {t a : Typ} → HasConstructor table c t (Some a)
          → AtomChecked G k a → OpChecked D G (construct m c t k) t
      c_ref_alone : {D : List Quantified} {G : Knowns} {a t : Typ} → t ≡ function_type a (ref_type a) → OpChecked D G (ref_alone a) t
      c_refer : {D : List Quantified} {G : Knowns} {m : Option Place} {a t : Typ} {k : Use} → AtomChecked G k a → t ≡ ref_type a → OpChecked D G (refer m a k) t
      c_content : {D : List Quantified} {G : Knowns} {t u : Typ} {k : Use} → AtomChecked G k u → u ≡ ref_type t → OpChecked D G (content t k) t
      c_pack : {D : List Quantified} {G : Knowns} {m : Option Place} {x : ℕ} {k : Use} {a t : Typ} → at G x ≡ Some (exception (Some a)) → AtomChecked G k a
          → t ≡ exn_type → OpChecked D G (pack m a (inst x []) k) t
      c_make_record : {D : List Quantified} {G : Knowns} {t : Typ} {row : Row poly} {r : List (Label × Typ)} → RowChecked G row r → t ≡ row_type r
          → ascend (labels_in r) ≡ true → OpChecked D G (make_record t row) t
      c_select : {D : List Quantified} {G : Knowns} {u t : Typ} {l : Label} {k : Use} (r : List (Label × Typ)) → AtomChecked G k u → u ≡ row_type r
          → lookup (same_label l) r ≡ Some t → OpChecked D G (select u l k) t
      c_prim_alone : {D : List Quantified} {G : Knowns} {p : BasisPrimitive} {u t : Typ} → Allows (prim_type p).mark (admits_in D) u
          → t ≡ function_type (tuple_type (arguments_at p u)) (result_at p u) → OpChecked D G (prim_alone p u) t
      c_prim : {D : List Quantified} {G : Knowns} {m : Option Place} {p : BasisPrimitive} {u t : Typ} {as_ : Atoms poly} {ts : List Typ}
          → Allows (prim_type p).mark (admits_in D) u → AtomsChecked G as_ ts → ts ≡ arguments_at p u → t ≡ result_at p u → OpChecked D G (prim m p u as_) t
      c_app : {D : List Quantified} {G : Knowns} {place : Place} {f k : Use} {u v t : Typ} → AtomChecked G f u → AtomChecked G k v → u ≡ function_type v t
          → OpChecked D G (app place f k) t
      c_fn : {D : List Quantified} {G : Knowns} {f : Fun poly} {t : Typ} → FunChecked D G f t → OpChecked D G (fn f) t
      c_block : {D : List Quantified} {G : Knowns} {e : Exp poly} {t : Typ} → Checked false D G e t → OpChecked D G (block e) t
      c_handle : {D : List Quantified} {G : Knowns} {e h : Exp poly} {x : ℕ} {t : Typ} → Checked false D G e t
          → Checked false D ((x, of_type exn_type) ∷ G) h t → OpChecked D G (handle e x h) t
      c_raise : {D : List Quantified} {G : Knowns} {k : Use} {u t : Typ} → AtomChecked G k u → u ≡ exn_type → OpChecked D G (raise k) t
      c_raise_initial : {D : List Quantified} {G : Knowns} {n : ℕ} {t : Typ} → nat_lt n 7 ≡ true → OpChecked D G (raise_initial n) t

    pub data FunChecked : List Quantified → Knowns → Fun poly → Typ → Type 0 where
      c_last : {D : List Quantified} {G : Knowns} {x : ℕ} {a : Typ} {e : Exp poly} {t u : Typ} → over D a ≡ true → Checked false D ((x, of_type a) ∷ G) e u
          → t ≡ function_type a u → FunChecked D G (last x a e) t
      c_more : {D : List Quantified} {G : Knowns} {x : ℕ} {a : Typ} {f : Fun poly} {t u : Typ} → over D a ≡ true → FunChecked D ((x, of_type a) ∷ G) f u
          → t ≡ function_type a u → FunChecked D G (more x a f) t

    pub data FunsChecked : List Quantified → Knowns → Funs poly → Type 0 where
      c_no_funs : {D : List Quantified} {G : Knowns} → FunsChecked D G no_funs
      c_fun : {D : List Quantified} {G : Knowns} {x : ℕ} {a : Typ} {f : Fun poly} {fs : Funs poly} → over D a ≡ true → FunChecked D G f a
          → FunsChecked D G fs → FunsChecked D G (fun x a f fs)
