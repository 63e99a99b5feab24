-- Which programs with source matches are well typed, as a checker decides it: each binding once, its parameters standing for themselves. The type of an
-- expression
-- is the one that it has written.
use Rattle.std.specs.Prelude.{◌≡◌, ℕ, Bool, true, false, List, [], ◌∷◌, ◌++◌, length, Option, Some, None, nat_lt}
use Rattle.std.specs.Map.{lookup}
use Rattle.ir_plain.specs.of_mlc_names.declared.label.Label.{Label}
use Rattle.mlc_base.specs.declared.place.Place.{Place}
use Rattle.ir_plain.specs.of_mlc_prims.LitOf.{Literal}
use Rattle.ir_plain.specs.of_mlc_prims.declared.basis.BasisPrimitive.{BasisPrimitive}
use Rattle.ty_basis.specs.of_ty_core.Types.{Typ, name, var, con, typs_of}
use Rattle.ty_basis.specs.of_ty_core.Marks.{Allows}
use Rattle.ty_basis.specs.of_ty_core.Statics.{replace}
use Rattle.ty_basis.specs.of_ty_core.declared.name.TyName.{TyName}
use Rattle.ty_basis.specs.of_ty_core.declared.scheme.Quantified.{Quantified}
use Rattle.ir_plain.specs.of_ir_values.Values.{same_label}
use Rattle.ir_poly.specs.Prog.{Exc, fixed, held, Pat, any_pat, variable_pat, constant_pat, con_pat, con_of_pat, ref_of_pat, exn_pat, exn_of_pat, fields_pat, as_pat, PatFields, no_pats, a_pat, Exp, constant_exp, variable_exp, own_exp, con_exp, ref_exp, exn_exp, prim_exp, fields_exp, let_exp, app_exp, case_exp, chain_exp, handle_exp, raise_exp, fn_exp, counted_exp, Fields, no_fields, a_field, Chain, only, link, Rules, no_rules, a_rule, Fun, last, by_rules, more, Decs, no_decs, val_dec, exception_dec, counted_dec, Binds, no_binds, a_bind, Funs, no_funs, a_fun, is_value}
use Rattle.ir_poly.specs.ProgMeaning.{size_of}
use Rattle.ir_poly.specs.Types.{of_name, bool_name, function_type, ref_type, row_type, labels_in, ascend, sorted, admits_in, over, all_over, are_new, changed, AreAllowed, Constructor, find, argument_at, prim_type, arguments_at, result_at, tuple_type}
use Rattle.ir_poly.specs.TestsChecked.{Known, of_type, general, own, exception, Knowns, at, exn_type, HasLiteral, value_type, alone_type, declared, is_size, HasConstructor}

-- the variables of a pattern that is matched with a value of the type, in front of what is known
abbrev mutual
  pub pat_onto : (Typ → Known) → Pat → Typ → Knowns → Knowns
  pat_onto f any_pat t G = G
  pat_onto f (variable_pat x) t G = (x, f t) ∷ G
  pat_onto f (constant_pat l) t G = G
  pat_onto f (con_pat c) t G = G
  pat_onto f (con_of_pat c a p) t G = pat_onto f p a G
  pat_onto f (ref_of_pat a p) t G = pat_onto f p a G
  pat_onto f (exn_pat x) t G = G
  pat_onto f (exn_of_pat x a p) t G = pat_onto f p a G
  pat_onto f (fields_pat further ps) t G = pats_onto f ps G
  pat_onto f (as_pat x p) t G = pat_onto f p t ((x, f t) ∷ G)

  pub pats_onto : (Typ → Known) → PatFields → Knowns → Knowns
  pats_onto f no_pats G = G
  pats_onto f (a_pat l a p ps) G = pats_onto f ps (pat_onto f p a G)

-- those of functions
abbrev pub each_onto : List ℕ → Known → Knowns → Knowns
each_onto [] k G = G
each_onto (x ∷ xs) k G = (x, k) ∷ each_onto xs k G

abbrev pub funs_onto : (Typ → Known) → Funs → Knowns → Knowns
funs_onto f no_funs G = G
funs_onto f (a_fun xs t g fs) G = each_onto xs (f t) (funs_onto f fs G)

-- the parameters of a binding
abbrev pub parameters_if : Bool → List Quantified → List Quantified
parameters_if true qs = qs
parameters_if false qs = []

-- those of bindings
abbrev pub binds_onto : List Quantified → Binds → Knowns → Knowns
binds_onto qs no_binds G = G
binds_onto qs (a_bind place b p t e bs) G = binds_onto qs bs (pat_onto (declared (parameters_if b qs)) p t G)

-- an exception's argument; those of the initial basis have none
pub data ExcChecked (G : Knowns) : Exc → Option Typ → Type 0 where
  fixed_checked : {n : ℕ} → nat_lt n 7 ≡ true → ExcChecked G (fixed n) None
  held_checked : {x : ℕ} {a : Option Typ} → at G x ≡ Some (exception a) → ExcChecked G (held x) a

module _ (table : List Constructor) where
  mutual
    -- parameters in scope, what is known, the pattern, and the type of what it is matched with
    pub data PatChecked (D : List Quantified) (G : Knowns) : Pat → Typ → Type 0 where
      any_checked : {t : Typ} → PatChecked D G any_pat t
      variable_checked : {x : ℕ} {t : Typ} → PatChecked D G (variable_pat x) t
      constant_checked : {l : Literal} {t : Typ} → HasLiteral l t → PatChecked D G (constant_pat l) t
      con_checked : {c : ℕ} {t : Typ} → HasConstructor table c t None → PatChecked D G (con_pat c) t
      con_of_checked : {c : ℕ} {a t : Typ} {p : Pat} → HasConstructor table c t (Some a) → over D a ≡ true → PatChecked D G p a
          → PatChecked D G (con_of_pat c a p) t
      ref_of_checked : {a t : Typ} {p : Pat} → t ≡ ref_type a → over D a ≡ true → PatChecked D G p a → PatChecked D G (ref_of_pat a p) t
      exn_checked : {x : Exc} {t : Typ} → ExcChecked G x None → t ≡ exn_type → PatChecked D G (exn_pat x) t
      exn_of_checked : {x : Exc} {a t : Typ} {p : Pat} → ExcChecked G x (Some a) → t ≡ exn_type → over D a ≡ true → PatChecked D G p a
          → PatChecked D G (exn_of_pat x a p) t
      fields_checked : {further : Bool} {ps : PatFields} {t : Typ} (r : List (Label × Typ)) → t ≡ row_type r → PatsChecked D G ps r
          → is_size (size_of further ps) (length r) ≡ true → PatChecked D G (fields_pat further ps) t
      as_checked : {x : ℕ} {p : Pat} {t : Typ} → PatChecked D G p t → PatChecked D G (as_pat x p) t

    pub data PatsChecked (D : List Quantified) (G : Knowns) : PatFields → List (Label × Typ) → Type 0 where
      no_pats_checked : {r : List (Label × Typ)} → PatsChecked D G no_pats r
      a_pat_checked : {l : Label} {a : Typ} {p : Pat} {ps : PatFields} {r : List (Label × Typ)} → lookup (same_label l) r ≡ Some a → over D a ≡ true
          → PatChecked D G p a → PatsChecked D G ps r → PatsChecked D G (a_pat l a p ps) r

  mutual
    pub data Checked : List Quantified → Knowns → Exp → Typ → Type 0 where
      c_constant : {D : List Quantified} {G : Knowns} {l : Literal} {t : Typ} → HasLiteral l t → Checked D G (constant_exp l t) t
      -- a variable at types for its parameters, such as their marks ask for
      c_variable : {D qs : List Quantified} {G : Knowns} {x : ℕ} {ts : List Typ} {b t : Typ} → at G x ≡ Some (general qs var b)
          → AreAllowed (admits_in D) qs ts → all_over D (typs_of ts) ≡ true
          → t ≡ replace (changed qs ts var) b → Checked D G (variable_exp x ts t) t
      c_variable_one : {D : List Quantified} {G : Knowns} {x : ℕ} {t : Typ} → at G x ≡ Some (of_type t) → Checked D G (variable_exp x [] t) t
      c_own : {D : List Quantified} {G : Knowns} {x : ℕ} {t : Typ} → at G x ≡ Some (own t) → Checked D G (own_exp x t) t
      c_con : {D : List Quantified} {G : Knowns} {c : ℕ} {y : TyName} {ts : List Typ} {t : Typ} (k : Constructor) → find table y c ≡ Some k → k.datatype ≡ y
          → all_over D (typs_of ts) ≡ true
          → t ≡ alone_type (argument_at ts k.argument) (con (name y) (typs_of ts)) → Checked D G (con_exp c y ts t) t
      c_ref : {D : List Quantified} {G : Knowns} {a t : Typ} → over D a ≡ true → t ≡ function_type a (ref_type a) → Checked D G (ref_exp a t) t
      c_exn : {D : List Quantified} {G : Knowns} {x : Exc} {a : Option Typ} {t : Typ} → ExcChecked G x a → t ≡ value_type a → Checked D G (exn_exp x t) t
      -- a primitive at the type that its parameter stands for; one without a parameter at any
      c_prim : {D : List Quantified} {G : Knowns} {p : BasisPrimitive} {u t : Typ} → over D u ≡ true → Allows (prim_type p).mark (admits_in D) u
          → t ≡ function_type (tuple_type (arguments_at p u)) (result_at p u) → Checked D G (prim_exp p (u ∷ []) t) t
      c_fields : {D : List Quantified} {G : Knowns} {fs : Fields} {r : List (Label × Typ)} {t : Typ} → FieldsChecked D G fs r → t ≡ row_type (sorted r)
          → ascend (labels_in (sorted r)) ≡ true → Checked D G (fields_exp t fs) t
      c_let : {D : List Quantified} {G : Knowns} (G' : Knowns) {ds : Decs} {e : Exp} {t : Typ} → DecsChecked D G ds G' → Checked D G' e t
          → Checked D G (let_exp t ds e) t
      c_app : {D : List Quantified} {G : Knowns} {place : Place} {f a : Exp} {u v t : Typ} → Checked D G f u → Checked D G a v → u ≡ function_type v t
          → Checked D G (app_exp place t f a) t
      c_case : {D : List Quantified} {G : Knowns} {place : Place} {e : Exp} {rs : Rules} {u t : Typ} → Checked D G e u → over D u ≡ true
          → RulesChecked D G rs u t → Checked D G (case_exp place t e rs) t
      c_chain : {D : List Quantified} {G : Knowns} {b : Bool} {c : Chain} {t : Typ} → ChainChecked D G c → t ≡ of_name bool_name
          → Checked D G (chain_exp b t c) t
      c_handle : {D : List Quantified} {G : Knowns} {e : Exp} {rs : Rules} {t : Typ} → Checked D G e t → RulesChecked D G rs exn_type t
          → Checked D G (handle_exp t e rs) t
      c_raise : {D : List Quantified} {G : Knowns} {e : Exp} {u t : Typ} → Checked D G e u → u ≡ exn_type → Checked D G (raise_exp t e) t
      c_fn : {D : List Quantified} {G : Knowns} {f : Fun} {t : Typ} → FunChecked D G f t → Checked D G (fn_exp t f) t
      c_counted : {D : List Quantified} {G : Knowns} {n : ℕ} {e : Exp} {t : Typ} → Checked D G e t → Checked D G (counted_exp n t e) t

    -- fields and their types, as they are written
    pub data FieldsChecked : List Quantified → Knowns → Fields → List (Label × Typ) → Type 0 where
      c_no_fields : {D : List Quantified} {G : Knowns} → FieldsChecked D G no_fields []
      c_field : {D : List Quantified} {G : Knowns} {l : Label} {e : Exp} {fs : Fields} {t : Typ} {r : List (Label × Typ)} → Checked D G e t
          → FieldsChecked D G fs r → FieldsChecked D G (a_field l e fs) ((l, t) ∷ r)

    pub data ChainChecked : List Quantified → Knowns → Chain → Type 0 where
      c_only : {D : List Quantified} {G : Knowns} {e : Exp} {t : Typ} → Checked D G e t → t ≡ of_name bool_name → ChainChecked D G (only e)
      c_link : {D : List Quantified} {G : Knowns} {e : Exp} {c : Chain} {t : Typ} → Checked D G e t → t ≡ of_name bool_name → ChainChecked D G c
          → ChainChecked D G (link e c)

    -- rules for values of the first type
    pub data RulesChecked : List Quantified → Knowns → Rules → Typ → Typ → Type 0 where
      c_no_rules : {D : List Quantified} {G : Knowns} {u t : Typ} → RulesChecked D G no_rules u t
      c_rule : {D : List Quantified} {G : Knowns} {p : Pat} {e : Exp} {rs : Rules} {u t : Typ} → PatChecked D G p u → Checked D (pat_onto of_type p u G) e t
          → RulesChecked D G rs u t → RulesChecked D G (a_rule p e rs) u t

    pub data FunChecked : List Quantified → Knowns → Fun → Typ → Type 0 where
      c_last : {D : List Quantified} {G : Knowns} {x : ℕ} {a u t : Typ} {e : Exp} → over D a ≡ true → Checked D ((x, of_type a) ∷ G) e u
          → t ≡ function_type a u → FunChecked D G (last x a e) t
      c_by_rules : {D : List Quantified} {G : Knowns} {place : Place} {a u t : Typ} {rs : Rules} → over D a ≡ true → RulesChecked D G rs a u
          → t ≡ function_type a u → FunChecked D G (by_rules place a u rs) t
      c_more : {D : List Quantified} {G : Knowns} {x : ℕ} {a u t : Typ} {f : Fun} → over D a ≡ true → FunChecked D ((x, of_type a) ∷ G) f u
          → t ≡ function_type a u → FunChecked D G (more x a f) t

    -- the last is what is known after the declarations
    pub data DecsChecked : List Quantified → Knowns → Decs → Knowns → Type 0 where
      c_no_decs : {D : List Quantified} {G : Knowns} → DecsChecked D G no_decs G
      -- the parameters are new, and stand for themselves
      c_val : {D qs : List Quantified} {G G' : Knowns} {bs : Binds} {fs : Funs} {ds : Decs} → are_new qs D ≡ true → BindsChecked qs D G bs
          → FunsChecked (qs ++ D) (funs_onto own fs G) fs
          → DecsChecked D (binds_onto qs bs (funs_onto (declared qs) fs G)) ds G' → DecsChecked D G (val_dec qs bs fs ds) G'
      c_exception : {D : List Quantified} {G G' : Knowns} {x identifier : ℕ} {a : Typ} {ds : Decs} → over D a ≡ true
          → DecsChecked D ((x, exception (Some a)) ∷ G) ds G' → DecsChecked D G (exception_dec x identifier (Some a) ds) G'
      c_exception_alone : {D : List Quantified} {G G' : Knowns} {x identifier : ℕ} {ds : Decs} → DecsChecked D ((x, exception None) ∷ G) ds G'
          → DecsChecked D G (exception_dec x identifier None ds) G'
      c_counted_dec : {D : List Quantified} {G G' : Knowns} {n : ℕ} {ds : Decs} → DecsChecked D G ds G' → DecsChecked D G (counted_dec n ds) G'

    -- a binding that is generalised is one of a value; another one has a type without the parameters
    pub data BindsChecked : List Quantified → List Quantified → Knowns → Binds → Type 0 where
      c_no_binds : {qs D : List Quantified} {G : Knowns} → BindsChecked qs D G no_binds
      c_general : {qs D : List Quantified} {G : Knowns} {place : Place} {p : Pat} {t : Typ} {e : Exp} {bs : Binds} → is_value e ≡ true
          → over (qs ++ D) t ≡ true → PatChecked (qs ++ D) G p t → Checked (qs ++ D) G e t
          → BindsChecked qs D G bs → BindsChecked qs D G (a_bind place true p t e bs)
      c_plain : {qs D : List Quantified} {G : Knowns} {place : Place} {p : Pat} {t : Typ} {e : Exp} {bs : Binds} → over D t ≡ true → PatChecked D G p t
          → Checked (qs ++ D) G e t
          → BindsChecked qs D G bs → BindsChecked qs D G (a_bind place false p t e bs)

    pub data FunsChecked : List Quantified → Knowns → Funs → Type 0 where
      c_no_funs : {D : List Quantified} {G : Knowns} → FunsChecked D G no_funs
      c_fun : {D : List Quantified} {G : Knowns} {xs : List ℕ} {t : Typ} {f : Fun} {fs : Funs} → over D t ≡ true → FunChecked D G f t → FunsChecked D G fs
          → FunsChecked D G (a_fun xs t f fs)
