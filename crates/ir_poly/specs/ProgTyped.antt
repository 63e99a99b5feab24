-- Which programs with source matches are well typed where parameters stand for types: s says for which. What is generalised is typed whatever types, allowed
-- by their marks, its parameters stand for. An expression has the type that it has written, read at s. This follows from what a checker decides.
use Rattle.std.specs.Prelude.{◌≡◌, ℕ, Bool, true, false, List, [], ◌∷◌, map, length, Option, Some, None}
use Rattle.std.specs.Map.{lookup}
use Rattle.ir_plain.specs.of_mlc_names.declared.label.Label.{Label}
use Rattle.mlc_base.specs.declared.place.Place.{Place}
use Rattle.ir_plain.specs.of_mlc_prims.LitOf.{Literal}
use Rattle.ir_plain.specs.of_mlc_prims.declared.basis.BasisPrimitive.{BasisPrimitive}
use Rattle.ty_basis.specs.of_ty_core.Types.{Typ, name, con, typs_of, no_variable}
use Rattle.ty_basis.specs.of_ty_core.Marks.{Allows}
use Rattle.ty_basis.specs.of_ty_core.Statics.{replace}
use Rattle.ty_basis.specs.of_ty_core.declared.name.TyName.{TyName}
use Rattle.ty_basis.specs.of_ty_core.declared.scheme.Quantified.{Quantified}
use Rattle.ir_plain.specs.of_ir_values.Values.{same_label}
use Rattle.ir_poly.specs.Prog.{Exc, Pat, any_pat, variable_pat, constant_pat, con_pat, con_of_pat, ref_of_pat, exn_pat, exn_of_pat, fields_pat, as_pat, PatFields, no_pats, a_pat, Exp, constant_exp, variable_exp, own_exp, con_exp, ref_exp, exn_exp, prim_exp, fields_exp, let_exp, app_exp, case_exp, chain_exp, handle_exp, raise_exp, fn_exp, counted_exp, Fields, no_fields, a_field, Chain, only, link, Rules, no_rules, a_rule, Fun, last, by_rules, more, Decs, no_decs, val_dec, exception_dec, counted_dec, Binds, no_binds, a_bind, Funs, no_funs, a_fun, is_value}
use Rattle.ir_poly.specs.ProgMeaning.{size_of}
use Rattle.ir_poly.specs.ProgChecked.{pat_onto, funs_onto, parameters_if, ExcChecked}
use Rattle.ir_poly.specs.Types.{of_name, bool_name, function_type, ref_type, row_type, labels_in, ascend, sorted, changed, AreAllowed, Constructor, find, argument_at, prim_type, arguments_at, result_at, tuple_type}
use Rattle.ir_poly.specs.TestsChecked.{Known, of_type, general, own, exception, Knowns, at, exn_type, HasLiteral, value_type, alone_type, bound, is_size, HasConstructor}
use Rattle.ir_poly.specs.TestsTyped.{option_read, own_at}

-- a variable of one type
abbrev pub type_at : (ℕ → Typ) → Typ → Known
type_at s t = of_type (replace s t)

-- the variables of bindings
abbrev pub binds_at : (ℕ → Typ) → List Quantified → Binds → Knowns → Knowns
binds_at s qs no_binds G = G
binds_at s qs (a_bind place b p t e bs) G = binds_at s qs bs (pat_onto (bound (parameters_if b qs) s) p t G)

module _ (table : List Constructor) where
  mutual
    -- the pattern, and the type of what it is matched with
    pub data PatTyped (s : ℕ → Typ) (G : Knowns) : Pat → Typ → Type 0 where
      any_typed : {t : Typ} → PatTyped s G any_pat t
      variable_typed : {x : ℕ} {t : Typ} → PatTyped s G (variable_pat x) t
      constant_typed : {l : Literal} {t : Typ} → HasLiteral l t → PatTyped s G (constant_pat l) t
      con_typed : {c : ℕ} {t : Typ} → HasConstructor table c t None → PatTyped s G (con_pat c) t
      con_of_typed : {c : ℕ} {a t : Typ} {p : Pat} → HasConstructor table c t (Some (replace s a)) → PatTyped s G p (replace s a)
          → PatTyped s G (con_of_pat c a p) t
      ref_of_typed : {a t : Typ} {p : Pat} → t ≡ ref_type (replace s a) → PatTyped s G p (replace s a) → PatTyped s G (ref_of_pat a p) t
      exn_typed : {x : Exc} {t : Typ} → ExcChecked G x None → t ≡ exn_type → PatTyped s G (exn_pat x) t
      exn_of_typed : {x : Exc} {a t : Typ} {p : Pat} → ExcChecked G x (Some (replace s a)) → t ≡ exn_type → PatTyped s G p (replace s a)
          → PatTyped s G (exn_of_pat x a p) t
      fields_typed : {further : Bool} {ps : PatFields} {t : Typ} (r : List (Label × Typ)) → t ≡ row_type r → PatsTyped s G ps r
          → is_size (size_of further ps) (length r) ≡ true → PatTyped s G (fields_pat further ps) t
      as_typed : {x : ℕ} {p : Pat} {t : Typ} → PatTyped s G p t → PatTyped s G (as_pat x p) t

    pub data PatsTyped (s : ℕ → Typ) (G : Knowns) : PatFields → List (Label × Typ) → Type 0 where
      no_pats_typed : {r : List (Label × Typ)} → PatsTyped s G no_pats r
      a_pat_typed : {l : Label} {a : Typ} {p : Pat} {ps : PatFields} {r : List (Label × Typ)} → lookup (same_label l) r ≡ Some (replace s a)
          → PatTyped s G p (replace s a) → PatsTyped s G ps r → PatsTyped s G (a_pat l a p ps) r

  mutual
    -- u is the type, t the one that is written
    pub data Typed : (ℕ → Typ) → Knowns → Exp → Typ → Type 0 where
      t_constant : {s : ℕ → Typ} {G : Knowns} {l : Literal} {t u : Typ} → HasLiteral l u → u ≡ replace s t → Typed s G (constant_exp l t) u
      t_variable : {s s' : ℕ → Typ} {qs : List Quantified} {G : Knowns} {x : ℕ} {ts : List Typ} {b t u : Typ} → at G x ≡ Some (general qs s' b)
          → AreAllowed no_variable qs (map (replace s) ts)
          → u ≡ replace (changed qs (map (replace s) ts) s') b → u ≡ replace s t → Typed s G (variable_exp x ts t) u
      t_variable_one : {s : ℕ → Typ} {G : Knowns} {x : ℕ} {t u : Typ} → at G x ≡ Some (of_type u) → u ≡ replace s t → Typed s G (variable_exp x [] t) u
      t_own : {s : ℕ → Typ} {G : Knowns} {x : ℕ} {t u : Typ} → at G x ≡ Some (own u) → u ≡ replace s t → Typed s G (own_exp x t) u
      t_con : {s : ℕ → Typ} {G : Knowns} {c : ℕ} {y : TyName} {ts : List Typ} {t u : Typ} (k : Constructor) → find table y c ≡ Some k → k.datatype ≡ y
          → u ≡ alone_type (argument_at (map (replace s) ts) k.argument) (con (name y) (typs_of (map (replace s) ts)))
          → u ≡ replace s t → Typed s G (con_exp c y ts t) u
      t_ref : {s : ℕ → Typ} {G : Knowns} {a t u : Typ} → u ≡ function_type (replace s a) (ref_type (replace s a)) → u ≡ replace s t
          → Typed s G (ref_exp a t) u
      t_exn : {s : ℕ → Typ} {G : Knowns} {x : Exc} {a : Option Typ} {t u : Typ} → ExcChecked G x a → u ≡ value_type a → u ≡ replace s t
          → Typed s G (exn_exp x t) u
      t_prim : {s : ℕ → Typ} {G : Knowns} {p : BasisPrimitive} {b t u : Typ} → Allows (prim_type p).mark no_variable (replace s b)
          → u ≡ function_type (tuple_type (arguments_at p (replace s b))) (result_at p (replace s b)) → u ≡ replace s t
          → Typed s G (prim_exp p (b ∷ []) t) u
      t_fields : {s : ℕ → Typ} {G : Knowns} {fs : Fields} {r : List (Label × Typ)} {t u : Typ} → FieldsTyped s G fs r → u ≡ row_type (sorted r)
          → ascend (labels_in (sorted r)) ≡ true → u ≡ replace s t
          → Typed s G (fields_exp t fs) u
      t_let : {s : ℕ → Typ} {G : Knowns} (G' : Knowns) {ds : Decs} {e : Exp} {t u : Typ} → DecsTyped s G ds G' → Typed s G' e u → u ≡ replace s t
          → Typed s G (let_exp t ds e) u
      t_app : {s : ℕ → Typ} {G : Knowns} {place : Place} {f a : Exp} {t u v w : Typ} → Typed s G f w → Typed s G a v → w ≡ function_type v u
          → u ≡ replace s t → Typed s G (app_exp place t f a) u
      t_case : {s : ℕ → Typ} {G : Knowns} {place : Place} {e : Exp} {rs : Rules} {a t u : Typ} → Typed s G e (replace s a) → RulesTyped s G rs a u
          → u ≡ replace s t → Typed s G (case_exp place t e rs) u
      t_chain : {s : ℕ → Typ} {G : Knowns} {b : Bool} {c : Chain} {t u : Typ} → ChainTyped s G c → u ≡ of_name bool_name → u ≡ replace s t
          → Typed s G (chain_exp b t c) u
      t_handle : {s : ℕ → Typ} {G : Knowns} {e : Exp} {rs : Rules} {t u : Typ} → Typed s G e u → RulesTyped s G rs exn_type u → u ≡ replace s t
          → Typed s G (handle_exp t e rs) u
      t_raise : {s : ℕ → Typ} {G : Knowns} {e : Exp} {t u v : Typ} → Typed s G e v → v ≡ exn_type → u ≡ replace s t → Typed s G (raise_exp t e) u
      t_fn : {s : ℕ → Typ} {G : Knowns} {f : Fun} {t u : Typ} → FunTyped s G f u → u ≡ replace s t → Typed s G (fn_exp t f) u
      t_counted : {s : ℕ → Typ} {G : Knowns} {n : ℕ} {e : Exp} {t u : Typ} → Typed s G e u → u ≡ replace s t → Typed s G (counted_exp n t e) u

    pub data FieldsTyped : (ℕ → Typ) → Knowns → Fields → List (Label × Typ) → Type 0 where
      t_no_fields : {s : ℕ → Typ} {G : Knowns} → FieldsTyped s G no_fields []
      t_field : {s : ℕ → Typ} {G : Knowns} {l : Label} {e : Exp} {fs : Fields} {u : Typ} {r : List (Label × Typ)} → Typed s G e u → FieldsTyped s G fs r
          → FieldsTyped s G (a_field l e fs) ((l, u) ∷ r)

    pub data ChainTyped : (ℕ → Typ) → Knowns → Chain → Type 0 where
      t_only : {s : ℕ → Typ} {G : Knowns} {e : Exp} {u : Typ} → Typed s G e u → u ≡ of_name bool_name → ChainTyped s G (only e)
      t_link : {s : ℕ → Typ} {G : Knowns} {e : Exp} {c : Chain} {u : Typ} → Typed s G e u → u ≡ of_name bool_name → ChainTyped s G c
          → ChainTyped s G (link e c)

    -- rules for values of the first type, as it is written
    pub data RulesTyped : (ℕ → Typ) → Knowns → Rules → Typ → Typ → Type 0 where
      t_no_rules : {s : ℕ → Typ} {G : Knowns} {a u : Typ} → RulesTyped s G no_rules a u
      t_rule : {s : ℕ → Typ} {G : Knowns} {p : Pat} {e : Exp} {rs : Rules} {a u : Typ} → PatTyped s G p (replace s a)
          → Typed s (pat_onto (type_at s) p a G) e u → RulesTyped s G rs a u → RulesTyped s G (a_rule p e rs) a u

    pub data FunTyped : (ℕ → Typ) → Knowns → Fun → Typ → Type 0 where
      t_last : {s : ℕ → Typ} {G : Knowns} {x : ℕ} {a t u : Typ} {e : Exp} → Typed s ((x, type_at s a) ∷ G) e u → t ≡ function_type (replace s a) u
          → FunTyped s G (last x a e) t
      t_by_rules : {s : ℕ → Typ} {G : Knowns} {place : Place} {a b t u : Typ} {rs : Rules} → RulesTyped s G rs a u → u ≡ replace s b
          → t ≡ function_type (replace s a) u → FunTyped s G (by_rules place a b rs) t
      t_more : {s : ℕ → Typ} {G : Knowns} {x : ℕ} {a t u : Typ} {f : Fun} → FunTyped s ((x, type_at s a) ∷ G) f u → t ≡ function_type (replace s a) u
          → FunTyped s G (more x a f) t

    -- the last is what is known after the declarations
    pub data DecsTyped : (ℕ → Typ) → Knowns → Decs → Knowns → Type 0 where
      t_no_decs : {s : ℕ → Typ} {G : Knowns} → DecsTyped s G no_decs G
      t_val : {s : ℕ → Typ} {qs : List Quantified} {G G' : Knowns} {bs : Binds} {fs : Funs} {ds : Decs} → BindsTyped s qs G bs
          → ((ts : List Typ) → AreAllowed no_variable qs ts → FunsTyped (changed qs ts s) (funs_onto (own_at (changed qs ts s)) fs G) fs)
          → DecsTyped s (binds_at s qs bs (funs_onto (bound qs s) fs G)) ds G' → DecsTyped s G (val_dec qs bs fs ds) G'
      t_exception : {s : ℕ → Typ} {G G' : Knowns} {x identifier : ℕ} {a : Option Typ} {ds : Decs} → DecsTyped s ((x, exception (option_read s a)) ∷ G) ds G'
          → DecsTyped s G (exception_dec x identifier a ds) G'
      t_counted_dec : {s : ℕ → Typ} {G G' : Knowns} {n : ℕ} {ds : Decs} → DecsTyped s G ds G' → DecsTyped s G (counted_dec n ds) G'

    -- a binding that is generalised is one of a value; inside another one too the parameters may stand for any types that their marks allow
    pub data BindsTyped : (ℕ → Typ) → List Quantified → Knowns → Binds → Type 0 where
      t_no_binds : {s : ℕ → Typ} {qs : List Quantified} {G : Knowns} → BindsTyped s qs G no_binds
      t_general : {s : ℕ → Typ} {qs : List Quantified} {G : Knowns} {place : Place} {p : Pat} {t : Typ} {e : Exp} {bs : Binds} → is_value e ≡ true
          → ((ts : List Typ) → AreAllowed no_variable qs ts → PatTyped (changed qs ts s) G p (replace (changed qs ts s) t))
          → ((ts : List Typ) → AreAllowed no_variable qs ts → Typed (changed qs ts s) G e (replace (changed qs ts s) t))
          → BindsTyped s qs G bs → BindsTyped s qs G (a_bind place true p t e bs)
      t_plain : {s : ℕ → Typ} {qs : List Quantified} {G : Knowns} {place : Place} {p : Pat} {t : Typ} {e : Exp} {bs : Binds} → PatTyped s G p (replace s t)
          → ((ts : List Typ) → AreAllowed no_variable qs ts → Typed (changed qs ts s) G e (replace s t))
          → BindsTyped s qs G bs → BindsTyped s qs G (a_bind place false p t e bs)

    pub data FunsTyped : (ℕ → Typ) → Knowns → Funs → Type 0 where
      t_no_funs : {s : ℕ → Typ} {G : Knowns} → FunsTyped s G no_funs
      t_fun : {s : ℕ → Typ} {G : Knowns} {xs : List ℕ} {t : Typ} {f : Fun} {fs : Funs} → FunTyped s G f (replace s t) → FunsTyped s G fs
          → FunsTyped s G (a_fun xs t f fs)
