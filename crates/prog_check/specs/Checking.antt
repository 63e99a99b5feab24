-- Which programs with source matches are well typed, as a function: each expression is asked whether it has the type that it has written.
use Rattle.std.specs.Prelude.{Bool, true, false, ◌&&◌, List, [], ◌∷◌, ◌++◌, length, Option, Some, None}
use Rattle.std.specs.Map.{lookup}
use Rattle.mlc_names.specs.declared.label.Label.{Label}
use Rattle.ty_core.specs.Types.{Typ}
use Rattle.ty_core.specs.declared.scheme.Quantified.{Quantified}
use Rattle.ir_poly.specs.of_ir_values.Values.{same_label}
use Rattle.ir_poly.specs.Prog.{Pat, any_pat, variable_pat, constant_pat, con_pat, con_of_pat, ref_of_pat, exn_pat, exn_of_pat, fields_pat, as_pat, PatFields, no_pats, a_pat, Exp, constant_exp, variable_exp, own_exp, con_exp, ref_exp, exn_exp, prim_exp, fields_exp, let_exp, app_exp, case_exp, chain_exp, handle_exp, raise_exp, fn_exp, counted_exp, Fields, no_fields, a_field, Chain, only, link, Rules, no_rules, a_rule, Fun, last, by_rules, more, Decs, no_decs, val_dec, exception_dec, counted_dec, Binds, no_binds, a_bind, Funs, no_funs, a_fun, type_of, is_value}
use Rattle.ir_poly.specs.ProgMeaning.{size_of}
use Rattle.ir_poly.specs.ProgChecked.{pat_onto, funs_onto, binds_onto}
use Rattle.ir_poly.specs.Types.{of_name, bool_name, function_type, ref_type, row_type, labels_in, ascend, sorted, over, are_new, Constructor, find}
use Rattle.ir_poly.specs.TestsChecked.{of_type, own, exception, Knowns, at, exn_type, declared, is_size}
use Rattle.prog_check.specs.Same.{same_type, same_option}
use Rattle.prog_check.specs.Deciding.{is_literal, row_in, on_row, argument_of, takes, exc_argument, is_use, is_own, is_con, is_exception, is_prim}

-- what is known after declarations
abbrev pub decs_onto : Decs → Knowns → Knowns
decs_onto no_decs G = G
decs_onto (val_dec qs bs fs ds) G = decs_onto ds (binds_onto qs bs (funs_onto (declared qs) fs G))
decs_onto (exception_dec x identifier a ds) G = decs_onto ds ((x, exception a) ∷ G)
decs_onto (counted_dec n ds) G = decs_onto ds G

-- the labels and types of a record's fields, as they are written
abbrev pub row_of : Fields → List (Label × Typ)
row_of no_fields = []
row_of (a_field l e fs) = (l, type_of e) ∷ row_of fs

-- the type of a function
abbrev pub fun_type : Fun → Typ
fun_type (last x a e) = function_type a (type_of e)
fun_type (by_rules place a u rs) = function_type a u
fun_type (more x a f) = function_type a (fun_type f)

abbrev pub option_over : List Quantified → Option Typ → Bool
option_over D None = true
option_over D (Some a) = over D a

module _ (table : List Constructor) where
  abbrev mutual
    pub check_pat : List Quantified → Knowns → Pat → Typ → Bool
    check_pat D G any_pat t = true
    check_pat D G (variable_pat x) t = true
    check_pat D G (constant_pat l) t = is_literal l t
    check_pat D G (con_pat c) t = takes None (argument_of table c t)
    check_pat D G (con_of_pat c a p) t = takes (Some a) (argument_of table c t) && (over D a && check_pat D G p a)
    check_pat D G (ref_of_pat a p) t = same_type t (ref_type a) && (over D a && check_pat D G p a)
    check_pat D G (exn_pat x) t = takes None (exc_argument G x) && same_type t exn_type
    check_pat D G (exn_of_pat x a p) t = takes (Some a) (exc_argument G x) && (same_type t exn_type && (over D a && check_pat D G p a))
    check_pat D G (fields_pat further ps) t = on_row (row_in t) (λ r. check_pats D G ps r && is_size (size_of further ps) (length r))
    check_pat D G (as_pat x p) t = check_pat D G p t

    pub check_pats : List Quantified → Knowns → PatFields → List (Label × Typ) → Bool
    check_pats D G no_pats r = true
    check_pats D G (a_pat l a p ps) r = same_option (lookup (same_label l) r) (Some a) && (over D a && (check_pat D G p a && check_pats D G ps r))

  abbrev mutual
    pub check_exp : List Quantified → Knowns → Exp → Bool
    check_exp D G (constant_exp l t) = is_literal l t
    check_exp D G (variable_exp x ts t) = is_use D ts t (at G x)
    check_exp D G (own_exp x t) = is_own t (at G x)
    check_exp D G (con_exp c y ts t) = is_con D y ts t (find table y c)
    check_exp D G (ref_exp a t) = over D a && same_type t (function_type a (ref_type a))
    check_exp D G (exn_exp x t) = is_exception t (exc_argument G x)
    check_exp D G (prim_exp p ts t) = is_prim D p ts t
    check_exp D G (fields_exp t fs) =
        check_fields D G fs && (ascend (labels_in (sorted (row_of fs))) && same_type t (row_type (sorted (row_of fs))))
    check_exp D G (let_exp t ds e) = check_decs D G ds && (check_exp D (decs_onto ds G) e && same_type (type_of e) t)
    check_exp D G (app_exp place t f a) = check_exp D G f && (check_exp D G a && same_type (type_of f) (function_type (type_of a) t))
    check_exp D G (case_exp place t e rs) = check_exp D G e && (over D (type_of e) && check_rules D G rs (type_of e) t)
    check_exp D G (chain_exp b t c) = check_chain D G c && same_type t (of_name bool_name)
    check_exp D G (handle_exp t e rs) = check_exp D G e && (same_type (type_of e) t && check_rules D G rs exn_type t)
    check_exp D G (raise_exp t e) = check_exp D G e && same_type (type_of e) exn_type
    check_exp D G (fn_exp t f) = check_fun D G f && same_type t (fun_type f)
    check_exp D G (counted_exp n t e) = check_exp D G e && same_type (type_of e) t

    pub check_fields : List Quantified → Knowns → Fields → Bool
    check_fields D G no_fields = true
    check_fields D G (a_field l e fs) = check_exp D G e && check_fields D G fs

    pub check_chain : List Quantified → Knowns → Chain → Bool
    check_chain D G (only e) = check_exp D G e && same_type (type_of e) (of_name bool_name)
    check_chain D G (link e c) = check_exp D G e && (same_type (type_of e) (of_name bool_name) && check_chain D G c)

    -- rules for values of the first type, that give the second
    pub check_rules : List Quantified → Knowns → Rules → Typ → Typ → Bool
    check_rules D G no_rules u t = true
    check_rules D G (a_rule p e rs) u t =
        check_pat D G p u && (check_exp D (pat_onto of_type p u G) e && (same_type (type_of e) t && check_rules D G rs u t))

    pub check_fun : List Quantified → Knowns → Fun → Bool
    check_fun D G (last x a e) = over D a && check_exp D ((x, of_type a) ∷ G) e
    check_fun D G (by_rules place a u rs) = over D a && check_rules D G rs a u
    check_fun D G (more x a f) = over D a && check_fun D ((x, of_type a) ∷ G) f

    pub check_decs : List Quantified → Knowns → Decs → Bool
    check_decs D G no_decs = true
    check_decs D G (val_dec qs bs fs ds) =
        are_new qs D && (check_binds qs D G bs && (check_funs (qs ++ D) (funs_onto own fs G) fs
        && check_decs D (binds_onto qs bs (funs_onto (declared qs) fs G)) ds))
    check_decs D G (exception_dec x identifier a ds) = option_over D a && check_decs D ((x, exception a) ∷ G) ds
    check_decs D G (counted_dec n ds) = check_decs D G ds

    pub check_binds : List Quantified → List Quantified → Knowns → Binds → Bool
    check_binds qs D G no_binds = true
    check_binds qs D G (a_bind place true p t e bs) =
        is_value e && (over (qs ++ D) t && (check_pat (qs ++ D) G p t && (check_exp (qs ++ D) G e && (same_type (type_of e) t && check_binds qs D G bs))))
    check_binds qs D G (a_bind place false p t e bs) =
        over D t && (check_pat D G p t && (check_exp (qs ++ D) G e && (same_type (type_of e) t && check_binds qs D G bs)))

    pub check_funs : List Quantified → Knowns → Funs → Bool
    check_funs D G no_funs = true
    check_funs D G (a_fun xs t f fs) = over D t && (check_fun D G f && (same_type t (fun_type f) && check_funs D G fs))
