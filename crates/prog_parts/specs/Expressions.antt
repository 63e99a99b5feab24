-- What is asked of each part of an expression and of a declaration. D has the parameters in scope, G what is known of the variables.
use Rattle.std.specs.Prelude.{ℕ, Bool, true, false, ◌&&◌, List, [], ◌∷◌, ◌++◌, Option, Vec, if◌then◌else◌}
use Rattle.std.specs.Global.{Global}
use Rattle.std.specs.Option.{option_map}
use Rattle.mlc_names.specs.declared.label.Label.{Label}
use Rattle.mlc_names.specs.declared.label.Label.TheVariants.{Number}
use Rattle.ty_core.specs.Types.{Typ}
use Rattle.ty_core.specs.declared.scheme.Quantified.{Quantified}
use Rattle.ty_table.specs.TypeAt.{type_at}
use Rattle.ir_poly.specs.Prog.{type_of, is_value}
use Rattle.ir_poly.specs.Types.{of_name, bool_name, function_type, row_type, over, are_new}
use Rattle.ir_poly.specs.TestsChecked.{Knowns, of_type, own, exception, exn_type, declared}
use Rattle.ir_poly.specs.ProgChecked.{pat_onto, funs_onto, binds_onto}
use Rattle.ir_tables.specs.declared.tables.Tables.{Tables}
use Rattle.ir_tables.specs.Tables.{parameters_of, parameters_at}
use Rattle.prog_known.specs.Environments.{table_in}
use Rattle.prog_check.specs.Same.{same_type}
use Rattle.prog_check.specs.Checking.{check_pat, check_exp, check_binds, check_fun, check_funs, fun_type, option_over}
use Rattle.prog_tree.specs.Readings.{reading}
use Rattle.prog_tree.specs.TreeOf.{DecTree, val_tree, exception_tree, counted_tree, pat_of, tree_of, function_of, dec_of}
use Rattle.prog_tree.specs.declared.tree.Binding.{Binding}
use Rattle.prog_tree.specs.declared.tree.Dec.{Dec}
use Rattle.prog_tree.specs.declared.tree.Exp.{Exp}
use Rattle.prog_tree.specs.declared.tree.Function.{Function}
use Rattle.prog_tree.specs.declared.tree.Join.{Join}
use Rattle.prog_tree.specs.declared.tree.Parameter.{Parameter}
use Rattle.prog_tree.specs.declared.tree.Rule.{Rule}
use Rattle.prog_tree.specs.declared.tree.Side.{Side}
use Rattle.prog_tree.specs.declared.tree.Side.TheVariants as side

module _ (t : Tables) where
  abbrev pub type_in : Exp → Typ
  type_in e = type_of (tree_of (reading t) e)

  -- the type of the right operand of an operator: to the right, that of the operator after it
  abbrev pub right_type : Side → Join × Exp × Exp → List (Join × Exp × Exp) → Typ
  right_type side.Left j js = type_in j.2
  right_type side.Right j [] = type_in j.2
  right_type side.Right j (k ∷ js) = type_at t.types k.0.ty

  -- the type that the operator after it has for its left operand
  abbrev pub join_next : Side → Typ → Join × Exp × Exp → Typ
  join_next side.Left s j = type_at t.types j.0.ty
  join_next side.Right s j = type_in j.2

  abbrev pub argument_next : Typ → ℕ × Exp → Typ
  argument_next s a = type_at t.types a.0

  abbrev pub parameter_onto : Parameter → List Parameter → Knowns → Knowns
  parameter_onto x xs G = (x.variable, of_type (type_at t.types x.ty)) ∷ G

  module _ (D : List Quantified) (G : Knowns) where
    abbrev pub exp_holds : Exp → Bool
    exp_holds e = check_exp (table_in t) D G (tree_of (reading t) e)

    abbrev pub field_holds : Label × Exp → Bool
    field_holds f = exp_holds f.1

    -- an argument, of a function of this type
    abbrev pub argument_holds : Typ → ℕ × Exp → List (ℕ × Exp) → Bool
    argument_holds s a as_ = exp_holds a.1 && same_type s (function_type (type_in a.1) (type_at t.types a.0))

    -- an operator whose left operand has this type
    abbrev pub join_holds : Side → Typ → Join × Exp × Exp → List (Join × Exp × Exp) → Bool
    join_holds s u j js =
        (exp_holds j.1 && exp_holds j.2)
        && (same_type (type_at t.types j.0.pair) (row_type ((Number 1, u) ∷ (Number 2, right_type s j js) ∷ []))
        && same_type (type_in j.1) (function_type (type_at t.types j.0.pair) (type_at t.types j.0.ty)))

    -- an expression whose value is dropped
    abbrev pub dropped_holds : Exp → Bool
    dropped_holds e = exp_holds e && over D (type_in e)

    -- what a sequence gives
    abbrev pub last_holds : ℕ → List Exp → Exp → Bool
    last_holds a [] e = exp_holds e
    last_holds a (d ∷ es) e = exp_holds e && same_type (type_in e) (type_at t.types a)

    -- an operand of a chain of tests
    abbrev pub operand_holds : Exp → Bool
    operand_holds e = exp_holds e && same_type (type_in e) (of_name bool_name)

    -- a rule for values of the first type, that gives the second
    abbrev pub rule_holds : Typ → Typ → Rule → Bool
    rule_holds u w r =
        check_pat (table_in t) D G (pat_of (reading t) r.pat) u
        && (check_exp (table_in t) D (pat_onto of_type (pat_of (reading t) r.pat) u G) (tree_of (reading t) r.exp) && same_type (type_in r.exp) w)

    abbrev pub function_holds : Function → Bool
    function_holds f = check_fun (table_in t) D G (function_of (reading t) f)

    -- a function of a group, of its type
    abbrev pub member_holds : Vec ℕ Global × ℕ × Function → Bool
    member_holds f = over D (type_at t.types f.1) && (function_holds f.2 && same_type (type_at t.types f.1) (fun_type (function_of (reading t) f.2)))

    -- the pattern of a binding and its type
    abbrev pub bound_holds : Binding × Rule → Bool
    bound_holds b = over D (type_at t.types b.0.ty) && check_pat (table_in t) D G (pat_of (reading t) b.1.pat) (type_at t.types b.0.ty)

    -- what a binding binds
    abbrev pub body_holds : Binding × Rule → Bool
    body_holds b = exp_holds b.1.exp && same_type (type_in b.1.exp) (type_at t.types b.0.ty)

    -- what is asked of a binding before its parameters are in scope, and what inside
    abbrev pub plain_holds : Binding × Rule → Bool
    plain_holds b = if b.0.general then true else bound_holds b

    abbrev pub inner_holds : Binding × Rule → Bool
    inner_holds b = (if b.0.general then is_value (tree_of (reading t) b.1.exp) && bound_holds b else true) && body_holds b

    abbrev pub parameter_holds : Parameter → Bool
    parameter_holds x = over D (type_at t.types x.ty)

  module _ (D : List Quantified) where
    -- one declaration
    abbrev pub tree_holds : Knowns → DecTree → Bool
    tree_holds G (val_tree qs bs fs) = are_new qs D && (check_binds (table_in t) qs D G bs && check_funs (table_in t) (qs ++ D) (funs_onto own fs G) fs)
    tree_holds G (exception_tree x i a) = option_over D a
    tree_holds G (counted_tree n) = true

    abbrev pub dec_holds : Knowns → Dec → List Dec → Bool
    dec_holds G d ds = tree_holds G (dec_of (reading t) d)

  -- what is known after it
  abbrev pub tree_onto : DecTree → Knowns → Knowns
  tree_onto (val_tree qs bs fs) G = binds_onto qs bs (funs_onto (declared qs) fs G)
  tree_onto (exception_tree x i a) G = (x, exception a) ∷ G
  tree_onto (counted_tree n) G = G

  abbrev pub dec_onto : Knowns → Dec → Knowns
  dec_onto G d = tree_onto (dec_of (reading t) d) G

  abbrev pub dec_step : Dec → List Dec → Knowns → Knowns
  dec_step d ds G = dec_onto G d
