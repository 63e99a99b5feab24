-- What is right where this is in scope: the questions of `prog_parts`, asked of an environment. Types are numbers of the tables.
use Rattle.std.specs.Prelude.{ℕ, Bool, true, ◌&&◌, List, [], ◌∷◌, ◌++◌, map, Option, Vec, if◌then◌else◌}
use Rattle.std.specs.Global.{Global}
use Rattle.std.specs.Option.{option_map}
use Rattle.mlc_names.specs.declared.label.Label.{Label}
use Rattle.mlc_names.specs.declared.label.Label.TheVariants.{Number}
use Rattle.ty_core.specs.Types.{Typ}
use Rattle.ty_table.specs.TypeAt.{type_at}
use Rattle.ir_poly.specs.Prog.{is_value}
use Rattle.ir_poly.specs.ProgChecked.{funs_onto, binds_onto}
use Rattle.ir_poly.specs.Types.{of_name, bool_name, function_type, row_type, labels_in, ascend, sorted, over, are_new}
use Rattle.ir_poly.specs.TestsChecked.{Knowns, of_type, own, exception, exn_type, declared}
use Rattle.ir_tables.specs.declared.tables.Tables.{Tables}
use Rattle.ir_tables.specs.Tables.{parameters_of, parameters_at}
use Rattle.prog_known.specs.declared.environment.Environment.{Environment}
use Rattle.prog_known.specs.Environments.{table_in, parameters_in, variables_in}
use Rattle.prog_known.specs.Lists.{run, hold, all_hold}
use Rattle.prog_check.specs.Same.{same_type}
use Rattle.prog_check.specs.Checking.{check_exp, check_rules, fun_type, option_over}
use Rattle.prog_tree.specs.Readings.{reading}
use Rattle.prog_tree.specs.TreeOf.{atom_of, use_of, tree_of, function_of, rule_of, rules_of, binds_by, bind_of, funs_by, fun_of}
use Rattle.prog_tree.specs.declared.tree.Atom.{Atom}
use Rattle.prog_tree.specs.declared.tree.Used.{Used}
use Rattle.prog_tree.specs.declared.tree.Binding.{Binding}
use Rattle.prog_tree.specs.declared.tree.Dec.{Dec}
use Rattle.prog_tree.specs.declared.tree.Exp.{Exp}
use Rattle.prog_tree.specs.declared.tree.Function.{Function}
use Rattle.prog_tree.specs.declared.tree.Join.{Join}
use Rattle.prog_tree.specs.declared.tree.Parameter.{Parameter}
use Rattle.prog_tree.specs.declared.tree.Rule.{Rule}
use Rattle.prog_tree.specs.declared.tree.Side.{Side}
use Rattle.prog_pats.specs.of_prog_parts.Expressions as parts
use Rattle.prog_pats.specs.of_prog_parts.Expressions.{type_in, right_type, argument_next, join_next, parameter_onto, dec_onto, dec_step}
use Rattle.prog_pats.specs.Fits.{pat_fits}

-- What types are

-- the type that an expression has written is the one of this number
unfoldable pub has_type : Tables → Exp → ℕ → Bool
has_type t x a = same_type (type_in t x) (type_at t.types a)

unfoldable pub is_bool : Tables → ℕ → Bool
is_bool t a = same_type (type_at t.types a) (of_name bool_name)

-- an expression has written the type of truth values
unfoldable pub is_test : Tables → Exp → Bool
is_test t x = same_type (type_in t x) (of_name bool_name)

-- what has the first type can be applied to the argument
unfoldable pub applies : Tables → Typ → ℕ × Exp → Bool
applies t s a = same_type s (function_type (type_in t a.1) (type_at t.types a.0))

abbrev pub pair_is : Tables → ℕ → ℕ → ℕ → Bool
pair_is t a u w = same_type (type_at t.types a) (row_type ((Number 1, type_at t.types u) ∷ (Number 2, type_at t.types w) ∷ []))

abbrev pub operator_is : Tables → Exp → ℕ → ℕ → Bool
operator_is t x a b = same_type (type_in t x) (function_type (type_at t.types a) (type_at t.types b))

-- an operator can be applied to operands of these types
unfoldable pub joined : Tables → Typ → Typ → Join × Exp × Exp → Bool
joined t u w j =
    same_type (type_at t.types j.0.pair) (row_type ((Number 1, u) ∷ (Number 2, w) ∷ []))
    && same_type (type_in t j.1) (function_type (type_at t.types j.0.pair) (type_at t.types j.0.ty))

-- the type of a record: its labels ascend, and the type is that of these fields
unfoldable pub is_row : Tables → List (Label × Exp) → ℕ → Bool
is_row t fs a =
    let row = sorted (map (λ f. (f.0, type_in t f.1)) fs) in
    ascend (labels_in row) && same_type (type_at t.types a) (row_type row)

unfoldable pub is_function_type : Tables → Function → ℕ → Bool
is_function_type t f a = same_type (type_at t.types a) (fun_type (function_of (reading t) f))

-- a type is over the parameters in scope, and that of an expression
unfoldable pub is_known : Tables → Environment → ℕ → Bool
is_known t e a = over (parameters_in e) (type_at t.types a)

unfoldable pub has_known : Tables → Environment → Exp → Bool
has_known t e x = over (parameters_in e) (type_in t x)

-- Expressions

-- one without parts, and a use at types
abbrev pub atom_right : Tables → Environment → Atom → ℕ → Bool
atom_right t e c a = check_exp (table_in t) (parameters_in e) (variables_in t e) (atom_of (reading t) c (type_at t.types a))

abbrev pub use_right : Tables → Environment → Used → List ℕ → ℕ → Bool
use_right t e u ts a = check_exp (table_in t) (parameters_in e) (variables_in t e) (use_of (reading t) u ts (type_at t.types a))

unfoldable pub exp_right : Tables → Environment → Exp → Bool
exp_right t e = parts.exp_holds t (parameters_in e) (variables_in t e)

abbrev pub typed_right : Tables → Environment → Exp → ℕ → Bool
typed_right t e x a = exp_right t e x && has_type t x a

abbrev pub field_right : Tables → Environment → Label × Exp → Bool
field_right t e f = exp_right t e f.1

abbrev pub record_right : Tables → Environment → ℕ → List (Label × Exp) → Bool
record_right t e a fs = all_hold (field_right t e) fs && is_row t fs a

abbrev pub argument_right : Tables → Environment → Typ → ℕ × Exp → List (ℕ × Exp) → Bool
argument_right t e s a as_ = exp_right t e a.1 && applies t s a

abbrev pub apply_right : Tables → Environment → Exp → List (ℕ × Exp) → Bool
apply_right t e f as_ = exp_right t e f && hold (argument_right t e) (argument_next t) (type_in t f) as_

-- an operator, its right operand, and the types of both operands
abbrev pub joined_right : Tables → Environment → Typ → Typ → Join × Exp × Exp → Bool
joined_right t e u w j = (exp_right t e j.1 && exp_right t e j.2) && joined t u w j

abbrev pub join_right : Tables → Environment → Side → Typ → Join × Exp × Exp → List (Join × Exp × Exp) → Bool
join_right t e s u j js = joined_right t e u (right_type t s j js) j

abbrev pub infix_right : Tables → Environment → Side → Exp → List (Join × Exp × Exp) → Bool
infix_right t e s x js = exp_right t e x && hold (join_right t e s) (join_next t s) (type_in t x) js

-- a rule for values of the first type, that gives the second
unfoldable pub rule_right : Tables → Environment → ℕ → ℕ → Rule → Bool
rule_right t e u w = parts.rule_holds t (parameters_in e) (variables_in t e) (type_at t.types u) (type_at t.types w)

-- what is matched, or dropped: its type is over the parameters in scope
abbrev pub dropped_right : Tables → Environment → Exp → Bool
dropped_right t e x = exp_right t e x && has_known t e x

unfoldable pub case_right : Tables → Environment → ℕ → Exp → List Rule → Bool
case_right t e a x rs =
    dropped_right t e x && all_hold (parts.rule_holds t (parameters_in e) (variables_in t e) (type_in t x) (type_at t.types a)) rs

-- a handler's rules are for packets
unfoldable pub handle_right : Tables → Environment → ℕ → Exp → List Rule → Bool
handle_right t e a x rs =
    typed_right t e x a && all_hold (parts.rule_holds t (parameters_in e) (variables_in t e) exn_type (type_at t.types a)) rs

unfoldable pub raise_right : Tables → Environment → Exp → Bool
raise_right t e x = exp_right t e x && same_type (type_in t x) exn_type

-- the last expression of a sequence: the sequence's type is written where there are others
unfoldable pub is_last : Tables → List Exp → Exp → ℕ → Bool
is_last t [] x a = true
is_last t (d ∷ es) x a = same_type (type_in t x) (type_at t.types a)

abbrev pub sequence_right : Tables → Environment → ℕ → List Exp → Exp → Bool
sequence_right t e a es x = all_hold (dropped_right t e) es && (exp_right t e x && is_last t es x a)

abbrev pub operand_right : Tables → Environment → Exp → Bool
operand_right t e x = exp_right t e x && is_test t x

abbrev pub test_right : Tables → Environment → ℕ → List Exp → Exp → Bool
test_right t e a es x = (all_hold (operand_right t e) es && operand_right t e x) && is_bool t a

-- Functions

unfoldable pub function_right : Tables → Environment → Function → Bool
function_right t e = parts.function_holds t (parameters_in e) (variables_in t e)

abbrev pub fn_right : Tables → Environment → ℕ → Function → Bool
fn_right t e a f = function_right t e f && is_function_type t f a

abbrev pub parameter_right : Tables → Environment → Parameter → Bool
parameter_right t e x = is_known t e x.ty

-- what is known with parameters in scope
abbrev pub with_parameters : Tables → Environment → List Parameter → Knowns
with_parameters t e xs = run (parameter_onto t) xs (variables_in t e)

-- a function of these parameters, and the last one
unfoldable pub named_right : Tables → Environment → List Parameter → Parameter → Exp → Bool
named_right t e xs x b =
    all_hold (parameter_right t e) xs && (parameter_right t e x
    && check_exp (table_in t) (parameters_in e) ((x.variable, of_type (type_at t.types x.ty)) ∷ with_parameters t e xs) (tree_of (reading t) b))

-- one of these parameters, and rules for values of the first type, that give the second
unfoldable pub by_rules_right : Tables → Environment → List Parameter → ℕ → ℕ → List Rule → Bool
by_rules_right t e xs a u rs =
    all_hold (parameter_right t e) xs && (is_known t e a
    && check_rules (table_in t) (parameters_in e) (with_parameters t e xs) (rules_of (map (rule_of (reading t)) rs)) (type_at t.types a) (type_at t.types u))

-- Declarations

abbrev pub member_right : Tables → Environment → Vec ℕ Global × ℕ × Function → Bool
member_right t e f = is_known t e f.1 && (function_right t e f.2 && is_function_type t f.2 f.1)

-- functions that know each other
unfoldable pub group_right : Tables → Environment → List (Vec ℕ Global × ℕ × Function) → Bool
group_right t e fs =
    all_hold (parts.member_holds t (parameters_in e) (funs_onto own (funs_by (type_at t.types) (map (fun_of (reading t)) fs)) (variables_in t e))) fs

-- the pattern of a binding and its type
abbrev pub bound_right : Tables → Environment → Binding × Rule → Bool
bound_right t e b = is_known t e b.0.ty && pat_fits t e b.1.pat b.0.ty

-- what is asked of a binding before its parameters are in scope, and what inside
abbrev pub plain_right : Tables → Environment → Binding × Rule → Bool
plain_right t e b = if b.0.general then true else bound_right t e b

abbrev pub general_right : Tables → Environment → Binding × Rule → Bool
general_right t e b = if b.0.general then is_value (tree_of (reading t) b.1.exp) && bound_right t e b else true

abbrev pub inner_right : Tables → Environment → Binding × Rule → Bool
inner_right t e b = general_right t e b && typed_right t e b.1.exp b.0.ty

-- bindings and functions that are declared together over parameters, which are new
unfoldable pub val_right : Tables → Environment → ℕ → List (Binding × Rule) → List (Vec ℕ Global × ℕ × Function) → Bool
val_right t e ps bs fs =
    let qs = parameters_at (parameters_of t) ps in
    let inside = qs ++ parameters_in e in
    are_new qs (parameters_in e)
    && ((all_hold (parts.plain_holds t (parameters_in e) (variables_in t e)) bs && all_hold (parts.inner_holds t inside (variables_in t e)) bs)
    && all_hold (parts.member_holds t inside (funs_onto own (funs_by (type_at t.types) (map (fun_of (reading t)) fs)) (variables_in t e))) fs)

-- what is known after them
abbrev pub val_onto : Tables → ℕ → List (Binding × Rule) → List (Vec ℕ Global × ℕ × Function) → Knowns → Knowns
val_onto t ps bs fs G =
    let qs = parameters_at (parameters_of t) ps in
    binds_onto qs (binds_by (type_at t.types) (map (bind_of (reading t)) bs))
    (funs_onto (declared qs) (funs_by (type_at t.types) (map (fun_of (reading t)) fs)) G)

-- an exception's argument, and what is known after it
abbrev pub exception_right : Tables → Environment → Option ℕ → Bool
exception_right t e a = option_over (parameters_in e) (option_map (type_at t.types) a)

abbrev pub exception_onto : Tables → ℕ → Option ℕ → Knowns → Knowns
exception_onto t x a G = (x, exception (option_map (type_at t.types) a)) ∷ G

unfoldable pub dec_right : Tables → Environment → Dec → Bool
dec_right t e d = parts.dec_holds t (parameters_in e) (variables_in t e) d []

unfoldable pub decs_right : Tables → Environment → List Dec → Bool
decs_right t e ds = hold (parts.dec_holds t (parameters_in e)) (dec_onto t) (variables_in t e) ds

unfoldable pub let_right : Tables → Environment → ℕ → List Dec → Exp → Bool
let_right t e a ds x =
    decs_right t e ds && (parts.exp_holds t (parameters_in e) (run (dec_step t) ds (variables_in t e)) x && has_type t x a)
