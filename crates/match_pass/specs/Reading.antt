-- Parts of expressions as they are read, and what is left of lists.
use Rattle.std.specs.Prelude.{ℕ, Bool, List, map}
use Rattle.mlc_names.specs.declared.label.Label.{Label}
use Rattle.mlc_base.specs.declared.place.Place.{Place}
use Rattle.ir_poly.specs.Prog as t
use Rattle.prog_tree.specs.TreeOf.{Reading, tree_of, function_of, rule_of, dec_of, decs_of, field_of, argument_of, join_of, record_of, rules_of, chain_of, sequence_of, apply_by, left_joins, right_joins, after_parameters, put}
use Rattle.prog_tree.specs.declared.tree.Dec.{Dec}
use Rattle.prog_tree.specs.declared.tree.Exp.{Exp}
use Rattle.prog_tree.specs.declared.tree.Function.{Function}
use Rattle.prog_tree.specs.declared.tree.Join.{Join}
use Rattle.prog_tree.specs.declared.tree.Parameter.{Parameter}
use Rattle.prog_tree.specs.declared.tree.Rule.{Rule}

abbrev pub expression : Exp → Reading → t.Exp
expression e R = tree_of R e

abbrev pub fields_read : List (Label × Exp) → Reading → t.Fields
fields_read fs R = record_of (map (field_of R) fs)

abbrev pub applied_to : Place → (Reading → t.Exp) → List (ℕ × Exp) → Reading → t.Exp
applied_to place f as_ R = apply_by R.type place (f R) (map (argument_of R) as_)

abbrev pub left_chain : (Reading → t.Exp) → List (Join × Exp × Exp) → Reading → t.Exp
left_chain e js R = left_joins R.type (e R) (map (join_of R) js)

abbrev pub right_chain : (Reading → t.Exp) → List (Join × Exp × Exp) → Reading → t.Exp
right_chain e js R = right_joins R.type (e R) (map (join_of R) js)

abbrev pub rules_read : List Rule → Reading → t.Rules
rules_read rs R = rules_of (map (rule_of R) rs)

abbrev pub sequence_read : Place → (u : ℕ) → List Exp → (Reading → t.Exp) → Reading → t.Exp
sequence_read place u ds e R = sequence_of place (R.type u) (map (tree_of R) ds) (e R)

abbrev pub chain_read : List Exp → Exp → Reading → t.Chain
chain_read es e R = chain_of (map (tree_of R) es) (tree_of R e)

abbrev pub function_read : Function → Reading → t.Fun
function_read f R = function_of R f

abbrev pub decs_read : List Dec → Reading → t.Decs
decs_read ds R = decs_of (map (dec_of R) ds)

abbrev pub let_read : (u : ℕ) → List Dec → (Reading → t.Exp) → Reading → t.Exp
let_read u ds e R = t.let_exp (R.type u) (decs_read ds R) (e R)

abbrev pub case_read : Place → (u : ℕ) → (Reading → t.Exp) → List Rule → Reading → t.Exp
case_read place u e rs R = t.case_exp place (R.type u) (e R) (rules_read rs R)

abbrev pub chain_exp_read : Bool → (u : ℕ) → List Exp → Exp → Reading → t.Exp
chain_exp_read b u es e R = t.chain_exp b (R.type u) (chain_read es e R)

abbrev pub handle_read : (u : ℕ) → (Reading → t.Exp) → List Rule → Reading → t.Exp
handle_read u e rs R = t.handle_exp (R.type u) (e R) (rules_read rs R)

abbrev pub named_read : List Parameter → Parameter → (Reading → t.Exp) → Reading → t.Fun
named_read xs x e R = after_parameters R xs (t.last x.variable (R.type x.ty) (e R))

abbrev pub by_rules_read : List Parameter → Place → (a u : ℕ) → List Rule → Reading → t.Fun
by_rules_read xs place a u rs R = after_parameters R xs (t.by_rules place (R.type a) (R.type u) (rules_read rs R))

abbrev pub dec_before : Dec → (Reading → t.Decs) → Reading → t.Decs
dec_before d ds R = put (dec_of R d) (ds R)
