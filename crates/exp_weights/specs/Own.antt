-- The bare tree of an expression without what has a count of its own: the rules of `fn` and `handle` (also of `case` and `if`, which are applied functions
-- in the code's tree), and the bindings of `val` and `fun`. The rules that sequences, `andalso` and `orelse` write stay.
use Rattle.std.specs.Prelude.{ℕ, zero, suc, ◌+◌}
use Rattle.sml_tree.specs.BareTree as bare
use Rattle.sml_tree.specs.Derived.{Operand, short, first_pats, fresh_for, one_or_tuple, fn_for, case_of}
use Rattle.sml_tree.specs.Derived as derived
use Rattle.sml_tree.specs.TreeOf.{ExpFieldOf, RuleOf, node_dec, node_exp, node_bind, node_clause, node_exp_field, node_function, node_part, node_rule}
use Rattle.sml_tree.specs.declared.tree.Joint.{Joint}
use Rattle.sml_tree.specs.declared.tree.Dec.{Dec, Dec-F, fold-Dec}
use Rattle.sml_tree.specs.declared.tree.Exp.{Exp, Exp-F, fold-Exp}
use Rattle.exp_weights.specs.Nodes.{bound_count}

-- the head of a function, which is what `fun` makes of it but for its clauses: f = fn v1 => .. fn vn => case (v1, .., vn) of no rules
abbrev pub function_head : derived.Function → RuleOf
function_head g = record {
  place = g.place;
  pat = bare.vid_pat g.vid_place (short g.vid);
  exp = fn_for g.place 1 (first_pats g.clauses) (case_of g.place (one_or_tuple g.place (fresh_for g.place 1 (first_pats g.clauses))) bare.no_rules);
}

abbrev pub head_count : derived.Function → ℕ
head_count g = bound_count (function_head g).pat (function_head g).exp

-- what is counted at a clause of a function, or at a rule, of so many nodes: at the first one the head's as well
abbrev pub with_head : ℕ → ℕ → ℕ → ℕ
with_head head zero nodes = head + nodes
with_head head (suc at) nodes = nodes

abbrev pub node_own_dec : Dec-F bare.Dec bare.Exp RuleOf derived.Clause ExpFieldOf derived.Function (Operand Joint bare.Exp) RuleOf → bare.Dec
node_own_dec (Dec-F.Val p as_ bs cs) = bare.val_dec p as_.place as_.tyvars.items bare.no_binds bare.no_binds
node_own_dec (Dec-F.Fun p as_ gs) = bare.val_dec p as_.place as_.tyvars.items bare.no_binds bare.no_binds
node_own_dec d = node_dec d

abbrev pub node_own_exp : Exp-F bare.Dec bare.Exp RuleOf derived.Clause ExpFieldOf derived.Function (Operand Joint bare.Exp) RuleOf → bare.Exp
node_own_exp (Exp-F.Handle p e rs) = bare.handle p e.value bare.no_rules
node_own_exp (Exp-F.Fn p rs) = bare.fn p bare.no_rules
node_own_exp e = node_exp e

abbrev pub own_of : Exp → bare.Exp
own_of =
    fold-Exp bare.Dec bare.Exp RuleOf derived.Clause ExpFieldOf derived.Function (Operand Joint bare.Exp) RuleOf
    node_own_dec node_own_exp node_bind node_clause node_exp_field node_function node_part node_rule

abbrev pub own_dec_of : Dec → bare.Dec
own_dec_of =
    fold-Dec bare.Dec bare.Exp RuleOf derived.Clause ExpFieldOf derived.Function (Operand Joint bare.Exp) RuleOf
    node_own_dec node_own_exp node_bind node_clause node_exp_field node_function node_part node_rule
