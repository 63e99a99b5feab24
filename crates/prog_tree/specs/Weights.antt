-- How many nodes of the source the parts of a tree stand for.
use Rattle.std.specs.Prelude.{ℕ, ◌+◌}
use Rattle.std.specs.Prelude.{Vec}
use Rattle.std.specs.Global.{Global}
use Rattle.mlc_names.specs.declared.label.Label.{Label}
use Rattle.ir_tables.specs.of_ir_poly.ProgWeight.{weight, fun_weight, binds_weight, funs_weight}
use Rattle.prog_tree.specs.TreeOf.{Reading, DecTree, val_tree, exception_tree, counted_tree, tree_of, function_of, rule_of, dec_of}
use Rattle.prog_tree.specs.declared.tree.Binding.{Binding}
use Rattle.prog_tree.specs.declared.tree.Dec.{Dec}
use Rattle.prog_tree.specs.declared.tree.Exp.{Exp}
use Rattle.prog_tree.specs.declared.tree.Function.{Function}
use Rattle.prog_tree.specs.declared.tree.Join.{Join}
use Rattle.prog_tree.specs.declared.tree.Rule.{Rule}

abbrev pub tree_weight : DecTree → ℕ
tree_weight (val_tree qs bs fs) = binds_weight bs + funs_weight fs
tree_weight (exception_tree x i a) = 0
tree_weight (counted_tree n) = n

module _ (R : Reading) where
  abbrev pub exp_weight : Exp → ℕ
  exp_weight e = weight (tree_of R e)

  abbrev pub field_weight : Label × Exp → ℕ
  field_weight f = exp_weight f.1

  abbrev pub argument_weight : ℕ × Exp → ℕ
  argument_weight a = exp_weight a.1

  abbrev pub join_weight : Join × Exp × Exp → ℕ
  join_weight j = exp_weight j.1 + exp_weight j.2

  abbrev pub rule_weight : Rule → ℕ
  rule_weight r = weight (rule_of R r).exp

  abbrev pub bind_weight : Binding × Rule → ℕ
  bind_weight b = rule_weight b.1

  abbrev pub function_weight : Function → ℕ
  function_weight f = fun_weight (function_of R f)

  abbrev pub member_weight : Vec ℕ Global × ℕ × Function → ℕ
  member_weight f = function_weight f.2

  abbrev pub dec_weight : Dec → ℕ
  dec_weight d = tree_weight (dec_of R d)
