-- How often variables are bound: what a list of variables gains, and how often the parts of a tree bind them.
use Rattle.std.specs.Prelude.{◌≡◌, ℕ, ◌+◌, List, Vec}
use Rattle.std.specs.Global.{Global}
use Rattle.mlc_names.specs.declared.label.Label.{Label}
use Rattle.ir_poly.specs.ProgOnce.{pat_times, list_times, times, fun_times, binds_times, funs_times}
use Rattle.prog_tree.specs.TreeOf.{Reading, DecTree, val_tree, exception_tree, counted_tree, pat_of, tree_of, function_of, dec_of}
use Rattle.prog_tree.specs.declared.tree.Binding.{Binding}
use Rattle.prog_tree.specs.declared.tree.Dec.{Dec}
use Rattle.prog_tree.specs.declared.tree.Exp.{Exp}
use Rattle.prog_tree.specs.declared.tree.Function.{Function}
use Rattle.prog_tree.specs.declared.tree.Join.{Join}
use Rattle.prog_tree.specs.declared.tree.Parameter.{Parameter}
use Rattle.prog_tree.specs.declared.tree.PatField.{PatField}
use Rattle.prog_tree.specs.declared.tree.PatPart.{PatPart}
use Rattle.prog_tree.specs.declared.tree.Rule.{Rule}

-- whatever is summed up over the variables, the new ones have the sum f more
abbrev pub Adds : List ℕ → List ℕ → (Reading → (ℕ → ℕ) → ℕ) → Type 0
Adds old new f = (R : Reading) (h : ℕ → ℕ) → list_times h new ≡ list_times h old + f R h

module _ (h : ℕ → ℕ) where
  abbrev pub parameter_times : Parameter → ℕ
  parameter_times p = h p.variable

  abbrev pub tree_times : DecTree → ℕ
  tree_times (val_tree qs bs fs) = binds_times h bs + funs_times h fs
  tree_times (exception_tree x i a) = h x
  tree_times (counted_tree n) = 0

module _ (R : Reading) (h : ℕ → ℕ) where
  abbrev pub pat_field_times : PatField → ℕ
  pat_field_times f = pat_times h (pat_of R f.pat)

  abbrev pub pat_part_times : PatPart → ℕ
  pat_part_times p = pat_times h (pat_of R p.pat)

  abbrev pub exp_times : Exp → ℕ
  exp_times e = times h (tree_of R e)

  abbrev pub field_times : Label × Exp → ℕ
  field_times f = exp_times f.1

  abbrev pub argument_times : ℕ × Exp → ℕ
  argument_times a = exp_times a.1

  abbrev pub join_times : Join × Exp × Exp → ℕ
  join_times j = exp_times j.1 + exp_times j.2

  abbrev pub rule_times : Rule → ℕ
  rule_times r = pat_times h (pat_of R r.pat) + exp_times r.exp

  abbrev pub bind_times : Binding × Rule → ℕ
  bind_times b = rule_times b.1

  abbrev pub function_times : Function → ℕ
  function_times f = fun_times h (function_of R f)

  abbrev pub member_times : Vec ℕ Global × ℕ × Function → ℕ
  member_times f = list_times h f.0.items + function_times f.2

  abbrev pub dec_times : Dec → ℕ
  dec_times d = tree_times h (dec_of R d)
