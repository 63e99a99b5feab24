-- That what a phrase makes of exceptions is below a limit.
use Rattle.std.specs.Prelude.{ℕ, ◌<◌, List, ◌∷◌, All, Vec}
use Rattle.std.specs.Global.{Global}
use Rattle.mlc_names.specs.declared.label.Label.{Label}
use Rattle.match_compile.specs.Exceptions.{made, fun_made, binds_made, funs_made}
use Rattle.prog_tree.specs.TreeOf.{Reading, DecTree, val_tree, exception_tree, counted_tree, tree_of, function_of, dec_of}
use Rattle.prog_tree.specs.declared.tree.Binding.{Binding}
use Rattle.prog_tree.specs.declared.tree.Dec.{Dec}
use Rattle.prog_tree.specs.declared.tree.Exp.{Exp}
use Rattle.prog_tree.specs.declared.tree.Function.{Function}
use Rattle.prog_tree.specs.declared.tree.Join.{Join}
use Rattle.prog_tree.specs.declared.tree.Rule.{Rule}

abbrev pub tree_made : DecTree → List ℕ → List ℕ
tree_made (val_tree qs bs fs) us = binds_made bs (funs_made fs us)
tree_made (exception_tree x i a) us = i ∷ us
tree_made (counted_tree n) us = us

module _ (limit : ℕ) where
  -- what puts identifiers below the limit in front of those that are
  abbrev pub Keeps : (List ℕ → List ℕ) → Type 0
  Keeps f = (us : List ℕ) → All (λ i. i < limit) us → All (λ i. i < limit) (f us)

  abbrev pub exp_keeps : Exp → Type 0
  exp_keeps e = (R : Reading) → Keeps (made (tree_of R e))

  abbrev pub field_keeps : Label × Exp → Type 0
  field_keeps f = exp_keeps f.1

  abbrev pub argument_keeps : ℕ × Exp → Type 0
  argument_keeps a = exp_keeps a.1

  abbrev pub join_keeps : Join × Exp × Exp → Type 0
  join_keeps j = exp_keeps j.1 × exp_keeps j.2

  abbrev pub rule_keeps : Rule → Type 0
  rule_keeps r = exp_keeps r.exp

  abbrev pub bind_keeps : Binding × Rule → Type 0
  bind_keeps b = exp_keeps b.1.exp

  abbrev pub function_keeps : Function → Type 0
  function_keeps f = (R : Reading) → Keeps (fun_made (function_of R f))

  abbrev pub member_keeps : Vec ℕ Global × ℕ × Function → Type 0
  member_keeps f = function_keeps f.2

  abbrev pub dec_keeps : Dec → Type 0
  dec_keeps d = (R : Reading) → Keeps (tree_made (dec_of R d))
