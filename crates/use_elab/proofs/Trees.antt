-- The program's expression of each node with no parts.
use Rattle.std.proofs.Common.{◌≡◌, ℕ, Vec, Global, sym, ap, ◌∙◌}
use Rattle.ir_poly.specs.Prog as prog
use Rattle.prog_tree.specs.TreeOf.{Reading, DecTree, RuleTree, atom_of, use_of, node_dec, node_exp, node_function, node_rule, tree_of}
use Rattle.prog_tree.specs.declared.tree.Atom as nodes
use Rattle.prog_tree.specs.declared.tree.Used as uses
use Rattle.prog_tree.specs.declared.tree.Exp.{Exp-F, fold-roll-Exp}
use Rattle.prog_tree.specs.declared.tree.Exp.TheVariants.{Atom, Use, rolls-Atom, rolls-Use}

module _ (R : Reading) where
  pub tree_of-Atom : (a : nodes.Atom) (t : ℕ) → tree_of R (Atom a t) ≡ atom_of R a (R.type t)
  tree_of-Atom a t = ap (tree_of R) (sym (rolls-Atom a t)) ∙ fold-roll-Exp DecTree prog.Exp prog.Fun RuleTree (node_dec R) (node_exp R) (node_function R) (node_rule R) (Exp-F.Atom a t)

  pub tree_of-Use : (u : uses.Used) (ts : Vec ℕ Global) (t : ℕ) → tree_of R (Use u ts t) ≡ use_of R u ts.items (R.type t)
  tree_of-Use u ts t = ap (tree_of R) (sym (rolls-Use u ts t)) ∙ fold-roll-Exp DecTree prog.Exp prog.Fun RuleTree (node_dec R) (node_exp R) (node_function R) (node_rule R) (Exp-F.Use u ts t)
