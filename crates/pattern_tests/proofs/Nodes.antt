-- The clean pattern of each node.
use Rattle.std.proofs.Common.{◌≡◌, ℕ, Box, Global, sym, ap, ◌∙◌}
use Rattle.ir_poly.specs.Prog as t
use Rattle.ir_tables.specs.Tables.{literal_at}
use Rattle.ir_tables.specs.declared.tables.Constant.{Constant}
use Rattle.prog_tree.specs.TreeOf.{Reading, PatFieldTree, PatPartTree, pat_of, pat_field_of, pat_part_of, before, exc_of, node_pat, node_pat_field, node_pat_part}
use Rattle.prog_tree.specs.declared.tree.Exception as exceptions
use Rattle.prog_tree.specs.declared.tree.Head.{Head}
use Rattle.prog_tree.specs.declared.tree.Pat.{Pat, Pat-F, fold-roll-Pat}
use Rattle.prog_tree.specs.declared.tree.Pat.TheVariants.{Any, Variable, Constant as TheConstant, Constructor, Exception, Before, As, rolls-Any, rolls-Variable, rolls-Constant, rolls-Constructor, rolls-Exception, rolls-Before, rolls-As}
use Rattle.prog_tree.specs.declared.tree.PatField.{PatField, fold_out-PatField}
use Rattle.prog_tree.specs.declared.tree.PatPart.{PatPart, fold_out-PatPart}

module _ (R : Reading) where
  pub pat_of-Any : pat_of R Any ≡ t.any_pat
  pat_of-Any = ap (pat_of R) (sym rolls-Any) ∙ fold-roll-Pat t.Pat PatFieldTree PatPartTree (node_pat R) (node_pat_field R) (node_pat_part R) Pat-F.Any

  pub pat_of-Variable : (x : ℕ) → pat_of R (Variable x) ≡ t.variable_pat x
  pat_of-Variable x = ap (pat_of R) (sym (rolls-Variable x)) ∙ fold-roll-Pat t.Pat PatFieldTree PatPartTree (node_pat R) (node_pat_field R) (node_pat_part R) (Pat-F.Variable x)

  pub pat_of-Constant : (c : Constant) → pat_of R (TheConstant c) ≡ t.constant_pat (literal_at R.strings c)
  pat_of-Constant c = ap (pat_of R) (sym (rolls-Constant c)) ∙ fold-roll-Pat t.Pat PatFieldTree PatPartTree (node_pat R) (node_pat_field R) (node_pat_part R) (Pat-F.Constant c)

  pub pat_of-Constructor : (c : ℕ) → pat_of R (Constructor c) ≡ t.con_pat c
  pat_of-Constructor c = ap (pat_of R) (sym (rolls-Constructor c)) ∙ fold-roll-Pat t.Pat PatFieldTree PatPartTree (node_pat R) (node_pat_field R) (node_pat_part R) (Pat-F.Constructor c)

  pub pat_of-Exception : (x : exceptions.Exception) → pat_of R (Exception x) ≡ t.exn_pat (exc_of x)
  pat_of-Exception x = ap (pat_of R) (sym (rolls-Exception x)) ∙ fold-roll-Pat t.Pat PatFieldTree PatPartTree (node_pat R) (node_pat_field R) (node_pat_part R) (Pat-F.Exception x)

  pub pat_of-Before : (h : Head) (a : ℕ) (p : Box Pat Global) → pat_of R (Before h a p) ≡ before h (R.type a) (pat_of R p.value)
  pat_of-Before h a p = ap (pat_of R) (sym (rolls-Before h a p)) ∙ fold-roll-Pat t.Pat PatFieldTree PatPartTree (node_pat R) (node_pat_field R) (node_pat_part R) (Pat-F.Before h a p)

  pub pat_of-As : (x : ℕ) (p : Box Pat Global) → pat_of R (As x p) ≡ t.as_pat x (pat_of R p.value)
  pat_of-As x p = ap (pat_of R) (sym (rolls-As x p)) ∙ fold-roll-Pat t.Pat PatFieldTree PatPartTree (node_pat R) (node_pat_field R) (node_pat_part R) (Pat-F.As x p)

  pub field_of-parts : (f : PatField) → pat_field_of R f ≡ record { label = f.label; type = R.type f.ty; pat = pat_of R f.pat }
  field_of-parts = fold_out-PatField t.Pat PatFieldTree PatPartTree (node_pat R) (node_pat_field R) (node_pat_part R)

  pub part_of-parts : (j : PatPart) → pat_part_of R j ≡ record { head = j.head; whole = R.type j.pair.ty; left = R.type j.pair.left; right = R.type j.pair.right; pat = pat_of R j.pat }
  part_of-parts = fold_out-PatPart t.Pat PatFieldTree PatPartTree (node_pat R) (node_pat_field R) (node_pat_part R)
