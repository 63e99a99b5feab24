-- The program's pattern of each node.
use Rattle.std.proofs.Common.{◌≡◌, ℕ, Box, Global, sym, ap, ◌∙◌}
use Rattle.ir_poly.specs.Prog as prog
use Rattle.ir_tables.specs.Tables.{literal_at}
use Rattle.ir_tables.specs.declared.tables.Constant.{Constant as ProgramConstant}
use Rattle.prog_tree.specs.TreeOf.{Reading, PatFieldTree, PatPartTree, exc_of, before, node_pat, node_pat_field, node_pat_part, pat_of, pat_field_of, pat_part_of}
use Rattle.prog_tree.specs.declared.tree.PatField.{PatField, fold_out-PatField}
use Rattle.prog_tree.specs.declared.tree.PatPart.{PatPart, fold_out-PatPart}
use Rattle.prog_tree.specs.declared.tree.Exception.{Exception as Exn}
use Rattle.prog_tree.specs.declared.tree.Head.{Head}
use Rattle.prog_tree.specs.declared.tree.Pat.{Pat, Pat-F, fold-roll-Pat}
use Rattle.prog_tree.specs.declared.tree.Pat.TheVariants.{Any, Variable, Constant, Constructor, Exception, Before, As, rolls-Any, rolls-Variable, rolls-Constant, rolls-Constructor, rolls-Exception, rolls-Before, rolls-As}

module _ (R : Reading) where
  pub pat_of-Any : pat_of R Any ≡ prog.any_pat
  pat_of-Any = ap (pat_of R) (sym rolls-Any) ∙ fold-roll-Pat prog.Pat PatFieldTree PatPartTree (node_pat R) (node_pat_field R) (node_pat_part R) Pat-F.Any

  pub pat_of-Variable : (n : ℕ) → pat_of R (Variable n) ≡ prog.variable_pat n
  pat_of-Variable n = ap (pat_of R) (sym (rolls-Variable n)) ∙ fold-roll-Pat prog.Pat PatFieldTree PatPartTree (node_pat R) (node_pat_field R) (node_pat_part R) (Pat-F.Variable n)

  pub pat_of-Constant : (c : ProgramConstant) → pat_of R (Constant c) ≡ prog.constant_pat (literal_at R.strings c)
  pat_of-Constant c = ap (pat_of R) (sym (rolls-Constant c)) ∙ fold-roll-Pat prog.Pat PatFieldTree PatPartTree (node_pat R) (node_pat_field R) (node_pat_part R) (Pat-F.Constant c)

  pub pat_of-As : (n : ℕ) (p : Box Pat Global) → pat_of R (As n p) ≡ prog.as_pat n (pat_of R p.value)
  pat_of-As n p = ap (pat_of R) (sym (rolls-As n p)) ∙ fold-roll-Pat prog.Pat PatFieldTree PatPartTree (node_pat R) (node_pat_field R) (node_pat_part R) (Pat-F.As n p)

  pub pat_of-Constructor : (c : ℕ) → pat_of R (Constructor c) ≡ prog.con_pat c
  pat_of-Constructor c = ap (pat_of R) (sym (rolls-Constructor c)) ∙ fold-roll-Pat prog.Pat PatFieldTree PatPartTree (node_pat R) (node_pat_field R) (node_pat_part R) (Pat-F.Constructor c)

  pub pat_of-Exception : (x : Exn) → pat_of R (Exception x) ≡ prog.exn_pat (exc_of x)
  pat_of-Exception x = ap (pat_of R) (sym (rolls-Exception x)) ∙ fold-roll-Pat prog.Pat PatFieldTree PatPartTree (node_pat R) (node_pat_field R) (node_pat_part R) (Pat-F.Exception x)

  pub pat_of-Before : (h : Head) (a : ℕ) (p : Box Pat Global) → pat_of R (Before h a p) ≡ before h (R.type a) (pat_of R p.value)
  pat_of-Before h a p = ap (pat_of R) (sym (rolls-Before h a p)) ∙ fold-roll-Pat prog.Pat PatFieldTree PatPartTree (node_pat R) (node_pat_field R) (node_pat_part R) (Pat-F.Before h a p)

  pub pat_field_of-is : (f : PatField) → pat_field_of R f ≡ record { label = f.label; type = R.type f.ty; pat = pat_of R f.pat }
  pat_field_of-is = fold_out-PatField prog.Pat PatFieldTree PatPartTree (node_pat R) (node_pat_field R) (node_pat_part R)

  pub pat_part_of-is : (j : PatPart) → pat_part_of R j ≡ record { head = j.head; whole = R.type j.pair.ty; left = R.type j.pair.left; right = R.type j.pair.right; pat = pat_of R j.pat }
  pat_part_of-is = fold_out-PatPart prog.Pat PatFieldTree PatPartTree (node_pat R) (node_pat_field R) (node_pat_part R)
