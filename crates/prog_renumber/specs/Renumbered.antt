-- Other numbers for the types of a tree.
use Rattle.std.specs.Prelude.{ℕ, List, Vec, slice_index_or}
use Rattle.std.specs.Global.{Global}
use Rattle.ty_core.specs.Types.{Typ}
use Rattle.ir_poly.specs.Prog as t
use Rattle.prog_tree.specs.TreeOf.{Reading, RuleTree, tree_of, function_of, rule_of}
use Rattle.prog_tree.specs.declared.tree.Atom.{Atom}
use Rattle.prog_tree.specs.declared.tree.Atom.TheVariants as atom
use Rattle.prog_tree.specs.declared.tree.Binding.{Binding}
use Rattle.prog_tree.specs.declared.tree.Exp.{Exp}
use Rattle.prog_tree.specs.declared.tree.Function.{Function}
use Rattle.prog_tree.specs.declared.tree.Join.{Join}
use Rattle.prog_tree.specs.declared.tree.Pair.{Pair}
use Rattle.prog_tree.specs.declared.tree.Parameter.{Parameter}
use Rattle.prog_tree.specs.declared.tree.Rule.{Rule}
use Rattle.prog_renumber.specs.declared.numbers.Numbers.{Numbers}

abbrev pub number_at : Numbers → ℕ → ℕ
number_at n k = slice_index_or n.numbers.items k n.other

-- what a number stood for is what its new one stands for
abbrev pub renumbered : Numbers → Reading → Reading
renumbered n R = record { type = λ k. R.type (number_at n k); parameters = R.parameters; strings = R.strings }

abbrev pub parameter_at : Numbers → Parameter → Parameter
parameter_at n x = record { variable = x.variable; ty = number_at n x.ty }

abbrev pub pair_at : Numbers → Pair → Pair
pair_at n p = record { ty = number_at n p.ty; left = number_at n p.left; right = number_at n p.right }

abbrev pub join_at : Numbers → Join → Join
join_at n j = record { place = j.place; ty = number_at n j.ty; pair = number_at n j.pair }

abbrev pub binding_at : Numbers → Binding → Binding
binding_at n b = record { place = b.place; general = b.general; ty = number_at n b.ty }

abbrev pub atom_at : Numbers → Atom → Atom
atom_at n (atom.Constant c) = atom.Constant c
atom_at n (atom.Own x) = atom.Own x
atom_at n (atom.Exception x) = atom.Exception x
atom_at n (atom.Reference b) = atom.Reference (number_at n b)

-- what parts stand for with what stands before them, at the new numbers
abbrev pub argument_from : Numbers → Reading → ℕ × Exp → ℕ × t.Exp
argument_from n R a = (number_at n a.0, tree_of (renumbered n R) a.1)

abbrev pub join_from : Numbers → Reading → Join × Exp × Exp → Join × t.Exp × t.Exp
join_from n R j = (join_at n j.0, tree_of (renumbered n R) j.1, tree_of (renumbered n R) j.2)

abbrev pub bind_from : Numbers → Reading → Binding × Rule → Binding × RuleTree
bind_from n R b = (binding_at n b.0, rule_of (renumbered n R) b.1)

-- a function that is declared with others: its variables, its type and itself
abbrev pub member_of : Reading → Vec ℕ Global × ℕ × Function → List ℕ × Typ × t.Fun
member_of R f = (f.0.items, R.type f.1, function_of R f.2)
