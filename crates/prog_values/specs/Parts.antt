-- Which parts make a node a value.
use Rattle.std.specs.Prelude.{ℕ, Bool, true, false, ◌&&◌, List, [], ◌∷◌}
use Rattle.mlc_names.specs.declared.label.Label.{Label}
use Rattle.ir_poly.specs.Prog.{is_value, is_construction}
use Rattle.prog_tree.specs.TreeOf.{Reading, tree_of}
use Rattle.prog_tree.specs.declared.tree.Atom.{Atom}
use Rattle.prog_tree.specs.declared.tree.Atom.TheVariants as atom
use Rattle.prog_tree.specs.declared.tree.Used.{Used}
use Rattle.prog_tree.specs.declared.tree.Used.TheVariants as used
use Rattle.prog_tree.specs.declared.tree.Exp.{Exp}
use Rattle.prog_tree.specs.declared.tree.Join.{Join}

abbrev pub is_nil : {A : Type 0} → List A → Bool
is_nil [] = true
is_nil (x ∷ xs) = false

abbrev pub names_construction : Atom → Bool
names_construction (atom.Constant c) = false
names_construction (atom.Own x) = false
names_construction (atom.Exception x) = true
names_construction (atom.Reference b) = false

abbrev pub uses_construction : Used → Bool
uses_construction (used.Variable x) = false
uses_construction (used.Constructor c y) = true
uses_construction (used.Primitive p) = false

module _ (R : Reading) where
  abbrev pub field_is_value : Label × Exp → Bool
  field_is_value f = is_value (tree_of R f.1)

  abbrev pub join_is_value : Join × Exp × Exp → Bool
  join_is_value j = is_construction (tree_of R j.1) && is_value (tree_of R j.2)

  -- an application is a value where it is a construction of one value, or nothing but a value
  abbrev pub are_values : Bool → Bool → List (ℕ × Exp) → Bool
  are_values alone makes [] = alone
  are_values alone makes (a ∷ []) = makes && is_value (tree_of R a.1)
  are_values alone makes (a ∷ b ∷ as_) = false
