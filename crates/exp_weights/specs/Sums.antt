-- What the loops of the code add up; no clause of a public function speaks of it.
use Rattle.std.specs.Prelude.{ℕ, ◌+◌}
use Rattle.sml_tree.specs.TreeOf.{dec_of, pat_of}
use Rattle.sml_tree.specs.declared.tree.Dec.{Dec}
use Rattle.sml_tree.specs.declared.tree.Exp.{Exp}
use Rattle.sml_tree.specs.declared.tree.ExpField.{ExpField}
use Rattle.sml_tree.specs.declared.tree.Joint.{Joint}
use Rattle.sml_tree.specs.declared.tree.Joint.TheVariants.{AndAlso, OrElse, Infix}
use Rattle.sml_tree.specs.declared.tree.Part.{Part}
use Rattle.sml_tree.specs.declared.tree.Pat.{Pat}
use Rattle.sml_tree.specs.declared.tree.PatField.{PatField}
use Rattle.sml_tree.specs.declared.tree.PatPart.{PatPart}
use Rattle.exp_weights.specs.Nodes.{exp_count, outer_dec_count, pat_count}
use Rattle.exp_weights.specs.Own.{own_of}

abbrev pub pat_nodes : Pat → ℕ
pat_nodes a = pat_count (pat_of a)

abbrev pub pat_field_nodes : PatField → ℕ
pat_field_nodes f = pat_nodes f.pat

abbrev pub pat_part_nodes : PatPart → ℕ
pat_part_nodes o = pat_nodes o.pat + 2

abbrev pub exp_nodes : Exp → ℕ
exp_nodes e = exp_count (own_of e)

abbrev pub exp_field_nodes : ExpField → ℕ
exp_field_nodes f = exp_nodes f.exp

-- what a joint makes besides its operands
abbrev pub joint_nodes : Joint → ℕ
joint_nodes AndAlso = 7
joint_nodes OrElse = 7
joint_nodes (Infix p v) = 3

abbrev pub part_nodes : Part → ℕ
part_nodes o = exp_nodes o.exp + joint_nodes o.joint

-- a declaration, without those that expressions enclose
abbrev pub dec_nodes : Dec → ℕ
dec_nodes d = outer_dec_count (dec_of d)
