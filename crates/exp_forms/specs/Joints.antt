-- Joints that are tests.
use Rattle.std.specs.Prelude.{Bool, true, false}
use Rattle.sml_tree.specs.declared.tree.Joint.{Joint}
use Rattle.sml_tree.specs.declared.tree.Joint.TheVariants.{AndAlso, OrElse}

abbrev pub joint_of : Bool → Joint
joint_of true = AndAlso
joint_of false = OrElse
