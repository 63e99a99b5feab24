-- What the first joint of a chain to the right says that the chain is.
use Rattle.std.specs.Prelude.{true, false}
use Rattle.sml_tree.specs.declared.tree.Joint.{Joint}
use Rattle.sml_tree.specs.declared.tree.Joint.TheVariants.{Infix, AndAlso, OrElse}
use Rattle.elab_exps.specs.declared.shapes.Shape.{Shape}
use Rattle.elab_exps.specs.declared.shapes.Shape.TheVariants.{Right, Tests}

-- operands of `andalso` or `orelse`, or of infix identifiers
abbrev pub shape_by : Joint → Shape
shape_by AndAlso = Tests true
shape_by OrElse = Tests false
shape_by (Infix p x) = Right
