use Rattle.std.proofs.Common.{◌≡◌, map, take}
use Rattle.std.specs.List.{AllByRecursion}
use Rattle.sml_tree.specs.TreeOf.{part_of}
use Rattle.exp_forms.specs.Joints.{joint_of}
use Rattle.exp_forms.proofs.joints.are_joined.Given as goal

abbrev pub invariant-loop-i : goal.invariant-loop-i
invariant-loop-i l = AllByRecursion (λ o. o.joint ≡ joint_of l.all) (map part_of (take l.i l.parts))
