use Rattle.std.proofs.Common.{map, take}
use Rattle.sml_tree.specs.TreeOf.{pat_of}
use Rattle.pat_elab.specs.Fields.{AreFields, numbered}
use Rattle.elab_exps.proofs.parameters.tuple_of.Given as goal

abbrev pub invariant-loop-i : goal.invariant-loop-i
invariant-loop-i l = AreFields l.fn.state l.context (numbered 1 (map pat_of (take l.i l.pats))) l.state l.fn.bound.items l.bound.items l.made
