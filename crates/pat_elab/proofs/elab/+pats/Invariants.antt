use Rattle.std.proofs.Common.{map, take}
use Rattle.sml_tree.specs.TreeOf.{pat_of, pat_field_of, pat_part_of}
use Rattle.pat_elab.specs.Fields.{numbered, AreFields}
use Rattle.pat_elab.specs.Lists.{AreElements}
use Rattle.pat_elab.proofs.Loops.{LeftSoFar, RightSoFar}
use Rattle.pat_elab.proofs.elab.+pats.Given as goal

abbrev pub invariant-record_of-loop-i : goal.invariant-record_of-loop-i
invariant-record_of-loop-i l = AreFields l.fn.state l.context (map pat_field_of (take l.i l.fields)) l.state l.fn.bound.items l.bound.items l.made

abbrev pub invariant-tuple_of-loop-i : goal.invariant-tuple_of-loop-i
invariant-tuple_of-loop-i l = AreFields l.fn.state l.context (numbered 1 (map pat_of (take l.i l.parts))) l.state l.fn.bound.items l.bound.items l.made

abbrev pub invariant-list_of-loop-i : goal.invariant-list_of-loop-i
invariant-list_of-loop-i l = AreElements l.initial.state l.context l.listed (map pat_of (take l.i l.elements)) l.state l.fn.bound.items l.bound.items l.made.items

abbrev pub invariant-left_of-loop-i : goal.invariant-left_of-loop-i
invariant-left_of-loop-i l = LeftSoFar l.initial.state l.context l.initial.bound.items l.initial.made (map pat_part_of (take l.i l.parts)) l.state l.bound.items l.made

abbrev pub invariant-right_of-loop-i : goal.invariant-right_of-loop-i
invariant-right_of-loop-i l = RightSoFar l.initial.state l.context l.initial.bound.items l.initial.made (map pat_part_of (take l.i l.parts)) l.state l.bound.items l.made
