use Rattle.std.proofs.Common.{map, take}
use Rattle.sml_tree.specs.TreeOf.{long_id_at_of}
use Rattle.scope_decs.specs.Opening.{AreOpened}
use Rattle.scope_decs.proofs.structures.all_members.Given as goal

abbrev pub invariant-loop-i : goal.invariant-loop-i
invariant-loop-i l = AreOpened l.context (map long_id_at_of (take l.i l.structures)) l.values.items
