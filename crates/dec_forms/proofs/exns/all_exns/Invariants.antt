use Rattle.std.proofs.Common.{map, take}
use Rattle.sml_tree.specs.TreeOf.{ex_bind_of}
use Rattle.dec_forms.specs.Exceptions.{AreExns}
use Rattle.dec_forms.proofs.exns.all_exns.Given as goal

abbrev pub invariant-loop-i : goal.invariant-loop-i
invariant-loop-i l = AreExns l.fn.state l.context (map ex_bind_of (take l.i l.binds)) l.state l.made
