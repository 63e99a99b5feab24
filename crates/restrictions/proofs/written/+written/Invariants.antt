use Rattle.std.proofs.Common.{List, map}
use Rattle.sml_tree.specs.BareTree.{TypeBind}
use Rattle.restrictions.specs.Written.{AreRead, written, written_field, written_part}
use Rattle.restrictions.proofs.Abbreviated.{Choosing, Noted}
use Rattle.restrictions.proofs.written.+written.Given as goal

abbrev pub invariant-of_fields-loop-i : goal.invariant-of_fields-loop-i
invariant-of_fields-loop-i l = (bs : List TypeBind) → AreRead bs l.within → Noted (written_field bs) l.fields l.i l.fn.marks.items l.marks.items

abbrev pub invariant-of_tys-loop-i : goal.invariant-of_tys-loop-i
invariant-of_tys-loop-i l = (bs : List TypeBind) → AreRead bs l.within → Noted (written bs) l.tys l.i l.fn.marks.items l.marks.items

abbrev pub invariant-of_parts-loop-i : goal.invariant-of_parts-loop-i
invariant-of_parts-loop-i l = (bs : List TypeBind) → AreRead bs l.within → Noted (written_part bs) l.parts l.i l.fn.marks.items l.marks.items

abbrev pub invariant-of_chosen-loop-i : goal.invariant-of_chosen-loop-i
invariant-of_chosen-loop-i l = (bs : List TypeBind) → AreRead bs l.within → Choosing l.used (map (written bs) l.arguments) l.i l.fn.marks.items l.marks.items
