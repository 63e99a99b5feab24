use Rattle.std.proofs.Common.{◌≡◌, ◌&&◌, drop}
use Rattle.prog_known.specs.Lists.{all_hold}
use Rattle.elab_typed.specs.Contexts.{Around, generic}
use Rattle.elab_steps.specs.World.{World, Comes}
use Rattle.elab_context.specs.Telling.{Tells}
use Rattle.general_decs.specs.Values.{exp_is, field_is, part_is}
use Rattle.general_decs.proofs.values.+values.Given as goal

abbrev pub invariant-are_all-loop-i : goal.invariant-are_all-loop-i
invariant-are_all-loop-i l = (W : World) → Comes l.state W → (A : Around) → Tells l.context W A
    → (l.so_far && all_hold (exp_is (generic A).env) (drop l.i l.exps)) ≡ all_hold (exp_is (generic A).env) l.exps

abbrev pub invariant-are_fields-loop-i : goal.invariant-are_fields-loop-i
invariant-are_fields-loop-i l = (W : World) → Comes l.state W → (A : Around) → Tells l.context W A
    → (l.so_far && all_hold (field_is (generic A).env) (drop l.i l.fields)) ≡ all_hold (field_is (generic A).env) l.fields

abbrev pub invariant-are_parts-loop-i : goal.invariant-are_parts-loop-i
invariant-are_parts-loop-i l = (W : World) → Comes l.state W → (A : Around) → Tells l.context W A
    → (l.so_far && all_hold (part_is (generic A).env) (drop l.i l.parts)) ≡ all_hold (part_is (generic A).env) l.parts
