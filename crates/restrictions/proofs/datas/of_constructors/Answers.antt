use Rattle.std.proofs.Common.{◌++◌, ap, ◌∙◌}
use Rattle.std.specs.Prelude.{flat_map}
use Rattle.restrictions.specs.Written.{mark_places, mark_tyvars}
use Rattle.restrictions.proofs.Marks.{has-cons}
use Rattle.restrictions.proofs.Standing.{if-ok-both}
use Rattle.restrictions.proofs.datas.of_constructors.Goals as goal

pub returns : goal.returns
returns c =
    if-ok-both c.part_marks.result
    (λ u k l bs r.
    has-cons bs c.args.cons.now c.new-marks.result.items c.of_cons.new.marks.items c.args.found.now.items _ c.args.occurring.now.items _ c.new-marks.ensures.items (c.in_ok-of_cons.ensures bs r)
    (k ∙ ap (λ m. c.args.found.now.items ++ flat_map mark_places m) c.deref.ensures.value)
    (l ∙ ap (λ m. c.args.occurring.now.items ++ flat_map mark_tyvars m) c.deref.ensures.value))
    c.part_marks.ensures.found c.part_marks.ensures.occurring
