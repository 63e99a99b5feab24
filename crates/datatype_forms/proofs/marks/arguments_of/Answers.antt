use Rattle.std.proofs.Common.{◌++◌, map, take, sym, ap, arith, ◌∙◌}
use Rattle.datatype_forms.specs.Arguments.{row_arguments}
use Rattle.datatype_forms.proofs.Best.{arguments_next, taken_length}
use Rattle.datatype_forms.proofs.Collecting.{taken_next}
use Rattle.datatype_forms.proofs.marks.arguments_of.Goals as goal

pub loop-i-init : goal.loop-i-init
loop-i-init c = c.new-arguments.ensures.items

pub loop-i-preserved : goal.loop-i-preserved
loop-i-preserved c =
    let lt = c.loop-i-test.true in
    arguments_next c.loop-i.i c.loop-i.arguments.items c.push_arguments.new.arguments.items (map (λ ks. ks.items) (take c.loop-i.i c.args.rows.now)) _ c.index-rows-i.result.items c.loop-i.invariant
    (c.in_ok-push_arguments.ensures ∙ ap (λ ks. c.loop-i.arguments.items ++ row_arguments c.loop-i.i ks) c.deref.ensures.value) (sym (taken_length (λ ks. ks.items) c.args.rows.now c.loop-i.i (omega (arith, lt))))
    (taken_next (λ ks. ks.items) c.args.rows.now c.loop-i.i c.index-rows-i.result c.loop-i-test.true c.index-rows-i.is)
