use Rattle.std.proofs.Common.{◌≡◌, ◌+◌, false, get_or, length, map, take, sym, ap, arith, ◌∙◌}
use Rattle.sml_tree.specs.TreeOf.{data_bind_of}
use Rattle.datatype_forms.proofs.Best.{names_next, take_length, taken_length}
use Rattle.datatype_forms.proofs.Collecting.{taken_next}
use Rattle.datatype_forms.proofs.InNames.{take-at}
use Rattle.datatype_forms.proofs.names.marked_names.Goals as goal

pub loop-i-init : goal.loop-i-init
loop-i-init c = c.new-names.ensures.items

pub loop-i-preserved : goal.loop-i-preserved
loop-i-preserved c =
    let lt = c.loop-i-test.true in
    let same = c.requires in
    let count : length (take c.loop-i.i c.args.marks.now) ≡ c.loop-i.i = take_length c.args.marks.now c.loop-i.i (omega (arith, lt, same)) in
    names_next c.args.first c.in_ok-stamp.stamp (take c.loop-i.i c.args.marks.now) _ (map data_bind_of (take c.loop-i.i c.args.binds.now)) _ c.loop-i.names.items c.push.new.self.items
    (get_or c.args.marks.now c.loop-i.i false) (data_bind_of c.index-binds-i.result) _ (count ∙ sym (taken_length data_bind_of c.args.binds.now c.loop-i.i (omega (arith, lt))))
    (c.in_ok-stamp.ensures ∙ ap (λ n. c.args.first + n) (sym count)) c.loop-i.invariant
    (λ i. record { stamp = c.in_ok-stamp.stamp; arity = c.in_ok-arity.ensures i; equality = c.attribute-equality.ensures i })
    (take-at c.args.marks.now c.loop-i.i false (omega (arith, lt, same))) (taken_next data_bind_of c.args.binds.now c.loop-i.i c.index-binds-i.result lt c.index-binds-i.is) c.in_ok-push.ensures.items
