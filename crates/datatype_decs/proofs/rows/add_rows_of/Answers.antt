use Rattle.std.proofs.Common.{Some, None, get_or, map, nat_eq, take, sym, ap, arith, ◌∙◌}
use Rattle.indexmap.specs.IndexMap.{get}
use Rattle.sml_tree.specs.TreeOf.{con_bind_of}
use Rattle.datatype_forms.proofs.Collecting.{taken_next}
use Rattle.datatype_forms.proofs.InNames.{take-at}
use Rattle.datatype_decs.proofs.AddingRows.{no_rows_yet, rows_next}
use Rattle.datatype_decs.proofs.rows.add_rows_of.Goals as goal

pub loop-i-init : goal.loop-i-init
loop-i-init c = no_rows_yet c.args.state.now c.args.names.now c.args.datatype (get nat_eq c.args.known.now) c.requires.knows

pub add_row-requires : goal.add_row-requires
add_row-requires c = c.loop-i.invariant.step.knows

pub loop-i-preserved : goal.loop-i-preserved
loop-i-preserved c =
    let n = c.requires.count in
    rows_next c.args.state.now c.loop-i.state c.add_row.new.state c.args.names.now c.args.datatype (map con_bind_of (take c.loop-i.i c.args.cons.now)) _ (take c.loop-i.i c.args.row.now) _
    (con_bind_of c.index-cons-i.result) (get_or c.args.row.now c.loop-i.i None) _ (get nat_eq c.loop-i.known) (get nat_eq c.add_row.new.known) c.loop-i.invariant (c.in_ok-name.ensures.is ∙ ap Some (sym c.number-number.ensures))
    c.in_ok-add_row.ensures (taken_next con_bind_of c.args.cons.now c.loop-i.i c.index-cons-i.result c.loop-i-test.true c.index-cons-i.is)
    (take-at c.args.row.now c.loop-i.i None (omega (arith, n, c.loop-i-test.true)))
