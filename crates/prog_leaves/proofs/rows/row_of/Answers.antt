use Rattle.prog_tree.specs.Readings.{reading}
use Rattle.prog_leaves.proofs.Typing.{gathering-starts, gathering-more, gathering-ends}
use Rattle.prog_leaves.proofs.rows.row_of.Goals as goal

pub loop-i-init : goal.loop-i-init
loop-i-init c = gathering-starts c.args.tables.now c.args.fields.now c.new-row.result.items c.new-row.ensures.items

pub loop-i-preserved : goal.loop-i-preserved
loop-i-preserved c = gathering-more c.args.tables.now c.args.fields.now c.loop-i.row.items c.push.new.self.items c.loop-i.i c.type_of-ty.result c.index-fields-i.result c.loop-i-test.true c.index-fields-i.is
    c.in_ok-push.ensures.items (c.type_of-ty.ensures (reading c.args.tables.now)) c.loop-i.invariant

pub returns : goal.returns
returns c = gathering-ends c.args.tables.now c.args.fields.now c.loop-i.row.items c.loop-i.i c.loop-i-test.false c.loop-i.invariant
