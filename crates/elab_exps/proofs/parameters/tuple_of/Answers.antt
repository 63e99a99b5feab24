use Rattle.std.proofs.Common.{map, take, arith}
use Rattle.sml_tree.specs.TreeOf.{pat_of}
use Rattle.elab_context.proofs.Reading.{context_later}
use Rattle.elab_steps.proofs.Growing.{grows_on}
use Rattle.pat_elab.specs.Fields.{numbered}
use Rattle.pat_elab.proofs.Loops.{part_more, parts_end}
use Rattle.elab_exps.proofs.parameters.tuple_of.Goals as goal

pub loop-i-init : goal.loop-i-init
loop-i-init c = c.no_fields-made.ensures c.args.bound.now.items

pub elab_pat-requires : goal.elab_pat-requires
elab_pat-requires c = context_later c.args.state.now c.loop-i.state c.args.context.now c.loop-i.invariant.grows c.requires

pub add_field-requires-clause-context : goal.add_field-requires-clause-context
add_field-requires-clause-context c =
    context_later c.args.state.now c.elab_pat.new.state c.args.context.now
    (grows_on c.args.state.now c.loop-i.state c.elab_pat.new.state c.loop-i.invariant.grows c.in_ok-one.ensures.grows) c.requires

pub loop-i-preserved : goal.loop-i-preserved
loop-i-preserved c =
    part_more c.args.state.now c.add_field.new.state c.args.context.now c.args.pats.now c.loop-i.i c.index-pats-i.result c.in_ok-label.label c.args.bound.now.items c.elab_pat.new.bound.items
    c.add_field.new.fields c.loop-i-test.true c.index-pats-i.is c.in_ok-label.ensures
    (c.in_ok-add_field.ensures c.args.state.now c.loop-i.state c.args.bound.now.items c.loop-i.bound.items c.elab_pat.new.bound.items (numbered 1 (map pat_of (take c.loop-i.i c.args.pats.now)))
    (pat_of c.index-pats-i.result) c.loop-i.invariant c.in_ok-one.ensures)

pub record-requires-clause-context : goal.record-requires-clause-context
record-requires-clause-context c = context_later c.args.state.now c.loop-i.state c.args.context.now c.loop-i.invariant.grows c.requires

pub returns : goal.returns
returns c =
    parts_end c.args.state.now c.loop-i.state c.record.new.state c.args.context.now c.args.place c.args.pats.now c.loop-i.i c.args.bound.now.items c.loop-i.bound.items c.loop-i.made _ (omega arith)
    c.in_ok-record.ensures c.loop-i.invariant
