use Rattle.std.proofs.Common.{None, get_or, length, map, take, arith}
use Rattle.ty_instance.proofs.Going.{longer}
use Rattle.sml_tree.specs.TreeOf.{con_bind_of}
use Rattle.elab_state.specs.States.{types_in}
use Rattle.elab_steps.proofs.Growing.{found-later}
use Rattle.datatype_forms.proofs.Collecting.{taken_next}
use Rattle.datatype_forms.proofs.InNames.{take-at}
use Rattle.datatype_decs.proofs.Adding.{more_next, no_more}
use Rattle.datatype_decs.proofs.Placing.{below_later, below_there, held_later, held_there}
use Rattle.datatype_decs.proofs.constructors.add_constructors.Goals as goal

pub loop-i-init : goal.loop-i-init
loop-i-init c = no_more c.args.state.now c.args.context.now c.args.of.name c.args.values.now.items

pub add_constructor-requires-clause-is : goal.add_constructor-requires-clause-is
add_constructor-requires-clause-is c =
    found-later (types_in c.args.state.now) (types_in c.loop-i.state) c.args.of.ty _ c.loop-i.invariant.step.grows.types c.requires.is

pub add_constructor-requires-clause-held : goal.add_constructor-requires-clause-held
add_constructor-requires-clause-held c =
    let n = c.requires.count in
    held_later (length (types_in c.args.state.now)) (length (types_in c.loop-i.state)) (get_or c.args.row.now c.loop-i.i None) (longer (types_in c.args.state.now) (types_in c.loop-i.state) c.loop-i.invariant.step.grows.types)
    (held_there (length (types_in c.args.state.now)) c.args.row.now c.loop-i.i None c.requires.held (omega (arith, n, c.loop-i-test.true)))

pub add_constructor-requires-clause-below : goal.add_constructor-requires-clause-below
add_constructor-requires-clause-below c =
    let n = c.requires.count in
    below_later c.args.of.name.arity (types_in c.args.state.now) (types_in c.loop-i.state) (get_or c.args.row.now c.loop-i.i None) c.loop-i.invariant.step.grows.types
    (held_there (length (types_in c.args.state.now)) c.args.row.now c.loop-i.i None c.requires.held (omega (arith, n, c.loop-i-test.true)))
    (below_there c.args.of.name.arity (types_in c.args.state.now) c.args.row.now c.loop-i.i None c.requires.below (omega (arith, n, c.loop-i-test.true)))

pub loop-i-preserved : goal.loop-i-preserved
loop-i-preserved c =
    let n = c.requires.count in
    more_next c.args.state.now c.loop-i.state c.add_constructor.new.state c.args.context.now c.loop-i.context c.add_constructor.new.context c.args.of.name (map con_bind_of (take c.loop-i.i c.args.cons.now)) _
    (take c.loop-i.i c.args.row.now) _ c.args.values.now.items c.loop-i.values.items c.push.new.self.items (con_bind_of c.index-cons-i.result) (get_or c.args.row.now c.loop-i.i None) c.in_ok-value.value c.loop-i.invariant
    c.in_ok-value.ensures
    (held_there (length (types_in c.args.state.now)) c.args.row.now c.loop-i.i None c.requires.held (omega (arith, n, c.loop-i-test.true))) c.in_ok-push.ensures.items
    (taken_next con_bind_of c.args.cons.now c.loop-i.i c.index-cons-i.result c.loop-i-test.true c.index-cons-i.is)
    (take-at c.args.row.now c.loop-i.i None (omega (arith, n, c.loop-i-test.true)))
