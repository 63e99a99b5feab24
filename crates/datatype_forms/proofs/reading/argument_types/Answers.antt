use Rattle.std.proofs.Common.{[], map, take, subst, sym}
use Rattle.sml_tree.specs.TreeOf.{con_bind_of}
use Rattle.elab_types.proofs.Keeping.{holds_later}
use Rattle.elab_state.specs.States.{types_in}
use Rattle.closed_types.proofs.Entering.{parameters-later}
use Rattle.datatype_forms.specs.Reading.{AreArgumentTypes}
use Rattle.datatype_forms.proofs.Collecting.{row_next, taken_next}
use Rattle.datatype_forms.proofs.Stepping.{step_on, step_same}
use Rattle.datatype_forms.proofs.reading.argument_types.Goals as goal

pub loop-i-init : goal.loop-i-init
loop-i-init c = record {
  step = step_same c.args.state.now;
  are = λ as_ outer h e p. subst (AreArgumentTypes (types_in c.args.state.now) (types_in c.args.state.now) outer as_ []) (sym c.new-row.ensures.items) tt;
}

pub argument_type-requires : goal.argument_type-requires
argument_type-requires c = holds_later (types_in c.args.state.now) (types_in c.loop-i.state) c.args.scope.now c.loop-i.invariant.step.grows.types c.requires

pub loop-i-preserved : goal.loop-i-preserved
loop-i-preserved c = record {
  step = step_on c.args.state.now c.loop-i.state c.argument_type.new.state c.loop-i.invariant.step c.in_ok-number.ensures.step;
  are = λ as_ outer h e p.
      row_next (types_in c.args.state.now) (types_in c.loop-i.state) (types_in c.argument_type.new.state) outer as_ (map con_bind_of (take c.loop-i.i c.args.cons.now)) _ c.loop-i.row.items
      c.push.new.self.items (con_bind_of c.index-cons-i.result) c.in_ok-number.number h c.loop-i.invariant.step.grows.types c.in_ok-number.ensures.step.grows.types (c.loop-i.invariant.are as_ outer h e p)
      (c.in_ok-number.ensures.is as_ outer e (parameters-later (types_in c.args.state.now) (types_in c.loop-i.state) 0 as_ c.args.scope.now.tyvars c.loop-i.invariant.step.grows.types p))
      (taken_next con_bind_of c.args.cons.now c.loop-i.i c.index-cons-i.result c.loop-i-test.true c.index-cons-i.is) c.in_ok-push.ensures.items;
}
