use Rattle.sml_tree.specs.Derived.{fresh_pat}
use Rattle.scope_decs.proofs.of_exp_forms.Clausing.{so_far_next}
use Rattle.elab_exps.proofs.Taking.{entered_more}
use Rattle.elab_exps.proofs.parameters.enter_parameters.Goals as goal

pub loop-i-init : goal.loop-i-init
loop-i-init c = record {
  so_far = record {
    context = c.in_ok-first.ensures.context;
    entered =
        c.in_ok-made.ensures c.args.state.now c.enter_parameter.new.state c.args.context.now c.enter_parameter.new.context
        (record { at = c.args.place; place = c.args.place; pat = fresh_pat c.args.place 1 }) c.in_ok-first.ensures.entered;
  };
  within = c.in_ok-first.ensures.within;
}

pub enter_parameter-requires-in-loop-i : goal.enter_parameter-requires-in-loop-i
enter_parameter-requires-in-loop-i c = c.loop-i.invariant.so_far.context

pub loop-i-preserved : goal.loop-i-preserved
loop-i-preserved c =
    entered_more c.args.state.now c.loop-i.state c.enter_parameter-in-loop-i.new.state c.args.context.now c.loop-i.context c.enter_parameter-in-loop-i.new.context c.args.place c.loop-i.i
    c.loop-i.made c.add.new.made c.loop-i.invariant c.in_ok-next.ensures.within
    (so_far_next c.args.state.now c.loop-i.state c.enter_parameter-in-loop-i.new.state c.args.context.now c.loop-i.context c.enter_parameter-in-loop-i.new.context c.args.place c.loop-i.i
    c.loop-i.made c.add.new.made c.in_ok-next.next c.in_ok-next.ty c.loop-i.invariant.so_far c.in_ok-next.ensures.context c.in_ok-next.ensures.entered c.in_ok-add.ensures)
