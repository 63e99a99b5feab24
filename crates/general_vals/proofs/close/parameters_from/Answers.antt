use Rattle.std.proofs.Common.{◌≡◌, Some, false, ap, sym, ◌∙◌, arith}
use Rattle.elab_state.specs.States.{limit_in, made, said_in}
use Rattle.general_vals.proofs.Collecting.{none-yet, found-none}
use Rattle.general_vals.proofs.close.parameters_from.Goals as goal

pub loop-v-init : goal.loop-v-init
loop-v-init c = record {
  reached = omega arith;
  so_far = none-yet (said_in c.args.state.now) (limit_in c.args.state.now) c.args.level c.args.first c.args.first (omega arith) ∙ ap Some (sym c.new-parameters.ensures.items);
}

pub returns-then-not-may : goal.returns-then-not-may
returns-then-not-may c =
    let refused : c.in_ok-may.may ≡ false = cc in
    found-none (said_in c.args.state.now) (limit_in c.args.state.now) c.args.level c.args.first c.loop-v.v (made c.args.state.now) c.loop-v.parameters.items c.add_inner.new.parameters.items
    c.in_ok-may.may c.loop-v.invariant.reached
    (omega (arith, c.loop-v-test.true, c.len-v-end.ensures, c.args.state.now.solver.limits.ok.0, c.args.state.now.solver.each_has_one)) c.loop-v.invariant.so_far c.in_ok-may.ensures refused
