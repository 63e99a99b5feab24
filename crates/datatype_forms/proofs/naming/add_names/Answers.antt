use Rattle.std.proofs.Common.{◌≡◌, ◌+◌, subst, ap, arith}
use Rattle.elab_context.specs.declared.context.Context.{Context}
use Rattle.datatype_forms.specs.Steps.{AreNamed}
use Rattle.datatype_forms.proofs.Stepping.{more_named, none_named}
use Rattle.datatype_forms.proofs.naming.add_names.Goals as goal

pub loop-made-init : goal.loop-made-init
loop-made-init c = record { named = none_named c.args.state.now c.args.context.now c.requires.among; most = omega arith }

pub add_name-requires-clause-wide : goal.add_name-requires-clause-wide
add_name-requires-clause-wide c =
    let e : c.loop-made.context.names ≡ c.args.context.now.names + c.loop-made.made = ap (λ (z : Context). z.names) c.loop-made.invariant.named.same in
    let w = c.requires.wide in
    omega (arith, e, w)

pub add_name-requires-clause-among : goal.add_name-requires-clause-among
add_name-requires-clause-among c = c.loop-made.invariant.named.among

pub loop-made-preserved : goal.loop-made-preserved
loop-made-preserved c = record {
  named = more_named c.args.state.now c.loop-made.state c.add_name.new.state c.args.context.now c.loop-made.context c.add_name.new.context c.loop-made.made _ c.loop-made.invariant.named c.in_ok-add_name.ensures (omega arith);
  most = omega (arith, c.loop-made-test.true);
}

pub returns : goal.returns
returns c =
    let most = c.loop-made.invariant.most in
    let e : c.loop-made.made ≡ c.args.count = omega (arith, c.loop-made-test.false, most) in
    subst (λ n. AreNamed c.args.state.now c.args.context.now n c.loop-made.state c.loop-made.context) e c.loop-made.invariant.named
