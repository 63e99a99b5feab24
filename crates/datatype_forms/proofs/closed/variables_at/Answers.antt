use Rattle.std.proofs.Common.{◌≡◌, ap, arith, ◌∙◌}
use Rattle.ty_core.specs.Statics.{variables}
use Rattle.datatype_forms.proofs.Variables.{none_counted, one_counted}
use Rattle.datatype_forms.proofs.closed.variables_at.Goals as goal

pub loop-i-init : goal.loop-i-init
loop-i-init c = record { counted = none_counted c.args.types.now _ c.new-numbers.ensures.items; most = omega arith }

pub loop-i-preserved : goal.loop-i-preserved
loop-i-preserved c = record {
  counted =
      one_counted c.args.types.now c.loop-i.types c.variable.new.self c.loop-i.i _ c.loop-i.numbers.items c.push.new.self.items c.in_ok-number.number c.loop-i.invariant.counted (omega arith) c.variable.ensures.earlier_stay
      c.in_ok-number.ensures.held c.in_ok-push.ensures.items;
  most = omega (arith, c.loop-i-test.true);
}

pub returns-clause-are : goal.returns-clause-are
returns-clause-are c =
    let most = c.loop-i.invariant.most in
    let e : c.loop-i.i ≡ c.args.count = omega (arith, c.loop-i-test.false, most) in
    c.loop-i.invariant.counted.are ∙ ap (variables 0) e

pub returns-clause-held : goal.returns-clause-held
returns-clause-held c = c.loop-i.invariant.counted.held
