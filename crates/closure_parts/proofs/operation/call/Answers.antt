use Rattle.std.proofs.Common.{◌∙◌}
use Rattle.closure_parts.proofs.Operating.{call-known, call-one-of}
use Rattle.closure_parts.proofs.operation.call.Goals as goal

pub returns-in_ok-operands-in-Some : goal.returns-in_ok-operands-in-Some
returns-in_ok-operands-in-Some c = λ types strings n F T h.
    call-known n c.args.setting.now.flow F h.flow c.args.place c.args.function c.args.argument c.number-set.result c.number-set.ensures c.in-Some.sole c.sole.result c.in-Some.is c.sole.ensures c.in_ok-known-in-Some.known (c.in_ok-known-in-Some.ensures ∙ h.functions c.in-Some.sole)
    c.in_ok-operands-in-Some.operands.items c.in_ok-closure.closure c.in_ok-argument.argument c.in_ok-operands-in-Some.ensures c.in_ok-closure.ensures c.in_ok-argument.ensures

pub returns-in_ok-operands-in-None : goal.returns-in_ok-operands-in-None
returns-in_ok-operands-in-None c = λ types strings n F T h.
    call-one-of n c.args.setting.now.flow F h.flow c.args.place c.args.function c.args.argument c.number-set.result c.number-set.ensures c.sole.result c.in-None.is c.sole.ensures c.in_ok-operands-in-None.operands.items c.in_ok-closure.closure c.in_ok-argument.argument
    c.in_ok-operands-in-None.ensures c.in_ok-closure.ensures c.in_ok-argument.ensures
