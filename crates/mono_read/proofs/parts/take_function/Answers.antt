use Rattle.std.proofs.Common.{refl}
use Rattle.mono_read.proofs.Stacked.{function-taken}
use Rattle.mono_read.proofs.parts.take_function.Goals as goal

pub returns-in-Function-clause-taken : goal.returns-in-Function-clause-taken
returns-in-Function-clause-taken c = λ types strings.
    function-taken types strings _ _ c.in_ok-parameters.field-0 c.in-Function.parameters c.in-Function.last c.in-Function.body (record { variable = c.args.head.variable; ty = c.args.head.ty; parameters = c.reverse.new.self; last = c.in-Function.last; body = c.in-Function.body }) (c.in_ok-parameters.ensures types strings) c.in-Function.is c.reverse.ensures.items refl refl
