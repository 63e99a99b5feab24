use Rattle.std.proofs.Common.{Some, None}
use Rattle.general_bindings.proofs.Recording.{made-as}
use Rattle.general_bindings.proofs.bindings.push_shaped.Goals as goal

pub returns-in_ok-push_alone-in-Some-clause-puts : goal.returns-in_ok-push_alone-in-Some-clause-puts
returns-in_ok-push_alone-in-Some-clause-puts c = λ f inner.
    made-as c.args.sole (Some c.in-Some.x) c.args.parameters c.args.pat.now c.args.u c.args.work.now.next c.args.value f c.in-Some.is (c.in_ok-push_alone-in-Some.ensures.puts f inner)

pub returns-in_ok-push_recorded-in-None-clause-puts : goal.returns-in_ok-push_recorded-in-None-clause-puts
returns-in_ok-push_recorded-in-None-clause-puts c = λ f inner.
    made-as c.args.sole None c.args.parameters c.args.pat.now c.args.u c.args.work.now.next c.args.value f c.in-None.is (c.in_ok-push_recorded-in-None.ensures.puts f inner)
