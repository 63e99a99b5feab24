use Rattle.std.proofs.Common.{refl}
use Rattle.pattern_tests.proofs.ByNode.{exception-done}
use Rattle.pattern_tests.proofs.parts.push_exception.Goals as goal

pub returns : goal.returns
returns c =
    let d = c.in_ok-name.ensures in let e = c.in_ok-push_test.ensures in
    exception-done _ _ _ _ (record c.args.made.now { steps = c.push_name.new.steps }) _ c.args.exception c.in_ok-name.name c.args.u c.args.atom d.keeps e.keeps refl d.is d.next e.next d.puts e.puts
