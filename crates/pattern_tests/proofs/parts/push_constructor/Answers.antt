use Rattle.std.proofs.Common.{refl}
use Rattle.pattern_tests.proofs.ByNode.{constructor-done}
use Rattle.pattern_tests.proofs.parts.push_constructor.Goals as goal

pub returns : goal.returns
returns c =
    let e = c.in_ok-push_test.ensures in constructor-done _ _ _ _ c.args.constructor c.args.u c.args.atom e.keeps refl e.next e.puts
