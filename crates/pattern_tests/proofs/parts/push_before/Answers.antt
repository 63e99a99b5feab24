use Rattle.std.proofs.Common.{refl}
use Rattle.pattern_tests.proofs.ByNode.{before-done}
use Rattle.pattern_tests.proofs.parts.push_before.Goals as goal

pub returns : goal.returns
returns c = let e = c.in_ok-a.ensures in before-done _ _ _ _ c.args.head c.args.w c.args.u c.args.atom c.in_ok-a.a e.keeps refl e.is e.next e.puts
