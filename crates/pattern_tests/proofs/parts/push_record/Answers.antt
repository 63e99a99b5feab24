use Rattle.std.proofs.Common.{refl}
use Rattle.pattern_tests.proofs.ByNode.{record-done}
use Rattle.pattern_tests.proofs.parts.push_record.Goals as goal

pub returns : goal.returns
returns c = let e = c.in_ok-push_test.ensures in record-done _ _ _ _ c.args.size c.args.u c.args.atom e.keeps refl e.next e.puts
