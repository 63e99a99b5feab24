use Rattle.std.proofs.Common.{refl}
use Rattle.pattern_tests.proofs.ByNode.{component-done}
use Rattle.pattern_tests.proofs.parts.push_component.Goals as goal

pub returns : goal.returns
returns c =
    let e = c.in_ok-a.ensures in component-done _ _ _ _ c.args.label c.args.u c.args.atom c.args.w c.in_ok-a.a e.keeps refl e.is e.next e.puts
