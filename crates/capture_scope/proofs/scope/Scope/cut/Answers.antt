use Rattle.capture_scope.proofs.Finding.{cut-done}
use Rattle.capture_scope.proofs.scope.Scope.cut.Goals as goal

pub returns : goal.returns
returns c = cut-done c.args.self.now c.args.variables.now c.loop-left.left c.loop-left.pieces.items c.reverse.new.self.items c.loop-left-test.false c.reverse.ensures.items c.loop-left.invariant.cut_so_far
