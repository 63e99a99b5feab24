use Rattle.std.proofs.Common.{◌↔◌, IsTrue, subst}
use Rattle.ir_poly.specs.ProgOnce.{IsOnce}
use Rattle.prog_tree.specs.Readings.{reading}
use Rattle.prog_tree.specs.TreeOf.{body_of}
use Rattle.ir_prog.proofs.program.Program.binds_once.Goals as goal

pub returns : goal.returns
returns c =
    subst (λ ds. IsTrue c.in_ok-once.once ↔ IsOnce (body_of (reading c.args.self.now.tables) ds)) c.deref.ensures.value
    (c.in_ok-once.ensures (reading c.args.self.now.tables))
