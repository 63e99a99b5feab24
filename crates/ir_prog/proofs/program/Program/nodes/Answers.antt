use Rattle.std.proofs.Common.{◌-◌, ◌^◌, min, ap, ◌∙◌}
use Rattle.ir_poly.specs.ProgWeight.{decs_weight}
use Rattle.prog_tree.specs.Readings.{reading}
use Rattle.prog_tree.specs.TreeOf.{body_of}
use Rattle.ir_prog.proofs.program.Program.nodes.Goals as goal

pub returns : goal.returns
returns c = c.nodes.ensures ∙ ap (λ ds. min (decs_weight (body_of (reading c.args.self.now.tables) ds)) (2 ^ 64 - 1)) c.deref.ensures.value
