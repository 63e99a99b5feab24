use Rattle.std.proofs.Common.{sym, ◌∙◌}
use Rattle.emit_code.proofs.Slots.{depth-found, depth-none}
use Rattle.emit_code.proofs.put.depth_of.Goals as goal

pub returns-in-Some : goal.returns-in-Some
returns-in-Some c = depth-found c.args.variable c.in-Some.depth c.args.slots.now (sym c.in-Some.is ∙ c.find.ensures)

pub returns-in-None : goal.returns-in-None
returns-in-None c = depth-none c.args.variable c.args.slots.now (sym c.in-None.is ∙ c.find.ensures)
