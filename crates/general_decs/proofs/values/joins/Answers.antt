use Rattle.std.proofs.Common.{sym, ap, ◌∙◌}
use Rattle.elab_typed.specs.Contexts.{generic}
use Rattle.general_decs.specs.Values.{joint_makes}
use Rattle.general_decs.proofs.values.joins.Goals as goal

pub returns-in-Infix : goal.returns-in-Infix
returns-in-Infix c W k A t = c.infix_makes.ensures W k A t ∙ ap (joint_makes (generic A).env) (sym c.in-Infix.is)
