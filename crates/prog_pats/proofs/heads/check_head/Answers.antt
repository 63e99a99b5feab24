use Rattle.std.proofs.Common.{sym, ap, ◌∙◌}
use Rattle.prog_pats.specs.Fits.{head_fits}
use Rattle.prog_pats.proofs.heads.check_head.Goals as goal

pub returns-in_ok-so-in-Constructor : goal.returns-in_ok-so-in-Constructor
returns-in_ok-so-in-Constructor c = c.in_ok-so-in-Constructor.ensures.decided ∙ ap (λ h. head_fits c.args.tables.now c.args.environment.now h c.args.argument c.args.ty) (sym c.in-Constructor.is)

pub returns-in-Reference : goal.returns-in-Reference
returns-in-Reference c = c.is_cell.ensures ∙ ap (λ h. head_fits c.args.tables.now c.args.environment.now h c.args.argument c.args.ty) (sym c.in-Reference.is)

pub returns-in-Exception : goal.returns-in-Exception
returns-in-Exception c = c.check_packet.ensures ∙ ap (λ h. head_fits c.args.tables.now c.args.environment.now h c.args.argument c.args.ty) (sym c.in-Exception.is)
