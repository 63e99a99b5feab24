use Rattle.std.proofs.Common.{sym, ◌∙◌}
use Rattle.match_pass.proofs.Making.{direct-length, direct-fits, one-rule}
use Rattle.match_pass.proofs.shapes.is_direct.Goals as goal

pub returns-then-rules-ne1-clause-is : goal.returns-then-rules-ne1-clause-is
returns-then-rules-ne1-clause-is c = λ R. sym (direct-length R c.args.rules.now c.if-rules-ne1.true)

pub returns-clause-is : goal.returns-clause-is
returns-clause-is c = λ R. c.fits_all.ensures R ∙ direct-fits R c.args.rules.now c.index-rules-0.result (one-rule c.args.rules.now c.index-rules-0.result c.if-rules-ne1.false c.index-rules-0.is)
