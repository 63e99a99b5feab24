use Rattle.std.proofs.Common.{◌∙◌}
use Rattle.match_pass.proofs.choices.push_handled.Goals as goal

pub returns : goal.returns
returns c = λ g h e r. c.in_ok-a.ensures g h (record { gives = λ v sees. c.in_ok-body.ensures v ∙ e v sees }) r
