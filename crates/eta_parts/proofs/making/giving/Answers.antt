use Rattle.std.proofs.Common.{◌∙◌}
use Rattle.eta_parts.proofs.Alone.{if-ok, given-after}
use Rattle.eta_parts.proofs.making.giving.Goals as goal

pub returns : goal.returns
returns c = if-ok _ _ c.ended.result (λ made h types strings. h types strings ∙ given-after types strings c.args.steps.items c.push.new.self.items c.args.given c.args.operation c.in_ok-push.ensures.items) c.ended.ensures
