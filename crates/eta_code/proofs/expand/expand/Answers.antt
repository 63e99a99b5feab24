use Rattle.std.proofs.Common.{ap, ◌∙◌}
use Rattle.mono_bound.specs.Reads.{mono_of}
use Rattle.eta_expand.specs.Expand as clean
use Rattle.eta_parts.proofs.Alone.{if-ok}
use Rattle.eta_code.proofs.expand.expand.Goals as goal

pub returns : goal.returns
returns c =
    if-ok _ _ c.walk.result (λ made h strings. h strings ∙ ap (λ N. clean.expand c.args.types.now N c.args.first (mono_of c.args.types.now strings c.args.body.now)) c.new-names.ensures) c.walk.ensures.made
