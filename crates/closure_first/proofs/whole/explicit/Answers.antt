use Rattle.std.proofs.Common.{[], ap, ◌∙◌}
use Rattle.eta_expand.specs.Expand.{expand}
use Rattle.mono_bound.specs.Reads.{mono_of}
use Rattle.closure_bodies.proofs.of_closure_parts.Operating.{if-ok}
use Rattle.closure_first.proofs.whole.explicit.Goals as goal

pub returns : goal.returns
returns c =
    if-ok _ _ c.expand.result (λ made h strings. h strings ∙ ap (λ k. expand c.args.types.now [] k (mono_of c.args.types.now strings c.args.body.now)) (c.in_ok-first.ensures strings)) c.expand.ensures
