use Rattle.std.proofs.Common.{ap, ◌∙◌}
use Rattle.closure_convert.specs.Scope.{Scope}
use Rattle.closure_first.proofs.functions.group_scope.Goals as goal

pub returns : goal.returns
returns c = λ types strings n F T h.
    (ap (λ (s : Scope). s.captured) c.in_ok-scope.ensures.ok ∙ c.captured-captured.ensures ∙ h.captured c.args.leader, ap (λ (s : Scope). s.group) c.in_ok-scope.ensures.ok)
