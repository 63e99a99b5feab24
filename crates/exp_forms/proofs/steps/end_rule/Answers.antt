use Rattle.std.proofs.Common.{subst}
use Rattle.use_elab.specs.Elaborated.{IsExp}
use Rattle.exp_forms.proofs.steps.end_rule.Goals as goal

pub returns-clause-added : goal.returns-clause-added
returns-clause-added c S M Q C rs p a e h i b x =
    c.in_ok-add_rule.ensures.added S M b.middle Q C rs p a e b.bound h i b.pat b.entered (subst (λ X. IsExp Q X e c.args.state.now c.args.exp) b.within x)
