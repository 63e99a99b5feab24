use Rattle.std.proofs.Common.{subst}
use Rattle.use_elab.specs.Elaborated.{IsExp}
use Rattle.pat_elab.proofs.of_elab_steps.Changing.{if-ok}
use Rattle.exp_forms.proofs.Choosing.{choices-are}
use Rattle.exp_forms.proofs.choices.choices.Goals as goal

pub returns : goal.returns
returns c =
    if-ok c.tests.result (λ r k. λ S M p q a e os es j h i. subst (λ z. IsExp S c.args.context.now z c.tests.new.state r) (choices-are j) (k S M es e h i)) c.tests.ensures
