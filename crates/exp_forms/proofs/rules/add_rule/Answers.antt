use Rattle.std.proofs.Common.{refl}
use Rattle.exp_forms.proofs.JoiningRules.{rule_added}
use Rattle.exp_forms.proofs.rules.add_rule.Goals as goal

pub returns-clause-added : goal.returns-clause-added
returns-clause-added c S M P Q C rs p a e bs h num i n x =
    rule_added S M P Q c.args.state.now c.unify.new.state C rs p a e bs c.args.made.now _ c.args.pat c.args.exp _ h num i n x c.in_ok-unify.ensures.grows c.in_ok-unify.ensures.equal refl
    c.in_ok-push.ensures.items refl refl
