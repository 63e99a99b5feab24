use Rattle.exp_forms.proofs.Listing.{one_added}
use Rattle.exp_forms.proofs.list.add_element.Goals as goal

pub returns : goal.returns
returns c S M C es e h i =
    one_added S M c.args.state.now c.unify.new.state C c.args.listed es e c.args.element c.in_ok-operator.operator c.args.parts.now.items _ c.in_ok-unify.ensures.grows c.in_ok-unify.ensures.equal
    c.in_ok-operator.ensures c.in_ok-push.ensures.items h i
