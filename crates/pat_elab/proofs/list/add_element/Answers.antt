use Rattle.pat_elab.proofs.ListsDo.{one_added}
use Rattle.pat_elab.proofs.list.add_element.Goals as goal

pub returns : goal.returns
returns c S M before mid after as_ a h k =
    one_added S M c.args.state.now c.unify.new.state c.args.context.now c.args.listed before mid after as_ a c.args.one c.args.parts.now.items _ c.in_ok-unify.ensures.grows c.in_ok-unify.ensures.equal c.in_ok-unify.ensures.next
    c.in_ok-push.ensures.items h k
