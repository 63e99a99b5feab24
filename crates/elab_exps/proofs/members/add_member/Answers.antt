use Rattle.std.proofs.Common.{refl}
use Rattle.elab_exps.proofs.Grouping.{member_added}
use Rattle.elab_exps.proofs.members.add_member.Goals as goal

pub returns-clause-added : goal.returns-clause-added
returns-clause-added c S N rs r hs first are is =
    member_added S N c.args.state.now c.add_function.new.state c.args.context.now rs r hs c.args.head.now first c.args.inside.now _ c.args.funs.now.items c.add_function.new.funs.items c.args.member
    are is c.in_ok-add_function.ensures.bound c.in_ok-add_function.ensures.flags refl c.in_ok-add_function.ensures.added
