use Rattle.std.proofs.Common.{refl, sym, subst}
use Rattle.sml_tree.specs.Derived.{VidAt, join_pats}
use Rattle.pat_elab.specs.Chains.{IsJoined}
use Rattle.pat_elab.proofs.Chains.{left_more}
use Rattle.pat_elab.proofs.chain.add_left.Goals as goal

pub returns-clause-grows : goal.returns-clause-grows
returns-clause-grows c = c.in_ok-joined.ensures.grows

pub returns-clause-ty : goal.returns-clause-ty
returns-clause-ty c = c.in_ok-joined.ensures.whole_is

pub returns-clause-is : goal.returns-clause-is
returns-clause-is c S M whole a os o before mid after e h k =
    left_more S M c.args.state.now c.join.new.state c.args.context.now whole a os o before mid after c.args.one c.in_ok-joined.joined c.args.chain.now _
    (subst (λ (v : VidAt). IsJoined c.args.state.now c.args.context.now (join_pats v) c.args.chain.now.ty c.args.one.ty c.in_ok-joined.joined.ty c.join.new.state c.in_ok-joined.joined) (sym e) c.in_ok-joined.ensures)
    refl refl c.in_ok-push.ensures.items h k
