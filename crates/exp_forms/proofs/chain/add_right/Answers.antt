use Rattle.std.proofs.Common.{refl, sym, subst}
use Rattle.sml_tree.specs.Derived as source
use Rattle.exp_forms.specs.Chains.{IsJoined}
use Rattle.exp_forms.proofs.Chains.{right_more}
use Rattle.exp_forms.proofs.chain.add_right.Goals as goal

pub returns : goal.returns
returns c S M whole a os o e p h i =
    right_more S M c.args.state.now c.join_new.new.state c.args.context.now whole a os o c.args.one c.in_ok-joined.joined c.in_ok-joined.hole c.args.chain.now _
    (subst (λ j. IsJoined c.args.state.now c.args.context.now (source.join j c.args.chain.now.place) c.args.chain.now.last c.in_ok-joined.hole c.args.chain.now.hole c.join_new.new.state c.in_ok-joined.joined)
    (sym e) c.in_ok-joined.ensures) refl (sym p) refl refl refl c.in_ok-push.ensures.items h i
