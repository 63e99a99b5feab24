use Rattle.std.proofs.Common.{refl, sym, subst}
use Rattle.sml_tree.specs.Derived as source
use Rattle.exp_forms.specs.Chains.{IsJoined}
use Rattle.exp_forms.proofs.Chains.{left_more}
use Rattle.exp_forms.proofs.chain.add_left.Goals as goal

pub returns : goal.returns
returns c S M a os o e h i =
    left_more S M c.args.state.now c.join.new.state c.args.context.now c.args.place a os o c.args.one c.in_ok-joined.joined c.args.chain.now _
    (subst (λ j. IsJoined c.args.state.now c.args.context.now (source.join j c.args.place) c.args.chain.now.ty c.args.one.ty c.in_ok-joined.joined.ty c.join.new.state c.in_ok-joined.joined)
    (sym e) c.in_ok-joined.ensures) refl refl c.in_ok-push.ensures.items h i
