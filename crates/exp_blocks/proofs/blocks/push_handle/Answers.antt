use Rattle.std.proofs.Common.{ap, ap₂, ◌∙◌}
use Rattle.ir_plain.specs.Tree.{handle}
use Rattle.plain_tree.specs.TreeOf.{tree_of}
use Rattle.plain_tree.specs.declared.tree.Step.TheVariants.{Handle}
use Rattle.exp_steps.specs.of_match_types.Views.{reading}
use Rattle.exp_steps.specs.of_match_types.declared.work.ValueType.TheVariants.{Source}
use Rattle.exp_steps.proofs.Nodes.{step_of-Handle}
use Rattle.exp_blocks.proofs.Holding.{bound-made}
use Rattle.exp_blocks.proofs.blocks.push_handle.Goals as goal

pub returns : goal.returns
returns c = λ g h gives handles.
    let b = c.in_ok-binding.ensures in
    let d = c.in_ok-body.body in
    let e = c.in_ok-handler.handler in
    bound-made _ _ _ _ (Source c.args.u) c.in_ok-binding.binding (Handle c.in_ok-binding.binding d c.args.packet e) (λ v. handle (tree_of (reading v) d.value) c.args.packet (tree_of (reading v) e.value))
    (λ v. handle (g v) c.args.packet (h v)) b.keeps b.next b.binds c.in_ok-push.ensures.items (λ v. step_of-Handle (reading v) c.in_ok-binding.binding d c.args.packet e)
    (λ v s. ap₂ (λ x y. handle x c.args.packet y) (ap (tree_of (reading v)) c.in_ok-body.ensures ∙ gives.gives v s) (ap (tree_of (reading v)) c.in_ok-handler.ensures ∙ handles.gives v s))
