use Rattle.std.proofs.Common.{ap, ◌∙◌}
use Rattle.ir_plain.specs.Tree.{block}
use Rattle.plain_tree.specs.TreeOf.{tree_of}
use Rattle.plain_tree.specs.declared.tree.Step.TheVariants.{Block}
use Rattle.exp_steps.specs.of_match_types.Views.{reading}
use Rattle.exp_steps.proofs.Nodes.{step_of-Block}
use Rattle.exp_blocks.proofs.Holding.{bound-made}
use Rattle.exp_blocks.proofs.blocks.push_block.Goals as goal

pub returns : goal.returns
returns c = λ g gives.
    let b = c.in_ok-binding.ensures in
    let e = c.in_ok-body.body in
    bound-made _ _ _ _ c.args.t c.in_ok-binding.binding (Block c.in_ok-binding.binding e) (λ v. block (tree_of (reading v) e.value)) (λ v. block (g v)) b.keeps b.next b.binds c.in_ok-push.ensures.items
    (λ v. step_of-Block (reading v) c.in_ok-binding.binding e) (λ v s. ap block (ap (tree_of (reading v)) c.in_ok-body.ensures ∙ gives.gives v s))
