use Rattle.std.proofs.Common.{ap, ◌∙◌}
use Rattle.ir_plain.specs.Tree.{fn}
use Rattle.plain_tree.specs.TreeOf.{tree_of, fun_of}
use Rattle.plain_tree.specs.declared.tree.Step.TheVariants.{Fn}
use Rattle.exp_steps.specs.of_match_types.Views.{reading}
use Rattle.exp_steps.specs.of_match_types.declared.work.ValueType.TheVariants.{Source}
use Rattle.exp_steps.proofs.Nodes.{step_of-Fn}
use Rattle.exp_blocks.proofs.Holding.{bound-made}
use Rattle.exp_blocks.proofs.blocks.push_lambda.Goals as goal

pub returns : goal.returns
returns c = λ g gives.
    let b = c.in_ok-binding.ensures in
    let e = c.in_ok-body.body in
    let l = c.args.lambda in
    bound-made _ _ _ _ (Source c.args.u) c.in_ok-binding.binding (Fn c.in_ok-binding.binding l.parameters l.last e) (λ v. fn (fun_of (reading v) l.parameters.items l.last (tree_of (reading v) e.value))) (λ v. fn (g v)) b.keeps b.next
    b.binds c.in_ok-push.ensures.items (λ v. step_of-Fn (reading v) c.in_ok-binding.binding l.parameters l.last e)
    (λ v s. ap (λ d. fn (fun_of (reading v) l.parameters.items l.last (tree_of (reading v) d))) c.in_ok-body.ensures ∙ ap fn (gives.gives v s))
