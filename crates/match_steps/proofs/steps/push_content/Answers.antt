use Rattle.std.proofs.Common.{ap}
use Rattle.ir_plain.specs.Tree.{content}
use Rattle.match_compile.specs.Compile.{atom, scoped}
use Rattle.plain_tree.specs.declared.tree.Operation.TheVariants.{Content}
use Rattle.match_types.specs.Views.{value_type}
use Rattle.match_steps.proofs.Pushed.{let-pushed}
use Rattle.match_steps.proofs.steps.push_content.Goals as goal

pub returns-clause-puts : goal.returns-clause-puts
returns-clause-puts c =
    let b = c.in_ok-binding.ensures.binds in
    let-pushed _ _ _ c.args.work.now.next c.args.u c.in_ok-binding.binding (Content c.in_ok-binding.binding.ty c.args.reference)
    (λ v. content (scoped v.scope (value_type v c.args.u)) (atom c.args.reference)) b c.in_ok-push.ensures.items (λ v s. ap (λ k. content k (atom c.args.reference)) (b.type v s))
