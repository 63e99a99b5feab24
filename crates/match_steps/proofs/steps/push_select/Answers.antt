use Rattle.std.proofs.Common.{ap, subst}
use Rattle.ir_plain.specs.Tree.{select}
use Rattle.match_compile.specs.Compile.{atom, scoped}
use Rattle.plain_tree.specs.declared.tree.Operation.TheVariants.{Select}
use Rattle.match_types.specs.Views.{value_type, Binds}
use Rattle.match_types.proofs.Seeing.{sees-before}
use Rattle.match_steps.proofs.Pushed.{let-pushed}
use Rattle.match_steps.proofs.steps.push_select.Goals as goal

pub returns-clause-puts : goal.returns-clause-puts
returns-clause-puts c =
    let-pushed _ _ _ c.args.work.now.next c.args.u c.in_ok-binding.binding (Select c.in_ok-ty.ty c.args.label c.args.atom)
    (λ v. select (scoped v.scope (value_type v c.args.t)) c.args.label (atom c.args.atom))
    (subst (λ n. Binds c.new_binding.new.work n c.args.u c.in_ok-binding.binding) c.in_ok-ty.ensures.next c.in_ok-binding.ensures.binds) c.in_ok-push.ensures.items
    (λ v s. ap (λ k. select k c.args.label (atom c.args.atom)) (c.in_ok-ty.ensures.is v (sees-before _ _ v c.in_ok-binding.ensures.keeps s)))
