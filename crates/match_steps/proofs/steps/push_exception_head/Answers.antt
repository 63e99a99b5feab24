use Rattle.std.proofs.Common.{refl}
use Rattle.prog_tree.specs.declared.tree.Head.TheVariants.{Exception}
use Rattle.match_steps.proofs.Heads.{exception-headed}
use Rattle.match_steps.proofs.steps.push_exception_head.Goals as goal

pub returns-clause-puts : goal.returns-clause-puts
returns-clause-puts c =
    let e = c.in_ok-exception.ensures in
    let x = c.in_ok-argument.ensures in
    let p = c.in_ok-push_test.ensures in
    exception-headed _ _ _ _ _ _ (Exception c.args.named) c.args.named c.args.u c.args.t c.args.work.now.next c.args.atom c.in_ok-exception.exception c.in_ok-argument.argument refl e.is e.next e.puts x.variable x.ty x.keeps p.keeps
    p.puts
