use Rattle.std.proofs.Common.{[], ◌∷◌, ◌++◌, sym, ap, ◌∙◌}
use Rattle.match_names.specs.Bindings.{names_of}
use Rattle.match_compile.specs.Compile.{excepted}
use Rattle.plain_tree.specs.declared.tree.Step.TheVariants.{Name}
use Rattle.prog_tree.specs.TreeOf.{exc_of}
use Rattle.match_steps.proofs.Pushed.{name-pushed}
use Rattle.match_steps.proofs.steps.push_name.Goals as goal

pub returns-clause-puts : goal.returns-clause-puts
returns-clause-puts c =
    name-pushed _ _ _ c.args.work.now.next c.exception_in-named.result c.args.exception
    (c.in_ok-push.ensures.items ∙ ap (λ n. c.args.steps.now.items ++ Name n c.exception_in-named.result ∷ []) c.in_ok-n.ensures.is)
    (λ v. c.exception_in-named.ensures v ∙ ap (λ l. excepted (names_of l) (exc_of c.args.exception)) (sym c.in_ok-n.ensures.keeps.names))
