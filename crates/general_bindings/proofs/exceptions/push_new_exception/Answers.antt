use Rattle.std.proofs.Common.{◌∷◌, refl, ap₂, ◌∙◌}
use Rattle.pattern_tests.proofs.of_match_types.Seeing.{keeps-on}
use Rattle.exp_blocks.proofs.Growing.{grows-on, grows-by, grows-equal}
use Rattle.general_bindings.proofs.Recording.{exception-puts}
use Rattle.general_bindings.proofs.exceptions.push_new_exception.Goals as goal

pub returns-clause-grows : goal.returns-clause-grows
returns-clause-grows c =
    grows-on _ _ _ (grows-by _ _ (keeps-on _ _ _ c.in_ok-argument.ensures.keeps c.in_ok-variable.ensures.keeps)) (grows-equal c.fresh.new.work _ refl refl refl refl refl refl)

pub returns-clause-scope : goal.returns-clause-scope
returns-clause-scope c = c.in_ok-variable.ensures.keeps.scope ∙ c.in_ok-argument.ensures.keeps.scope

pub returns-clause-names : goal.returns-clause-names
returns-clause-names c =
    let a = c.in_ok-argument.ensures in
    let f = c.in_ok-variable.ensures in
    c.in_ok-bind.ensures ∙ ap₂ (λ n l. (c.args.x, n) ∷ l) (f.is ∙ a.next) (f.keeps.names ∙ a.keeps.names)

pub returns-clause-puts : goal.returns-clause-puts
returns-clause-puts c =
    let a = c.in_ok-argument.ensures in
    let f = c.in_ok-variable.ensures in
    exception-puts c.args.work.now c.args.identifier c.args.argument c.in_ok-argument.argument a.is a.next f.is f.keeps (grows-equal c.fresh.new.work _ refl refl refl refl refl refl) refl c.in_ok-push.ensures.items
