use Rattle.std.proofs.Common.{refl}
use Rattle.pattern_tests.specs.Tasks.{finished, pat_task}
use Rattle.pattern_tests.specs.Parts.{variable_pattern, as_pattern}
use Rattle.pattern_tests.proofs.Doing.{done-by-spot}
use Rattle.pattern_tests.proofs.parts.push_spot.Goals as goal

pub returns-clause-variable : goal.returns-clause-variable
returns-clause-variable c = λ w. done-by-spot w _ _ (pat_task (variable_pattern c.args.x) c.args.u c.args.atom) finished
    (record { variable = c.args.x; number = c.args.atom; ty = c.args.u }) c.in_ok-push.ensures.items refl (λ v n. refl) (λ v n us. refl) (λ v n rest. refl)

pub returns-clause-alias : goal.returns-clause-alias
returns-clause-alias c = λ w p. done-by-spot w _ _ (pat_task (as_pattern c.args.x p) c.args.u c.args.atom) (pat_task p c.args.u c.args.atom)
    (record { variable = c.args.x; number = c.args.atom; ty = c.args.u }) c.in_ok-push.ensures.items refl (λ v n. refl) (λ v n us. refl) (λ v n rest. refl)
