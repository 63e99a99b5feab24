use Rattle.std.proofs.Common.{ap, subst, ◌∙◌}
use Rattle.prog_tree.specs.TreeOf.{pat_of}
use Rattle.match_compile.specs.Compile.{no_spots, spots}
use Rattle.match_steps.specs.of_match_types.Views.{value_type}
use Rattle.match_steps.specs.Steps.{Puts}
use Rattle.pattern_tests.specs.Spots.{spots_onto}
use Rattle.pattern_tests.specs.Tasks.{tests_of}
use Rattle.pattern_tests.proofs.patterns.push_tests.Goals as goal

pub returns-clause-next : goal.returns-clause-next
returns-clause-next c = c.in_ok-push_pat.ensures.next

pub returns-clause-keeps : goal.returns-clause-keeps
returns-clause-keeps c = c.in_ok-push_pat.ensures.keeps

pub returns-clause-spots : goal.returns-clause-spots
returns-clause-spots c = λ v.
    c.in_ok-push_pat.ensures.found v
    ∙ ap (λ l. spots (pat_of v.source c.args.pat.now) (value_type v c.args.u) c.args.work.now.next c.args.atom (spots_onto v l.items no_spots)) c.replace-2.ensures.value

pub returns-clause-tests : goal.returns-clause-tests
returns-clause-tests c =
    subst (λ l. Puts c.push_pat.new.work l.items c.push_pat.new.made.steps.items (tests_of c.args.pat.now c.args.u c.args.work.now.next c.args.atom)) c.replace.ensures.value c.in_ok-push_pat.ensures.leads
