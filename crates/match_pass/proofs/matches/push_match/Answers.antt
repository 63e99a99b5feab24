use Rattle.std.proofs.Common.{refl, ap, ◌∙◌}
use Rattle.general_bindings.specs.of_pattern_tests.Spots.{names_onto}
use Rattle.general_bindings.proofs.of_exp_blocks.Growing.{grows-equal}
use Rattle.match_pass.proofs.Functions.{matched}
use Rattle.match_pass.proofs.matches.push_match.Goals as goal

pub returns : goal.returns
returns c =
    let w1 = c.push_tests.new.work in
    let k = c.in_ok-push_tests.ensures in
    matched c.args.work.now w1 _ c.args.pat.now c.args.t c.args.value _ c.push_tests.new.found.items c.new-spots.ensures.items k.keeps k.next k.spots k.tests (grows-equal w1 _ refl refl refl refl refl refl) refl refl
    (c.in_ok-bind_spots.ensures ∙ ap (λ l. names_onto l w1.names) c.deref.ensures.value)
