use Rattle.std.proofs.Common.{ap, ◌∙◌}
use Rattle.prog_tree.specs.TreeOf.{pat_of}
use Rattle.match_compile.specs.Compile.{no_spots, spots}
use Rattle.pattern_tests.specs.of_match_types.Views.{value_type}
use Rattle.pattern_tests.specs.Spots.{spots_onto}
use Rattle.general_bindings.specs.General.{spots_of}
use Rattle.general_bindings.proofs.Rows.{of-reversed}
use Rattle.general_bindings.proofs.bindings.push_found.Goals as goal

pub returns-clause-spots : goal.returns-clause-spots
returns-clause-spots c = λ v.
    ap (spots_of v) c.reverse.ensures.items ∙ of-reversed v c.push_tests.new.found.items ∙ c.in_ok-push_tests.ensures.spots v
    ∙ ap (λ l. spots (pat_of v.source c.args.pat.now) (value_type v c.args.u) c.args.work.now.next c.args.value (spots_onto v l no_spots)) c.new-found.ensures.items
