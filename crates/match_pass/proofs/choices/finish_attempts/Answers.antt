use Rattle.std.proofs.Common.{ap, map, ◌∙◌}
use Rattle.plain_tree.specs.TreeOf.{tree_of, firsts}
use Rattle.general_bindings.specs.of_match_types.Views.{reading}
use Rattle.match_pass.proofs.choices.finish_attempts.Goals as goal

pub returns-clause-gives : goal.returns-clause-gives
returns-clause-gives c = record { gives = λ v sees. c.in_ok-made.ensures v ∙ ap (firsts (map (tree_of (reading v)) c.args.attempts.items)) (c.in_ok-last.ensures.gives.gives v sees) }
