use Rattle.std.proofs.Common.{ap, ap₂, ◌∙◌}
use Rattle.ty_basis.specs.Types.{function_type, pair_type, list_type}
use Rattle.std.proofs.lemmas.Option.{slice_get_within}
use Rattle.initial_types.proofs.Making.{held-since, is-since, is-at, made-by}
use Rattle.initial_types.proofs.schemes.cons_in.Goals as goal

pub pair-requires-clause-first : goal.pair-requires-clause-first
pair-requires-clause-first c = held-since _ _ _ _ c.in_ok-parameter.ensures.held c.in_ok-list.ensures.earlier_stay

pub function-requires-clause-from : goal.function-requires-clause-from
function-requires-clause-from c = slice_get_within _ _ _ c.in_ok-both.ensures.is

pub function-requires-clause-to : goal.function-requires-clause-to
function-requires-clause-to c = held-since _ _ _ _ c.in_ok-list.ensures.is c.in_ok-both.ensures.earlier_stay

pub returns-clause-is : goal.returns-clause-is
returns-clause-is c =
    let lists = ap list_type (is-at c.variable.new.self c.in_ok-parameter.parameter _ c.in_ok-parameter.ensures.held) in
    made-by c.function.result c.function.new.types _ _
    (ap₂ function_type
    (is-at c.pair.new.types c.in_ok-both.both _ c.in_ok-both.ensures.is
    ∙ ap₂ pair_type (is-since _ _ _ _ c.in_ok-parameter.ensures.held c.in_ok-list.ensures.earlier_stay) (is-at c.applied.new.types c.in_ok-list.list _ c.in_ok-list.ensures.is ∙ lists))
    (is-since _ _ _ _ c.in_ok-list.ensures.is c.in_ok-both.ensures.earlier_stay ∙ lists))
    c.function.ensures.is
