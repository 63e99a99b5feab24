use Rattle.std.proofs.Common.{[], get_or, ap, ◌∙◌}
use Rattle.closure_bodies.specs.of_capture_table.Told.{first_parameter}
use Rattle.closure_bodies.proofs.of_capture_table.Curried.{curried-parts}
use Rattle.closure_bodies.proofs.of_closure_parts.Operating.{if-ok}
use Rattle.closure_first.proofs.Walking.{empty-is, heads-one, heads-more}
use Rattle.closure_first.proofs.codes.push_heads.Goals as goal

pub returns-then-is_empty-clause-scope : goal.returns-then-is_empty-clause-scope
returns-then-is_empty-clause-scope c = c.push_taking.ensures.scope

pub returns-then-is_empty-clause-codes : goal.returns-then-is_empty-clause-codes
returns-then-is_empty-clause-codes c =
    if-ok _ _ c.push_taking.result
    (λ u p strings n F T h g ms k.
    heads-one n c.args.types.now strings F T c.args.first g ms c.args.parameters.now c.args.last c.args.body.now c.args.found.now.items c.push_taking.new.found.items
    (empty-is n c.args.types.now strings F T c.args.parameters.now c.is_empty.result c.is_empty.ensures c.if-is_empty.true) (p strings n F T h g ms k))
    c.push_taking.ensures.codes

pub returns-clause-scope : goal.returns-clause-scope
returns-clause-scope c = if-ok _ _ c.push_taking-2.result (λ u p. c.in_ok-push_giving.ensures.scope) c.push_taking-2.ensures.scope

pub returns-clause-codes : goal.returns-clause-codes
returns-clause-codes c =
    let a = curried-parts c.args.parameters.now c.rest_of-rest.result.now c.args.last c.is_empty.result c.is_empty.ensures c.if-is_empty.false c.rest_of-rest.ensures in
    if-ok _ _ c.push_taking-2.result
    (λ u p strings n F T h g ms k.
    heads-more n c.args.types.now strings F T c.args.first g ms c.args.parameters.now c.rest_of-rest.result.now (get_or c.args.parameters.now 0 c.args.last) c.args.last c.args.body.now
    c.number_of-parameter.result c.number_of-next.result c.args.found.now.items c.push_giving.new.found.items c.push_curried.new.found.items c.push_taking-2.new.found.items a
    (c.number_of-parameter.ensures ∙ ap (λ l. first_parameter l c.args.last) a) c.number_of-next.ensures (c.in_ok-push_giving.ensures.codes c.args.types.now strings n F T h g ms k)
    (c.in_ok-push_curried.ensures c.args.types.now strings n F T h) (p strings n F T h c.args.last.variable [] (c.in_ok-own.ensures c.args.types.now strings n F T h)))
    c.push_taking-2.ensures.codes
