use Rattle.std.proofs.Common.{◌≡◌, ◌+◌, Some, ap, ◌∙◌}
use Rattle.ir_mono.specs.Types.{constructor_at}
use Rattle.eta_parts.specs.Reads.{a_let}
use Rattle.eta_parts.proofs.Alone.{if-ok, use-becomes, constructor-becomes, reference-becomes, primitive-becomes, primitive-news}
use Rattle.eta_parts.proofs.value.expand_operation.Goals as goal

pub returns-then-takes-clause-made : goal.returns-then-takes-clause-made
returns-then-takes-clause-made c =
    if-ok _ _ c.exception_function.result
    (λ made h strings. h strings
    ∙ ap (a_let c.args.types.now strings c.args.binding)
    (use-becomes c.args.types.now strings c.args.names.now c.args.next.now c.args.binding.ty c.args.operation.now c.in-Use.variable c.in-Use.field-1 _ c.in-Use.is c.takes.ensures c.if-takes.true))
    c.exception_function.ensures.made

pub returns-in-Some-Some-clause-made : goal.returns-in-Some-Some-clause-made
returns-in-Some-Some-clause-made c =
    let a = c.constructor.ensures in
    let b = c.in-Some-Some.is in
    let d = c.in-Some-Some.field-0-is in
    let e = c.in-Some-Some.argument-is in
    let k : constructor_at c.args.types.now c.in-Constructor.ty c.in-Constructor.constructor ≡ Some (Some c.in-Some-Some.argument) = (cc) in
    if-ok _ _ c.constructing_function.result
    (λ made h strings. h c.args.types.now strings
    ∙ ap (a_let c.args.types.now strings c.args.binding)
    (constructor-becomes c.args.types.now strings c.args.names.now c.args.next.now c.args.binding.ty c.args.operation.now c.in-Constructor.constructor c.in-Constructor.ty c.in-Some-Some.argument c.in-Constructor.is k))
    c.constructing_function.ensures.made

pub returns-in-Reference-clause-made : goal.returns-in-Reference-clause-made
returns-in-Reference-clause-made c =
    if-ok _ _ c.referring_function.result
    (λ made h strings. h c.args.types.now strings
    ∙ ap (a_let c.args.types.now strings c.args.binding)
    (reference-becomes c.args.types.now strings c.args.names.now c.args.next.now c.args.binding.ty c.args.operation.now c.in-Reference.held c.given_at-reference.result c.in-Reference.is c.given_at-reference.ensures))
    c.referring_function.ensures.made

pub returns-in-Primitive-clause-made : goal.returns-in-Primitive-clause-made
returns-in-Primitive-clause-made c =
    if-ok _ _ c.primitive_function.result
    (λ made h strings. h strings c.args.names.now
    ∙ ap (a_let c.args.types.now strings c.args.binding)
    (primitive-becomes c.args.types.now strings c.args.names.now c.args.next.now c.args.binding.ty c.args.operation.now c.in-Primitive.primitive c.in-Primitive.ty c.in-Primitive.is))
    c.primitive_function.ensures.made

pub returns-in-Primitive-clause-news : goal.returns-in-Primitive-clause-news
returns-in-Primitive-clause-news c =
    if-ok _ _ c.primitive_function.result
    (λ made h strings. h c.args.names.now
    ∙ ap (λ k. c.args.next.now + k) (primitive-news c.args.types.now strings c.args.names.now c.args.next.now c.args.binding.ty c.args.operation.now c.in-Primitive.primitive c.in-Primitive.ty c.in-Primitive.is))
    c.primitive_function.ensures.news
