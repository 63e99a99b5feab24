use Rattle.std.proofs.Common.{sym, ◌∙◌}
use Rattle.std.proofs.lemmas.Option.{slice_get_within}
use Rattle.elab_types.proofs.Keeping.{entry-held}
use Rattle.elab_types.proofs.Making.{wrong-count, applied-is}
use Rattle.elab_types.proofs.annotation.instance_at.Goals as goal

pub returns-then-arguments-entry-clause-refused : goal.returns-then-arguments-entry-clause-refused
returns-then-arguments-entry-clause-refused c = λ f d r.
    wrong-count c.args.types.now c.args.scope.now c.args.name.now.qualifiers.items c.args.name.now.id c.args.arguments.now c.in-Some.entry (sym c.find.ensures ∙ c.in-Some.is) (λ q. c.if-arguments-entry.true q)

pub returns-clause-is : goal.returns-clause-is
returns-clause-is c =
    applied-is c.args.types.now c.instantiate.new.types c.args.scope.now c.args.name.now.qualifiers.items c.args.name.now.id c.args.arguments.now c.in-Some.entry c.in_ok-instantiate.field-0 c.requires.held
    (sym c.find.ensures ∙ c.in-Some.is) c.if-arguments-entry.false c.in_ok-instantiate.ensures.is

pub returns-clause-held : goal.returns-clause-held
returns-clause-held c = slice_get_within c.instantiate.new.types c.in_ok-instantiate.field-0 _ c.in_ok-instantiate.ensures.is

pub instantiate-requires-clause-body : goal.instantiate-requires-clause-body
instantiate-requires-clause-body c =
    entry-held c.args.types.now c.args.scope.now c.requires.held c.args.name.now.qualifiers.items c.args.name.now.id c.in-Some.entry (sym c.find.ensures ∙ c.in-Some.is)
