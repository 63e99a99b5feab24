use Rattle.ty_table.specs.TypeAt.{type_at}
use Rattle.tests_check.proofs.atom.is_atom.Goals as goal

pub returns-in-Some : goal.returns-in-Some
returns-in-Some c = (
  (λ y. (c.in-Some.ensures (type_at c.args.tables.now.types c.args.ty)).1 (c.same_type.ensures.0 y)),
  (λ p. c.same_type.ensures.1 ((c.in-Some.ensures (type_at c.args.tables.now.types c.args.ty)).0 p)),
)
