use Rattle.std.proofs.Common.{sym, ◌∙◌}
use Rattle.ty_core.specs.TypesOf.{head_of}
use Rattle.elab_worlds.proofs.Ordering.{next-ordered}
use Rattle.elab_worlds.proofs.ordered.is_next_ordered.Goals as goal

pub returns-then-head_ascends : goal.returns-then-head_ascends
returns-then-head_ascends c = λ t.
    next-ordered c.args.types.now c.args.k (head_of c.in-Apply.head.now) c.in-Apply.parts.now c.requires c.in-Apply.ensures.0 (sym c.head_ascends.ensures ∙ c.if-head_ascends.true)
    (c.are_below.ensures t)
