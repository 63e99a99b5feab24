use Rattle.std.proofs.Common.{◌≤◌, ◌≡◌, true, subst}
use Rattle.ty_table.specs.TypeAt.{type_at}
use Rattle.elab_steps.specs.Ordered.{is_ordered}
use Rattle.elab_worlds.proofs.Ordering.{one-more, table-ordered}
use Rattle.elab_worlds.proofs.ordered.are_types_ordered.Goals as goal

pub loop-k-preserved : goal.loop-k-preserved
loop-k-preserved c = one-more (λ j. is_ordered (type_at c.args.types.now j) ≡ true) c.loop-k.k c.loop-k.invariant (c.is_next_ordered.ensures c.if-not-is_next_ordered.false)

pub returns : goal.returns
returns c = λ t. table-ordered c.args.types.now c.loop-k.k (subst (λ n. n ≤ c.loop-k.k) c.len-k-end.ensures.is c.loop-k-test.false) c.loop-k.invariant
