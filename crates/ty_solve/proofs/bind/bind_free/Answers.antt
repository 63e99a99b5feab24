use Rattle.ty_table.specs.TypeAt.{type_at}
use Rattle.ty_solve.specs.SlotsOf.{entries}
use Rattle.ty_solve.proofs.Holding.{held-push}
use Rattle.ty_solve.proofs.Slots.{tasks-push}
use Rattle.std.proofs.Common.{length, ap, ◌∙◌}
use Rattle.ty_solve.proofs.Holding.{held-push}
use Rattle.std.proofs.Common.{◌∙◌, ap}
use Rattle.ty_table.specs.TypeAt.{type_at}
use Rattle.ty_solve.specs.SlotsOf.{entries}
use Rattle.ty_solve.proofs.Slots.{entries-set, tasks-push}
use Rattle.ty_solve.proofs.Changing.{bind-changed}
use Rattle.ty_solve.proofs.bind.bind_free.Goals as goal

pub returns-clause-held : goal.returns-clause-held
returns-clause-held c = λ h. held-push (length c.args.s.now.types) _ _ _ c.in_ok-push.ensures.items h c.requires.held

pub returns-clause-changes : goal.returns-clause-changes
returns-clause-changes c = bind-changed (entries c.args.s.now.types c.args.s.now.slots.items) _ _ _ c.args.v (type_at c.args.s.now.types c.args.t) _ c.args.s.now.inhabited c.requires.is_free c.requires.binds c.mark_of-mark.ensures (ap (entries c.args.s.now.types) c.in_ok-write.ensures.written ∙ entries-set c.args.s.now.types c.args.s.now.slots.items c.args.v _) (tasks-push c.args.s.now.types _ _ _ c.in_ok-push.ensures.items)
