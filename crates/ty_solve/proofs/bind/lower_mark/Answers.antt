use Rattle.std.proofs.Common.{◌∙◌, subst, sym, ap}
use Rattle.ty_solve.specs.SlotsOf.{entries}
use Rattle.ty_solve.specs.Task.{Remark}
use Rattle.ty_solve.specs.Changes.{Changes}
use Rattle.ty_solve.proofs.Slots.{entries-set}
use Rattle.ty_solve.proofs.Changing.{remark-changes}
use Rattle.ty_solve.proofs.bind.lower_mark.Goals as goal

pub returns-clause-changes : goal.returns-clause-changes
returns-clause-changes c = λ tasks. subst (λ l. Changes (entries c.args.s.now.types c.args.s.now.slots.items) l tasks tasks (Remark c.args.v c.args.mark)) (sym (ap (entries c.args.s.now.types) c.in_ok-write.ensures.written ∙ entries-set c.args.s.now.types c.args.s.now.slots.items c.args.v _)) (remark-changes (entries c.args.s.now.types c.args.s.now.slots.items) tasks c.args.v c.args.mark c.requires)
