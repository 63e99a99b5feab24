use Rattle.std.proofs.Common.{ap, ◌∙◌}
use Rattle.pat_elab.specs.declared.stopped.Stopped.TheVariants.{Refuses}
use Rattle.refusal_causes.specs.Causes.{stays}
use Rattle.refusal_causes.proofs.Becoming.{broken-becomes, stays-as, unbound-becomes}
use Rattle.refusal_causes.proofs.certain.certain.Goals as goal

pub returns-then-branch-clause-becomes : goal.returns-then-branch-clause-becomes
returns-then-branch-clause-becomes c = stays-as c.args.otherwise c.args.stopped _ (c.in-Refuses-Unbound.is ∙ ap Refuses (rw c.in-Refuses-Unbound.is at c.in-Refuses-Unbound.field-0-is))

pub returns-else-branch-clause-becomes : goal.returns-else-branch-clause-becomes
returns-else-branch-clause-becomes c = unbound-becomes c.args.otherwise c.args.stopped c.in-Refuses-Unbound.place (c.in-Refuses-Unbound.is ∙ ap Refuses (rw c.in-Refuses-Unbound.is at c.in-Refuses-Unbound.field-0-is))

pub returns-then-branch-2-clause-becomes : goal.returns-then-branch-2-clause-becomes
returns-then-branch-2-clause-becomes c = stays-as c.args.otherwise c.args.stopped _ (c.in-Refuses-Broken.is ∙ ap Refuses (rw c.in-Refuses-Broken.is at c.in-Refuses-Broken.field-0-is))

pub returns-else-branch-2-clause-becomes : goal.returns-else-branch-2-clause-becomes
returns-else-branch-2-clause-becomes c = broken-becomes c.args.otherwise c.args.stopped c.in-Refuses-Broken.place (c.in-Refuses-Broken.is ∙ ap Refuses (rw c.in-Refuses-Broken.is at c.in-Refuses-Broken.field-0-is))

pub returns-in_default-clause-becomes : goal.returns-in_default-clause-becomes
returns-in_default-clause-becomes c = stays c.args.stopped

pub returns-in_default-2-clause-becomes : goal.returns-in_default-2-clause-becomes
returns-in_default-2-clause-becomes c = stays c.args.stopped
