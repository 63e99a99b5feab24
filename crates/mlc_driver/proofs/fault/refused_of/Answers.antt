use Rattle.std.proofs.Common.{ap, ◌∙◌}
use Rattle.pat_elab.specs.declared.stopped.Stopped.TheVariants.{Refuses}
use Rattle.mlc_driver.specs.Fault.{code_of}
use Rattle.mlc_driver.proofs.Telling.{coded, coded-there, tells-broken, tells-unbound}
use Rattle.mlc_driver.proofs.fault.refused_of.Goals as goal

pub returns-in-Refuses-Broken-clause-tells : goal.returns-in-Refuses-Broken-clause-tells
returns-in-Refuses-Broken-clause-tells c = tells-broken c.args.stopped c.in-Refuses-Broken.place c.fault_there.result (c.in-Refuses-Broken.is ∙ ap Refuses (rw c.in-Refuses-Broken.is at c.in-Refuses-Broken.field-0-is)) c.fault_there.ensures.there

pub returns-in-Ok-clause-tells : goal.returns-in-Ok-clause-tells
returns-in-Ok-clause-tells c = tells-unbound c.args.stopped c.in-Refuses-Unbound.place c.in-Ok.fault (c.in-Refuses-Unbound.is ∙ ap Refuses (rw c.in-Refuses-Unbound.is at c.in-Refuses-Unbound.field-0-is)) c.in-Ok.ensures.there

pub returns-in-Foreign-clause-coded : goal.returns-in-Foreign-clause-coded
returns-in-Foreign-clause-coded c = coded c.args.stopped _ c.fault_at.result (ap code_of c.in-Foreign.is) c.fault_at.ensures.code

pub returns-in-NotPrincipal-clause-coded : goal.returns-in-NotPrincipal-clause-coded
returns-in-NotPrincipal-clause-coded c = coded c.args.stopped _ c.fault_at-in-NotPrincipal.result (ap code_of c.in-NotPrincipal.is) c.fault_at-in-NotPrincipal.ensures.code

pub returns-in-Refuses-Mistyped-clause-coded : goal.returns-in-Refuses-Mistyped-clause-coded
returns-in-Refuses-Mistyped-clause-coded c = coded c.args.stopped _ c.fault_at-in-Refuses-Mistyped.result (ap code_of (c.in-Refuses-Mistyped.is ∙ ap Refuses (rw c.in-Refuses-Mistyped.is at c.in-Refuses-Mistyped.field-0-is))) c.fault_at-in-Refuses-Mistyped.ensures.code

pub returns-in-Refuses-Broken-clause-coded : goal.returns-in-Refuses-Broken-clause-coded
returns-in-Refuses-Broken-clause-coded c = coded-there c.args.stopped _ c.in-Refuses-Broken.place c.fault_there.result (ap code_of (c.in-Refuses-Broken.is ∙ ap Refuses (rw c.in-Refuses-Broken.is at c.in-Refuses-Broken.field-0-is))) c.fault_there.ensures.there

pub returns-in-Refuses-Large-clause-coded : goal.returns-in-Refuses-Large-clause-coded
returns-in-Refuses-Large-clause-coded c = coded c.args.stopped _ c.fault_at-in-Refuses-Large.result (ap code_of (c.in-Refuses-Large.is ∙ ap Refuses (rw c.in-Refuses-Large.is at c.in-Refuses-Large.field-0-is))) c.fault_at-in-Refuses-Large.ensures.code

pub returns-in-Ok-clause-coded : goal.returns-in-Ok-clause-coded
returns-in-Ok-clause-coded c = coded-there c.args.stopped _ c.in-Refuses-Unbound.place c.in-Ok.fault (ap code_of (c.in-Refuses-Unbound.is ∙ ap Refuses (rw c.in-Refuses-Unbound.is at c.in-Refuses-Unbound.field-0-is))) c.in-Ok.ensures.there
