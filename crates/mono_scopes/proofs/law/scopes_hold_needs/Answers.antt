use Rattle.mono_scopes.proofs.Noting.{parts-noted, bindings-noted, groups-noted, variables-noted, copies-noted}
use Rattle.mono_scopes.proofs.law.scopes_hold_needs.Goals as goal

pub returns-clause-parts : goal.returns-clause-parts
returns-clause-parts c = parts-noted

pub returns-clause-bindings : goal.returns-clause-bindings
returns-clause-bindings c = bindings-noted

pub returns-clause-groups : goal.returns-clause-groups
returns-clause-groups c = groups-noted

pub returns-clause-variables : goal.returns-clause-variables
returns-clause-variables c = variables-noted

pub returns-clause-copies : goal.returns-clause-copies
returns-clause-copies c = copies-noted
