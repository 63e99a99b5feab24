use Rattle.mono_strip.proofs.Stripped.{strip-is-once, stripped-lets, stripped-groups, weighs-nothing, compares-nothing}
use Rattle.mono_strip.proofs.law.stripped_copies.Goals as goal

pub returns-clause-once : goal.returns-clause-once
returns-clause-once c = strip-is-once

pub returns-clause-lets : goal.returns-clause-lets
returns-clause-lets c = stripped-lets

pub returns-clause-groups : goal.returns-clause-groups
returns-clause-groups c = stripped-groups

pub returns-clause-weight : goal.returns-clause-weight
returns-clause-weight c = weighs-nothing

pub returns-clause-compared : goal.returns-clause-compared
returns-clause-compared c = compares-nothing
