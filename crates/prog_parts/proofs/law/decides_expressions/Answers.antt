use Rattle.prog_parts.proofs.Checks.{record-holds, apply-holds, infix-holds, sequence-holds, test-holds, case-holds, rules-hold}
use Rattle.prog_parts.proofs.law.decides_expressions.Goals as goal

pub returns-clause-records : goal.returns-clause-records
returns-clause-records c = record-holds

pub returns-clause-applications : goal.returns-clause-applications
returns-clause-applications c = apply-holds

pub returns-clause-operators : goal.returns-clause-operators
returns-clause-operators c = infix-holds

pub returns-clause-sequences : goal.returns-clause-sequences
returns-clause-sequences c = sequence-holds

pub returns-clause-tests : goal.returns-clause-tests
returns-clause-tests c = test-holds

pub returns-clause-cases : goal.returns-clause-cases
returns-clause-cases c = case-holds

pub returns-clause-rules : goal.returns-clause-rules
returns-clause-rules c = rules-hold
