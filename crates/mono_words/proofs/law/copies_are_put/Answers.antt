use Rattle.mono_words.proofs.Making.{steps-made, ret-made, miss-made, first-made, switch-made, arms-end, arm-made, last-made, more-made, no-bodies, bodies-made, fn-made, block-made, handle-made}
use Rattle.mono_words.proofs.law.copies_are_put.Goals as goal

pub returns-clause-steps : goal.returns-clause-steps
returns-clause-steps c = steps-made

pub returns-clause-ends : goal.returns-clause-ends
returns-clause-ends c = record { atom_ = ret-made; missed = miss-made; attempt = first-made; switched = switch-made }

pub returns-clause-arms : goal.returns-clause-arms
returns-clause-arms c = record { none = arms-end; one = arm-made }

pub returns-clause-functions : goal.returns-clause-functions
returns-clause-functions c = record { last_ = last-made; further = more-made; none = no-bodies; one = bodies-made }

pub returns-clause-operations : goal.returns-clause-operations
returns-clause-operations c = record { function = fn-made; block_ = block-made; handler = handle-made }
