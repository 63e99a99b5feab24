use Rattle.closure_pass.proofs.Bringing.{conversion-makes-no-more, expansion-makes-no-more, whole-makes-no-more}
use Rattle.closure_pass.proofs.exceptions.conversions_make_no_more.Goals as goal

pub returns-clause-conversion : goal.returns-clause-conversion
returns-clause-conversion c = conversion-makes-no-more

pub returns-clause-expansion : goal.returns-clause-expansion
returns-clause-expansion c = expansion-makes-no-more

pub returns-clause-whole : goal.returns-clause-whole
returns-clause-whole c = whole-makes-no-more
