use Rattle.closure_whole.proofs.Tags.{tags-are-apart, tags-are-dense, without-functions-dense}
use Rattle.closure_whole.proofs.law.tags_are_dense.Goals as goal

pub returns-clause-apart : goal.returns-clause-apart
returns-clause-apart c = tags-are-apart

pub returns-clause-dense : goal.returns-clause-dense
returns-clause-dense c = tags-are-dense

pub returns-clause-by_type : goal.returns-clause-by_type
returns-clause-by_type c = without-functions-dense
