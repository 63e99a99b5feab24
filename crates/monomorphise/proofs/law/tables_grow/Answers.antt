use Rattle.monomorphise.proofs.Tables.{pushed-of, added-of}
use Rattle.monomorphise.proofs.law.tables_grow.Goals as goal

pub returns-clause-pushed : goal.returns-clause-pushed
returns-clause-pushed c constructors types r tab new = pushed-of constructors types r tab new

pub returns-clause-constructors : goal.returns-clause-constructors
returns-clause-constructors g constructors types n r c a tab new = added-of constructors types n r c a tab new
