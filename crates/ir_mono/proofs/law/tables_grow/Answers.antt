use Rattle.ir_mono.proofs.Growing.{stands-still, pushed, pushed-at, added-table, added-there, nodes-added}
use Rattle.ir_mono.proofs.law.tables_grow.Goals as goal

pub returns-clause-pushed : goal.returns-clause-pushed
returns-clause-pushed c types r table row = (pushed types r table row, pushed-at types r table row)

pub returns-clause-stay : goal.returns-clause-stay
returns-clause-stay c types more s n t i = stands-still types more s i

pub returns-clause-constructors : goal.returns-clause-constructors
returns-clause-constructors g types n r c a table entry = (added-table types n r c a table entry, added-there types n r c a table entry, nodes-added types n r c a table entry)
