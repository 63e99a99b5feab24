use Rattle.ty_basis.proofs.RowLemmas.{rows-have-their-types}
use Rattle.ty_basis.proofs.law.rows_have_their_types.Goals as goal

pub returns : goal.returns
returns c = rows-have-their-types
