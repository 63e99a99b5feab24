use Rattle.first_known.proofs.Flags.{all-ends}
use Rattle.first_values.specs.WellFormed.{PieceIn}
use Rattle.first_tables.specs.TablesOf.{piece_of}
use Rattle.first_known.proofs.scope.Scope.has_pieces.Goals as goal

pub returns : goal.returns
returns c = all-ends (PieceIn c.args.self.now) piece_of c.args.pieces.now c.loop-i.i c.loop-i.all c.loop-i-test.false c.loop-i.invariant
