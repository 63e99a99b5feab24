use Rattle.std.proofs.Common.{map, subst}
use Rattle.mono_types.specs.Rows.{AreOnce, rows_of}
use Rattle.mono_types.proofs.Keeping.{stored-once}
use Rattle.mono_types.proofs.types.Types.len.Goals as goal

pub returns-clause-once : goal.returns-clause-once
returns-clause-once c = subst AreOnce c.self.view_is (stored-once (rows_of c.self.inside.rows.items) (map (λ k. k.items) c.self.inside.codes.keys) c.self.invariant)
