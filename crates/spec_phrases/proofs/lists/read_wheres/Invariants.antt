use Rattle.std.proofs.Common.{◌≤◌, length}
use Rattle.module_tree.specs.ModuleDepth.{depth_where_types}
use Rattle.module_grammar.specs.Signatures.{where_turn}
use Rattle.spec_phrases.specs.ListsRead.{where_of, bare_where, read_wheres}
use Rattle.phrase_base.specs.Left.{left}
use Rattle.phrase_base.proofs.Elements.{Elements}
use Rattle.spec_phrases.proofs.lists.read_wheres.Given as goal

abbrev pub invariant-wheres : goal.invariant-wheres
invariant-wheres g l = record {
  going : Elements (where_turn l.n) where_of (bare_where l.source.file) depth_where_types l.n (left l.source l.rest) l.wheres.items l.deepest (read_wheres l.n (left l.source l.tokens));
  short : length (left l.source l.rest) ≤ length (left l.source l.tokens);
}

abbrev pub decreases-wheres : goal.decreases-wheres
decreases-wheres g l = length (left l.source l.rest)
