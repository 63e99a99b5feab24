use Rattle.std.proofs.Common.{◌≤◌, length}
use Rattle.sml_grammar.specs.Bindings.{read_data_binds}
use Rattle.phrase_base.specs.Left.{left}
use Rattle.sml_phrases.proofs.BindLists.{DatasGoing}
use Rattle.sml_phrases.proofs.bindings.read_data_binds.Given as goal

abbrev pub invariant-binds : goal.invariant-binds
invariant-binds l = record {
  going : DatasGoing l.source l.n l.fix (left l.source l.rest) l.binds.items l.deepest (read_data_binds l.n l.fix (left l.source l.tokens));
  short : length (left l.source l.rest) ≤ length (left l.source l.tokens);
}

abbrev pub decreases-binds : goal.decreases-binds
decreases-binds l = length (left l.source l.rest)
