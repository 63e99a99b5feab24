use Rattle.std.proofs.Common.{◌≤◌, ◌+◌, length}
use Rattle.sml_tree.specs.Bare.{bare_long}
use Rattle.sml_tree.specs.TreeOf.{long_id_at_of}
use Rattle.sml_grammar.specs.Terminals.{as_long_strid}
use Rattle.sml_grammar.specs.Bindings.{read_strids}
use Rattle.phrase_base.specs.Left.{left}
use Rattle.sml_phrases.proofs.Runs.{Run}
use Rattle.sml_phrases.proofs.bindings.read_strids.Given as goal

abbrev pub invariant-strids : goal.invariant-strids
invariant-strids l = record {
  run : Run as_long_strid (λ x. x) long_id_at_of (bare_long l.source.file) (left l.source l.rest) l.strids.items (read_strids (left l.source l.tokens));
  short : length l.strids.items + length (left l.source l.rest) ≤ length (left l.source l.tokens);
}

abbrev pub decreases-strids : goal.decreases-strids
decreases-strids l = length (left l.source l.rest)
