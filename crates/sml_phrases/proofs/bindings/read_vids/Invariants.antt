use Rattle.std.proofs.Common.{◌≤◌, ◌+◌, length}
use Rattle.sml_grammar.specs.Terminals.{as_vid}
use Rattle.sml_grammar.specs.Bindings.{read_vids}
use Rattle.phrase_base.specs.Left.{left}
use Rattle.sml_phrases.proofs.Runs.{Run}
use Rattle.sml_phrases.proofs.bindings.read_vids.Given as goal

abbrev pub invariant-vids : goal.invariant-vids
invariant-vids l = record {
  run : Run as_vid (λ x. x.it) (λ a. a) (λ a. a) (left l.source l.rest) l.vids.items (read_vids (left l.source l.tokens));
  short : length l.vids.items + length (left l.source l.rest) ≤ length (left l.source l.tokens);
}

abbrev pub decreases-vids : goal.decreases-vids
decreases-vids l = length (left l.source l.rest)
