use Rattle.std.proofs.Common.{◌≤◌, length}
use Rattle.sml_tree.specs.Bare.{bare_long}
use Rattle.sml_tree.specs.TreeOf.{long_id_at_of}
use Rattle.module_grammar.specs.Signatures.{tycon_turn}
use Rattle.spec_phrases.specs.ListsRead.{read_tycons}
use Rattle.phrase_base.specs.Left.{left}
use Rattle.phrase_base.proofs.Elements.{Elements}
use Rattle.spec_phrases.proofs.lists.read_tycons.Given as goal

abbrev pub invariant-tycons : goal.invariant-tycons
invariant-tycons l = record {
  going : Elements tycon_turn long_id_at_of (bare_long l.source.file) (λ xs. 0) 0 (left l.source l.rest) l.tycons.items 0 (read_tycons (left l.source l.tokens));
  short : length (left l.source l.rest) ≤ length (left l.source l.tokens);
}

abbrev pub decreases-tycons : goal.decreases-tycons
decreases-tycons l = length (left l.source l.rest)
