use Rattle.std.proofs.Common.{◌≤◌, length}
use Rattle.module_tree.specs.ModuleBare.{id_at}
use Rattle.module_grammar.specs.Signatures.{sig_id_turn}
use Rattle.module_code.specs.TreeOf.{id_at_of}
use Rattle.spec_phrases.specs.ListsRead.{read_ids}
use Rattle.phrase_base.specs.Left.{left}
use Rattle.phrase_base.proofs.Elements.{Elements}
use Rattle.spec_phrases.proofs.lists.read_ids.Given as goal

abbrev pub invariant-ids : goal.invariant-ids
invariant-ids l = record {
  going : Elements sig_id_turn id_at_of (id_at l.source.file) (λ xs. 0) 0 (left l.source l.rest) l.ids.items 0 (read_ids (left l.source l.tokens));
  short : length (left l.source l.rest) ≤ length (left l.source l.tokens);
}

abbrev pub decreases-ids : goal.decreases-ids
decreases-ids l = length (left l.source l.rest)
