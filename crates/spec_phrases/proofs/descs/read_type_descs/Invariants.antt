use Rattle.std.proofs.Common.{◌≤◌, length}
use Rattle.module_tree.specs.ModuleBare.{bare_type_desc}
use Rattle.module_grammar.specs.Signatures.{type_desc_turn}
use Rattle.module_code.specs.TreeOf.{type_desc_of}
use Rattle.phrase_base.specs.Left.{left}
use Rattle.phrase_base.proofs.Elements.{Elements}
use Rattle.spec_phrases.specs.DescsRead.{read_type_descs}
use Rattle.spec_phrases.proofs.descs.read_type_descs.Given as goal

abbrev pub invariant-descs : goal.invariant-descs
invariant-descs g l = record {
  going : Elements type_desc_turn type_desc_of (bare_type_desc l.source.file) (λ ts. 0) 0 (left l.source l.rest) l.descs.items 0 (read_type_descs (left l.source l.tokens));
  short : length (left l.source l.rest) ≤ length (left l.source l.tokens);
}

abbrev pub decreases-descs : goal.decreases-descs
decreases-descs g l = length (left l.source l.rest)
