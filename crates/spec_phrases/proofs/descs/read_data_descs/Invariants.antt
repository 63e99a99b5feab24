use Rattle.std.proofs.Common.{◌≤◌, length}
use Rattle.module_tree.specs.ModuleBare.{bare_data_desc}
use Rattle.module_tree.specs.ModuleDepth.{depth_data_descs}
use Rattle.module_grammar.specs.Signatures.{data_desc_turn}
use Rattle.module_code.specs.TreeOf.{data_desc_of}
use Rattle.spec_phrases.specs.DescsRead.{read_data_descs}
use Rattle.phrase_base.specs.Left.{left}
use Rattle.phrase_base.proofs.Elements.{Elements}
use Rattle.spec_phrases.proofs.descs.read_data_descs.Given as goal

abbrev pub invariant-descs : goal.invariant-descs
invariant-descs g l = record {
  going : Elements (data_desc_turn l.n) data_desc_of (bare_data_desc l.source.file) depth_data_descs l.n (left l.source l.rest) l.descs.items l.deepest (read_data_descs l.n (left l.source l.tokens));
  short : length (left l.source l.rest) ≤ length (left l.source l.tokens);
}

abbrev pub decreases-descs : goal.decreases-descs
decreases-descs g l = length (left l.source l.rest)
