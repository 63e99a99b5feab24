use Rattle.std.proofs.Common.{◌≤◌, length}
use Rattle.module_tree.specs.ModuleBare.{bare_con_desc}
use Rattle.module_tree.specs.ModuleDepth.{depth_con_descs}
use Rattle.module_grammar.specs.Signatures.{con_desc_turn, read_con_descs}
use Rattle.module_code.specs.TreeOf.{con_desc_of}
use Rattle.phrase_base.specs.Left.{left}
use Rattle.phrase_base.proofs.Elements.{Elements}
use Rattle.spec_phrases.proofs.descs.read_con_descs.Given as goal

abbrev pub invariant-descs : goal.invariant-descs
invariant-descs g l = record {
  going : Elements (con_desc_turn l.n l.word) con_desc_of (bare_con_desc l.source.file) depth_con_descs l.n (left l.source l.rest) l.descs.items l.deepest
      (read_con_descs l.n l.word (left l.source l.tokens));
  short : length (left l.source l.rest) ≤ length (left l.source l.tokens);
}

abbrev pub decreases-descs : goal.decreases-descs
decreases-descs g l = length (left l.source l.rest)
