use Rattle.std.proofs.Common.{◌≤◌, length}
use Rattle.module_tree.specs.ModuleBare.{bare_val_desc}
use Rattle.module_tree.specs.ModuleDepth.{depth_val_descs}
use Rattle.module_grammar.specs.Signatures.{val_desc_turn}
use Rattle.module_code.specs.TreeOf.{val_desc_of}
use Rattle.phrase_base.specs.Left.{left}
use Rattle.phrase_base.proofs.Elements.{Elements}
use Rattle.spec_phrases.specs.DescsRead.{read_val_descs}
use Rattle.spec_phrases.proofs.descs.read_val_descs.Given as goal

abbrev pub invariant-descs : goal.invariant-descs
invariant-descs g l = record {
  going : Elements (val_desc_turn l.n) val_desc_of (bare_val_desc l.source.file) depth_val_descs l.n (left l.source l.rest) l.descs.items l.deepest
      (read_val_descs l.n (left l.source l.tokens));
  short : length (left l.source l.rest) ≤ length (left l.source l.tokens);
}

abbrev pub decreases-descs : goal.decreases-descs
decreases-descs g l = length (left l.source l.rest)
