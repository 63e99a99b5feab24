use Rattle.std.proofs.Common.{◌+◌, length, List}
use Rattle.sml_tree.specs.Terminal.{Terminal}
use Rattle.sml_grammar.specs.Answer.{Read, whole}
use Rattle.module_tree.specs.ReadModules as tree
use Rattle.module_grammar.specs.Signatures.{where_suffix}
use Rattle.phrase_base.specs.Left.{left}
use Rattle.sig_phrases.specs.SigsRead.{IsSig}
use Rattle.sig_phrases.proofs.Growth.{Growing}
use Rattle.sig_phrases.proofs.wheres.with_wheres.Given as goal

abbrev pub invariant-suffixes : goal.invariant-suffixes
invariant-suffixes g l =
    (i : List Terminal) (a : Read tree.SigExp) → IsSig l.source (l.n + 1) i l.fn.first l.fn.depth l.tokens a → Growing l.source l.n i l.sig l.deep l.rest (whole (where_suffix l.n) a.tree a.rest)

abbrev pub decreases-suffixes : goal.decreases-suffixes
decreases-suffixes g l = length (left l.source l.rest)
