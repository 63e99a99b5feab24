use Rattle.std.proofs.Common.{◌≡◌, ◌+◌, length, List}
use Rattle.sml_tree.specs.Terminal.{Terminal}
use Rattle.sml_tree.specs.ReadTree as read_tree
use Rattle.sml_tree.specs.Bare.{at}
use Rattle.sml_grammar.specs.Answer.{Read, whole}
use Rattle.sml_grammar.specs.Terminals.{place_at}
use Rattle.sml_grammar.specs.Types.{postfix_turn}
use Rattle.phrase_base.specs.Left.{left}
use Rattle.sml_phrases.specs.TypesRead.{IsTy}
use Rattle.sml_phrases.proofs.TypeForms.{Applying}
use Rattle.sml_phrases.proofs.types.applied_ty.Given as goal

abbrev pub invariant-constructors : goal.invariant-constructors
invariant-constructors l =
    (i : List Terminal) (a : Read read_tree.Ty) → l.place ≡ at l.source.file (place_at i) → IsTy l.source (l.n + 1) i l.fn.first l.fn.depth l.tokens a → Applying l.source l.n i l.ty l.deep l.rest (whole (postfix_turn l.n) a.tree a.rest)

abbrev pub decreases-constructors : goal.decreases-constructors
decreases-constructors l = length (left l.source l.rest)
