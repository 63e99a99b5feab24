use Rattle.std.proofs.Common.{◌≤◌, length}
use Rattle.sml_grammar.specs.Bindings.{read_cons}
use Rattle.phrase_base.specs.Left.{left}
use Rattle.sml_phrases.proofs.BindLists.{ConsGoing}
use Rattle.sml_phrases.proofs.bindings.read_cons.Given as goal

abbrev pub invariant-cons : goal.invariant-cons
invariant-cons l = record {
  going : ConsGoing l.source l.n l.fix (left l.source l.rest) l.cons.items l.deepest (read_cons l.n l.fix (left l.source l.tokens));
  short : length (left l.source l.rest) ≤ length (left l.source l.tokens);
}

abbrev pub decreases-cons : goal.decreases-cons
decreases-cons l = length (left l.source l.rest)
