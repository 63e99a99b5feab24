use Rattle.std.proofs.Common.{◌≤◌, length}
use Rattle.sml_grammar.specs.Answer.{whole}
use Rattle.sml_grammar.specs.Terminals.{no_state}
use Rattle.sml_grammar.specs.Patterns.{atpats_turn}
use Rattle.phrase_base.specs.Left.{left}
use Rattle.sml_phrases.proofs.PatLists.{AtPatsGoing}
use Rattle.sml_phrases.proofs.heads.more_atpats.Given as goal

abbrev pub invariant-patterns : goal.invariant-patterns
invariant-patterns l = record {
  going : AtPatsGoing l.source l.fix l.n (left l.source l.rest) l.fn.front.items l.fn.depth l.all.items l.deepest (whole (atpats_turn l.n l.fix) no_state (left l.source l.tokens));
  short : length (left l.source l.rest) ≤ length (left l.source l.tokens);
}

abbrev pub decreases-patterns : goal.decreases-patterns
decreases-patterns l = length (left l.source l.rest)
