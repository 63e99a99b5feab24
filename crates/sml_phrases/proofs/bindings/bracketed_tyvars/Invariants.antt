use Rattle.std.proofs.Common.{◌≤◌, length}
use Rattle.sml_grammar.specs.Answer.{whole}
use Rattle.sml_grammar.specs.Terminals.{no_state}
use Rattle.sml_grammar.specs.Bindings.{tyvar_turn}
use Rattle.phrase_base.specs.Left.{left}
use Rattle.sml_phrases.proofs.BindLists.{TyvarsGoing}
use Rattle.sml_phrases.proofs.bindings.bracketed_tyvars.Given as goal

abbrev pub invariant-tyvars : goal.invariant-tyvars
invariant-tyvars l = record {
  going : TyvarsGoing (left l.source l.rest) l.tyvars.items (whole tyvar_turn no_state (left l.source l.tokens));
  short : length (left l.source l.rest) ≤ length (left l.source l.tokens);
}

abbrev pub decreases-tyvars : goal.decreases-tyvars
decreases-tyvars l = length (left l.source l.rest)
