use Rattle.std.proofs.Common.{◌≤◌, length}
use Rattle.phrase_base.specs.Left.{left}
use Rattle.sig_phrases.proofs.Separated.{Listing}
use Rattle.top_phrases.specs.TopsRead.{read_sig_binds}
use Rattle.top_phrases.proofs.Bindings.{sigs-form}
use Rattle.top_phrases.proofs.signatures.read_sig_binds.Given as goal

abbrev pub invariant-binds : goal.invariant-binds
invariant-binds g l = record {
  going : Listing (sigs-form l.source.file l.n) l.n (left l.source l.rest) l.binds.items l.deepest (read_sig_binds l.n (left l.source l.tokens));
  short : length (left l.source l.rest) ≤ length (left l.source l.tokens);
}

abbrev pub decreases-binds : goal.decreases-binds
decreases-binds g l = length (left l.source l.rest)
