use Rattle.std.proofs.Common.{◌≤◌, length}
use Rattle.phrase_base.specs.Left.{left}
use Rattle.sig_phrases.proofs.Separated.{Listing}
use Rattle.top_phrases.specs.TopsRead.{read_fun_binds}
use Rattle.top_phrases.proofs.Bindings.{funs-form}
use Rattle.top_phrases.proofs.functors.read_fun_binds.Given as goal

abbrev pub invariant-binds : goal.invariant-binds
invariant-binds g l = record {
  going : Listing (funs-form g.R.CoreReader.dec_of l.source.file l.n l.fix) l.n (left l.source l.rest) l.binds.items l.deepest (read_fun_binds l.n l.fix (left l.source l.tokens));
  short : length (left l.source l.rest) ≤ length (left l.source l.tokens);
}

abbrev pub decreases-binds : goal.decreases-binds
decreases-binds g l = length (left l.source l.rest)
