use Rattle.std.proofs.Common.{◌≤◌, ◌+◌, ◌*◌, length}
use Rattle.module_grammar.specs.Structures.{str_readers, read_str_binds}
use Rattle.phrase_base.specs.Left.{left}
use Rattle.sig_phrases.proofs.Separated.{Listing}
use Rattle.str_phrases.proofs.Binding.{binds-form}
use Rattle.str_phrases.proofs.Declaring.{DecsGoing}
use Rattle.str_phrases.proofs.structures.+structures.Given as goal

abbrev pub decreases-read_str : goal.decreases-read_str
decreases-read_str g l = 8 * l.n

abbrev pub decreases-str_bind : goal.decreases-str_bind
decreases-str_bind g l = 8 * l.n + 1

abbrev pub decreases-read_str_binds : goal.decreases-read_str_binds
decreases-read_str_binds g l = 8 * l.n + 2

abbrev pub decreases-read_str_dec : goal.decreases-read_str_dec
decreases-read_str_dec g l = 8 * l.n + 4

abbrev pub decreases-read_str_decs : goal.decreases-read_str_decs
decreases-read_str_decs g l = 8 * l.n + 5

abbrev pub decreases-read_local : goal.decreases-read_local
decreases-read_local g l = 8 * l.n + 6

abbrev pub decreases-in_struct : goal.decreases-in_struct
decreases-in_struct g l = 8 * l.n + 6

abbrev pub decreases-in_let : goal.decreases-in_let
decreases-in_let g l = 8 * l.n + 6

abbrev pub decreases-in_brackets : goal.decreases-in_brackets
decreases-in_brackets g l = 8 * l.n + 6

abbrev pub decreases-str_atom : goal.decreases-str_atom
decreases-str_atom g l = 8 * l.n + 7

abbrev pub invariant-read_str_decs-decs : goal.invariant-read_str_decs-decs
invariant-read_str_decs-decs g l = record {
  going : DecsGoing g.R.CoreReader.dec_of l.source l.n l.fn.fix l.fix (left l.source l.rest) l.all l.deepest ((str_readers l.n).decs l.fn.fix (left l.source l.tokens));
  short : length (left l.source l.rest) ≤ length (left l.source l.tokens);
}

abbrev pub decreases-read_str_decs-decs : goal.decreases-read_str_decs-decs
decreases-read_str_decs-decs g l = length (left l.source l.rest)

abbrev pub invariant-read_str_binds-binds : goal.invariant-read_str_binds-binds
invariant-read_str_binds-binds g l = record {
  going : Listing (binds-form g.R.CoreReader.dec_of l.source.file l.n l.fix) l.n (left l.source l.rest) l.binds.items l.deepest (read_str_binds l.n (str_readers l.n).str l.fix (left l.source l.tokens));
  short : length (left l.source l.rest) ≤ length (left l.source l.tokens);
}

abbrev pub decreases-read_str_binds-binds : goal.decreases-read_str_binds-binds
decreases-read_str_binds-binds g l = length (left l.source l.rest)
