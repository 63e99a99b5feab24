use Rattle.std.proofs.Common.{◌≤◌, ◌+◌, ◌*◌, length}
use Rattle.sml_grammar.specs.Answer.{whole}
use Rattle.sml_grammar.specs.Terminals.{no_state}
use Rattle.module_grammar.specs.Signatures.{specs_from, str_desc_turn, read_sig}
use Rattle.phrase_base.specs.Left.{left}
use Rattle.sig_phrases.proofs.Separated.{Listing}
use Rattle.sig_phrases.proofs.Specs.{SpecsGoing, descs-form}
use Rattle.sig_phrases.proofs.signatures.+signatures.Given as goal

abbrev pub decreases-read_sig : goal.decreases-read_sig
decreases-read_sig g l = 8 * l.n

abbrev pub decreases-str_desc : goal.decreases-str_desc
decreases-str_desc g l = 8 * l.n + 1

abbrev pub decreases-read_include : goal.decreases-read_include
decreases-read_include g l = 8 * l.n + 1

abbrev pub decreases-read_str_descs : goal.decreases-read_str_descs
decreases-read_str_descs g l = 8 * l.n + 2

abbrev pub decreases-read_spec : goal.decreases-read_spec
decreases-read_spec g l = 8 * l.n + 3

abbrev pub decreases-read_specs : goal.decreases-read_specs
decreases-read_specs g l = 8 * l.n + 4

abbrev pub decreases-sig_atom : goal.decreases-sig_atom
decreases-sig_atom g l = 8 * l.n + 5

abbrev pub invariant-read_specs-specs : goal.invariant-read_specs-specs
invariant-read_specs-specs g l = record {
  going : SpecsGoing l.source l.n (left l.source l.rest) l.specs.items l.deepest (specs_from l.n (read_sig l.n) (left l.source l.tokens));
  short : length (left l.source l.rest) ≤ length (left l.source l.tokens);
}

abbrev pub decreases-read_specs-specs : goal.decreases-read_specs-specs
decreases-read_specs-specs g l = length (left l.source l.rest)

abbrev pub invariant-read_str_descs-descs : goal.invariant-read_str_descs-descs
invariant-read_str_descs-descs g l = record {
  going : Listing (descs-form l.source.file l.n) l.n (left l.source l.rest) l.descs.items l.deepest (whole (str_desc_turn (read_sig l.n)) no_state (left l.source l.tokens));
  short : length (left l.source l.rest) ≤ length (left l.source l.tokens);
}

abbrev pub decreases-read_str_descs-descs : goal.decreases-read_str_descs-descs
decreases-read_str_descs-descs g l = length (left l.source l.rest)
