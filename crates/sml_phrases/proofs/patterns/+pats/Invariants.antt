use Rattle.std.proofs.Common.{◌≡◌, ◌≤◌, ◌+◌, ◌*◌, length, List, ℕ, Some}
use Rattle.sml_tree.specs.Terminal.{Terminal}
use Rattle.sml_tree.specs.ReadTree as read_tree
use Rattle.sml_tree.specs.Bare.{at}
use Rattle.sml_tree.specs.Levels.{infix_level}
use Rattle.sml_tree.specs.Fixity.{fix_of}
use Rattle.sml_tree.specs.declared.ident.Vid.TheVariants.{Named}
use Rattle.sml_grammar.specs.Answer.{Read, whole}
use Rattle.sml_grammar.specs.Terminals.{no_state, place_at}
use Rattle.sml_grammar.specs.Patterns.{read_pats, pat_commas_turn, pat_row_turn, pat_suffix, whole_pat_parts}
use Rattle.phrase_base.specs.Left.{left}
use Rattle.sml_phrases.specs.PatternsRead.{IsPatAt}
use Rattle.sml_phrases.proofs.PatForms.{Seeking}
use Rattle.sml_phrases.proofs.PatLists.{PatsGoing, RowGoing}
use Rattle.sml_phrases.proofs.PatParts.{PatPartsGoing}
use Rattle.sml_phrases.proofs.patterns.+pats.Given as goal

abbrev pub decreases-read_pat : goal.decreases-read_pat
decreases-read_pat l = 10 * l.n

abbrev pub decreases-read_atpat : goal.decreases-read_atpat
decreases-read_atpat l = 10 * l.n

abbrev pub decreases-pat_parts : goal.decreases-pat_parts
decreases-pat_parts l = 10 * l.n + 1

abbrev pub decreases-more_pats : goal.decreases-more_pats
decreases-more_pats l = 10 * l.n + 1

abbrev pub decreases-punned_field : goal.decreases-punned_field
decreases-punned_field l = 10 * l.n + 1

abbrev pub decreases-as_form : goal.decreases-as_form
decreases-as_form l = 10 * l.n + 1

abbrev pub decreases-pat_field : goal.decreases-pat_field
decreases-pat_field l = 10 * l.n + 2

abbrev pub decreases-extended : goal.decreases-extended
decreases-extended l = 10 * l.n + 2

abbrev pub decreases-tuple_pat : goal.decreases-tuple_pat
decreases-tuple_pat l = 10 * l.n + 2

abbrev pub decreases-bracket_pat : goal.decreases-bracket_pat
decreases-bracket_pat l = 10 * l.n + 2

abbrev pub decreases-suffixes : goal.decreases-suffixes
decreases-suffixes l = 10 * l.n + 3

abbrev pub decreases-pat_row : goal.decreases-pat_row
decreases-pat_row l = 10 * l.n + 3

abbrev pub decreases-paren_pat : goal.decreases-paren_pat
decreases-paren_pat l = 10 * l.n + 3

abbrev pub decreases-typed_form : goal.decreases-typed_form
decreases-typed_form l = 10 * l.n + 4

abbrev pub decreases-brace_pat : goal.decreases-brace_pat
decreases-brace_pat l = 10 * l.n + 4

abbrev pub decreases-atomic_pat : goal.decreases-atomic_pat
decreases-atomic_pat l = 10 * l.n + 5

abbrev pub decreases-first_pat : goal.decreases-first_pat
decreases-first_pat l = 10 * l.n + 6

abbrev pub decreases-plain_form : goal.decreases-plain_form
decreases-plain_form l = 10 * l.n + 7

abbrev pub decreases-vid_form : goal.decreases-vid_form
decreases-vid_form l = 10 * l.n + 8

abbrev pub invariant-pat_row-fields : goal.invariant-pat_row-fields
invariant-pat_row-fields l = record {
  going : RowGoing l.source l.fix l.n (left l.source l.rest) l.fields.items l.deepest (whole (pat_row_turn l.n (read_pats l.n).pat l.fix) no_state (left l.source l.tokens));
  short : length (left l.source l.rest) ≤ length (left l.source l.tokens);
}

abbrev pub decreases-pat_row-fields : goal.decreases-pat_row-fields
decreases-pat_row-fields l = length (left l.source l.rest)

abbrev pub invariant-more_pats-patterns : goal.invariant-more_pats-patterns
invariant-more_pats-patterns l = record {
  going : PatsGoing l.source l.fix l.n (left l.source l.rest) l.fn.front.items l.fn.depth l.all.items l.deepest (whole (pat_commas_turn (read_pats l.n).pat l.fix) no_state (left l.source l.tokens));
  short : length (left l.source l.rest) ≤ length (left l.source l.tokens);
}

abbrev pub decreases-more_pats-patterns : goal.decreases-more_pats-patterns
decreases-more_pats-patterns l = length (left l.source l.rest)

abbrev pub invariant-suffixes-suffixes : goal.invariant-suffixes-suffixes
invariant-suffixes-suffixes l =
    (i : List Terminal) (a : Read read_tree.Pat) → l.place ≡ at l.source.file (place_at i) → IsPatAt l.source l.fix l.level (l.n + 1) i l.fn.first l.fn.depth l.tokens a →
    Seeking l.source l.fix (read_pats l.n).pat l.n l.least i l.pat l.deep l.high l.rest (pat_suffix (read_pats l.n).pat l.n l.fix l.least a.tree a.rest)

abbrev pub decreases-suffixes-suffixes : goal.decreases-suffixes-suffixes
decreases-suffixes-suffixes l = length (left l.source l.rest)

abbrev pub invariant-pat_parts-parts : goal.invariant-pat_parts-parts
invariant-pat_parts-parts l = record {
  going : (p : ℕ) → l.fn.joint ≡ at l.source.file p → fix_of (Named l.fn.name) l.fix ≡ Some l.fn.how → (q : ℕ) × (l.vid_place ≡ at l.source.file q) × PatPartsGoing l.source l.fix l.n (infix_level (Some l.fn.how)) l.fn.how.right q l.vid (left l.source l.rest) l.all.items l.deepest (whole_pat_parts (read_pats l.n).pat l.fix (record { place = p; it = l.fn.name }) (left l.source l.tokens));
  short : length (left l.source l.rest) ≤ length (left l.source l.tokens);
  fits : l.deepest ≤ l.n;
}

abbrev pub decreases-pat_parts-parts : goal.decreases-pat_parts-parts
decreases-pat_parts-parts l = length (left l.source l.rest)
