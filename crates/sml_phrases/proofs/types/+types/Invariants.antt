use Rattle.std.proofs.Common.{◌≤◌, ◌+◌, ◌*◌, length, [], ◌∷◌}
use Rattle.sml_grammar.specs.Answer.{whole}
use Rattle.sml_grammar.specs.Terminals.{no_state}
use Rattle.sml_grammar.specs.Types.{read_ty, arrow_turn, ty_field_turn}
use Rattle.phrase_base.specs.Left.{left}
use Rattle.sml_phrases.specs.TypesRead.{separator_turn}
use Rattle.sml_phrases.proofs.TypeLists.{TysGoing, PartsGoing, FieldsGoing}
use Rattle.sml_phrases.proofs.types.+types.Given as goal

abbrev pub decreases-read_ty : goal.decreases-read_ty
decreases-read_ty l = 5 * l.n

abbrev pub decreases-ty_fields : goal.decreases-ty_fields
decreases-ty_fields l = 5 * l.n + 1

abbrev pub decreases-ty_parts : goal.decreases-ty_parts
decreases-ty_parts l = 5 * l.n + 1

abbrev pub decreases-types_after : goal.decreases-types_after
decreases-types_after l = 5 * l.n + 1

abbrev pub decreases-applied_to : goal.decreases-applied_to
decreases-applied_to l = 5 * l.n + 2

abbrev pub decreases-product_ty : goal.decreases-product_ty
decreases-product_ty l = 5 * l.n + 2

abbrev pub decreases-function_ty : goal.decreases-function_ty
decreases-function_ty l = 5 * l.n + 2

abbrev pub decreases-record_ty : goal.decreases-record_ty
decreases-record_ty l = 5 * l.n + 2

abbrev pub decreases-bracketed_ty : goal.decreases-bracketed_ty
decreases-bracketed_ty l = 5 * l.n + 3

abbrev pub decreases-atomic_ty : goal.decreases-atomic_ty
decreases-atomic_ty l = 5 * l.n + 4

abbrev pub invariant-types_after-types : goal.invariant-types_after-types
invariant-types_after-types l = record {
  going : TysGoing l.source l.n l.separator (left l.source l.rest) (l.fn.first ∷ []) l.fn.depth l.all.items l.deepest (whole (separator_turn l.separator (read_ty l.n)) no_state (left l.source l.tokens));
  short : length (left l.source l.rest) ≤ length (left l.source l.tokens);
}

abbrev pub decreases-types_after-types : goal.decreases-types_after-types
decreases-types_after-types l = length (left l.source l.rest)

abbrev pub invariant-ty_parts-parts : goal.invariant-ty_parts-parts
invariant-ty_parts-parts l = record {
  going : PartsGoing l.source l.n (left l.source l.rest) l.all.items l.deepest (whole (arrow_turn (read_ty l.n)) no_state (left l.source l.tokens));
  short : length (left l.source l.rest) ≤ length (left l.source l.tokens);
}

abbrev pub decreases-ty_parts-parts : goal.decreases-ty_parts-parts
decreases-ty_parts-parts l = length (left l.source l.rest)

abbrev pub invariant-ty_fields-fields : goal.invariant-ty_fields-fields
invariant-ty_fields-fields l = record {
  going : FieldsGoing l.source l.n (left l.source l.rest) l.all.items l.deepest (whole (ty_field_turn (read_ty l.n)) no_state (left l.source l.tokens));
  short : length (left l.source l.rest) ≤ length (left l.source l.tokens);
}

abbrev pub decreases-ty_fields-fields : goal.decreases-ty_fields-fields
decreases-ty_fields-fields l = length (left l.source l.rest)
