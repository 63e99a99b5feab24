use Rattle.std.proofs.Common.{◌+◌, ◌*◌, sym, ap, ◌∙◌, subst}
use Rattle.ir_values.specs.Primitives.{raised_name}
use Rattle.machine_code.specs.Image.{text_place}
use Rattle.machine_rows.specs.Table.{rows}
use Rattle.emit_equality.specs.Ways.{all_shapes, ArePlaces}
use Rattle.first_values.specs.Operations.{Tables}
use Rattle.emit_known.proofs.known.known_places.Goals as goal

pub returns-clause-words : goal.returns-clause-words
returns-clause-words c p e = c.in_ok-constants.ensures.words rows p e

pub returns-clause-places : goal.returns-clause-places
returns-clause-places c p e = record {
  text_at = λ i. c.in_ok-constants.ensures.texts i ∙ ap (λ (t : Tables). text_place 2 t.strings i) (sym e);
  name_at = c.in_ok-constants.ensures.names rows p e;
  first_at = c.in_ok-constants.ensures.initial rows p e;
  packet_at = λ x. c.in_ok-packets_of.ensures x ∙ ap (λ n. n + 2 * raised_name x) (c.in_ok-constants.ensures.packets rows p e);
  type_at =
      subst (λ s. ArePlaces s c.in_ok-types.types.items c.in_ok-types.types_end) (ap all_shapes c.deref.ensures.value ∙ ap (λ (t : Tables). t.types) (sym e)) c.in_ok-types.ensures;
}
