use Rattle.sml_tree.specs.TreeOf.{long_id_of}
use Rattle.phrase_base.specs.Left.{left}
use Rattle.str_phrases.proofs.Opening.{named-done}
use Rattle.str_phrases.proofs.plain.named_str.Goals as goal

pub returns-in-Some : goal.returns-in-Some
returns-in-Some g c = record {
  gives = λ of self.
      let s = c.args.source.now in
      let h = named-done of s (left s c.args.tokens.now) self (long_id_of c.in-Some.long) c.place_at.result c.named_structure.result c.in-Some.rest.now (rw c.in-Some.is at c.in_ok-found.ensures) c.place_at.ensures (c.named_structure.ensures of) in
      record { got = h.got; is = h.is; same = h.same };
}
