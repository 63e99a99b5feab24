use Rattle.sml_tree.specs.TreeOf.{dec_of}
use Rattle.mlb_reader.proofs.TopLemmas.{front-part}
use Rattle.mlb_reader.proofs.tops.part_of_tops.Goals as goal

pub returns : goal.returns
returns c = front-part _ _ _ _ (c.in_ok-front.ensures.decs dec_of) (c.in_ok-front.ensures.other dec_of) c.part_from.ensures
