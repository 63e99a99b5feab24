use Rattle.ir_mono.specs.Types.{node_at}
use Rattle.closure_meaning.specs.Convert.{labels_in}
use Rattle.closure_parts.proofs.Finding.{label-found}
use Rattle.closure_parts.proofs.places.Places.label.Goals as goal

pub returns : goal.returns
returns c = λ types h. label-found types c.args.ty _ _ c.args.label (labels_in (node_at types c.args.ty)) (c.label_place.ensures types h) c.key.ensures
