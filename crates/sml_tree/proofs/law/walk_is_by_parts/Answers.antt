use Rattle.sml_tree.proofs.Walks.{walk_is_by_parts}
use Rattle.sml_tree.proofs.law.walk_is_by_parts.Goals as goal

pub returns : goal.returns
returns c = walk_is_by_parts
