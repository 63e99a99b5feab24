use Rattle.std.proofs.Common.{ap, ◌∙◌}
use Rattle.prog_tree.specs.TreeOf.{use_of}
use Rattle.use_elab.proofs.Trees.{tree_of-Use}
use Rattle.use_elab.proofs.finish.used_at.Goals as goal

pub returns-clause-tree : goal.returns-clause-tree
returns-clause-tree c W w = tree_of-Use W.reading c.args.used c.args.types c.in_ok-written.written ∙ ap (use_of W.reading c.args.used c.args.types.items) (c.in_ok-written.ensures.is W w)
