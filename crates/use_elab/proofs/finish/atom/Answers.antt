use Rattle.std.proofs.Common.{ap, ◌∙◌}
use Rattle.prog_tree.specs.TreeOf.{atom_of}
use Rattle.use_elab.proofs.Trees.{tree_of-Atom}
use Rattle.use_elab.proofs.finish.atom.Goals as goal

pub returns-clause-tree : goal.returns-clause-tree
returns-clause-tree c W w = tree_of-Atom W.reading c.args.atom c.in_ok-written.written ∙ ap (atom_of W.reading c.args.atom) (c.in_ok-written.ensures.is W w)
