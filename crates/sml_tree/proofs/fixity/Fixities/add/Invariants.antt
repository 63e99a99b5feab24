use Rattle.std.proofs.Common.{◌≡◌, ◌++◌, take}
use Rattle.sml_tree.specs.Fixity.{directives_for}
use Rattle.sml_tree.proofs.fixity.Fixities.add.Given as goal

abbrev pub invariant-vids : goal.invariant-vids
invariant-vids l = l.more ≡ directives_for l.status (take l.vid-index l.vids) ++ l.fn.self
