use Rattle.std.proofs.Common.{[], ◌∷◌, take}
use Rattle.std.specs.Prelude.{flat_map}
use Rattle.sml_tree.specs.declared.tree.Function.{out-Function}
use Rattle.name_scopes.proofs.Pushing.{Added}
use Rattle.name_scopes.proofs.vids.push_functions.Given as goal

abbrev pub invariant-loop-i : goal.invariant-loop-i
invariant-loop-i l = Added l.fn.vids.items l.vids.items (flat_map (λ g. (out-Function g).vid ∷ []) (take l.i l.functions))
