use Rattle.std.proofs.Common.{[], ◌∷◌, sym, ◌∙◌}
use Rattle.std.proofs.lemmas.List.Concat.{flat_map_single}
use Rattle.sml_tree.specs.declared.tree.Function.{out-Function}
use Rattle.name_scopes.proofs.BindVids.{functions-have}
use Rattle.name_scopes.proofs.Pushing.{added-for, added-last}
use Rattle.name_scopes.proofs.vids.push_functions.Goals as goal

pub returns : goal.returns
returns c =
    added-for c.args.vids.now.items c.loop-i.vids.items _ _ (flat_map_single (λ g. (out-Function g).vid) c.args.functions.now ∙ sym (functions-have c.args.functions.now))
    (added-last (λ g. (out-Function g).vid ∷ []) c.args.functions.now c.loop-i.i c.args.vids.now.items c.loop-i.vids.items c.loop-i-test.false c.loop-i.invariant)
