use Rattle.std.proofs.Common.{List, ◌∷◌, ◌++◌, [], map, ap, ap₂, ◌∙◌}
use Rattle.sml_tree.specs.declared.ident.Vid.{Vid}
use Rattle.elab_context.specs.declared.entry.Entry.{Entry}
use Rattle.basis_context.proofs.basis.contents_of.Goals as goal

pub returns : goal.returns
returns c =
    ap (map (λ es. es.items)) (c.in_ok-push-2.ensures.items ∙ ap (λ l. l ++ c.in_ok-hidden.hidden ∷ []) (c.in_ok-push.ensures.items ∙ ap (λ l. l ++ c.in_ok-integers.integers ∷ []) c.new-contents.ensures.items))
    ∙ ap₂ (λ (i : List (Vid × Entry)) h. i ∷ h ∷ []) c.in_ok-integers.ensures c.in_ok-hidden.ensures
