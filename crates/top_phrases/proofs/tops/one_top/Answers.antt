use Rattle.std.proofs.Common.{ap, ◌∙◌, [], ◌∷◌}
use Rattle.module_tree.specs.BareModules as bare
use Rattle.top_phrases.proofs.tops.one_top.Goals as goal

pub returns-in-Core : goal.returns-in-Core
returns-in-Core g c = λ of. rw c.in-Core.is (ap (λ (z : bare.Top). z ∷ []) (c.declared.ensures of ∙ ap bare.str_top (c.core.ensures of)))
