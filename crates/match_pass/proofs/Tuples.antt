-- Tuples that are written under nodes that add nothing, and expressions that are none.
use Rattle.std.proofs.Common.{◌≡◌, List, [], sym, ap, subst, ◌∙◌}
use Rattle.plain_tree.specs.declared.tree.Field.{Field}
use Rattle.plain_tree.specs.declared.tree.Step.{Step}
use Rattle.prog_tree.specs.TreeOf.{Reading, tree_of}
use Rattle.prog_tree.specs.declared.tree.Exp.{Exp}
use Rattle.general_bindings.specs.of_match_types.declared.work.Work.{Work}
use Rattle.general_bindings.specs.of_exp_steps.Making.{MakesTuple}
use Rattle.general_bindings.proofs.of_exp_steps.Counting.{tuple-as, tuple-none}
use Rattle.general_bindings.proofs.of_exp_steps.Heads.{IsAlone}
use Rattle.match_pass.specs.Reading.{expression}

-- no tuple
pub alone-tuple : (w : Work) (s : List Step) (made : List Field) (e d : Exp) → made ≡ [] → e ≡ d → ((R : Reading) → IsAlone (tree_of R d)) → MakesTuple w w s s (expression e) made
alone-tuple w s made e d none is alone = tuple-none w s made (expression e) none (λ R. subst (λ x. IsAlone (tree_of R x)) (sym is) (alone R))

-- a node that adds nothing to i
pub inner-tuple : {w v : Work} {s m : List Step} {made : List Field} (e d i : Exp) (j : Exp) → e ≡ d → ((R : Reading) → tree_of R d ≡ tree_of R j) → i ≡ j → MakesTuple w v s m (expression i) made → MakesTuple w v s m (expression e) made
inner-tuple e d i j is same inner p = tuple-as (expression i) (expression e) (λ R. ap (tree_of R) is ∙ same R ∙ ap (tree_of R) (sym inner)) p
