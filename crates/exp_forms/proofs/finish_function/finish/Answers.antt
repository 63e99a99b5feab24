use Rattle.std.proofs.Common.{◌≡◌, List, ℕ, refl, subst}
use Rattle.use_elab.specs.Fresh.{images_of}
use Rattle.pat_elab.specs.of_elab_steps.Growing.{Always}
use Rattle.pat_elab.specs.of_elab_steps.World.{type_of}
use Rattle.exp_forms.specs.Functions.{curried}
use Rattle.exp_forms.proofs.FinishingFunctions.{function_is}
use Rattle.exp_forms.proofs.finish_function.finish.Goals as goal

pub returns : goal.returns
returns c S M C D as_ e h i =
    function_is S M c.args.state.now c.curried_type.new.state C D as_ e c.args.entered.before c.args.entered.last c.args.entered.types.items c.args.body c.in_ok-ty.ty c.in_ok-exp.exp _ h i
    c.in_ok-ty.ensures.grows c.in_ok-ty.ensures.is
    (subst (λ (l : List ℕ). Always c.curried_type.new.state (λ W. type_of W c.in_ok-ty.ty ≡ curried (images_of W l) (type_of W c.args.body.ty))) c.deref.ensures.value c.in_ok-ty.ensures.has)
    c.in_ok-exp.ensures refl refl
