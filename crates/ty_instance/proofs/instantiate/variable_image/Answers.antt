use Rattle.std.proofs.Common.{◌-◌, length, get_or, Some, if◌then◌else◌, sym, ap, ◌∙◌}
use Rattle.std.proofs.lemmas.Bool.{lt-ltb}
use Rattle.std.proofs.lemmas.Option.{slice_get-get_or}
use Rattle.ty_solve.specs.of_ty_core.Types.{var}
use Rattle.ty_solve.specs.of_ty_table.TypeAt.{type_at}
use Rattle.ty_solve.proofs.of_ty_table.Viewing.{below-at}
use Rattle.ty_instance.proofs.instantiate.variable_image.Goals as goal

pub returns-then-v-images-clause-is : goal.returns-then-v-images-clause-is
returns-then-v-images-clause-is c =
    slice_get-get_or c.args.types.now (get_or c.args.images.now c.args.v 0) (var 0) (below-at _ c.args.images.now c.args.v c.requires.held c.if-v-images.true) ∙ ap Some (sym (ap (λ b. if b then type_at c.args.types.now (get_or c.args.images.now c.args.v 0) else var (c.args.v - length c.args.images.now)) (lt-ltb c.args.v (length c.args.images.now) c.if-v-images.true)))
