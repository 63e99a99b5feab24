-- The standard basis with a prelude that declares nothing, and a source that declares nothing.
use Rattle.std.proofs.Common.{List, [], ◌∷◌}
use Rattle.sml_tree.specs.BareTree as bare
use Rattle.core_rules.specs.Project.{standard_basis, source}
use Rattle.ir_poly.specs.Prog as prog
use Rattle.ir_poly.specs.Types.{Constructor}
use Rattle.core_elab.specs.Scopes.{empty}
use Rattle.elab_typed.specs.Contexts.{Around, kept_values, after}
use Rattle.elab_typed.specs.Elaborates.{no_decs_elab}
use Rattle.project_typed.specs.Elaborates.{Standard, nothing_around, standard_with, ProjectElab, no_part_elab, source_elab, first_basis_elab, later_basis_elab}

abbrev basis : Standard
basis = standard_with (kept_values []) empty

-- the basis comes into scope once more where it stands a second time
abbrev with_basis : Around → Around
with_basis A = after A 0 (λ k. k) basis.env basis.scope []

abbrev around : Around
around = with_basis (after (with_basis nothing_around) 0 (λ k. k) (kept_values []) empty [])

nothing-elaborates : (table : List Constructor)
    → ProjectElab table bare.no_decs (standard_basis ∷ source bare.no_decs ∷ standard_basis ∷ []) prog.no_decs around 0
nothing-elaborates table = first_basis_elab no_decs_elab (source_elab no_decs_elab (later_basis_elab no_part_elab))
