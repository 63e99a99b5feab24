-- What a project elaborates to resolves it.
use Rattle.std.proofs.Common.{ℕ, List, Option}
use Rattle.std.specs.Prelude.{option_map}
use Rattle.sml_tree.specs.BareTree.{Decs}
use Rattle.core_rules.specs.Project.{Part}
use Rattle.ir_poly.specs.Prog as prog
use Rattle.ir_poly.specs.Types.{Constructor}
use Rattle.core_elab.specs.Parts.{PartsTo, no_parts_to, source_to, first_basis_to, later_basis_to}
use Rattle.elab_typed.specs.Contexts.{Around}
use Rattle.elab_typed.proofs.Resolving.{decs-to}
use Rattle.project_typed.specs.Elaborates.{Standard, PartsElab, no_part_elab, source_elab, first_basis_elab, later_basis_elab}

pub parts-to : {table : List Constructor} {prelude : Decs} {A B : Around} {k i : ℕ} {b : Option Standard} {parts : List Part} {es : prog.Decs}
    → PartsElab table prelude A k b parts es B i → PartsTo prelude A.scope k (option_map (λ s. s.scope) b) parts es
parts-to no_part_elab = no_parts_to
parts-to (source_elab ds h) = source_to (decs-to ds) (parts-to h)
parts-to (first_basis_elab ds h) = first_basis_to (decs-to ds) (parts-to h)
parts-to (later_basis_elab h) = later_basis_to (parts-to h)
