-- The constructors of lists, over new types.
use Rattle.std.specs.Prelude.{◌≡◌}
use Rattle.ty_basis.specs.Types.{function_type, list_type, pair_type}
use Rattle.pat_elab.specs.of_elab_state.declared.state.State.{State}
use Rattle.pat_elab.specs.of_elab_steps.Growing.{HasType, Grows, Always, IsWithin}
use Rattle.pat_elab.specs.of_elab_steps.World.{type_of}
use Rattle.pat_elab.specs.of_elab_context.Entries.{limit_of}
use Rattle.pat_elab.specs.of_elab_context.declared.context.Context.{Context}
use Rattle.exp_forms.specs.declared.parts.ListTypes.{ListTypes}

-- a new type of elements, that of lists of such, that of a pair of both, and that of `::`
pub record AreListTypes (S : State) (C : Context) (T : State) (m : ListTypes) : Type 0 where
  pub grows : Grows S T
  pub element : HasType T m.element
  pub list : HasType T m.list
  pub pair : HasType T m.pair
  pub function : HasType T m.function
  pub within : Always T (λ W. IsWithin W (limit_of C) m.element)
  pub lists : Always T (λ W. type_of W m.list ≡ list_type (type_of W m.element))
  pub pairs : Always T (λ W. type_of W m.pair ≡ pair_type (type_of W m.element) (list_type (type_of W m.element)))
  pub functions : Always T (λ W. type_of W m.function
      ≡ function_type (pair_type (type_of W m.element) (list_type (type_of W m.element))) (list_type (type_of W m.element)))
