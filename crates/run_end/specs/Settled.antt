-- What a run of declarations brings into scope is settled: it has the types that it has, whatever comes later.
use Rattle.std.specs.Prelude.{ℕ, List, Option, Some, None}
use Rattle.std.specs.List.{AllByRecursion, flat_map}
use Rattle.std.specs.Option.{option_to_list}
use Rattle.ty_table.specs.TypeAt.{type_at}
use Rattle.sml_tree.specs.declared.ident.Vid.{Vid}
use Rattle.ir_poly.specs.Types.{in_scope}
use Rattle.elab_state.specs.States.{general_in, said_in, types_in}
use Rattle.elab_state.specs.declared.state.State.{State}
use Rattle.elab_context.specs.declared.entry.Entry.{Entry}
use Rattle.elab_context.specs.declared.entry.Entry.TheVariants.{Constructor, Reference, Initial, Primitive, Raised, Single, Own, General}
use Rattle.open_variables.specs.Open.{IsClosed}
use Rattle.dec_forms.specs.declared.brought.Brought.{Brought}

-- each open variable that stands in the type k was generalised
abbrev pub IsSettledType : State → ℕ → Type 0
IsSettledType S k = IsClosed (said_in S) (in_scope (general_in S)) (type_at (types_in S) k)

-- the type of an identifier by its number: a scheme has no variables but its own parameters, and is none
abbrev pub own_type : Entry → Option ℕ
own_type (Constructor s n y) = None
own_type (Reference s) = None
own_type (Initial s n) = None
own_type (Primitive s q) = None
own_type (Raised n a) = a
own_type (Single t n) = Some t
own_type (Own t n) = Some t
own_type (General l t n o) = Some t

abbrev pub types_brought : List (Vid × Entry) → List ℕ
types_brought = flat_map (λ e. option_to_list (own_type e.1))

-- nothing that was brought has a type that is open; a type constructor's body has no variables but its parameters
abbrev pub IsSettled : State → Brought → Type 0
IsSettled S b = AllByRecursion (IsSettledType S) (types_brought b.values.items)
