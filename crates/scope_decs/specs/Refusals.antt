-- When declarations are refused that bring into scope what is there already.
use Rattle.std.specs.Prelude.{◌≡◌, ◌⊎◌, ◌++◌, ◌∷◌, [], List, None}
use Rattle.std.specs.List.{Any}
use Rattle.sml_tree.specs.Terminal.{LongVid}
use Rattle.sml_tree.specs.BareTree.{LongIdAt}
use Rattle.sml_tree.specs.declared.ident.Vid.{Vid}
use Rattle.core_rules.specs.Elaborated.{replicated}
use Rattle.elab_typed.specs.Contexts.{Around, generic}
use Rattle.elab_types.specs.declared.refused.Refused.{Refused}
use Rattle.elab_types.specs.declared.refused.Refused.TheVariants.{Memory, Unbound}
use Rattle.elab_steps.specs.World.{World}
use Rattle.elab_context.specs.Telling.{IsUnboundIn, Tells}
use Rattle.elab_context.specs.declared.context.Context.{Context}

-- where the context tells of something, the type constructor isn't bound in it
abbrev pub IsUnboundTypeIn : Context → LongIdAt → Type 0
IsUnboundTypeIn C y = (W : World) (A : Around) → Tells C W A → replicated (generic A).env y ≡ None

-- why `datatype t = datatype y` is refused
abbrev pub IsReplicateRefused : Context → LongIdAt → Refused → Type 0
IsReplicateRefused C y e = (e ≡ Memory) ⊎ ((e ≡ Unbound y.place) × IsUnboundTypeIn C y)

-- an identifier in a structure
abbrev pub within : LongIdAt → Vid → LongVid
within y v = record { qualifiers = y.long.qualifiers ++ y.long.id ∷ []; vid = v }

-- where the context tells of something, no identifier is bound in it that is in the structure
abbrev pub IsUnboundStructureIn : Context → LongIdAt → Type 0
IsUnboundStructureIn C y = (v : Vid) → IsUnboundIn C (within y v)

-- why `open` is refused: one of the structures isn't there
abbrev pub IsOpenRefused : Context → List LongIdAt → Refused → Type 0
IsOpenRefused C ys e = (e ≡ Memory) ⊎ Any (λ y. (e ≡ Unbound y.place) × IsUnboundStructureIn C y) ys
