-- New variables as types, and what stands where they are put for parameters.
use Rattle.std.specs.Prelude.{ℕ, List, [], ◌∷◌, map, ⊤}
use Rattle.ty_core.specs.Types.{Typ}
use Rattle.ty_core.specs.Marks.{Allows}
use Rattle.ty_core.specs.declared.mark.Mark.{Mark}
use Rattle.ty_solve.specs.declared.limit.Limit.{Limit}
use Rattle.elab_context.specs.of_elab_steps.Growing.{IsWithin}
use Rattle.elab_context.specs.of_elab_steps.World.{World, type_of}

-- a type such as the mark asks for, that reaches no further than the limit
pub record IsFresh (W : World) (limit : Limit) (mark : Mark) (k : ℕ) : Type 0 where
  pub allowed : Allows mark W.admits (type_of W k)
  pub within : IsWithin W limit k

-- one a mark
abbrev pub AreFresh : World → Limit → List Mark → List ℕ → Type 0
AreFresh W limit [] [] = ⊤
AreFresh W limit [] (k ∷ ks) = ⊥
AreFresh W limit (m ∷ ms) [] = ⊥
AreFresh W limit (m ∷ ms) (k ∷ ks) = IsFresh W limit m k × AreFresh W limit ms ks

-- what types of the table come to
abbrev pub images_of : World → List ℕ → List Typ
images_of W = map (type_of W)
