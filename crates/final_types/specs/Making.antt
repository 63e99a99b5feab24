-- How types are made: steps are taken from a stack, and the numbers of types that were made wait for what is made of them.
use Rattle.std.specs.Prelude.{◌≡◌, ◌<◌, ◌*◌, ◌+◌, ◌&&◌, ℕ, suc, Bool, nat_eq, List, [], ◌∷◌, ◌++◌, map, length, reverse, Option, Some, if◌then◌else◌}
use Rattle.ty_core.specs.Types.{Typ, con, typs_of}
use Rattle.ty_core.specs.TypesOf.{head_of}
use Rattle.ty_core.specs.declared.ty.Head.{Head}
use Rattle.ty_table.specs.TypeAt.{type_at, AllBelow}
use Rattle.ty_solve.specs.Weight.{weight}
use Rattle.elab_state.specs.declared.naming.Naming.{Naming}
use Rattle.final_types.specs.Bounds.{AreBounds}
use Rattle.final_types.specs.Images.{type_in}
use Rattle.final_types.specs.Names.{AreNames}
use Rattle.final_types.specs.Nodes.{IsEnd, types_of}
use Rattle.final_types.specs.declared.source.Source.{Source}
use Rattle.final_types.specs.declared.step.Step.{Step}
use Rattle.final_types.specs.declared.step.Step.TheVariants.{Visit, Keep, Build}

abbrev pub namings_of : Source → List Naming
namings_of S = S.names.namings.now

pub record IsSource (S : Source) : Type 0 where
  pub names : AreNames S.names.namings.now S.names.jumps.now
  pub bounds : AreBounds S.solver.now S.bounds.now

abbrev pub same_key : ℕ × ℕ → ℕ × ℕ → Bool
same_key a b = nat_eq a.0 b.0 && nat_eq a.1 b.1

-- numbers of types that were made, by their own and the naming's
abbrev pub Known : Type 0
Known = ℕ × ℕ → Option ℕ

-- one more number is known
abbrev pub IsNoted : Known → Known → ℕ → ℕ → ℕ → Type 0
IsNoted old new k p r = (q : ℕ × ℕ) → new q ≡ (if same_key (k, p) q then Some r else old q)

abbrev pub visits : ℕ → List ℕ → List Step
visits p = map (λ k. Visit k p)

module _ (S : Source) where
  -- the program's type of k, where a naming is in force
  abbrev pub image_at : (ℕ → Typ) → ℕ → Option ℕ → Typ
  image_at g k o = type_in (types_of S.solver.now) [] (namings_of S) g o k

  abbrev pub image : (ℕ → Typ) → ℕ → ℕ → Typ
  image g k p = image_at g k (Some p)

  -- what was made is in the table us, and right
  pub record AreMade (us : List Typ) (known : Known) : Type 0 where
    pub held : (k p r : ℕ) → known (k, p) ≡ Some r → r < length us
    pub right : (g : ℕ → Typ) → IsEnd S.solver.now g → (k p r : ℕ) → known (k, p) ≡ Some r → type_at us r ≡ image g k p

  pub record Keeps (g : ℕ → Typ) (k p : ℕ) (vs : List Typ) : Type 0 where
    pub others : List Typ
    pub is : vs ≡ others ++ image g k p ∷ []

  pub record Builds (g : ℕ → Typ) (k p : ℕ) (h : Head) (n : ℕ) (vs others : List Typ) : Type 0 where
    pub parts : List Typ
    pub is : vs ≡ others ++ parts
    pub count : length parts ≡ n
    pub whole : image g k p ≡ con (head_of h) (typs_of parts)

  -- the steps, the first of the list first, come to the type t, where the types vs were made
  abbrev pub Comes : (ℕ → Typ) → Typ → List Step → List Typ → Type 0
  Comes g t [] vs = vs ≡ t ∷ []
  Comes g t (Visit k p ∷ l) vs = Comes g t l (vs ++ image g k p ∷ [])
  Comes g t (Keep k p ∷ l) vs = Keeps g k p vs × Comes g t l vs
  Comes g t (Build k p h n ∷ l) vs = (others : List Typ) × Builds g k p h n vs others × Comes g t l (others ++ image g k p ∷ [])

  -- how much there is to do
  abbrev pub burden : List Step → ℕ
  burden [] = 0
  burden (Visit k p ∷ l) = 2 * weight S.solver.now.subst.acyclic.0 (type_at (types_of S.solver.now) k) + burden l
  burden (Keep k p ∷ l) = suc (burden l)
  burden (Build k p h n ∷ l) = suc (burden l)

  -- steps, the last of the list first, come to the type of k₀
  pub record Going (us : List Typ) (known : Known) (steps : List Step) (values : List ℕ) (k₀ p₀ : ℕ) : Type 0 where
    pub made : AreMade us known
    pub held : AllBelow (length us) values
    pub comes : (g : ℕ → Typ) → IsEnd S.solver.now g → Comes g (image g k₀ p₀) (reverse steps) (map (type_at us) values)

  -- less is to be done for the same type
  pub record Moves (us : List Typ) (later : Known) (old new : List Step) (values : List ℕ) (k₀ p₀ : ℕ) : Type 0 where
    pub going : Going us later new values k₀ p₀
    pub lighter : burden (reverse new) < burden (reverse old)
