-- The order in which images are made.
use Rattle.std.specs.Prelude.{◌≡◌, ◌⊎◌, ◌<◌, ◌*◌, ◌+◌, ℕ, suc, List, [], ◌∷◌, ◌++◌, map, length, Option, Some, unwrap_or, ⊤}
use Rattle.ty_solve.specs.of_ty_core.Types.{Symbol, Typ, var, con}
use Rattle.ty_solve.specs.of_ty_table.TypeAt.{type_at, types_at, top, AllBelow}
use Rattle.ty_solve.specs.Substitution.{Entry, bound, sub}
use Rattle.ty_solve.specs.Weight.{weight}
use Rattle.ty_instance.specs.declared.step.Step.{Step}
use Rattle.ty_instance.specs.declared.step.Step.TheVariants.{Visit, Build, Same}

-- the image of k, or k where none was made
abbrev pub image_in : (ℕ → Option ℕ) → ℕ → ℕ
image_in images k = unwrap_or (images k) k

-- k has no variable, or its image was made
pub data IsDone (ts : List Typ) (images : ℕ → Option ℕ) (k : ℕ) : Type 0 where
  ground : top (type_at ts k) ≡ 0 → IsDone ts images k
  made : (r : ℕ) → images k ≡ Some r → IsDone ts images k

abbrev pub visits : List ℕ → List Step
visits = map Visit

-- the type of k has parts, which are to be visited, and k is to be built of them
pub record Opens (ts : List Typ) (k : ℕ) (old new : List Step) : Type 0 where
  pub symbol : Symbol
  pub parts : List ℕ
  pub is : type_at ts k ≡ con symbol (types_at ts parts)
  pub below : AllBelow (length ts) parts
  pub steps : new ≡ old ++ (Build k ∷ visits parts)

-- k has parts whose images the table has
pub record CanBuild (ts : List Typ) (images : ℕ → Option ℕ) (k : ℕ) : Type 0 where
  pub within : k < length ts
  pub symbol : Symbol
  pub parts : List ℕ
  pub is : type_at ts k ≡ con symbol (types_at ts parts)
  pub below : AllBelow (length ts) parts
  pub held : AllBelow (length ts) (map (image_in images) parts)

abbrev pub number : Step → ℕ
number (Visit k) = k
number (Build k) = k
number (Same k u) = k

-- one of the steps is about k
abbrev pub Among : List Step → ℕ → Type 0
Among [] k = ⊥
Among (x ∷ l) k = (number x ≡ k) ⊎ Among l k

-- k needs no image, has it, or gets it by one of the steps
pub data Has (ts : List Typ) (images : ℕ → Option ℕ) (steps : List Step) (k : ℕ) : Type 0 where
  ground : k < length ts → top (type_at ts k) ≡ 0 → Has ts images steps k
  made : (r : ℕ) → images k ≡ Some r → Has ts images steps k
  awaited : Among steps k → Has ts images steps k

abbrev pub AllHave : List Typ → (ℕ → Option ℕ) → List Step → List ℕ → Type 0
AllHave ts images steps [] = ⊤
AllHave ts images steps (k ∷ ks) = Has ts images steps k × AllHave ts images steps ks

-- k can be built once the steps are done
pub record Builds (ts : List Typ) (images : ℕ → Option ℕ) (steps : List Step) (k : ℕ) : Type 0 where
  pub within : k < length ts
  pub symbol : Symbol
  pub parts : List ℕ
  pub is : type_at ts k ≡ con symbol (types_at ts parts)
  pub below : AllBelow (length ts) parts
  pub have : AllHave ts images steps parts

-- k is a variable that stands for u, which has its image once the steps are done
pub record Follows (ts : List Typ) (s : ℕ → Entry) (images : ℕ → Option ℕ) (steps : List Step) (k u : ℕ) : Type 0 where
  pub within : k < length ts
  pub variable : ℕ
  pub is : type_at ts k ≡ var variable
  pub stands : s variable ≡ bound (type_at ts u)
  pub held : u < length ts
  pub has : Has ts images steps u

-- the step can be done after the others
abbrev pub CanStep : List Typ → (ℕ → Entry) → (ℕ → Option ℕ) → List Step → Step → Type 0
CanStep ts s images steps (Visit k) = k < length ts
CanStep ts s images steps (Build k) = Builds ts images steps k
CanStep ts s images steps (Same k u) = Follows ts s images steps k u

-- each step can be done after those that stand behind it
abbrev pub InOrder : List Typ → (ℕ → Entry) → (ℕ → Option ℕ) → List Step → Type 0
InOrder ts s images [] = ⊤
InOrder ts s images (x ∷ l) = CanStep ts s images l x × InOrder ts s images l

-- r stands for the type of k with f put for its variables
pub record IsImage (ts : List Typ) (f : ℕ → Typ) (k r : ℕ) : Type 0 where
  pub within : k < length ts
  pub held : r < length ts
  pub is : type_at ts r ≡ sub f (type_at ts k)

-- the images are right, and the steps, the last first, come to the image of `goal`
pub record Going (ts : List Typ) (s : ℕ → Entry) (f : ℕ → Typ) (images : ℕ → Option ℕ) (steps : List Step) (goal : ℕ) : Type 0 where
  pub right : (k r : ℕ) → images k ≡ Some r → IsImage ts f k r
  pub order : InOrder ts s images steps
  pub has : Has ts images steps goal

-- how much there is to do, where variables have weights
abbrev pub burden : (ℕ → ℕ) → List Typ → List Step → ℕ
burden w ts [] = 0
burden w ts (Visit k ∷ l) = 2 * weight w (type_at ts k) + burden w ts l
burden w ts (Build k ∷ l) = suc (burden w ts l)
burden w ts (Same k u ∷ l) = suc (burden w ts l)

-- less is to be done for the same image
pub record Moves (ts us : List Typ) (s : ℕ → Entry) (f : ℕ → Typ) (w : ℕ → ℕ) (images later : ℕ → Option ℕ) (old new : List Step) (goal : ℕ) : Type 0 where
  pub going : Going us s f later new goal
  pub lighter : burden w us new < burden w ts old
