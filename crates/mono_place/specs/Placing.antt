-- In which order the parts of a type are placed.
use Rattle.std.specs.Prelude.{◌≡◌, ◌⊎◌, ◌<◌, ◌+◌, ◌*◌, ℕ, suc, List, [], ◌∷◌, ◌++◌, length, Option, Some, unwrap_or, ⊤}
use Rattle.ty_core.specs.Types.{Symbol, Typ, var, con, Typs, none, more, nodes}
use Rattle.ty_table.specs.TypeAt.{type_at, types_at, AllBelow}
use Rattle.ir_mono.specs.Types.{Row, node}
use Rattle.monomorphise.specs.Table.{position, place_type}
use Rattle.mono_place.specs.declared.step.Step.{Step}
use Rattle.mono_place.specs.declared.step.Step.TheVariants.{Visit, Build}

-- the table has the type under this number, and all its parts, where its variables have the numbers s
mutual
  pub data IsPlaced (s : ℕ → ℕ) (types : List Row) : Typ → ℕ → Type 0 where
    placed_var : {v : ℕ} → IsPlaced s types (var v) (s v)
    placed_con : {h : Symbol} {ts : Typs} {ns : List ℕ} {n : ℕ} → ArePlaced s types ts ns → position (node h ns) types ≡ Some n → IsPlaced s types (con h ts) n

  pub data ArePlaced (s : ℕ → ℕ) (types : List Row) : Typs → List ℕ → Type 0 where
    placed_none : ArePlaced s types none []
    placed_more : {t : Typ} {ts : Typs} {n : ℕ} {ns : List ℕ} → IsPlaced s types t n → ArePlaced s types ts ns → ArePlaced s types (more t ts) (n ∷ ns)

-- the numbers that were found are right
abbrev pub AreRight : List Typ → (ℕ → ℕ) → (ℕ → Option ℕ) → List Row → Type 0
AreRight ts s known types = (k n : ℕ) → known k ≡ Some n → IsPlaced s types (type_at ts k) n

-- the number that was found, or 0
abbrev pub number_in : (ℕ → Option ℕ) → ℕ → ℕ
number_in known k = unwrap_or (known k) 0

-- the last step is taken first, so the first part stands last
abbrev pub visits : List ℕ → List Step
visits [] = []
visits (k ∷ ks) = visits ks ++ Visit k ∷ []

abbrev pub subject : Step → ℕ
subject (Visit k) = k
subject (Build k) = k

-- the table once the steps are taken
abbrev pub after : (ℕ → ℕ) → List Typ → List Step → List Row → List Row
after s ts [] types = types
after s ts (x ∷ l) types = (place_type s (after s ts l types) (type_at ts (subject x))).0

-- one of the steps is about k
abbrev pub Among : List Step → ℕ → Type 0
Among [] k = ⊥
Among (x ∷ l) k = (subject x ≡ k) ⊎ Among l k

-- k has its number, or gets it by one of the steps
pub data Has (known : ℕ → Option ℕ) (steps : List Step) (k : ℕ) : Type 0 where
  found : (n : ℕ) → known k ≡ Some n → Has known steps k
  awaited : Among steps k → Has known steps k

abbrev pub AllHave : (ℕ → Option ℕ) → List Step → List ℕ → Type 0
AllHave known steps [] = ⊤
AllHave known steps (k ∷ ks) = Has known steps k × AllHave known steps ks

-- k has parts, which have their numbers once the steps are taken
pub record Builds (ts : List Typ) (known : ℕ → Option ℕ) (steps : List Step) (k : ℕ) : Type 0 where
  pub symbol : Symbol
  pub parts : List ℕ
  pub is : type_at ts k ≡ con symbol (types_at ts parts)
  pub below : AllBelow (length ts) parts
  pub have : AllHave known steps parts

abbrev pub CanStep : List Typ → (ℕ → Option ℕ) → List Step → Step → Type 0
CanStep ts known steps (Visit k) = ⊤
CanStep ts known steps (Build k) = Builds ts known steps k

-- each step can be taken after those that stand behind it
abbrev pub InOrder : List Typ → (ℕ → Option ℕ) → List Step → Type 0
InOrder ts known [] = ⊤
InOrder ts known (x ∷ l) = CanStep ts known l x × InOrder ts known l

-- the steps come to the number of `goal`, and to the table that it is placed in
pub record Going (ts : List Typ) (s : ℕ → ℕ) (known : ℕ → Option ℕ) (first types : List Row) (steps : List Step) (goal : ℕ) : Type 0 where
  pub right : AreRight ts s known types
  pub order : InOrder ts known steps
  pub has : Has known steps goal
  pub table : after s ts steps types ≡ (place_type s first (type_at ts goal)).0

-- how much there is to do
abbrev pub burden : List Typ → List Step → ℕ
burden ts [] = 0
burden ts (Visit k ∷ l) = 2 * nodes (type_at ts k) + burden ts l
burden ts (Build k ∷ l) = suc (burden ts l)

-- the type of k has parts, which are to be visited, and k is to be built of them
pub record Opens (ts : List Typ) (k : ℕ) (old new : List Step) : Type 0 where
  pub symbol : Symbol
  pub parts : List ℕ
  pub is : type_at ts k ≡ con symbol (types_at ts parts)
  pub below : AllBelow (length ts) parts
  pub steps : new ≡ old ++ (Build k ∷ visits parts)

-- less is to be done for the same number
pub record Moves (ts : List Typ) (s : ℕ → ℕ) (known later : ℕ → Option ℕ) (first types new_types : List Row) (old new : List Step) (goal : ℕ) : Type 0 where
  pub going : Going ts s later first new_types new goal
  pub lighter : burden ts new < burden ts old
