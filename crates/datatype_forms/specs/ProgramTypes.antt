-- Types of one table in another one, with the program's numbers of type names, and in which order they are made.
use Rattle.std.specs.Prelude.{◌≡◌, ◌⊎◌, ◌<◌, ◌+◌, ◌*◌, ℕ, suc, List, [], ◌∷◌, ◌++◌, map, length, take, slice_get, Option, Some, None, nat_eq, unwrap_or, ⊤}
use Rattle.std.specs.Map.{lookup}
use Rattle.ty_core.specs.Types.{Symbol, Typ, Typs, var, con, nodes}
use Rattle.ty_table.specs.TypeAt.{type_at, types_at, AllBelow}
use Rattle.core_rules.specs.Objects.{Over, SymbolOver}
use Rattle.elab_typed.specs.Numbers.{symbol_as, type_as}
use Rattle.datatype_forms.specs.declared.step.Step.{Step}
use Rattle.datatype_forms.specs.declared.step.Step.TheVariants.{Visit, Build}

-- the number of a type name, its own where it has no other
abbrev pub number_by : List (ℕ × ℕ) → ℕ → ℕ
number_by numbers x = unwrap_or (lookup (nat_eq x) numbers) x

-- n is the number of the type t, which has no names but the first so many
abbrev pub IsImage : (ℕ → ℕ) → ℕ → List Typ → ℕ → Typ → Type 0
IsImage f limit us n t = (slice_get us n ≡ Some (type_as f t)) × Over limit t

-- n is the number of the type of this symbol, with these parts
abbrev pub IsBuilt : (ℕ → ℕ) → ℕ → List Typ → ℕ → Symbol → Typs → Type 0
IsBuilt f limit us n h ts = (slice_get us n ≡ Some (con (symbol_as f h) ts)) × SymbolOver limit h

-- the numbers that were found are right
abbrev pub AreRight : List Typ → (ℕ → ℕ) → ℕ → (ℕ → Option ℕ) → List Typ → Type 0
AreRight ts f limit known us = (k n : ℕ) → known k ≡ Some n → IsImage f limit us n (type_at ts k)

-- the number that was found, or 0
abbrev pub number_in : (ℕ → Option ℕ) → ℕ → ℕ
number_in known k = unwrap_or (known k) 0

abbrev pub visits : List ℕ → List Step
visits = map Visit

abbrev pub subject : Step → ℕ
subject (Visit k) = k
subject (Build k) = k

-- one of the steps is about k
abbrev pub Among : List Step → ℕ → Type 0
Among [] k = ⊥
Among (x ∷ l) k = (subject x ≡ k) ⊎ Among l k

-- k has its number, or gets it by one of the steps
pub data Has (known : ℕ → Option ℕ) (steps : List Step) (k : ℕ) : Type 0 where
  found : (n : ℕ) → known k ≡ Some n → Has known steps k
  awaited : Among steps k → Has known steps k

abbrev pub AllHave : (ℕ → Option ℕ) → List Step → List ℕ → Type 0
AllHave known steps [] = ⊤
AllHave known steps (k ∷ ks) = Has known steps k × AllHave known steps ks

-- k has parts, which have their numbers once the steps are taken
pub record Builds (ts : List Typ) (known : ℕ → Option ℕ) (steps : List Step) (k : ℕ) : Type 0 where
  pub symbol : Symbol
  pub parts : List ℕ
  pub is : type_at ts k ≡ con symbol (types_at ts parts)
  pub below : AllBelow (length ts) parts
  pub have : AllHave known steps parts

abbrev pub CanStep : List Typ → (ℕ → Option ℕ) → List Step → Step → Type 0
CanStep ts known steps (Visit k) = ⊤
CanStep ts known steps (Build k) = Builds ts known steps k

-- each step can be taken after those that stand behind it
abbrev pub InOrder : List Typ → (ℕ → Option ℕ) → List Step → Type 0
InOrder ts known [] = ⊤
InOrder ts known (x ∷ l) = CanStep ts known l x × InOrder ts known l

-- the steps come to the number of `goal`
pub record Going (ts : List Typ) (f : ℕ → ℕ) (limit : ℕ) (known : ℕ → Option ℕ) (us : List Typ) (steps : List Step) (goal : ℕ) : Type 0 where
  pub right : AreRight ts f limit known us
  pub order : InOrder ts known steps
  pub has : Has known steps goal

-- how much there is to do
abbrev pub burden : List Typ → List Step → ℕ
burden ts [] = 0
burden ts (Visit k ∷ l) = 2 * nodes (type_at ts k) + burden ts l
burden ts (Build k ∷ l) = suc (burden ts l)

-- less is to be done for the same number
pub record Moves (ts : List Typ) (f : ℕ → ℕ) (limit : ℕ) (later : ℕ → Option ℕ) (us : List Typ) (old new : List Step) (goal : ℕ) : Type 0 where
  pub going : Going ts f limit later us new goal
  pub lighter : burden ts new < burden ts old

-- the type of k has parts, which are to be visited, and k is to be built of them; or it is the variable that was found
pub data Opened (ts : List Typ) (k : ℕ) (old new : List Step) : Option ℕ → Type 0 where
  a_variable : {v : ℕ} → type_at ts k ≡ var v → new ≡ old → Opened ts k old new (Some v)
  with_parts : (h : Symbol) (ks : List ℕ) → type_at ts k ≡ con h (types_at ts ks) → AllBelow (length ts) ks → new ≡ old ++ (Build k ∷ visits ks)
      → Opened ts k old new None

-- the numbers of k's parts, if it has any, are those of a table of n types
abbrev pub CanBuild : List Typ → (ℕ → Option ℕ) → (n k : ℕ) → Type 0
CanBuild ts known n k = (h : Symbol) (parts : List ℕ) → type_at ts k ≡ con h (types_at ts parts) → AllBelow (length ts) parts
    → AllBelow n (map (number_in known) parts)

-- the second table has the types of the first one at their numbers
abbrev pub Longer : List Typ → List Typ → Type 0
Longer us ws = take (length us) ws ≡ us
