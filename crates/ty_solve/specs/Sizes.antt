-- Counting the nodes of a type that a substitution gives, each type once.
use Rattle.std.specs.Prelude.{◌≡◌, ◌<◌, ◌≤◌, ◌+◌, ◌-◌, ◌*◌, ◌^◌, ℕ, suc, List, [], ◌∷◌, ◌++◌, Option, Some, ⊤}
use Rattle.ty_table.specs.of_ty_core.Types.{Typ, nodes}
use Rattle.ty_table.specs.TypeAt.{type_at}
use Rattle.ty_solve.specs.Substitution.{Entry, Resolves, sub}
use Rattle.ty_solve.specs.Weight.{weight}
use Rattle.ty_solve.specs.declared.size.Tally.{Tally}
use Rattle.ty_solve.specs.declared.size.Tally.TheVariants.{Visit, Done}

-- the nodes of the type k under f
abbrev pub size_at : (ℕ → Typ) → List Typ → ℕ → ℕ
size_at f ts k = nodes (sub f (type_at ts k))

-- the nodes that tasks ask for
abbrev pub asked : (ℕ → Typ) → List Typ → List Tally → ℕ
asked f ts [] = 0
asked f ts (Visit k ∷ l) = size_at f ts k + asked f ts l
asked f ts (Done k n ∷ l) = asked f ts l

-- where a type is done, all that is counted from n on are its nodes, once what the tasks above it ask for is
abbrev pub AreMarked : (ℕ → Typ) → List Typ → ℕ → List Tally → Type 0
AreMarked f ts count [] = ⊤
AreMarked f ts count (Visit k ∷ l) = AreMarked f ts count l
AreMarked f ts count (Done k n ∷ l) = (count + asked f ts l ≡ n + size_at f ts k) × AreMarked f ts count l

-- so many were counted before
abbrev pub AreEarlier : ℕ → List Tally → Type 0
AreEarlier count [] = ⊤
AreEarlier count (Visit k ∷ l) = AreEarlier count l
AreEarlier count (Done k n ∷ l) = (n ≤ count) × AreEarlier count l

-- how much there is still to do
abbrev pub effort : (ℕ → ℕ) → List Typ → List Tally → ℕ
effort w ts [] = 0
effort w ts (Visit k ∷ l) = 2 * weight w (type_at ts k) + effort w ts l
effort w ts (Done k n ∷ l) = suc (effort w ts l)

-- these are the sizes of types under what resolves s
abbrev pub AreSizes : List Typ → (ℕ → Entry) → (ℕ → Option ℕ) → Type 0
AreSizes ts s sizes = (k n : ℕ) → sizes k ≡ Some n → (f : ℕ → Typ) → Resolves f s → n ≡ size_at f ts k

-- n nodes of t are counted, after so many others, and the tasks that are added ask for the rest
pub record Visited (ts : List Typ) (s : ℕ → Entry) (w : ℕ → ℕ) (t count : ℕ) (old new : List Tally) (n : ℕ) : Type 0 where
  pub added : List Tally
  pub is : new ≡ old ++ added
  pub exact : n < 2 ^ 64 - 1 → (f : ℕ → Typ) → Resolves f s → n + asked f ts added ≡ size_at f ts t
  pub marked : n < 2 ^ 64 - 1 → (f : ℕ → Typ) → Resolves f s → AreMarked f ts (count + n) added
  pub earlier : AreEarlier (count + n) added
  pub large : n ≡ 2 ^ 64 - 1 → (f : ℕ → Typ) → Resolves f s → 2 ^ 64 - 1 ≤ size_at f ts t
  pub lighter : effort w ts added < 2 * weight w (type_at ts t)
