-- Pairs of types that were compared, and need no second look.
use Rattle.std.specs.Prelude.{◌≡◌, ◌⊎◌, ℕ, List, [], ◌∷◌, Option, Some, None, ⊤}
use Rattle.ty_table.specs.of_ty_core.Types.{Typ, con, Typs, none, more, Symbol}
use Rattle.ty_table.specs.TypeAt.{type_at}
use Rattle.ty_solve.specs.Substitution.{Entry, sub, Fits}
use Rattle.ty_solve.specs.Task.{Task, Equal, Admit, Write, Bind, Remark, Further}

-- the numbers x and y were compared
abbrev pub Was : List (ℕ × ℕ) → ℕ → ℕ → Type 0
Was [] x y = ⊥
Was (p ∷ l) x y = ((p.0 ≡ x) × (p.1 ≡ y)) ⊎ Was l x y

-- a pair that was compared before
pub record WasThere (l l' : List (ℕ × ℕ)) (a b : ℕ) : Type 0 where
  pub same : l' ≡ l
  pub was : Was l a b

-- the equation of a and b is still to be made so
abbrev pub Waits : List Task → Typ → Typ → Type 0
Waits [] a b = ⊥
Waits (Equal t u ∷ l) a b = ((t ≡ a) × (u ≡ b)) ⊎ Waits l a b
Waits (Admit k t ∷ l) a b = Waits l a b

-- two lists of types, one by one
pub data Alike (P : Typ → Typ → Type 0) : Typs → Typs → Type 0 where
  nothing : Alike P none none
  part : (t u : Typ) (ts us : Typs) → P t u → Alike P ts us → Alike P (more t ts) (more u us)

-- t and u are equal, or the values of types that were compared or are still to be made equal
pub data Settled (ts : List Typ) (f : ℕ → Typ) (pairs : List (ℕ × ℕ)) (tasks : List Task) (t u : Typ) : Type 0 where
  equal : t ≡ u → Settled ts f pairs tasks t u
  compared : (x y : ℕ) → Was pairs x y → t ≡ sub f (type_at ts x) → u ≡ sub f (type_at ts y) → Settled ts f pairs tasks t u
  waiting : (a b : Typ) → Waits tasks a b → t ≡ sub f a → u ≡ sub f b → Settled ts f pairs tasks t u

-- the values of x and y have one symbol, and parts that are settled
pub record Opens (ts : List Typ) (f : ℕ → Typ) (pairs : List (ℕ × ℕ)) (tasks : List Task) (x y : ℕ) : Type 0 where
  pub symbol : Symbol
  pub lefts : Typs
  pub rights : Typs
  pub left : sub f (type_at ts x) ≡ con symbol lefts
  pub right : sub f (type_at ts y) ≡ con symbol rights
  pub parts : Alike (Settled ts f pairs tasks) lefts rights

-- what a change says of the values of variables, whatever is asked of them
abbrev pub Stands : (ℕ → Typ) → Option Write → Type 0
Stands f None = ⊤
Stands f (Some (Bind v t)) = f v ≡ sub f t
Stands f (Some (Remark v k)) = ⊤
Stands f (Some (Further v)) = ⊤

-- what was compared is remembered rightly
abbrev pub Remembers : List Typ → (ℕ → Entry) → Option Write → List (ℕ × ℕ) → List Task → Type 0
Remembers ts s w pairs tasks = (f : ℕ → Typ) → Fits f s → Stands f w → (x y : ℕ) → Was pairs x y → Opens ts f pairs tasks x y
