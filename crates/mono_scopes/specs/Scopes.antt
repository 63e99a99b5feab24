-- What copies need from outside, kept by the scopes around: of each binding that is copied the types that it is needed at. Needs are found from the last to
-- the first, as a walk from the end of a program to its beginning finds them.
use Rattle.std.specs.Prelude.{◌≡◌, ℕ, List, [], ◌∷◌, ◌++◌, not, ◌||◌, nat_eq, if◌then◌else◌}
use Rattle.ty_core.specs.Types.{Typ}
use Rattle.monomorphise.specs.Monomorphise.{Name, copy_of, same_types, is_among, is_in, others, without, all_needs, let_needs, group_needs}

-- a variable of which nothing is copied; or a binding of some variables that is copied at the types u, with the others at which it is needed so far
pub data Scope : Type 0 where
  variable : ℕ → Scope
  binding : List ℕ → List Typ → List (List Typ) → Scope

abbrev pub Scopes : Type 0
Scopes = List Scope

-- each once, and not u
abbrev pub with_list : List Typ → List Typ → List (List Typ) → List (List Typ)
with_list u a ts = if not (same_types u a || is_in a ts) then a ∷ ts else ts

-- a copy of the variable at these types is needed: the innermost scope of it is told so
abbrev pub noted : ℕ → List Typ → Scopes → Scopes
noted x a [] = []
noted x a (variable y ∷ l) = if nat_eq x y then variable y ∷ l else variable y ∷ noted x a l
noted x a (binding vs u ts ∷ l) = if is_among x vs then binding vs u (with_list u a ts) ∷ l else binding vs u ts ∷ noted x a l

-- the last name first
abbrev pub noting : List Name → Scopes → Scopes
noting [] l = l
noting (copy_of x a ∷ w) l = noted x a (noting w l)

-- the needs of copies, those of the last one first
abbrev pub noting_all : (List Typ → List Name) → List (List Typ) → Scopes → Scopes
noting_all f [] l = l
noting_all f (a ∷ ts) l = noting (f a) (noting_all f ts l)

-- What follows is noted before what it follows.
abbrev pub PartsAreNoted : Type 0
PartsAreNoted = (v w : List Name) (l : Scopes) → noting (v ++ w) l ≡ noting v (noting w l)

-- Where w is noted within a binding's scope, this holds the types that the binding is to be copied at, and the scopes around hold the rest.
abbrev pub BindingsAreNoted : Type 0
BindingsAreNoted = (vs : List ℕ) (u : List Typ) (w : List Name) (l : Scopes)
    → noting w (binding vs u [] ∷ l) ≡ binding vs u (others vs u w) ∷ noting (without vs w) l

-- So with a variable of which nothing is copied.
abbrev pub VariablesAreNoted : Type 0
VariablesAreNoted = (x : ℕ) (w : List Name) (l : Scopes) → noting w (variable x ∷ l) ≡ variable x ∷ noting (without (x ∷ []) w) l

-- The copies of a binding are noted outside its scope, the last one first.
abbrev pub CopiesAreNoted : Type 0
CopiesAreNoted = (u : List Typ) (vs : List ℕ) (f : List Typ → List Name) (w : List Name) (l : Scopes)
    → noting (let_needs u vs f w) l ≡ noting_all f (u ∷ others vs u w) (noting (without vs w) l)

-- Those of a group are noted within a scope that holds what they need of one another, which is dropped.
abbrev pub GroupsAreNoted : Type 0
GroupsAreNoted = (u : List Typ) (vs : List ℕ) (f : List Typ → List Name) (w : List Name) (l : Scopes)
    → noting_all f (u ∷ others vs u w) (binding vs u [] ∷ noting (without vs w) l)
    ≡ binding vs u (others vs u (all_needs f (u ∷ others vs u w))) ∷ noting (group_needs u vs f w) l
