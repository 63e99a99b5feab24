-- What an equation of two types forces under a substitution, read off part by part.
use Rattle.std.specs.Prelude.{◌≡◌, ◌≢◌, ◌⊎◌, ℕ, suc, Bool, true, List, ⊤}
use Rattle.mlc_names.specs.declared.label.Label.{Label}
use Rattle.ty_table.specs.of_ty_core.Types.{Typ, var, con, Typs, none, more, Symbol, labels, attribute}
use Rattle.ty_table.specs.of_ty_core.Marks.{Allows, IsOf}
use Rattle.ty_table.specs.of_ty_core.declared.mark.Class.{Class}
use Rattle.ty_table.specs.of_ty_core.declared.mark.Mark.{Mark}
use Rattle.ty_table.specs.of_ty_core.declared.name.Equality.TheVariants.{ByArguments, Never}
use Rattle.ty_solve.specs.Substitution.{Entry, free, bound, row, is_open}
use Rattle.ty_solve.specs.Rows.{Among, At, IsProper, Known}

-- t and u stand at the same place of two lists
pub data Beside : Typ → Typ → Typs → Typs → Type 0 where
  here : (t u : Typ) (ts us : Typs) → Beside t u (more t ts) (more u us)
  later : (t u x y : Typ) (ts us : Typs) → Beside t u ts us → Beside t u (more x ts) (more y us)

abbrev pub count : Typs → ℕ
count none = 0
count (more t ts) = suc (count ts)

-- a substitution, and the two types that are to be equal
pub record Problem : Type 0 where
  pub before : ℕ → Entry
  pub left : Typ
  pub right : Typ

mutual
  -- the two types are forced to be equal
  pub data Forces (p : Problem) : Typ → Typ → Type 0 where
    given : Forces p p.left p.right
    stands : (v : ℕ) (t : Typ) → p.before v ≡ bound t → Forces p (var v) t
    same : (t : Typ) → Forces p t t
    back : (t u : Typ) → Forces p t u → Forces p u t
    along : (t u x : Typ) → Forces p t u → Forces p u x → Forces p t x
    part : (h : Symbol) (ts us : Typs) (t u : Typ) → Forces p (con h ts) (con h us) → Beside t u ts us → Forces p t u
    meet : (t : Typ) (l : Label) (u x : Typ) → Has p t l u → Has p t l x → Forces p u x
    field : (ls : List Label) (ts : Typs) (l : Label) (x u : Typ) → Has p (con (labels ls) ts) l u → At l x ls ts → Forces p x u

  -- the type t is forced to have a field with the label l and the type u
  pub data Has (p : Problem) : Typ → Label → Typ → Type 0 where
    known : (v : ℕ) (e : Bool) (ks : List Label) (us : Typs) (l : Label) (u : Typ) → p.before v ≡ row e ks us → At l u ks us → Has p (var v) l u
    carried : (t x : Typ) (l : Label) (u : Typ) → Has p t l u → Forces p t x → Has p x l u

-- the type is forced to be a record
pub data Records (p : Problem) : Typ → Type 0 where
  known : (v : ℕ) (e : Bool) (ks : List Label) (us : Typs) → p.before v ≡ row e ks us → Records p (var v)
  along : (t u : Typ) → Records p t → Forces p t u → Records p u

mutual
  -- a mark is forced on a type
  pub data Asks (p : Problem) : Mark → Typ → Type 0 where
    marked : (v : ℕ) (k : Mark) → p.before v ≡ free k → Asks p k (var v)
    along : (k : Mark) (t u : Typ) → Asks p k t → Forces p t u → Asks p k u
    part : (h : Symbol) (ts : Typs) (t : Typ) → Asks p Mark.Equality (con h ts) → attribute h ≡ ByArguments → Beside t t ts ts → Asks p Mark.Equality t
    both : (j k r : Mark) (t : Typ) → Asks p j t → Asks p k t → ((m : ℕ → Bool) (u : Typ) → Allows j m u → Allows k m u → Allows r m u) → Asks p r t
    further : (ks ls : List Label) (ts : Typs) (l : Label) (x : Typ) → Strict p (con (labels ls) ts) ks → At l x ls ts → (Among l ks → ⊥)
        → Asks p Mark.Equality x
    rest : (ks : List Label) (t : Typ) (l : Label) (u : Typ) → Strict p t ks → Has p t l u → (Among l ks → ⊥) → Asks p Mark.Equality u

  -- the fields of a type with labels other than ks are forced to admit equality
  pub data Strict (p : Problem) : Typ → List Label → Type 0 where
    known : (v : ℕ) (ks : List Label) (us : Typs) → p.before v ≡ row true ks us → Strict p (var v) ks
    passed : (t u : Typ) (ks : List Label) → Strict p t ks → Forces p t u → Strict p u ks
    whole : (t : Typ) (ks : List Label) → Asks p Mark.Equality t → Strict p t ks
    fewer : (t : Typ) (ks js : List Label) → Strict p t ks → ((l : Label) → Among l ks → Among l js) → Strict p t js

-- two heads differ, or a mark excludes a type, or two marks have no type in common, or a row excludes a type
pub data Clashes (p : Problem) : Type 0 where
  heads : (h g : Symbol) (ts us : Typs) → Forces p (con h ts) (con g us) → h ≢ g → Clashes p
  counts : (h g : Symbol) (ts us : Typs) → Forces p (con h ts) (con g us) → count ts ≢ count us → Clashes p
  never : (h : Symbol) (ts : Typs) → Asks p Mark.Equality (con h ts) → attribute h ≡ Never → Clashes p
  outside : (c : Class) (h : Symbol) → Asks p (Mark.Class c) (con h none) → (IsOf c (con h none) → ⊥) → Clashes p
  crowded : (c : Class) (h : Symbol) (ts : Typs) → Asks p (Mark.Class c) (con h ts) → ts ≢ none → Clashes p
  apart : (j k : Mark) (t : Typ) → Asks p j t → Asks p k t → ((m : ℕ → Bool) (u : Typ) → Allows j m u → Allows k m u → ⊥) → Clashes p
  lacks : (ls : List Label) (ts : Typs) (l : Label) (u : Typ) → Has p (con (labels ls) ts) l u → (Among l ls → ⊥) → Clashes p
  improper : (ls : List Label) (ts : Typs) → Records p (con (labels ls) ts) → (IsProper ls ts → ⊥) → Clashes p
  no_record : (h : Symbol) (ts : Typs) → Records p (con h ts) → ((ls : List Label) → h ≢ labels ls) → Clashes p
  classed : (c : Class) (t : Typ) → Records p t → Asks p (Mark.Class c) t → Clashes p

-- t is forced to lie within u
pub data Lies (p : Problem) : Typ → Typ → Type 0 where
  part : (h : Symbol) (ts : Typs) (t u : Typ) → Forces p u (con h ts) → Beside t t ts ts → Lies p t u
  deeper : (t u x : Typ) → Lies p t u → Lies p u x → Lies p t x
  along : (t u x : Typ) → Forces p t u → Lies p u x → Lies p t x
  field : (t : Typ) (l : Label) (u : Typ) → Has p t l u → Lies p u t

-- a variable is forced to lie within its own value
pub record Loops (p : Problem) : Type 0 where
  pub variable : ℕ
  pub within : Lies p (var variable) (var variable)

-- what a row says of a type is forced
pub record IsForcedRow (p : Problem) (t : Typ) (e : Bool) (ks : List Label) (us : Typs) : Type 0 where
  pub is_record : Records p t
  pub has : (l : Label) (u : Typ) → At l u ks us → Has p t l u
  pub strict : e ≡ true → Strict p t ks

-- a substitution says no more of a variable than is forced
abbrev pub ForcedAt : Problem → ℕ → Entry → Type 0
ForcedAt p v (free k) = Asks p k (var v)
ForcedAt p v (bound t) = Forces p (var v) t
ForcedAt p v (row e ks us) = IsForcedRow p (var v) e ks us

-- t is met while the two types are made equal: it is one of them, or a part of a type that is met, or what a variable that is met stands for
pub data Met (p : Problem) : Typ → Type 0 where
  left : Met p p.left
  right : Met p p.right
  part : (h : Symbol) (ts : Typs) (t : Typ) → Met p (con h ts) → Beside t t ts ts → Met p t
  stands : (v : ℕ) (t : Typ) → Met p (var v) → p.before v ≡ bound t → Met p t
  field : (v : ℕ) (e : Bool) (ks : List Label) (us : Typs) (l : Label) (t : Typ) → Met p (var v) → p.before v ≡ row e ks us → At l t ks us → Met p t

-- all types that an entry tells are met
abbrev pub EntryMet : Problem → Entry → Type 0
EntryMet p (free k) = ⊤
EntryMet p (bound t) = Met p t
EntryMet p (row e ks us) = (l : Label) (t : Typ) → At l t ks us → Met p t

-- a variable is as it was, or it was open and is met, and so is what it stands for now
abbrev pub LeftAt : Problem → ℕ → Entry → Type 0
LeftAt p v e = (e ≡ p.before v) ⊎ ((is_open (p.before v) ≡ true) × Met p (var v) × EntryMet p e)

-- what a substitution says of a variable is forced, and said of no other than those that are met
abbrev pub IsForced : Problem → (ℕ → Entry) → Type 0
IsForced p s = (v : ℕ) → ForcedAt p v (s v) × LeftAt p v (s v)

-- what is known of t is forced; t and the fields' types are met
pub record IsDue (p : Problem) (t : Typ) (r : Known) : Type 0 where
  pub row : IsForcedRow p t r.equality r.labels r.types
  pub here : Met p t
  pub fields : (l : Label) (u : Typ) → At l u r.labels r.types → Met p u
