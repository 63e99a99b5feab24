-- What is asked of the fields of two records.
use Rattle.std.specs.Prelude.{◌≡◌, ◌⊎◌, ◌↔◌, ◌<◌, ◌≤◌, ℕ, Bool, true, List, slice_index_or}
use Rattle.mlc_names.specs.declared.label.Label.{Label}
use Rattle.ty_table.specs.of_ty_core.Types.{Typ, var, Typs, admits}
use Rattle.ty_table.specs.of_ty_core.declared.mark.Mark.{Mark}
use Rattle.ty_solve.specs.Rows.{Known, Among, At, IsProper, Extends}
use Rattle.ty_solve.specs.Substitution.{Entry, Meets, sub, subs, is_below, are_below}
use Rattle.ty_solve.specs.Forces.{Problem, Forces, Asks, Records, Met, EntryMet, ForcedAt, IsForcedRow, IsDue}
use Rattle.ty_solve.specs.Tasks.{AllHold, AreForced, AreWithin}
use Rattle.ty_solve.specs.Changes.{row_rank, entry_rank, IsFitRow}
use Rattle.ty_solve.specs.Task.{Task}
use Rattle.ty_solve.specs.Compared.{Waits}

-- l stands at the place i, below n
pub record IsPlace (ls : List Label) (n : ℕ) (l : Label) (i : ℕ) : Type 0 where
  pub in_range : i < n
  pub is : l ≡ slice_index_or ls i l

-- l is one of ks, and none of ls
pub record IsLacking (ks ls : List Label) (l : Label) : Type 0 where
  pub among : Among l ks
  pub missing : Among l ls → ⊥

-- to the tasks come those that make t equal to the type of the field with the label l, if there is one
pub record FieldMeets (old new : List Task) (l : Label) (t : Typ) (ks : List Label) (us : Typs) : Type 0 where
  pub same : (m : ℕ → Bool) (f : ℕ → Typ) → AllHold m f new ↔ (AllHold m f old × ((u : Typ) → At l u ks us → sub f t ≡ sub f u))
  pub forced : (p : Problem) → AreForced p old → ((u : Typ) → At l u ks us → Forces p t u × Met p t × Met p u) → AreForced p new
  pub within : (n : ℕ) → AreWithin n old → is_below n t ≡ true → are_below n us ≡ true → AreWithin n new
  pub stay : (a b : Typ) → Waits old a b → Waits new a b

-- to the tasks come those that make the types of common labels equal
pub record FieldsMeet (old new : List Task) (ls : List Label) (ts : Typs) (ks : List Label) (us : Typs) : Type 0 where
  pub same : (m : ℕ → Bool) (f : ℕ → Typ) → AllHold m f new ↔ (AllHold m f old × ((l : Label) (t u : Typ) → At l t ls ts → At l u ks us → sub f t ≡ sub f u))
  pub forced : (p : Problem) → AreForced p old → ((l : Label) (t u : Typ) → At l t ls ts → At l u ks us → Forces p t u × Met p t × Met p u) → AreForced p new
  pub within : (n : ℕ) → AreWithin n old → are_below n ts ≡ true → are_below n us ≡ true → AreWithin n new
  pub stay : (a b : Typ) → Waits old a b → Waits new a b

-- to the tasks come, where e is true, those that make the types of labels other than ks admit equality
pub record OthersAdmit (e : Bool) (old new : List Task) (ls : List Label) (ts : Typs) (ks : List Label) : Type 0 where
  pub same : (m : ℕ → Bool) (f : ℕ → Typ) → AllHold m f new ↔ (AllHold m f old × (e ≡ true → (l : Label) (t : Typ) → At l t ls ts → (Among l ks → ⊥)
      → admits m (sub f t) ≡ true))
  pub forced : (p : Problem) → AreForced p old → (e ≡ true → (l : Label) (t : Typ) → At l t ls ts → (Among l ks → ⊥) → Asks p Mark.Equality t × Met p t)
      → AreForced p new
  pub within : (n : ℕ) → AreWithin n old → are_below n ts ≡ true → AreWithin n new
  pub stay : (a b : Typ) → Waits old a b → Waits new a b

-- the fields of js and vs are those of ls and ts, and those of ks and us with other labels
pub record IsUnion (ls : List Label) (ts : Typs) (ks : List Label) (us : Typs) (js : List Label) (vs : Typs) : Type 0 where
  pub at : (l : Label) (t : Typ) → At l t js vs ↔ (At l t ls ts ⊎ (At l t ks us × (Among l ls → ⊥)))
  pub proper : IsProper js vs
  pub below : (n : ℕ) → are_below n ts ≡ true → are_below n us ≡ true → are_below n vs ≡ true

-- the rows a and b come to one, r, with tasks for what is asked besides
pub record Joins (old new : List Task) (a b r : Known) : Type 0 where
  pub same : (m : ℕ → Bool) (f : ℕ → Typ) (t : Typ) → (AllHold m f new × Extends m r.equality r.labels (subs f r.types) t) ↔ (AllHold m f old
      × Extends m a.equality a.labels (subs f a.types) t × Extends m b.equality b.labels (subs f b.types) t)
  pub forced : (p : Problem) (t : Typ) → AreForced p old → IsDue p t a → IsDue p t b → AreForced p new × IsDue p t r
  pub all : (m : ℕ → Bool) (f : ℕ → Typ) (t : Typ) → Extends m a.equality a.labels (subs f a.types) t → Extends m b.equality b.labels (subs f b.types) t
      → Extends m r.equality r.labels (subs f r.types) t
  pub all_forced : (p : Problem) (t : Typ) → IsForcedRow p t a.equality a.labels a.types → IsForcedRow p t b.equality b.labels b.types
      → IsForcedRow p t r.equality r.labels r.types
  pub within : (n : ℕ) → AreWithin n old → IsFitRow n a → IsFitRow n b → AreWithin n new
  pub fit : (n : ℕ) → IsFitRow n a → IsFitRow n b → IsFitRow n r
  pub lower : row_rank r.equality ≤ row_rank a.equality
  pub stay : (x y : Typ) → Waits old x y → Waits new x y

-- to the tasks come those that give the type t the fields of a row
pub record Closes (old new : List Task) (r : Known) (t : Typ) : Type 0 where
  pub same : (m : ℕ → Bool) (f : ℕ → Typ) → AllHold m f new ↔ (AllHold m f old × Extends m r.equality r.labels (subs f r.types) (sub f t))
  pub forced : (p : Problem) → AreForced p old → IsDue p t r → AreForced p new
  pub within : (n : ℕ) → AreWithin n old → are_below n r.types ≡ true → is_below n t ≡ true → AreWithin n new
  pub stay : (a b : Typ) → Waits old a b → Waits new a b

-- the row r says of a record what the substitution says of y
pub record IsBase (n : ℕ) (s : ℕ → Entry) (y : ℕ) (r : Known) : Type 0 where
  pub same : (m : ℕ → Bool) (f : ℕ → Typ) (t : Typ) (e : Bool) (ks : List Label) (us : Typs) → Extends m e ks us t → Meets m f t (s y)
      ↔ Extends m r.equality r.labels (subs f r.types) t
  pub forced : (p : Problem) → Records p (var y) → Met p (var y) → ForcedAt p y (s y) → EntryMet p (s y) → IsDue p (var y) r
  pub fit : IsFitRow n r
  pub lower : row_rank r.equality ≤ entry_rank (s y)
