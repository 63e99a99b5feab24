-- What a change to a substitution comes to.
use Rattle.std.specs.Prelude.{◌≡◌, ◌↔◌, ◌<◌, ◌≤◌, ℕ, ◌+◌, Bool, true, false, List, [], ◌∷◌, length, Some}
use Rattle.ty_table.specs.of_ty_core.Types.{Typ}
use Rattle.ty_table.specs.of_ty_core.Marks.{rank_of}
use Rattle.ty_solve.specs.Rows.{Known, Extends, IsProper}
use Rattle.ty_solve.specs.Substitution.{Entry, free, bound, row, Solves, Fits, sub, subs, are_below}
use Rattle.ty_solve.specs.SlotsOf.{look}
use Rattle.ty_solve.specs.Forces.{Problem, IsForced, IsDue}
use Rattle.ty_solve.specs.Tasks.{AllHold, AreForced, AreWithin, Does, IsForcedWrite, Refuses}
use Rattle.ty_solve.specs.Compared.{Waits, Stands}
use Rattle.ty_solve.specs.Task.{Task}
use Rattle.ty_solve.specs.Task.{Write}
use Rattle.ty_solve.specs.declared.refused.UnifyRefused.{UnifyRefused}

-- a row can be asked for less than a free variable, and less still where it must admit equality
abbrev pub row_rank : Bool → ℕ
row_rank true = 1
row_rank false = 2

-- how much can still be asked of a variable
abbrev pub entry_rank : Entry → ℕ
entry_rank (free k) = rank_of k
entry_rank (bound t) = 0
entry_rank (row e ks us) = row_rank e

-- how much can still be asked of the free variables
abbrev pub ranks : List Entry → ℕ
ranks [] = 0
ranks (free k ∷ l) = rank_of k + ranks l
ranks (row e ks us ∷ l) = row_rank e + ranks l
ranks (bound t ∷ l) = ranks l

-- the change is made, with tasks for what it asks besides
pub record Changes (old new : List Entry) (tasks now : List Task) (x : Write) : Type 0 where
  pub same : (m : ℕ → Bool) (f : ℕ → Typ) → (Solves m f (look new) × AllHold m f now) ↔ (Solves m f (look old) × AllHold m f tasks × Does m f (Some x))
  pub forced : (p : Problem) → IsForced p (look old) → AreForced p tasks → IsForcedWrite p (Some x) → IsForced p (look new) × AreForced p now
  pub within : AreWithin (length old) tasks → AreWithin (length old) now
  pub lower : ranks new < ranks old
  pub fits : (f : ℕ → Typ) → Fits f (look new) → Fits f (look old) × Stands f (Some x)
  pub stay : (a b : Typ) → Waits tasks a b → Waits now a b

abbrev pub RefusesWrite : (ℕ → Entry) → Write → UnifyRefused → Type 0
RefusesWrite s x = Refuses s (λ m f. Does m f (Some x)) (λ p. IsForcedWrite p (Some x))

-- what is known of t comes to be said, with tasks for what is asked besides
pub record Demands (old new : List Entry) (tasks now : List Task) (r : Known) (t : Typ) : Type 0 where
  pub same : (m : ℕ → Bool) (f : ℕ → Typ) → (Solves m f (look new) × AllHold m f now) ↔ (Solves m f (look old) × AllHold m f tasks
      × Extends m r.equality r.labels (subs f r.types) (sub f t))
  pub forced : (p : Problem) → IsForced p (look old) → AreForced p tasks → IsDue p t r → IsForced p (look new) × AreForced p now
  pub within : AreWithin (length old) tasks → AreWithin (length old) now
  pub lower : ranks new ≤ ranks old
  pub fits : (f : ℕ → Typ) → Fits f (look new) → Fits f (look old)
  pub stay : (a b : Typ) → Waits tasks a b → Waits now a b

abbrev pub RefusesRow : (ℕ → Entry) → Known → Typ → UnifyRefused → Type 0
RefusesRow s r t = Refuses s (λ m f. Extends m r.equality r.labels (subs f r.types) (sub f t)) (λ p. IsDue p t r)

-- a row whose variables are below n, with each label once
pub record IsFitRow (n : ℕ) (r : Known) : Type 0 where
  pub below : are_below n r.types ≡ true
  pub proper : IsProper r.labels r.types
