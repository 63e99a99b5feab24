-- What is still to be made so, and the next change to a substitution.
use Rattle.std.specs.Prelude.{◌≡◌, ◌≢◌, ◌↔◌, ◌<◌, ℕ, ◌+◌, Bool, true, false, List, [], ◌∷◌, Option, Some, None, ⊤}
use Rattle.ty_table.specs.of_ty_core.Types.{Typ, var, admits}
use Rattle.ty_table.specs.of_ty_core.Marks.{Allows, is_inhabited, rank_of}
use Rattle.ty_table.specs.of_ty_core.declared.mark.Mark.{Mark}
use Rattle.ty_solve.specs.Substitution.{Entry, free, bound, row, mark, is_open, sub, subs, is_below, is_in, are_in, Resolves, aside, Solves}
use Rattle.ty_solve.specs.Finding.{IsWalked}
use Rattle.ty_solve.specs.Weight.{weight, BelowAt, InhabitedAt}
use Rattle.ty_solve.specs.Forces.{Problem, Forces, Asks, Clashes, Loops, Met, IsForced}
use Rattle.ty_solve.specs.Task.{Task, Equal, Admit, Write, Bind, Remark, Further}
use Rattle.ty_solve.specs.declared.refused.UnifyRefused.{UnifyRefused}
use Rattle.ty_solve.specs.declared.refused.UnifyRefused.TheVariants.{Clash, Circular, Large, Memory}

abbrev pub Holds : (ℕ → Bool) → (ℕ → Typ) → Task → Type 0
Holds m f (Equal a b) = sub f a ≡ sub f b
Holds m f (Admit k t) = Allows k m (sub f t)

abbrev pub AllHold : (ℕ → Bool) → (ℕ → Typ) → List Task → Type 0
AllHold m f [] = ⊤
AllHold m f (x ∷ l) = Holds m f x × AllHold m f l

abbrev pub Does : (ℕ → Bool) → (ℕ → Typ) → Option Write → Type 0
Does m f None = ⊤
Does m f (Some (Bind v t)) = f v ≡ sub f t
Does m f (Some (Remark v k)) = Allows k m (f v)
Does m f (Some (Further v)) = admits m (f v) ≡ true

-- a task is forced, and its types are met
abbrev pub IsForcedTask : Problem → Task → Type 0
IsForcedTask p (Equal a b) = Forces p a b × Met p a × Met p b
IsForcedTask p (Admit k t) = Asks p k t × Met p t

abbrev pub AreForced : Problem → List Task → Type 0
AreForced p [] = ⊤
AreForced p (x ∷ l) = IsForcedTask p x × AreForced p l

abbrev pub IsForcedWrite : Problem → Option Write → Type 0
IsForcedWrite p None = ⊤
IsForcedWrite p (Some (Bind v t)) = Forces p (var v) t × Met p (var v) × Met p t
IsForcedWrite p (Some (Remark v k)) = Asks p k (var v) × Met p (var v)
IsForcedWrite p (Some (Further v)) = Asks p Mark.Equality (var v) × Met p (var v)

abbrev pub IsWithin : ℕ → Task → Type 0
IsWithin n (Equal a b) = (is_below n a ≡ true) × (is_below n b ≡ true)
IsWithin n (Admit k t) = (is_inhabited k ≡ true) × (is_below n t ≡ true)

abbrev pub AreWithin : ℕ → List Task → Type 0
AreWithin n [] = ⊤
AreWithin n (x ∷ l) = IsWithin n x × AreWithin n l

abbrev pub burden : (ℕ → ℕ) → Task → ℕ
burden w (Equal a b) = weight w a + weight w b
burden w (Admit k t) = weight w t

abbrev pub burdens : (ℕ → ℕ) → List Task → ℕ
burdens w [] = 0
burdens w (x ∷ l) = burden w x + burdens w l

-- v may be bound to t
pub record Binds (n : ℕ) (s : ℕ → Entry) (v : ℕ) (t : Typ) : Type 0 where
  pub in_range : v < n
  pub is_open : is_open (s v) ≡ true
  pub in_bounds : is_below n t ≡ true
  pub walked : IsWalked s t
  pub unlike : t ≢ var v

-- v may get the mark k, which allows less
pub record Lowers (n : ℕ) (s : ℕ → Entry) (v : ℕ) (k : Mark) : Type 0 where
  pub in_range : v < n
  pub is_free : s v ≡ free (mark (s v))
  pub inhabited : is_inhabited k ≡ true
  pub lower : rank_of k < rank_of (mark (s v))
  pub less : (m : ℕ → Bool) (t : Typ) → Allows k m t → Allows (mark (s v)) m t

-- the further fields of a row need not admit equality
abbrev pub IsLoose : Entry → Type 0
IsLoose (free k) = ⊥
IsLoose (bound t) = ⊥
IsLoose (row true ks us) = ⊥
IsLoose (row false ks us) = ⊤

-- the row v may be one whose fields all admit equality
pub record Narrows (n : ℕ) (s : ℕ → Entry) (v : ℕ) : Type 0 where
  pub in_range : v < n
  pub loose : IsLoose (s v)

abbrev pub Fit : ℕ → (ℕ → Entry) → Option Write → Type 0
Fit n s None = ⊤
Fit n s (Some (Bind v t)) = Binds n s v t
Fit n s (Some (Remark v k)) = Lowers n s v k
Fit n s (Some (Further v)) = Narrows n s v

-- the tasks `old` and one more come to the tasks `new` and one change
pub record Steps (n : ℕ) (s : ℕ → Entry) (w : ℕ → ℕ) (old : List Task) (task : Task) (new : List Task) (write : Option Write) : Type 0 where
  pub same : (m : ℕ → Bool) (f : ℕ → Typ) → Solves m f s → (AllHold m f old × Holds m f task) ↔ (AllHold m f new × Does m f write)
  pub forced : (p : Problem) → IsForced p s → AreForced p old → IsForcedTask p task → AreForced p new × IsForcedWrite p write
  pub within : AreWithin n old → IsWithin n task → AreWithin n new
  pub lighter : burdens w new < burdens w old + burden w task
  pub fit : IsWithin n task → Fit n s write

-- why nothing solves the substitution and a claim on the solutions
abbrev pub Refuses : (ℕ → Entry) → ((m : ℕ → Bool) → (f : ℕ → Typ) → Type 0) → (Problem → Type 0) → UnifyRefused → Type 0
Refuses s P Q Clash = ((m : ℕ → Bool) (f : ℕ → Typ) → Solves m f s → P m f → ⊥) × ((p : Problem) → IsForced p s → Q p → Clashes p)
Refuses s P Q Circular = ((m : ℕ → Bool) (f : ℕ → Typ) → Solves m f s → P m f → ⊥) × ((p : Problem) → IsForced p s → Q p → Loops p)
Refuses s P Q Large = ⊥
Refuses s P Q Memory = ⊤

abbrev pub RefusesTask : (ℕ → Entry) → Task → UnifyRefused → Type 0
RefusesTask s task = Refuses s (λ m f. Holds m f task) (λ p. IsForcedTask p task)

abbrev pub RefusesTasks : (ℕ → Entry) → List Task → UnifyRefused → Type 0
RefusesTasks s l = Refuses s (λ m f. AllHold m f l) (λ p. AreForced p l)

-- all tasks come to one change, or are done
pub record Comes (n : ℕ) (s : ℕ → Entry) (old new : List Task) (write : Option Write) : Type 0 where
  pub same : (m : ℕ → Bool) (f : ℕ → Typ) → Solves m f s → AllHold m f old ↔ (AllHold m f new × Does m f write)
  pub forced : (p : Problem) → IsForced p s → AreForced p old → AreForced p new × IsForcedWrite p write
  pub within : AreWithin n old → AreWithin n new
  pub fit : AreWithin n old → Fit n s write
  pub ended : write ≡ None → new ≡ []

-- v doesn't lie in what is written for it
abbrev pub Avoids : ℕ → (ℕ → Typ) → Entry → Type 0
Avoids v f (free k) = ⊤
Avoids v f (bound t) = is_in v (sub f t) ≡ false
Avoids v f (row e ks us) = are_in v (subs f us) ≡ false

-- the entry e may be written for v
pub record MayPut (n : ℕ) (s : ℕ → Entry) (v : ℕ) (e : Entry) : Type 0 where
  pub in_range : v < n
  pub below : BelowAt n e
  pub inhabited : InhabitedAt e
  pub avoids : (f : ℕ → Typ) → Resolves f (aside v s) → Avoids v f e
