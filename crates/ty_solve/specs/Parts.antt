-- Tasks for the parts of two types.
use Rattle.std.specs.Prelude.{◌≡◌, ◌↔◌, ◌≤◌, ℕ, ◌+◌, Bool, true, List, [], ◌∷◌, ◌++◌, ⊤}
use Rattle.ty_table.specs.of_ty_core.Types.{Typ, Typs, var, con, Symbol, attribute, admits, all_admit}
use Rattle.ty_table.specs.of_ty_core.declared.name.Equality.TheVariants.{ByArguments, Never}
use Rattle.ty_table.specs.TypeAt.{type_at, types_at}
use Rattle.ty_table.specs.of_ty_core.declared.mark.Mark.{Mark}
use Rattle.ty_solve.specs.Substitution.{Entry, bound, sub, subs, are_below, Fits}
use Rattle.ty_solve.specs.Weight.{weights}
use Rattle.ty_solve.specs.Forces.{Problem, Forces, Asks, Met, Clashes, Beside, IsForced}
use Rattle.ty_solve.specs.Tasks.{AllHold, AreForced, AreWithin, burdens}
use Rattle.ty_solve.specs.Task.{Task, Admit}
use Rattle.ty_solve.specs.declared.refused.UnifyRefused.{UnifyRefused}
use Rattle.ty_solve.specs.declared.refused.UnifyRefused.TheVariants.{Clash, Circular, Large, Memory}
use Rattle.ty_solve.specs.Compared.{Waits, Alike}

-- to the tasks come those that make two lists of types equal
pub record EqualParts (old new : List Task) (ts us : Typs) : Type 0 where
  pub same : (m : ℕ → Bool) (f : ℕ → Typ) → AllHold m f new ↔ (AllHold m f old × (subs f ts ≡ subs f us))
  pub forced : (p : Problem) (h : Symbol) → AreForced p old → Forces p (con h ts) (con h us) → Met p (con h ts) → Met p (con h us) → AreForced p new
  pub within : (n : ℕ) → AreWithin n old → are_below n ts ≡ true → are_below n us ≡ true → AreWithin n new
  pub burden_is : (w : ℕ → ℕ) → burdens w new ≡ burdens w old + (weights w ts + weights w us)
  pub stay : (a b : Typ) → Waits old a b → Waits new a b
  pub wait : Alike (Waits new) ts us

-- each type of a list is forced to admit equality, and is met
abbrev pub AllAsked : Problem → Typs → Type 0
AllAsked p ts = (t : Typ) → Beside t t ts ts → Asks p Mark.Equality t × Met p t

-- to the tasks come those that make the types of a list admit equality, where s has n variables
pub record AdmitParts (n : ℕ) (s : ℕ → Entry) (w : ℕ → ℕ) (old new : List Task) (ts : Typs) : Type 0 where
  pub same : (m : ℕ → Bool) (f : ℕ → Typ) → Fits f s → AllHold m f new ↔ (AllHold m f old × (all_admit m (subs f ts) ≡ true))
  pub forced : (p : Problem) → IsForced p s → AreForced p old → AllAsked p ts → AreForced p new
  pub within : AreWithin n old → are_below n ts ≡ true → AreWithin n new
  pub lighter : burdens w new ≤ burdens w old + weights w ts
  pub stay : (a b : Typ) → Waits old a b → Waits new a b

-- why the types of a list don't all admit equality
abbrev pub RefusesParts : (ℕ → Entry) → Typs → UnifyRefused → Type 0
RefusesParts s ts Clash = ((m : ℕ → Bool) (f : ℕ → Typ) → Fits f s → all_admit m (subs f ts) ≡ true → ⊥)
    × ((p : Problem) → IsForced p s → AllAsked p ts → Clashes p)
RefusesParts s ts Circular = ⊥
RefusesParts s ts Large = ⊥
RefusesParts s ts Memory = ⊤

-- the first node of the type k is looked at: it admits equality anyhow, or is an open variable of which it is asked, or
-- what it stands for or its parts are pending
pub data Looked (ts : List Typ) (s : ℕ → Entry) (k : ℕ) (old now : List Task) (pending next : List ℕ) : Type 0 where
  holds : ((m : ℕ → Bool) (f : ℕ → Typ) → admits m (sub f (type_at ts k)) ≡ true) → next ≡ pending → now ≡ old → Looked ts s k old now pending next
  open_variable : (x : ℕ) → type_at ts k ≡ var x → next ≡ pending → now ≡ old ++ Admit Mark.Equality (type_at ts k) ∷ [] → Looked ts s k old now pending next
  stands : (x u : ℕ) → type_at ts k ≡ var x → s x ≡ bound (type_at ts u) → next ≡ pending ++ u ∷ [] → now ≡ old → Looked ts s k old now pending next
  applied : (h : Symbol) (parts : List ℕ) → type_at ts k ≡ con h (types_at ts parts) → ByArguments ≡ attribute h → next ≡ pending ++ parts → now ≡ old
      → Looked ts s k old now pending next

-- a type begins with a symbol whose types never admit equality
abbrev pub RefusesLook : Typ → UnifyRefused → Type 0
RefusesLook t Clash = (h : Symbol) × (ts : Typs) × (t ≡ con h ts) × (Never ≡ attribute h)
RefusesLook t Circular = ⊥
RefusesLook t Large = ⊥
RefusesLook t Memory = ⊤
