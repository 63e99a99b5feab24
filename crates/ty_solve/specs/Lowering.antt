-- Limits while they are lowered, one variable after the other.
use Rattle.std.specs.Prelude.{◌≡◌, ◌⊎◌, ◌≤◌, ℕ, ◌+◌, Bool, List, [], ◌∷◌, ◌++◌, length, map, slice_set, ⊤}
use Rattle.mlc_names.specs.declared.label.Label.{Label}
use Rattle.ty_table.specs.of_ty_core.Types.{Typ, var, con, Typs, Symbol, labels, name}
use Rattle.ty_table.specs.of_ty_core.declared.name.TyName.{TyName}
use Rattle.ty_table.specs.TypeAt.{type_at, types_at}
use Rattle.ty_solve.specs.Rows.{At}
use Rattle.ty_solve.specs.Substitution.{Entry, free, bound, row, Solves}
use Rattle.ty_solve.specs.Forces.{Problem, Beside, Met}
use Rattle.ty_solve.specs.Walk.{Has}
use Rattle.ty_solve.specs.Limits.{SymbolOver, limit_at, narrower, NoFurther, Limited, LimitedAt, AreLimited, AreWide, IsOver, Fall, AskTheSame, LeavesLimits, Excludes}
use Rattle.ty_solve.specs.declared.limit.Limit.{Limit}
use Rattle.ty_solve.specs.declared.limit.KeptLimit.{KeptLimit}
use Rattle.ty_solve.specs.declared.trail.Kept.{Kept}
use Rattle.ty_solve.specs.declared.refused.UnifyRefused.{UnifyRefused}
use Rattle.ty_solve.specs.declared.refused.UnifyRefused.TheVariants.{Clash, Circular, Large, Memory}

-- what was kept is put back, the last first
abbrev pub undo_limits : List KeptLimit → List Limit → List Limit
undo_limits [] l = l
undo_limits (k ∷ d) l = slice_set (undo_limits d l) k.variable k.limit

-- the variables of a trail
abbrev pub variable_of : Kept → ℕ
variable_of k = k.variable

abbrev pub variables : List Kept → List ℕ
variables = map variable_of

abbrev pub sum : List Limit → ℕ
sum [] = 0
sum (l ∷ ls) = (l.names + l.level) + sum ls

-- u is t, or stands in it as it is written
pub data PartOf (t : Typ) : Typ → Type 0 where
  whole : PartOf t t
  part : (h : Symbol) (ts : Typs) (u : Typ) → PartOf t (con h ts) → Beside u u ts ts → PartOf t u

-- the types of a list, as the parts of one
abbrev pub together : Typs → Typ
together ts = con (labels []) ts

-- t is the type of a bound variable, or of one of a row's fields
abbrev pub Under : Entry → Typ → Type 0
Under (free k) t = ⊥
Under (bound u) t = t ≡ u
Under (row e ks us) t = (l : Label) × At l t ks us

-- y is u, or stands in what u stands for, through the substitution
pub data Above (s : ℕ → Entry) (u : ℕ) : ℕ → Type 0 where
  itself : Above s u u
  inner : (v y : ℕ) (t : Typ) → Above s u v → Under (s v) t → PartOf t (var y) → Above s u y

-- limits are on their way from `first` to those that never rise; what is noted is still to be looked at
pub record Lowering (p : Problem) (s : ℕ → Entry) (first now : ℕ → Limit) (noted : List ℕ) : Type 0 where
  pub down : (x : ℕ) → NoFurther (now x) (first x)
  pub done : (x : ℕ) → (Has noted x × Met p (var x)) ⊎ LimitedAt now (now x) (s x)
  pub left : (x : ℕ) → (now x ≡ first x) ⊎ Met p (var x)
  pub from : (x : ℕ) → (u : ℕ) × ((first u).names ≡ (now x).names) × Above s u x

-- the variable y gets a limit no wider than `to`, and is noted if that is a change
pub data LowersOne (old new : List Limit) (y : ℕ) (to : Limit) (noted now : List ℕ) : Type 0 where
  stays : new ≡ old → now ≡ noted → NoFurther (limit_at old y) to → LowersOne old new y to noted now
  falls : new ≡ slice_set old y (narrower (limit_at old y) to) → now ≡ noted ++ y ∷ [] → (narrower (limit_at old y) to ≡ limit_at old y → ⊥)
      → LowersOne old new y to noted now

-- the first node of a type is looked at
pub data Visits (ts : List Typ) (k : ℕ) (to : Limit) (old new : List Limit) (pending next noted now : List ℕ) : Type 0 where
  variable : (y : ℕ) → type_at ts k ≡ var y → next ≡ pending → LowersOne old new y to noted now → Visits ts k to old new pending next noted now
  applied : (h : Symbol) (parts : List ℕ) → type_at ts k ≡ con h (types_at ts parts) → SymbolOver to.names h → next ≡ pending ++ parts → new ≡ old
      → now ≡ noted → Visits ts k to old new pending next noted now

-- a type begins with a name that is too late
abbrev pub RefusesName : Typ → Limit → UnifyRefused → Type 0
RefusesName t to Clash = (n : TyName) × (ts : Typs) × (t ≡ con (name n) ts) × (to.names ≤ n.stamp)
RefusesName t to Circular = ⊥
RefusesName t to Large = ⊥
RefusesName t to Memory = ⊤

-- a name that is too late stands in a type
abbrev pub RefusesIn : Typ → Limit → UnifyRefused → Type 0
RefusesIn t to Clash = (n : TyName) × (ts : Typs) × PartOf t (con (name n) ts) × (to.names ≤ n.stamp)
RefusesIn t to Circular = ⊥
RefusesIn t to Large = ⊥
RefusesIn t to Memory = ⊤

-- the limit of x fell, since it stands in t
pub record Fell (t : Typ) (to : Limit) (old new : ℕ → Limit) (now : List ℕ) (x : ℕ) : Type 0 where
  pub has : Has now x
  pub part : PartOf t (var x)
  pub names : ((new x).names ≡ (old x).names) ⊎ ((new x).names ≡ to.names)
  pub further : NoFurther (old x) to → ⊥

-- the variables of t get limits no wider than `to`
pub record LowersType (t : Typ) (to : Limit) (old new : List Limit) (noted now : List ℕ) : Type 0 where
  pub limited : Limited (limit_at new) to t
  pub down : (x : ℕ) → NoFurther (limit_at new x) (limit_at old x)
  pub from : (x : ℕ) → (limit_at new x ≡ limit_at old x) ⊎ Fell t to (limit_at old) (limit_at new) now x
  pub stay : (x : ℕ) → Has noted x → Has now x
  pub fewer : sum new + length now ≤ sum old + length noted

-- why nothing within the limits solves the substitution
abbrev pub RefusesLimits : Problem → (ℕ → Entry) → (ℕ → Limit) → UnifyRefused → Type 0
RefusesLimits p s b Clash = ((m : ℕ → Bool) (f : ℕ → Typ) → Solves m f s → IsOver b f → ⊥) × Excludes p b
RefusesLimits p s b Circular = ⊥
RefusesLimits p s b Large = ⊥
RefusesLimits p s b Memory = ⊤

-- limits were lowered, and never rise along s, in which a and b were made equal
pub record IsSettled (first s : ℕ → Entry) (old new : ℕ → Limit) (a b : Typ) : Type 0 where
  pub limited : AreLimited new s
  pub wide : AreWide old → AreWide new
  pub falls : Fall old new
  pub same : AskTheSame s old new
  pub rest : LeavesLimits first old new a b
