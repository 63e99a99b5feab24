-- How far a variable may reach: which type names its values may use, and which `val` declaration it belongs to.
use Rattle.std.specs.Prelude.{◌≡◌, ◌↔◌, ◌⊎◌, ◌≤◌, ℕ, zero, suc, Bool, true, nat_lt, min, List, [], ◌∷◌, ⊤}
use Rattle.ty_table.specs.of_ty_core.Types.{Typ, var, con, Typs, none, more, Symbol, arrow, labels, name}
use Rattle.ty_table.specs.of_ty_core.declared.name.TyName.{TyName}
use Rattle.ty_solve.specs.Substitution.{Entry, free, bound, row, sub, Solves}
use Rattle.ty_solve.specs.Forces.{Problem, Forces, Lies, Met}
use Rattle.ty_solve.specs.Solve.{problem, IsCause}
use Rattle.ty_solve.specs.declared.limit.Limit.{Limit}
use Rattle.ty_solve.specs.declared.refused.UnifyRefused.{UnifyRefused}
use Rattle.ty_solve.specs.declared.refused.UnifyRefused.TheVariants.{Clash}

-- the type names of a symbol, and of a type, are among the first n that were made
abbrev pub SymbolOver : ℕ → Symbol → Type 0
SymbolOver n arrow = ⊤
SymbolOver n (labels ls) = ⊤
SymbolOver n (name x) = nat_lt x.stamp n ≡ true

abbrev mutual
  pub Over : ℕ → Typ → Type 0
  Over n (var v) = ⊤
  Over n (con h ts) = SymbolOver n h × AllOver n ts

  pub AllOver : ℕ → Typs → Type 0
  AllOver n none = ⊤
  AllOver n (more t ts) = Over n t × AllOver n ts

-- the limit of a variable; one that was never made may use the overloaded types, whose numbers are 0 to 3
abbrev pub limit_at : List Limit → ℕ → Limit
limit_at [] v = record { names = 4; level = 0 }
limit_at (l ∷ ls) zero = l
limit_at (l ∷ ls) (suc v) = limit_at ls v

abbrev pub narrower : Limit → Limit → Limit
narrower k l = record { names = min k.names l.names; level = min k.level l.level }

-- k reaches no further than l
abbrev pub NoFurther : Limit → Limit → Type 0
NoFurther k l = (k.names ≤ l.names) × (k.level ≤ l.level)

-- every variable has a value over its type names
abbrev pub IsOver : (ℕ → Limit) → (ℕ → Typ) → Type 0
IsOver b f = (v : ℕ) → Over (b v).names (f v)

-- a variable with the limit l may stand for a type: its names are old enough, and its variables reach no further
abbrev mutual
  pub Limited : (ℕ → Limit) → Limit → Typ → Type 0
  Limited b l (var v) = NoFurther (b v) l
  Limited b l (con h ts) = SymbolOver l.names h × AllLimited b l ts

  pub AllLimited : (ℕ → Limit) → Limit → Typs → Type 0
  AllLimited b l none = ⊤
  AllLimited b l (more t ts) = Limited b l t × AllLimited b l ts

abbrev pub LimitedAt : (ℕ → Limit) → Limit → Entry → Type 0
LimitedAt b l (free k) = ⊤
LimitedAt b l (bound t) = Limited b l t
LimitedAt b l (row e ks us) = AllLimited b l us

-- limits never rise along what a variable stands for
abbrev pub AreLimited : (ℕ → Limit) → (ℕ → Entry) → Type 0
AreLimited b s = (v : ℕ) → LimitedAt b (b v) (s v)

-- every variable may use the overloaded types
abbrev pub AreWide : (ℕ → Limit) → Type 0
AreWide b = (v : ℕ) → 4 ≤ (b v).names

-- limits only fall
abbrev pub Fall : (ℕ → Limit) → (ℕ → Limit) → Type 0
Fall old new = (v : ℕ) → NoFurther (new v) (old v)

-- of what solves s, the limits ask the same
abbrev pub AskTheSame : (ℕ → Entry) → (ℕ → Limit) → (ℕ → Limit) → Type 0
AskTheSame s old new = (m : ℕ → Bool) (f : ℕ → Typ) → Solves m f s → IsOver old f ↔ IsOver new f

-- only limits of variables that are met in a or b fall
abbrev pub LeavesLimits : (ℕ → Entry) → (ℕ → Limit) → (ℕ → Limit) → Typ → Typ → Type 0
LeavesLimits s old new a b = (v : ℕ) → (new v ≡ old v) ⊎ Met (problem s a b) (var v)

-- something within the limits solves s
abbrev pub IsSolvableOver : (ℕ → Entry) → (ℕ → Limit) → Type 0
IsSolvableOver s b = (m : ℕ → Bool) × (f : ℕ → Typ) × Solves m f s × IsOver b f

-- nothing within the limits that solves s makes the types equal
abbrev pub NoneOverMakesEqual : (ℕ → Entry) → (ℕ → Limit) → Typ → Typ → Type 0
NoneOverMakesEqual s l a b = (m : ℕ → Bool) (f : ℕ → Typ) → Solves m f s → IsOver l f → sub f a ≡ sub f b → ⊥

-- a type name is forced to stand in the type of a variable that may not use it
pub record Excludes (p : Problem) (b : ℕ → Limit) : Type 0 where
  pub variable : ℕ
  pub used : TyName
  pub arguments : Typs
  pub stands : Forces p (var variable) (con (name used) arguments) ⊎ Lies p (con (name used) arguments) (var variable)
  pub late : (b variable).names ≤ used.stamp

-- when each refusal comes: as without limits, or for a type name that a limit excludes
abbrev pub IsCauseWithin : (ℕ → Entry) → (ℕ → Limit) → Typ → Typ → UnifyRefused → Type 0
IsCauseWithin s l a b e = IsCause s a b e ⊎ ((e ≡ Clash) × NoneOverMakesEqual s l a b × Excludes (problem s a b) l)
