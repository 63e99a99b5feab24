-- What a step leaves of a state: all that was said.
use Rattle.std.specs.Prelude.{◌≡◌, ◌<◌, ◌≤◌, ℕ, Bool, true, false, List, [], ◌∷◌, length, take, Some, ⊤}
use Rattle.std.specs.List.{AllByRecursion}
use Rattle.ty_core.specs.Types.{Typ, Typs, none, more}
use Rattle.ty_core.specs.declared.name.TyName.{TyName}
use Rattle.ty_table.specs.TypeAt.{type_at}
use Rattle.ty_core.specs.declared.scheme.Quantified.{Quantified}
use Rattle.elab_types.specs.of_ty_solve.Substitution.{Solves, is_below, is_in}
use Rattle.elab_types.specs.of_ty_solve.Limits.{Limited, NoFurther}
use Rattle.elab_types.specs.of_ty_solve.declared.limit.Limit.{Limit}
use Rattle.elab_types.specs.of_core_rules.Objects.{Over}
use Rattle.elab_state.specs.of_ir_poly.Types.{over, find, in_scope, Constructor}
use Rattle.elab_state.specs.of_ir_tables.Tables.{parameters_of, strings_of}
use Rattle.elab_state.specs.States.{types_in, made, said_in, limit_in, table_in, dead_level}
use Rattle.elab_state.specs.declared.state.State.{State}
use Rattle.elab_types.specs.declared.scope.TypeScope.{TypeScope}
use Rattle.elab_steps.specs.Tidy.{AreConstructors, IsLive, IsTidy, StaysDone}
use Rattle.elab_steps.specs.World.{World, type_of, Comes}

-- new is old with more behind it
abbrev pub Begins : {A : Type 0} → List A → List A → Type 0
Begins old new = take (length old) new ≡ old

pub record Grows (S T : State) : Type 0 where
  pub types : Begins (types_in S) (types_in T)
  pub written : Begins S.written.items T.written.items
  pub namings : Begins S.namings.items T.namings.items
  pub lists : Begins (parameters_of S.tables) (parameters_of T.tables)
  pub strings : Begins (strings_of S.tables) (strings_of T.tables)
  pub rows : (y : TyName) (c : ℕ) (row : Constructor) → find (table_in S) y c ≡ Some row → find (table_in T) y c ≡ Some row
  pub variables : made S ≤ made T
  -- the solutions after were some before, and limits only fall
  pub solves : (m : ℕ → Bool) (f : ℕ → Typ) → Solves m f (said_in T) → Solves m f (said_in S)
  pub limits : (v : ℕ) → v < made S → NoFurther (limit_in T v) (limit_in S v)
  pub next : S.next ≤ T.next
  -- it is as deep as before; what is done with stays, and a tidy state stays tidy
  pub level : T.level ≡ S.level
  pub done : (v : ℕ) → v < made S → (limit_in S v).level ≡ dead_level → StaysDone S T v
  pub tidy : IsTidy S S.level → IsTidy T T.level
  -- and constructors may stand in a program's table where those before may
  pub constructors : AreConstructors S → AreConstructors T

-- k is a type over the variables of the state, of which none is done with
pub record HasType (S : State) (k : ℕ) : Type 0 where
  pub held : k < length (types_in S)
  pub below : is_below (made S) (type_at (types_in S) k) ≡ true
  pub live : IsLive S k

-- the same of a type that was generalised: the parameters qs may be done with
pub record HasGeneral (S : State) (qs : List Quantified) (k : ℕ) : Type 0 where
  pub held : k < length (types_in S)
  pub below : is_below (made S) (type_at (types_in S) k) ≡ true
  pub live : (v : ℕ) → is_in v (type_at (types_in S) k) ≡ true → in_scope qs v ≡ false → (limit_in S v).level < dead_level

-- and of the types of type variables in scope
abbrev pub AreLive : State → TypeScope → Type 0
AreLive S s = AllByRecursion (λ b. IsLive S b.1) s.tyvars

-- in every world in which what the state says comes true
abbrev pub Always : State → (World → Type 0) → Type 0
Always S P = (W : World) → Comes S W → P W

-- the type k is over so many names, and over the parameters in scope at a level
pub record IsWithin (W : World) (limit : Limit) (k : ℕ) : Type 0 where
  pub names : Over limit.names (type_of W k)
  pub parameters : limit.level < dead_level → over (W.parameters limit.level) (type_of W k) ≡ true

-- no variable of it reaches further than a limit
abbrev pub IsLimited : State → Limit → ℕ → Type 0
IsLimited S limit k = Limited (limit_in S) limit (type_at (types_in S) k)

abbrev pub types_of : World → List ℕ → Typs
types_of W [] = none
types_of W (k ∷ ks) = more (type_of W k) (types_of W ks)

abbrev pub AreTypes : State → List ℕ → Type 0
AreTypes S [] = ⊤
AreTypes S (k ∷ ks) = HasType S k × AreTypes S ks
