-- What the elaborator says of declarations whose parts come into scope: that they elaborate, and what each identifier and type constructor is that they
-- bring. So what a context tells behind them is known, also where only some of them are shown, as behind a `local`.
use Rattle.std.specs.Prelude.{◌≡◌, ◌<◌, ◌≤◌, ◌+◌, ◌++◌, ℕ, true, List, [], ◌∷◌, map, Some, None, option_map, nat_eq}
use Rattle.std.specs.Option.{option_or}
use Rattle.std.specs.Map.{lookup}
use Rattle.sml_tree.specs.BareTree as bare
use Rattle.sml_tree.specs.declared.ident.Vid.{Vid}
use Rattle.core_rules.specs.Choices.{Choices}
use Rattle.core_rules.specs.Objects.{no_structures}
use Rattle.core_rules.specs.Words.{same_vid}
use Rattle.ir_poly.specs.Prog as prog
use Rattle.ir_poly.specs.TestsChecked.{Known, Knowns}
use Rattle.ir_poly.specs.TestsChecked as checked
use Rattle.ir_poly.specs.Types.{Constructor, in_scope}
use Rattle.core_elab.specs.Scopes.{Scope, empty, denotes_in, inside_in, plus_scope, typed_in}
use Rattle.prog_tree.specs.TreeOf.{dec_of, decs_of}
use Rattle.prog_tree.specs.declared.tree.Dec.{Dec}
use Rattle.ty_core.specs.Types.{Typ}
use Rattle.elab_typed.specs.Contexts.{Around, KeptEnv, after, env_under, kept_values, plus_kept}
use Rattle.elab_typed.specs.Elaborates.{DecElab}
use Rattle.elab_typed.specs.Numbers.{AgreeBelow, KeepsInitial}
use Rattle.elab_types.specs.declared.scope.TypeEntry.{TypeEntry}
use Rattle.closed_types.specs.of_elab_state.declared.state.State.{State}
use Rattle.closed_types.specs.of_elab_steps.Growing.{Grows}
use Rattle.closed_types.specs.of_elab_steps.World.{World, Comes}
use Rattle.exp_forms.specs.of_elab_context.Entries.{number_in, last_of}
use Rattle.exp_forms.specs.of_elab_context.Telling.{Tells, HasConstructors, IsFit, kept_of, denotes_of, known_of, function_of}
use Rattle.exp_forms.specs.of_elab_context.declared.context.Context.{Context}
use Rattle.exp_forms.specs.of_elab_context.declared.entry.Entry.{Entry}
use Rattle.exp_forms.specs.of_elab_context.Numbered.{IsNumbered}
use Rattle.dec_forms.specs.Decs.{IsDecs, all_joined}
use Rattle.dec_forms.specs.Entries.{Adds, last_at}
use Rattle.dec_forms.specs.declared.brought.Brought.{Brought}

-- what a declaration makes: so many names, all names' numbers, what it binds, its scope, and what is known of the program's variables behind it
pub record Effect : Type 0 where
  pub made : ℕ
  pub number : ℕ → ℕ
  pub env : KeptEnv
  pub scope : Scope
  pub known : Knowns

abbrev pub past : Around → Effect → Around
past A m = after A m.made m.number m.env m.scope m.known

abbrev pub no_effect : Around → Effect
no_effect A = record { made = 0; number = A.number; env = kept_values []; scope = empty; known = A.known }

-- one after the other
abbrev pub joint_effect : Effect → Effect → Effect
joint_effect m q = record { made = m.made + q.made; number = q.number; env = plus_kept m.env q.env; scope = plus_scope m.scope q.scope; known = q.known }

-- the second of them, where what the first binds goes out of scope
abbrev pub last_effect : Effect → Effect → Effect
last_effect m q = record { made = m.made + q.made; number = q.number; env = q.env; scope = q.scope; known = q.known }

-- The effect in D of what comes into scope, where the program's variables that were known are below the k-th: each identifier that a look-up finds is told as a
-- context of the code tells it, and nothing else changes.
pub record Brings (D : Context) (W : World) (A : Around) (k : ℕ) (es : List (Vid × Entry)) (ts : List (ℕ × TypeEntry)) (m : Effect) : Type 0 where
  pub values : (x : Vid) → lookup (same_vid x) m.env.values ≡ option_map (kept_of D W) (last_of es x)
  pub types : (x : ℕ) → option_map (λ y. y.function) (lookup (nat_eq x) m.env.types) ≡ option_map (function_of W) (last_at ts x)
  pub structures : m.env.structures ≡ no_structures
  pub denotes : (s : Scope) (x : Vid) → denotes_in (plus_scope s m.scope) x ≡ option_or (option_map denotes_of (last_of es x)) (denotes_in s x)
  pub alone : (s : Scope) (q : ℕ) → inside_in (plus_scope s m.scope) q ≡ inside_in s q
  pub retyped : (s : Scope) (x : ℕ) → last_at ts x ≡ None → typed_in (plus_scope s m.scope) x ≡ typed_in s x
  pub constructors : (s : Scope) (x : ℕ) (e : TypeEntry) → last_at ts x ≡ Some e
      → HasConstructors D W (past A m) e (lookup (nat_eq x) m.env.types) (typed_in (plus_scope s m.scope) x)
  pub fit : (x : Vid) (e : Entry) → last_of es x ≡ Some e → IsFit D W (past A m) e
  pub new : (x : Vid) (e : Entry) (n : ℕ) (v : Known) → last_of es x ≡ Some e → known_of W (past A m) e ≡ Some (n, v) → checked.at m.known n ≡ Some v
  pub older : (n : ℕ) → n < k → checked.at m.known n ≡ checked.at A.known n
  pub names : A.names + m.made ≡ D.names
  pub number : m.number ≡ W.naming D.naming
  pub numbers : (x : ℕ) → W.naming D.naming x ≡ number_in D x
  pub initial : KeepsInitial m.number
  pub agree : AgreeBelow A.names A.number m.number
  -- nothing is said of other parameters than those in scope
  pub over : (s f : ℕ → Typ) → ((v : ℕ) → in_scope A.parameters v ≡ true → s v ≡ f v) → env_under s m.env ≡ env_under f m.env

-- One declaration

-- it elaborates, and the next variable is at most the j-th
pub record EffectUpTo (table : List Constructor) (A : Around) (h : ℕ) (d : bare.Dec) (x : prog.Decs) (m : Effect) (c : Choices) (j : ℕ) : Type 0 where
  pub next : ℕ
  pub most : next ≤ j
  pub elab : DecElab table A h d x m.made m.number m.env m.scope m.known c next

-- where the variables in scope are below k
pub record ElaboratesWith (W : World) (A : Around) (k : ℕ) (d : bare.Dec) (x : prog.Decs) (D : Context) (es : List (Vid × Entry)) (ts : List (ℕ × TypeEntry))
    (j : ℕ) : Type 0 where
  pub effect : Effect
  pub choices : Choices
  pub elab : (h : ℕ) → h ≤ k → EffectUpTo W.table A h d x effect choices j
  pub brings : Brings D W A k es ts effect

pub record IsBringing (S : State) (C : Context) (d : bare.Dec) (T : State) (D : Context) (decs : List Dec) (old new : Brought) : Type 0 where
  pub values : List (Vid × Entry)
  pub types : List (ℕ × TypeEntry)
  pub all_values : new.values.items ≡ old.values.items ++ values
  pub all_types : new.types.items ≡ old.types.items ++ types
  pub adds : Adds C D values types
  pub grows : Grows S T
  pub numbered : IsNumbered S.next C → IsNumbered T.next D
  pub gives : IsNumbered S.next C → (W : World) → Comes T W → (A : Around) → Tells C W A
      → ElaboratesWith W A S.next d (decs_of (map (dec_of W.reading) decs)) D values types T.next

-- Several, one after the other

abbrev pub past_all : Around → List Effect → Around
past_all A [] = A
past_all A (m ∷ ms) = past_all (past A m) ms

abbrev pub all_effects : Around → List Effect → Effect
all_effects A [] = no_effect A
all_effects A (m ∷ ms) = joint_effect m (all_effects (past A m) ms)

-- each elaborates, from the k-th variable on
pub data EachEffect (table : List Constructor) : Around → ℕ → List bare.Dec → List prog.Decs → List Choices → List Effect → ℕ → Type 0 where
  no_effects : {A : Around} {k : ℕ} → EachEffect table A k [] [] [] [] k
  an_effect : {A : Around} {k j i : ℕ} {d : bare.Dec} {ds : List bare.Dec} {x : prog.Decs} {xs : List prog.Decs} {c : Choices} {cs : List Choices}
      (m : Effect) {ms : List Effect} → DecElab table A k d x m.made m.number m.env m.scope m.known c j → EachEffect table (past A m) j ds xs cs ms i
      → EachEffect table A k (d ∷ ds) (x ∷ xs) (c ∷ cs) (m ∷ ms) i

pub record EffectsUpTo (table : List Constructor) (A : Around) (h : ℕ) (ds : List bare.Dec) (xs : List prog.Decs) (cs : List Choices) (ms : List Effect)
    (j : ℕ) : Type 0 where
  pub next : ℕ
  pub most : next ≤ j
  pub elab : EachEffect table A h ds xs cs ms next

pub record ElaborateWith (W : World) (A : Around) (k : ℕ) (ds : List bare.Dec) (x : prog.Decs) (D : Context) (es : List (Vid × Entry))
    (ts : List (ℕ × TypeEntry)) (j : ℕ) : Type 0 where
  pub parts : List prog.Decs
  pub whole : all_joined parts ≡ x
  pub choices : List Choices
  pub effects : List Effect
  pub elab : (h : ℕ) → h ≤ k → EffectsUpTo W.table A h ds parts choices effects j
  pub brings : Brings D W A k es ts (all_effects A effects)

pub record AreBringing (S : State) (C : Context) (ds : List bare.Dec) (T : State) (D : Context) (decs : List Dec) (old new : Brought) : Type 0 where
  pub values : List (Vid × Entry)
  pub types : List (ℕ × TypeEntry)
  pub all_values : new.values.items ≡ old.values.items ++ values
  pub all_types : new.types.items ≡ old.types.items ++ types
  pub adds : Adds C D values types
  pub grows : Grows S T
  pub numbered : IsNumbered S.next C → IsNumbered T.next D
  pub gives : IsNumbered S.next C → (W : World) → Comes T W → (A : Around) → Tells C W A
      → ElaborateWith W A S.next ds (decs_of (map (dec_of W.reading) decs)) D values types T.next
  -- as what stands in a `let` is said
  pub plain : IsNumbered S.next C → IsDecs S C ds T D decs
