-- The states at both ends of a `val` declaration inside l others.
use Rattle.std.specs.Prelude.{◌≡◌, ◌⊎◌, ◌<◌, ◌≤◌, ℕ, suc, true, List, [], ◌∷◌, ◌++◌, if◌then◌else◌, nat_eq}
use Rattle.ty_core.specs.declared.mark.Mark.{Mark}
use Rattle.ty_core.specs.declared.mark.Mark.TheVariants.{Any}
use Rattle.ty_core.specs.declared.scheme.Quantified.{Quantified}
use Rattle.ty_table.specs.TypeAt.{type_at}
use Rattle.ty_solve.specs.Substitution.{free, is_in, is_open}
use Rattle.ir_poly.specs.Types.{in_scope}
use Rattle.ir_tables.specs.Tables.{parameters_of, strings_of}
use Rattle.elab_state.specs.States.{types_in, made, said_in, limit_in, general_in, table_in, dead_level}
use Rattle.elab_state.specs.Generalising.{Generalises}
use Rattle.elab_state.specs.declared.state.State.{State}

-- what is asked of a parameter
abbrev pub mark_in : List Quantified → ℕ → Mark
mark_in [] v = Any
mark_in (q ∷ qs) v = if nat_eq q.variable v then q.mark else mark_in qs v

-- At the end of a declaration inside l others its open variables become the parameters qs, with their marks, and all of its variables are done with. Nothing
-- else changes.
pub record Ends (l : ℕ) (qs : List Quantified) (S T : State) : Type 0 where
  pub generalises : Generalises (made S) (said_in S) (limit_in S) (limit_in T) (general_in S) qs l
  pub ended : (v : ℕ) → v < made S → is_open (said_in S v) ≡ true → (limit_in S v).level ≡ dead_level → in_scope (general_in S) v ≡ true
  pub marks : (v : ℕ) → in_scope qs v ≡ true → said_in S v ≡ free (mark_in qs v)
  pub said : said_in T ≡ said_in S
  pub made : made T ≡ made S
  pub types : types_in T ≡ types_in S
  pub written : T.written.items ≡ S.written.items
  pub namings : T.namings.items ≡ S.namings.items
  pub lists : parameters_of T.tables ≡ parameters_of S.tables ++ qs ∷ []
  pub strings : strings_of T.tables ≡ strings_of S.tables
  pub rows : table_in T ≡ table_in S
  pub next : T.next ≡ S.next
  pub inside : S.level ≡ suc l
  pub level : T.level ≡ l
  pub stay : (v : ℕ) → (limit_in S v).level ≡ dead_level → (limit_in T v).level ≡ dead_level

-- where one begins: the same state, inside a declaration more
pub record Enters (S T : State) : Type 0 where
  pub solver : T.solver ≡ S.solver
  pub written : T.written.items ≡ S.written.items
  pub namings : T.namings.items ≡ S.namings.items
  pub tables : T.tables ≡ S.tables
  pub next : T.next ≡ S.next
  pub level : T.level ≡ suc S.level

-- the variables below the first one belong to l declarations, or are done with
abbrev pub AreOuter : State → ℕ → ℕ → Type 0
AreOuter S l first = (v : ℕ) → v < first → ((limit_in S v).level ≤ l) ⊎ ((limit_in S v).level ≡ dead_level)

-- no bound variable stands in a type
abbrev pub AreOpen : State → ℕ → Type 0
AreOpen S k = (v : ℕ) → is_in v (type_at (types_in S) k) ≡ true → is_open (said_in S v) ≡ true
