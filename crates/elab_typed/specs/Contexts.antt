-- What is around a phrase, for its source and for its program. A kept value says what an identifier has over parameters in scope; with types put for these it
-- is a value of the rules.
use Rattle.std.specs.Prelude.{◌≡◌, ℕ, ◌+◌, true, nat_eq, List, [], ◌∷◌, ◌++◌, map, Option, Some, None, option_map}
use Rattle.core_elab.specs.of_sml_tree.Terminal.{LongVid}
use Rattle.core_elab.specs.of_sml_tree.declared.ident.Vid.{Vid}
use Rattle.ty_core.specs.Types.{Typ, var}
use Rattle.ty_core.specs.Statics.{replace}
use Rattle.ty_core.specs.declared.env.Status.{Status}
use Rattle.ty_core.specs.declared.env.Status.TheVariants.{Variable, Exception}
use Rattle.ty_core.specs.declared.scheme.Quantified.{Quantified}
use Rattle.core_elab.specs.of_core_rules.Closing.{scheme_under}
use Rattle.core_elab.specs.of_core_rules.Words.{same_vid}
use Rattle.core_elab.specs.of_core_rules.Objects.{monomorphic, Map, at, joined, Value, Values, TypeStructure, Env, env, Structures, structures_of, structure_map, Context}
use Rattle.core_elab.specs.of_core_rules.Objects as static
use Rattle.core_elab.specs.of_core_rules.Elaborated.{exception_type}
use Rattle.core_elab.specs.of_core_rules.Typing.{Bound}
use Rattle.core_elab.specs.of_ir_poly.Types.{in_scope}
use Rattle.core_elab.specs.of_ir_poly.TestsChecked.{Knowns}
use Rattle.core_elab.specs.of_core_rules.Initial.{initial_context}
use Rattle.core_elab.specs.Scopes.{Scope, plus_scope, initial_scope}

pub data Kept : Type 0 where
  -- a constructor, or a value of a basis
  given : Value → Kept
  -- a variable: over parameters, and of one type
  general : List Quantified → Typ → Kept
  single : Typ → Kept
  -- an exception, with the type of its argument
  raised : Option Typ → Kept

-- with s's types for the parameters in scope
abbrev pub value_under : (ℕ → Typ) → Kept → Value
value_under s (given v) = v
value_under s (general qs t) = record { scheme = scheme_under s qs t; status = Variable }
value_under s (single t) = record { scheme = monomorphic (replace s t); status = Variable }
value_under s (raised a) = record { scheme = monomorphic (exception_type (option_map (replace s) a)); status = Exception }

abbrev pub KeptValues : Type 0
KeptValues = Map Vid Kept

-- Structures and types have no parameter of a declaration in them.
pub record KeptEnv : Type 0 where
  pub values : KeptValues
  pub types : Map ℕ TypeStructure
  pub structures : Structures

abbrev pub values_under : (ℕ → Typ) → KeptValues → Values
values_under s vs = map (λ v. (v.0, value_under s v.1)) vs

abbrev pub env_under : (ℕ → Typ) → KeptEnv → Env
env_under s e = env (values_under s e.values) e.types e.structures

abbrev pub kept_values : KeptValues → KeptEnv
kept_values vs = record { values = vs; types = []; structures = static.no_structures }

-- closed environments, kept
abbrev pub given_values : Values → KeptValues
given_values vs = map (λ v. (v.0, given v.1)) vs

abbrev pub kept_env : Env → KeptEnv
kept_env (env vs ts ss) = record { values = given_values vs; types = ts; structures = ss }

abbrev pub plus_kept : KeptEnv → KeptEnv → KeptEnv
plus_kept e d = record {
  values = joined same_vid e.values d.values;
  types = joined nat_eq e.types d.types;
  structures = structures_of (joined nat_eq (structure_map e.structures) (structure_map d.structures));
}

-- a long identifier; what structures have is given
abbrev pub kept_in : KeptEnv → LongVid → Option Kept
kept_in e x = elim x.qualifiers [ [] ↦ at same_vid e.values x.vid | q ∷ qs ↦ option_map given (static.long_value_in (env [] e.types e.structures) x) ]

-- What is around a phrase: type names in use with their numbers in the program, type variables, and identifiers; what identifiers stand for in the program;
-- what is known of the program's variables; and the parameters in scope.
pub record Around : Type 0 where
  pub names : ℕ
  pub number : ℕ → ℕ
  pub tyvars : Map ℕ Typ
  pub env : KeptEnv
  pub scope : Scope
  pub known : Knowns
  pub parameters : List Quantified

-- the context of the rules, with s's types for the parameters in scope
abbrev pub context_under : (ℕ → Typ) → Around → Context
context_under s A = record { names = A.names; tyvars = map (λ a. (a.0, replace s a.1)) A.tyvars; env = env_under s A.env }

-- before any declaration, in the initial basis
abbrev pub initial_around : Around
initial_around = record {
  names = initial_context.names;
  number = λ k. k;
  tyvars = [];
  env = kept_env initial_context.env;
  scope = initial_scope;
  known = [];
  parameters = [];
}

-- where parameters stand for themselves
abbrev pub generic : Around → Context
generic A = context_under var A

-- nothing is said of other parameters than those in scope
abbrev pub IsOver : Around → Type 0
IsOver A = (s s' : ℕ → Typ) → ((v : ℕ) → in_scope A.parameters v ≡ true → s v ≡ s' v) → context_under s A ≡ context_under s' A

-- variables with one type
abbrev pub singles : Bound → KeptValues
singles vs = map (λ b. (b.0, single b.1)) vs

-- variables over the parameters of a declaration
abbrev pub generals : List Quantified → Bound → KeptValues
generals qs vs = map (λ b. (b.0, general qs b.1)) vs

-- with what a pattern binds: identifiers with one type, what they stand for, and the program's variables
abbrev pub with_bound : Around → Bound → Scope → Knowns → Around
with_bound A vs r G = record A { env = plus_kept A.env (kept_values (singles vs)); scope = plus_scope A.scope r; known = G }

-- after declarations: so many names, their numbers, the environment, the scope, and the program's variables
abbrev pub after : Around → ℕ → (ℕ → ℕ) → KeptEnv → Scope → Knowns → Around
after A made number d r G = record A {
  names = A.names + made;
  number = number;
  env = plus_kept A.env d;
  scope = plus_scope A.scope r;
  known = G;
}
