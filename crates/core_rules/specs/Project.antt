-- Projects: sources and the standard basis, in order. [in place of the Definition, section 8]
-- The standard basis is the initial basis and over it what the prelude declares, a source that alone sees the structure `Prim`.
-- The prelude is a part of the project, where the standard basis stands first.
use Rattle.std.specs.Prelude.{◌≡◌, ℕ, List, [], ◌∷◌, Option, Some, None}
use Rattle.mlc_runs.specs.Outcome.{Outcome}
use Rattle.mlc_runs.specs.Run.{World, Answer, gives, then_do, outcome_of}
use Rattle.sml_tree.specs.BareTree.{Decs}
use Rattle.core_rules.specs.Objects.{Env, plus, Context, with_env}
use Rattle.core_rules.specs.Values as dynamic
use Rattle.core_rules.specs.Eval.{Apply, eval_decs, apply}
use Rattle.core_rules.specs.Initial.{static_env, dynamic_env, initial_members, prelude_members, context_of, empty_context}
use Rattle.core_rules.specs.Restrictions.{broken_in}
use Rattle.core_rules.specs.Principal.{IsPrincipal}
use Rattle.core_rules.specs.Meaning.{packet_identifier, begin}

pub data Part : Type 0 where
  standard_basis : Part
  source : Decs → Part

module _ (prelude : Decs) where
  -- declarations that break no restriction, with a principal environment, and as many new type names
  pub record Elaborates (c : Context) (run : Decs) (made : ℕ) (e : Env) : Type 0 where
    pub keeps : broken_in run ≡ []
    pub principal : IsPrincipal c run made e

  -- the standard basis, where this is the prelude's environment
  abbrev pub static_standard : Env → Env
  static_standard e = plus (static_env initial_members) e

  abbrev pub dynamic_standard : dynamic.Env → dynamic.Env
  dynamic_standard e = dynamic.plus (dynamic_env initial_members) e

  -- what the prelude sees, with so many type names in use
  abbrev pub prelude_context_at : ℕ → Context
  prelude_context_at n = context_of n (static_env prelude_members)

  -- the context after the parts; the standard basis is known once it was there
  pub data ElaborateAll : Context → Option Env → List Part → Context → Type 0 where
    no_part : {c : Context} {s : Option Env} → ElaborateAll c s [] c
    source_part : {c c' : Context} {s : Option Env} {run : Decs} {parts : List Part} {made : ℕ} {e : Env} → Elaborates c run made e →
        ElaborateAll (with_env c made e) s parts c' → ElaborateAll c s (source run ∷ parts) c'
    first_basis : {c c' : Context} {parts : List Part} {made : ℕ} {e : Env} → Elaborates (prelude_context_at c.names) prelude made e →
        ElaborateAll (with_env c made (static_standard e)) (Some (static_standard e)) parts c' → ElaborateAll c None (standard_basis ∷ parts) c'
    later_basis : {c c' : Context} {e : Env} {parts : List Part} → ElaborateAll (with_env c 0 e) (Some e) parts c' →
        ElaborateAll c (Some e) (standard_basis ∷ parts) c'

  abbrev pub ProjectElaborates : List Part → Context → Type 0
  ProjectElaborates parts c = ElaborateAll empty_context None parts c

  -- the environment after the parts
  abbrev pub eval_all : Apply → dynamic.Env → Option dynamic.Env → List Part → World dynamic.Value → Answer dynamic.Value dynamic.Env
  eval_all call e s [] w = gives e w
  eval_all call e s (source run ∷ parts) w = then_do (eval_decs call e run w) (λ d w. eval_all call (dynamic.plus e d) s parts w)
  eval_all call e None (standard_basis ∷ parts) w = then_do (eval_decs call (dynamic_env prelude_members) prelude w)
      (λ d w. eval_all call (dynamic.plus e (dynamic_standard d)) (Some (dynamic_standard d)) parts w)
  eval_all call e (Some d) (standard_basis ∷ parts) w = eval_all call (dynamic.plus e d) (Some d) parts w

  -- what a project does at m turns
  abbrev pub project_meaning : List Part → ℕ → Outcome
  project_meaning parts m = outcome_of packet_identifier (eval_all (apply m) dynamic.nothing None parts (begin m))
