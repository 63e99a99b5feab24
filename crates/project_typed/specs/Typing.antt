-- A typing of a project: one of each of its sources, and of the prelude, where it stands. [in place of the Definition, section 8]
use Rattle.std.specs.Prelude.{ℕ, List, [], ◌∷◌, Option, Some, None}
use Rattle.ty_core.specs.Types.{no_variable}
use Rattle.sml_tree.specs.BareTree.{Decs}
use Rattle.core_rules.specs.Choices.{Choices}
use Rattle.core_rules.specs.Objects.{Env, Context, with_env}
use Rattle.core_rules.specs.Typing.{DecsHave}
use Rattle.core_rules.specs.Initial.{empty_context}
use Rattle.core_rules.specs.Project.{Part, standard_basis, source, prelude_context_at, static_standard}

module _ (prelude : Decs) where
  -- the context after the parts, where each run of declarations has any typing; the standard basis is known once it was there
  pub data PartsHave : Context → Option Env → List Part → Context → Type 0 where
    no_part_has : {c : Context} {s : Option Env} → PartsHave c s [] c
    source_has : {c c' : Context} {s : Option Env} {run : Decs} {parts : List Part} {made : ℕ} {e : Env} {k : Choices}
        → DecsHave no_variable c run made e k → PartsHave (with_env c made e) s parts c' → PartsHave c s (source run ∷ parts) c'
    first_basis_has : {c c' : Context} {parts : List Part} {made : ℕ} {e : Env} {k : Choices}
        → DecsHave no_variable (prelude_context_at prelude c.names) prelude made e k
        → PartsHave (with_env c made (static_standard prelude e)) (Some (static_standard prelude e)) parts c' → PartsHave c None (standard_basis ∷ parts) c'
    later_basis_has : {c c' : Context} {e : Env} {parts : List Part} → PartsHave (with_env c 0 e) (Some e) parts c'
        → PartsHave c (Some e) (standard_basis ∷ parts) c'

  abbrev pub ProjectHas : List Part → Context → Type 0
  ProjectHas parts c = PartsHave empty_context None parts c
