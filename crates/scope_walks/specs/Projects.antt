-- Identifiers that aren't bound in a project.
use Rattle.std.specs.Prelude.{List, [], ◌∷◌, ◌++◌}
use Rattle.std.specs.List.{Contains}
use Rattle.mlc_base.specs.declared.place.Place.{Place}
use Rattle.sml_tree.specs.BareTree.{Decs}
use Rattle.core_rules.specs.Initial.{initial_env, prelude_env}
use Rattle.core_rules.specs.Objects.{Context}
use Rattle.core_rules.specs.Project.{Part, source, standard_basis}
use Rattle.core_rules.specs.Unbound.{Unbound, decs_names, unbound_in}
use Rattle.core_rules.specs.Values.{Env, nothing, plus}
use Rattle.project_typed.specs.Typing.{ProjectHas}
use Rattle.name_scopes.specs.Twice.{twice_in}

-- what the standard basis has in scope: the initial basis, and over it what the prelude declares
abbrev pub standard_env : Decs → Env
standard_env prelude = plus initial_env (decs_names prelude_env prelude)

-- what is in scope behind parts of a project
abbrev pub env_behind : Decs → Env → List Part → Env
env_behind prelude e [] = e
env_behind prelude e (standard_basis ∷ parts) = env_behind prelude (plus e (standard_env prelude)) parts
env_behind prelude e (source run ∷ parts) = env_behind prelude (plus e (decs_names e run)) parts

-- the identifiers that aren't bound in a source behind these parts
abbrev pub unbound_behind : Decs → List Part → Decs → List Unbound
unbound_behind prelude before run = unbound_in (env_behind prelude nothing before) run

-- where an identifier is bound twice in a source behind these parts, or one that is never bound
abbrev pub twice_behind : Decs → List Part → Decs → List Place
twice_behind prelude before run = twice_in (env_behind prelude nothing before) run

-- a project in which an identifier isn't bound has no typing
abbrev pub UnboundHasNoTyping : Type 0
UnboundHasNoTyping = (prelude : Decs) (before after : List Part) (run : Decs) (u : Unbound) (c : Context) → Contains (unbound_behind prelude before run) u →
    ¬ (ProjectHas prelude (before ++ source run ∷ after) c)

-- nor has one in which an identifier is bound twice
abbrev pub TwiceHasNoTyping : Type 0
TwiceHasNoTyping = (prelude : Decs) (before after : List Part) (run : Decs) (p : Place) (c : Context) → Contains (twice_behind prelude before run) p →
    ¬ (ProjectHas prelude (before ++ source run ∷ after) c)
