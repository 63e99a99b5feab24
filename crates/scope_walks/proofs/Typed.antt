-- A project that has a typing has every identifier bound.
use Rattle.std.proofs.Common.{ℕ, List, [], ◌∷◌, ◌++◌, Option, Some, None, subst}
use Rattle.std.specs.List.{Contains}
use Rattle.ty_core.specs.Types.{no_variable}
use Rattle.sml_tree.specs.BareTree.{Decs}
use Rattle.core_rules.proofs.Bound.{decs-names, unbound-have-no-typing}
use Rattle.core_rules.proofs.Fitting.{fits-plus, nothing-fits}
use Rattle.core_rules.proofs.FittingInitial.{initial-fits}
use Rattle.core_rules.specs.Choices.{Choices}
use Rattle.core_rules.specs.Fits.{Fits}
use Rattle.core_rules.specs.Initial.{empty_context, prelude_env}
use Rattle.core_rules.specs.Objects.{Context, with_env}
use Rattle.core_rules.specs.Objects as static
use Rattle.core_rules.specs.Project.{Part, source, standard_basis, static_standard}
use Rattle.core_rules.specs.Typing.{DecsHave}
use Rattle.core_rules.specs.Unbound.{decs_names}
use Rattle.core_rules.specs.Values.{Env, nothing, plus}
use Rattle.project_typed.specs.Typing.{PartsHave, first_basis_has, later_basis_has, source_has}
use Rattle.name_scopes.proofs.Placing.{none-in}
use Rattle.name_scopes.proofs.TypedOnce.{twice-has-no-typing}
use Rattle.scope_walks.specs.Projects.{TwiceHasNoTyping, UnboundHasNoTyping, env_behind, standard_env}

-- the standard basis, once it was there, fits what it has in scope
abbrev KnownFits : Decs → Option static.Env → Type 0
KnownFits prelude None = Unit {0}
KnownFits prelude (Some e) = Fits e (standard_env prelude)

module _ (prelude : Decs) where
  -- a source of a project that has a typing has one, in a context that fits what is in scope there
  source-typed : (A : Type 0) (before after : List Part) (run : Decs) (c c' : Context) (s : Option static.Env) (d : Env) → Fits c.env d → KnownFits prelude s
      → PartsHave prelude c s (before ++ source run ∷ after) c'
      → ((c : Context) (made : ℕ) (e : static.Env) (k : Choices) → Fits c.env (env_behind prelude d before) → DecsHave no_variable c run made e k → A) → A
  source-typed A [] after run c c' s d f k (source_has h r) go = go c _ _ _ f h
  source-typed A (source ds ∷ before) after run c c' s d f k (source_has {made = made} {e = e} h r) go =
      source-typed A before after run (with_env c made e) c' s (plus d (decs_names d ds)) (fits-plus f (decs-names no_variable d f h)) k r go
  source-typed A (standard_basis ∷ before) after run c c' s d f k (first_basis_has {made = made} {e = e} h r) go =
      let g : Fits e (decs_names prelude_env prelude) = decs-names no_variable prelude_env (initial-fits.1) h in
      let b : Fits (static_standard prelude e) (standard_env prelude) = fits-plus (initial-fits.0) g in
      source-typed A before after run (with_env c made (static_standard prelude e)) c' (Some (static_standard prelude e)) (plus d (standard_env prelude)) (fits-plus f b) b r go
  source-typed A (standard_basis ∷ before) after run c c' s d f k (later_basis_has {e = e} r) go =
      source-typed A before after run (with_env c 0 e) c' (Some e) (plus d (standard_env prelude)) (fits-plus f k) k r go

pub unbound-has-no-typing : UnboundHasNoTyping
unbound-has-no-typing prelude before after run u c i h =
    source-typed prelude ⊥ before after run empty_context c None nothing nothing-fits tt h
    (λ c' made e k f t. none-in u (subst (λ us. Contains us u) (unbound-have-no-typing no_variable c' run made e k (env_behind prelude nothing before) f t) i))

pub twice-behind-has-no-typing : TwiceHasNoTyping
twice-behind-has-no-typing prelude before after run p c i h =
    source-typed prelude ⊥ before after run empty_context c None nothing nothing-fits tt h
    (λ c' made e k f t. none-in p (subst (λ ps. Contains ps p) (twice-has-no-typing no_variable c' run made e k (env_behind prelude nothing before) f t) i))
