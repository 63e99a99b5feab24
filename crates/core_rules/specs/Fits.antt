-- A static and a dynamic environment that fit: at each path the same identifiers, of one status, and the same type constructors, with constructors that fit.
use Rattle.std.specs.Prelude.{◌≡◌, ℕ, Bool, List, Option, Some, None, option_map, option_and_then, is_some, ⊤}
use Rattle.mlc_runs.specs.Run.{World, Answer, gives, raises, stops}
use Rattle.ty_basis.specs.of_ty_core.declared.env.Status.{Status}
use Rattle.sml_tree.specs.declared.ident.Vid.{Vid}
use Rattle.sml_tree.specs.BareTree.{Decs}
use Rattle.core_rules.specs.Words.{same_vid}
use Rattle.core_rules.specs.Objects.{Context, Values, TypeStructure}
use Rattle.core_rules.specs.Objects as static
use Rattle.core_rules.specs.Values.{Value, Env, Found, value_in, tycon_in, structure_in, along}
use Rattle.core_rules.specs.Eval.{Apply, eval_decs}
use Rattle.core_rules.specs.Elaborated.{type_in}
use Rattle.core_rules.specs.Choices.{Choices}
use Rattle.core_rules.specs.Initial.{initial_context, initial_env, prelude_context, prelude_env}
use Rattle.core_rules.specs.Typing.{DecsHave}

abbrev pub static_status : Option static.Value → Option Status
static_status = option_map (λ v. v.status)

abbrev pub dynamic_status : Option Found → Option Status
dynamic_status = option_map (λ f. f.status)

abbrev pub SameValues : Values → Env → Type 0
SameValues vs d = (x : Vid) → static_status (static.at same_vid vs x) ≡ dynamic_status (value_in d x)

-- nothing but values
pub record IsOfValues (d : Env) : Type 0 where
  pub tycons : (x : ℕ) → tycon_in d x ≡ None
  pub structures : (x : ℕ) → structure_in d x ≡ None

pub record ConstructorsFit (s : TypeStructure) (d : Env) : Type 0 where
  pub values : SameValues s.constructors d
  pub only : IsOfValues d

abbrev pub BothFit : Option TypeStructure → Option Env → Type 0
BothFit None None = ⊤
BothFit (Some s) (Some d) = ConstructorsFit s d
BothFit s d = ⊥

pub record Fits (e : static.Env) (d : Env) : Type 0 where
  pub paths : (qs : List ℕ) → is_some (static.along e qs) ≡ is_some (along d qs)
  pub values : (qs : List ℕ) (x : Vid) → static_status (option_and_then (λ e. static.value_in e x) (static.along e qs)) ≡ dynamic_status
      (option_and_then (λ d. value_in d x) (along d qs))
  pub types : (qs : List ℕ) (x : ℕ) → BothFit (type_in e qs x) (option_and_then (λ d. tycon_in d x) (along d qs))

-- what is given, if something is, has P
abbrev pub Giving : {V A : Type 0} → (A → Type 0) → Answer V A → Type 0
Giving P r = elim r [ gives a w ↦ P a | raises p w ↦ ⊤ | stops c w ↦ ⊤ ]

-- declarations that have a typing give an environment that fits it, where the one that they are evaluated in fits
abbrev pub DeclarationsFit : Type 0
DeclarationsFit = (m : ℕ → Bool) (c : Context) (ds : Decs) (made : ℕ) (e : static.Env) (k : Choices) (call : Apply) (d : Env) (w : World Value) →
    DecsHave m c ds made e k → Fits c.env d → Giving (Fits e) (eval_decs call d ds w)

-- the views of the initial basis fit, and those of the basis that the prelude sees
abbrev pub InitialBasisFits : Type 0
InitialBasisFits = Fits initial_context.env initial_env × Fits prelude_context.env prelude_env
