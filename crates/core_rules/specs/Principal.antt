-- Runs of declarations, and when an environment is principal for one. [in place of the Definition 4.11 and 4.12]
use Rattle.std.specs.Prelude.{◌≡◌, ℕ, [], Option, Some, None, length, ⊤}
use Rattle.std.specs.List.{AllByRecursion}
use Rattle.ty_basis.specs.of_ty_core.Types.{Typ, no_variable}
use Rattle.sml_tree.specs.declared.ident.Vid.{Vid}
use Rattle.sml_tree.specs.BareTree.{Decs}
use Rattle.core_rules.specs.Objects.{Scheme, put, AllAllowed, Value, Env, types, structures, value_in, Context}
use Rattle.core_rules.specs.Choices.{Choices, IntsOf, SameRows, SameSettled}
use Rattle.core_rules.specs.Typing.{DecsHave}
use Rattle.core_rules.specs.Cuts.{decs_cuts}

-- The free variables of types are types like others here, none of which admits equality.

-- some types that the marks allow, for the parameters, give t [4.5]
pub record Generalises (s : Scheme) (t : Typ) : Type 0 where
  pub types : ℕ → Typ
  pub allowed : AllAllowed no_variable types 0 s.marks
  pub is : t ≡ put (length s.marks) types s.body

-- the first has the second as an instance: of one status, with all instances
abbrev pub HasInstance : Option Value → Option Value → Type 0
HasInstance None None = ⊤
HasInstance (Some v) (Some u) = (v.status ≡ u.status) × ((t : Typ) → Generalises u.scheme t → Generalises v.scheme t)
HasInstance v u = ⊥

-- e' is an instance of e. A free variable has no instance but itself.
pub record IsInstanceOf (e e' : Env) : Type 0 where
  pub values : (x : Vid) → HasInstance (value_in e x) (value_in e' x)
  pub types : types e ≡ types e'
  pub structures : structures e ≡ structures e'

module _ (c : Context) (run : Decs) where
  abbrev pub Types : ℕ → Env → Choices → Type 0
  Types made e k = DecsHave no_variable c run made e k

  -- a typing counts where it gives int to each overloaded occurrence that some typing gives int
  abbrev pub Counts : Choices → Type 0
  Counts k = (made : ℕ) (e : Env) (j : Choices) → Types made e j → IntsOf j k

  -- all typings of declarations agree on the labels of each `...` in their non-expansive bindings
  abbrev pub RowsSettled : Decs → Type 0
  RowsSettled ds = (made made' : ℕ) (e e' : Env) (k k' : Choices) → DecsHave no_variable c ds made e k → DecsHave no_variable c ds made' e' k' →
      SameSettled k k'

  -- e, with so many names made, is principal for the run
  pub record IsPrincipal (made : ℕ) (e : Env) : Type 0 where
    pub choices : Choices
    pub types : Types made e choices
    pub counts : Counts choices
    -- at the end of each `val` declaration, inner ones included
    pub settled : AllByRecursion RowsSettled (decs_cuts [] run)
    pub general : (made' : ℕ) (e' : Env) (k : Choices) → Types made' e' k → Counts k → IsInstanceOf e e'
    pub rows : (made' : ℕ) (e' : Env) (k : Choices) → Types made' e' k → Counts k → SameRows choices k
