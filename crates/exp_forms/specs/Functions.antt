-- Functions of several parameters.
use Rattle.std.specs.Prelude.{◌≡◌, ◌≤◌, ℕ, List, [], ◌∷◌}
use Rattle.ty_core.specs.Types.{Typ}
use Rattle.ty_basis.specs.Types.{function_type}
use Rattle.sml_tree.specs.BareTree as bare
use Rattle.core_rules.specs.Choices.{Choices}
use Rattle.ir_poly.specs.Prog as prog
use Rattle.prog_tree.specs.TreeOf.{function_of}
use Rattle.elab_typed.specs.Contexts.{Around}
use Rattle.elab_typed.specs.Elaborates.{FunElab}
use Rattle.pat_elab.specs.of_elab_state.declared.state.State.{State}
use Rattle.pat_elab.specs.of_elab_steps.Growing.{HasType, Grows}
use Rattle.pat_elab.specs.of_elab_steps.World.{World, type_of, Comes}
use Rattle.pat_elab.specs.of_elab_context.Telling.{Tells, IsInUse}
use Rattle.pat_elab.specs.of_elab_context.declared.context.Context.{Context}
use Rattle.exp_forms.specs.Parameters.{Takes}
use Rattle.exp_forms.specs.declared.functions_made.FunctionMade.{FunctionMade}

-- fn a1 => .. fn an => e
abbrev pub taking : List Takes → bare.Exp → bare.Exp
taking [] e = e
taking (a ∷ as_) e = bare.fn a.at (bare.rule a.place a.pat (taking as_ e) bare.no_rules)

-- the rules of the first function
abbrev pub rules_of : List Takes → bare.Exp → bare.Rules
rules_of [] e = bare.no_rules
rules_of (a ∷ as_) e = bare.rule a.place a.pat (taking as_ e) bare.no_rules

-- functions one after the other, to a result
abbrev pub curried : List Typ → Typ → Typ
curried [] u = u
curried (t ∷ ts) u = function_type t (curried ts u)

-- rules elaborate to a function of the type t, where the variables in scope are below k
pub record ElaboratesFunction (W : World) (A : Around) (k : ℕ) (rs : bare.Rules) (f : prog.Fun) (t : Typ) : Type 0 where
  pub domain : Typ
  pub range : Typ
  pub is : t ≡ function_type domain range
  pub choices : Choices
  pub elab : (j : ℕ) → j ≤ k → FunElab W.table A j rs f domain range choices
  pub domain_used : IsInUse A domain
  pub range_used : IsInUse A range

pub record IsFunction (S : State) (C : Context) (rs : bare.Rules) (T : State) (made : FunctionMade) : Type 0 where
  pub grows : Grows S T
  pub is : HasType T made.ty
  pub gives : (W : World) → Comes T W → (A : Around) → Tells C W A
      → ElaboratesFunction W A S.next rs (function_of W.reading made.function) (type_of W made.ty)
