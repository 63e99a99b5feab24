-- Rules: patterns, each with the expression that stands behind it.
use Rattle.std.specs.Prelude.{◌≡◌, ◌≤◌, ℕ, true, List, [], ◌∷◌, map}
use Rattle.ty_core.specs.Types.{Typ}
use Rattle.sml_tree.specs.TreeOf.{RuleOf}
use Rattle.sml_tree.specs.declared.ident.Vid.{Vid}
use Rattle.core_rules.specs.Choices.{Choices}
use Rattle.core_rules.specs.Restrictions.{distinct}
use Rattle.core_rules.specs.Typing.{Bound, bound_in, AreDistinct}
use Rattle.core_rules.specs.Words.{same_vid}
use Rattle.ir_poly.specs.ProgChecked.{pat_onto}
use Rattle.ir_poly.specs.TestsChecked.{of_type}
use Rattle.ir_poly.specs.Types.{Constructor}
use Rattle.core_elab.specs.Scopes.{Scope}
use Rattle.prog_tree.specs.TreeOf.{RuleTree, rule_of}
use Rattle.elab_typed.specs.Contexts.{Around, with_bound}
use Rattle.elab_typed.specs.Elaborates.{ExpElab, PatElab}
use Rattle.elab_typed.specs.Instances.{as_typed}
use Rattle.pat_elab.specs.of_elab_state.declared.state.State.{State}
use Rattle.pat_elab.specs.of_elab_steps.Growing.{HasType, Grows, Always}
use Rattle.pat_elab.specs.of_elab_steps.World.{World, type_of, Comes}
use Rattle.pat_elab.specs.of_elab_context.Telling.{Tells, IsInUse}
use Rattle.pat_elab.specs.of_elab_context.declared.context.Context.{Context}
use Rattle.pat_elab.specs.declared.bound.BoundVariable.{BoundVariable}
use Rattle.exp_forms.specs.declared.rules_made.RulesMade.{RulesMade}

abbrev pub vids_of : List BoundVariable → List Vid
vids_of = map (λ b. b.vid)

-- each rule takes t and gives u: its pattern elaborates, binds no identifier twice, and the expression elaborates behind it; with the choices of both
pub data EachRule (table : List Constructor) (A : Around) (k : ℕ) (t u : Typ) : List RuleOf → List RuleTree → List (Choices × Choices) → Type 0 where
  no_rule : EachRule table A k t u [] [] []
  one_rule : {r : RuleOf} {rs : List RuleOf} {x : RuleTree} {xs : List RuleTree} {vs : Bound} {c d : Choices} {cs : List (Choices × Choices)} {q : Scope} {j : ℕ}
      → PatElab table A k r.pat x.pat t vs c q j → AreDistinct (bound_in vs)
      → ExpElab table (with_bound A vs q (pat_onto of_type x.pat (as_typed A t) A.known)) j r.exp x.exp u d → EachRule table A k t u rs xs cs
      → EachRule table A k t u (r ∷ rs) (x ∷ xs) ((c, d) ∷ cs)

-- where the variables in scope are below k
pub record ElaboratesRules (W : World) (A : Around) (k : ℕ) (rs : List RuleOf) (xs : List RuleTree) (t u : Typ) : Type 0 where
  pub choices : List (Choices × Choices)
  pub elab : (j : ℕ) → j ≤ k → EachRule W.table A j t u rs xs choices
  pub domain : IsInUse A t
  pub range : IsInUse A u

pub record AreRules (S : State) (C : Context) (rs : List RuleOf) (T : State) (made : RulesMade) : Type 0 where
  pub grows : Grows S T
  pub domain : HasType T made.domain
  pub range : HasType T made.range
  pub gives : (W : World) → Comes T W → (A : Around) → Tells C W A
      → ElaboratesRules W A S.next rs (map (rule_of W.reading) made.rules.items) (type_of W made.domain) (type_of W made.range)

-- what a pattern of type t binds came into scope, where rules take k
pub record IsEntered (S : State) (bs : List BoundVariable) (t k : ℕ) (T : State) : Type 0 where
  pub grows : Grows S T
  pub next : T.next ≡ S.next
  pub same : Always T (λ W. type_of W t ≡ type_of W k)
  pub once : distinct same_vid (vids_of bs) ≡ true
