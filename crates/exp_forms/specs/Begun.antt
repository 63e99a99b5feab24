-- A rule whose pattern was elaborated.
use Rattle.std.specs.Prelude.{◌≡◌, ℕ, List, []}
use Rattle.sml_tree.specs.BareTree as bare
use Rattle.vid_scope.specs.Entries.{mark_of}
use Rattle.pat_elab.specs.of_elab_state.declared.state.State.{State}
use Rattle.pat_elab.specs.of_elab_context.Telling.{IsContext}
use Rattle.pat_elab.specs.of_elab_context.declared.context.Context.{Context}
use Rattle.pat_elab.specs.Elaborated.{IsPat}
use Rattle.pat_elab.specs.declared.bound.BoundVariable.{BoundVariable}
use Rattle.exp_forms.specs.Within.{within}
use Rattle.exp_forms.specs.Rules.{IsEntered}
use Rattle.exp_forms.specs.declared.begun.RuleBegun.{RuleBegun}

-- from the state S to T its pattern was made one of the type k, and D is the context C with the pattern's variables
pub record IsBegun (S : State) (C : Context) (a : bare.Pat) (k : ℕ) (T : State) (D : Context) (r : RuleBegun) : Type 0 where
  pub middle : State
  pub bound : List BoundVariable
  pub pat : IsPat S C a middle [] bound r.pat
  pub entered : IsEntered middle bound r.pat.ty k T
  pub within : D ≡ within C bound
  pub context : IsContext T D
  pub mark : r.mark ≡ mark_of C.values
