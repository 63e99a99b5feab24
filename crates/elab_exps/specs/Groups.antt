-- Functions that are declared together, while they are elaborated.
use Rattle.std.specs.Prelude.{◌≡◌, ◌<◌, ◌≤◌, ◌-◌, ◌++◌, ℕ, List, length, true, Vec}
use Rattle.std.specs.Global.{Global}
use Rattle.std.specs.List.{AllByRecursion}
use Rattle.mlc_base.specs.declared.place.Place.{Place}
use Rattle.sml_tree.specs.BareTree as bare
use Rattle.sml_tree.specs.Derived.{fun_of, short}
use Rattle.sml_tree.specs.TreeOf.{RuleOf, binds_of, clause_of, function_of}
use Rattle.sml_tree.specs.declared.ident.Tyvar.{Tyvar}
use Rattle.sml_tree.specs.declared.tree.Clause.{Clause}
use Rattle.sml_tree.specs.declared.tree.Function.{Function}
use Rattle.prog_tree.specs.declared.tree.Function.{Function as ProgramFunction}
use Rattle.elab_state.specs.States.{made}
use Rattle.elab_state.specs.declared.state.State.{State}
use Rattle.elab_steps.specs.Growing.{HasType}
use Rattle.elab_context.specs.declared.context.Context.{Context}
use Rattle.pat_elab.specs.Elaborated.{AreVariables}
use Rattle.pat_elab.specs.declared.bound.BoundVariable.{BoundVariable}
use Rattle.scope_decs.specs.of_exp_forms.Clauses as clauses
use Rattle.scope_decs.specs.of_exp_forms.Functions.{IsFunction}
use Rattle.scope_decs.specs.of_exp_forms.Within.{within}
use Rattle.scope_decs.specs.of_exp_forms.declared.functions_made.FunctionMade.{FunctionMade}
use Rattle.general_decs.specs.of_rec_groups.Functions.{AreFunctions}
use Rattle.general_decs.specs.of_rec_groups.Heads.{IsAnnotatedHead, falling}
use Rattle.general_decs.specs.of_rec_groups.declared.head.Head.{Head}
use Rattle.general_decs.specs.of_general_worlds.Tidy.{AreOuter}
use Rattle.general_decs.specs.Inside.{marked_as}
use Rattle.general_decs.specs.Scoped.{IsBegun, ScopesThese}
use Rattle.general_decs.specs.Whole.{IsDeclared}
use Rattle.general_decs.specs.declared.begin.Begun.{Begun}
use Rattle.elab_exps.specs.declared.inside.Inside.{Inside}

-- the binding that a function of `fun` stands for, and the rule of a clause [Definition, Appendix A]
abbrev pub function_bind : Function → RuleOf
function_bind g = record {
  place = (function_of g).place;
  pat = bare.vid_pat (function_of g).vid_place (short (function_of g).vid);
  exp = fun_of (function_of g).place (function_of g).clauses;
}

abbrev pub clause_rule : Clause → RuleOf
clause_rule c = clauses.rule_of (clause_of c)

-- the state has what heads have
pub record HasHead (S : State) (h : Head) : Type 0 where
  pub is : HasType S h.ty
  pub variables : AreVariables S h.variables.items

abbrev pub HaveHeads : State → List Head → Type 0
HaveHeads S = AllByRecursion (HasHead S)

-- new is old with the variables of patterns in scope
pub record HasVariables (old new : Context) : Type 0 where
  pub variables : List BoundVariable
  pub is : new ≡ within old variables

-- A binding of a `fn` inside its group: its head elaborates at a type, and a function of the program was made of the `fn`.
pub record IsMember (S : State) (E : Context) (r : RuleOf) (ty : ℕ) (T : State) (member : FunctionMade) : Type 0 where
  pub middle : State
  pub head : IsAnnotatedHead S E r.pat ty middle
  pub at : Place
  pub rules : bare.Rules
  pub is : r.exp ≡ bare.fn at rules
  pub function : IsFunction middle E rules T member

-- functions one after the other; what their heads bind stands behind what was bound, and is generalised
pub record AreMembers (S : State) (E : Context) (rs : List RuleOf) (hs : List Head) (old : Inside) (T : State) (new : Inside)
    (funs : List (Vec ℕ Global × ℕ × ProgramFunction)) : Type 0 where
  pub functions : AreFunctions S E rs T funs hs
  pub bound : new.bound.items ≡ old.bound.items ++ falling hs
  pub flags : new.flags.items ≡ old.flags.items ++ marked_as true (falling hs)
  pub binds : new.binds.items ≡ old.binds.items

-- All that a declaration has, inside it: it was begun in the state S and the context C.
pub record IsFilled (S : State) (C : Context) (begun : Begun) (scoped as_ : List Tyvar) (rs gs : List RuleOf) (N : State) (E : Context) (inside : Inside)
    (funs : List (Vec ℕ Global × ℕ × ProgramFunction)) : Type 0 where
  pub from : State
  pub begins : IsBegun S C scoped from E
  pub first : begun.first ≡ made S
  pub tyvars : begun.tyvars ≡ length C.types.tyvars
  pub scopes : ScopesThese C as_ (binds_of rs) (binds_of gs) scoped
  pub all : IsDeclared from C E.types rs gs N inside.bound.items inside.flags.items inside.binds.items funs

-- what is asked for its end
pub record IsReady (N : State) (E : Context) (begun : Begun) (inside : Inside) : Type 0 where
  pub deep : 0 < E.level
  pub have : AreVariables N inside.bound.items
  pub count : length inside.flags.items ≡ length inside.bound.items
  pub first : begun.first ≤ made N
  pub outer : AreOuter N (E.level - 1) begun.first
