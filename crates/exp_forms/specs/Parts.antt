-- Expressions one after the other, as fields, operands or those of a sequence.
use Rattle.std.specs.Prelude.{◌≡◌, ◌≤◌, ℕ, Bool, true, false, List, [], ◌∷◌, map, ⊤}
use Rattle.mlc_names.specs.declared.label.Label.{Label}
use Rattle.mlc_base.specs.declared.place.Place.{Place}
use Rattle.ty_core.specs.Types.{Typ, typs_of}
use Rattle.sml_tree.specs.BareTree as bare
use Rattle.sml_tree.specs.Derived.{and_of, case_of, or_of}
use Rattle.core_rules.specs.Objects.{AllOver}
use Rattle.core_rules.specs.Choices.{Choices}
use Rattle.ir_poly.specs.Prog as prog
use Rattle.ir_poly.specs.Types.{all_over, Constructor}
use Rattle.prog_tree.specs.TreeOf.{tree_of}
use Rattle.prog_tree.specs.declared.tree.Exp.{Exp}
use Rattle.elab_typed.specs.Contexts.{Around}
use Rattle.elab_typed.specs.Elaborates.{ExpElab}
use Rattle.pat_elab.specs.of_elab_state.declared.state.State.{State}
use Rattle.pat_elab.specs.of_elab_steps.Growing.{AreTypes, Grows, Always}
use Rattle.pat_elab.specs.of_elab_steps.World.{World, Comes}
use Rattle.use_elab.specs.Fresh.{images_of}
use Rattle.pat_elab.specs.of_elab_context.Telling.{Tells}
use Rattle.pat_elab.specs.of_elab_context.declared.context.Context.{Context}
use Rattle.exp_forms.specs.declared.made.FieldsMade.{FieldsMade}

-- each elaborates, with its type and its choices
pub data ExpsElab (table : List Constructor) (A : Around) (k : ℕ) : List bare.Exp → List prog.Exp → List Typ → List Choices → Type 0 where
  no_exps : ExpsElab table A k [] [] [] []
  an_exp : {e : bare.Exp} {es : List bare.Exp} {x : prog.Exp} {xs : List prog.Exp} {t : Typ} {ts : List Typ} {c : Choices} {cs : List Choices}
      → ExpElab table A k e x t c → ExpsElab table A k es xs ts cs → ExpsElab table A k (e ∷ es) (x ∷ xs) (t ∷ ts) (c ∷ cs)

-- where the variables in scope are below k
pub record ElaboratesAll (W : World) (A : Around) (k : ℕ) (es : List bare.Exp) (xs : List prog.Exp) (ts : List Typ) : Type 0 where
  pub choices : List Choices
  pub elab : (j : ℕ) → j ≤ k → ExpsElab W.table A j es xs ts choices
  pub names : AllOver A.names (typs_of ts)
  pub parameters : all_over A.parameters (typs_of ts) ≡ true

pub record AreExps (S : State) (C : Context) (es : List bare.Exp) (T : State) (exps : List Exp) (types : List ℕ) : Type 0 where
  pub grows : Grows S T
  pub are : AreTypes T types
  pub gives : (W : World) → Comes T W → (A : Around) → Tells C W A → ElaboratesAll W A S.next es (map (tree_of W.reading) exps) (images_of W types)

-- each is t
abbrev pub AllAre : Typ → List Typ → Type 0
AllAre t [] = ⊤
AllAre t (u ∷ us) = (u ≡ t) × AllAre t us

-- those of one type
pub record AreExpsOf (S : State) (C : Context) (es : List bare.Exp) (T : State) (exps : List Exp) (t : Typ) : Type 0 where
  pub types : List ℕ
  pub parts : AreExps S C es T exps types
  pub same : Always T (λ W. AllAre t (images_of W types))

-- fields of a record
abbrev pub with_labels : List Label → List bare.Exp → bare.ExpFields
with_labels (l ∷ ls) (e ∷ es) = bare.exp_field l e (with_labels ls es)
with_labels ls es = bare.no_exp_fields

pub record AreFields (S : State) (C : Context) (ls : List Label) (es : List bare.Exp) (T : State) (made : FieldsMade) : Type 0 where
  pub exps : AreExps S C es T (map (λ f. f.1) made.exps.items) (map (λ f. f.part) made.row.items)
  pub labels : map (λ f. f.0) made.exps.items ≡ ls
  pub row : map (λ f. f.label) made.row.items ≡ ls

-- expressions whose values are dropped, and the last
abbrev pub before_last : Place → List bare.Exp → bare.Exp → bare.Exp
before_last p [] e = e
before_last p (d ∷ ds) e = case_of p d (bare.rule p (bare.wild_pat p) (before_last p ds e) bare.no_rules)

-- operands of `andalso` or `orelse`, each with the place of the form that it begins, and the last
abbrev pub tests_of : Bool → List (Place × bare.Exp) → bare.Exp → bare.Exp
tests_of b [] e = e
tests_of true (a ∷ as_) e = and_of a.0 a.1 (tests_of true as_ e)
tests_of false (a ∷ as_) e = or_of a.0 a.1 (tests_of false as_ e)
