-- Behind a pattern nothing speaks of other parameters.
use Rattle.std.proofs.Common.{◌≡◌, ℕ, true, List, [], ◌∷◌, refl, sym, ap₂, ◌∙◌}
use Rattle.std.specs.List.{AllByRecursion}
use Rattle.ty_core.specs.Types.{Typ}
use Rattle.ty_core.specs.declared.scheme.Quantified.{Quantified}
use Rattle.core_rules.specs.Typing as rules
use Rattle.core_rules.specs.Typing.{Bound}
use Rattle.ir_poly.specs.TestsChecked.{Knowns}
use Rattle.ir_poly.specs.Types.{in_scope}
use Rattle.ir_poly.proofs.ReplaceLemmas.{replace-agree}
use Rattle.core_elab.specs.Scopes.{Scope}
use Rattle.elab_typed.specs.Contexts.{Around, IsOver, with_bound}
use Rattle.elab_typed.proofs.Under.{bound_under, with-bound-under}
use Rattle.pat_elab.specs.of_elab_steps.World.{World, type_of}
use Rattle.pat_elab.specs.of_elab_context.Telling.{IsInUse}
use Rattle.pat_elab.specs.Elaborated.{bound_of}
use Rattle.pat_elab.specs.declared.bound.BoundVariable.{BoundVariable}

abbrev Agree : List Quantified → (ℕ → Typ) → (ℕ → Typ) → Type 0
Agree D s f = (v : ℕ) → in_scope D v ≡ true → s v ≡ f v

bound-same : (W : World) (A : Around) (bs : List BoundVariable) (s f : ℕ → Typ) → AllByRecursion (λ b. IsInUse A (type_of W b.ty)) bs → Agree A.parameters s f
    → bound_under s (bound_of W bs) ≡ bound_under f (bound_of W bs)
bound-same W A [] s f u a = refl
bound-same W A (b ∷ bs) s f u a =
    ap₂ (λ (t : Typ) (l : Bound). (b.vid, t) ∷ l) (replace-agree A.parameters (type_of W b.ty) u.0.parameters s f a) (bound-same W A bs s f u.1 a)

pub over_within : (W : World) (A : Around) (bs : List BoundVariable) (r : Scope) (G : Knowns) → IsOver A → AllByRecursion (λ b. IsInUse A (type_of W b.ty)) bs
    → IsOver (with_bound A (bound_of W bs) r G)
over_within W A bs r G o u s f a =
    sym (with-bound-under s A (bound_of W bs) r G) ∙ ap₂ (λ c l. rules.with_bound c l) (o s f a) (bound-same W A bs s f u a) ∙ with-bound-under f A (bound_of W bs) r G
