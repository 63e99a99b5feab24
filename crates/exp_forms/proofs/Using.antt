-- What a pattern binds is over the names and the parameters in scope.
use Rattle.std.proofs.Common.{◌≡◌, ℕ, true, List, [], ◌∷◌, ◌++◌, ◌∙◌, sym}
use Rattle.std.specs.List.{AllByRecursion}
use Rattle.sml_tree.specs.declared.ident.Vid.{Vid}
use Rattle.sml_tree.specs.BareTree as bare
use Rattle.ty_core.specs.Types.{Typ}
use Rattle.ty_basis.specs.Types.{Row}
use Rattle.core_rules.specs.Choices.{Choices}
use Rattle.core_rules.specs.Typing.{Bound}
use Rattle.ir_poly.specs.Prog as prog
use Rattle.ir_poly.specs.Types.{over, Constructor}
use Rattle.core_elab.specs.Scopes.{Scope}
use Rattle.elab_typed.specs.Contexts.{Around}
use Rattle.elab_typed.specs.Elaborates.{PatElab, PatsElab, wild_elab, constant_elab, variable_elab, alone_elab, built_elab, fields_elab, open_elab, con_elab, built_con_elab, typed_elab, as_elab, no_pats_elab, a_pat_elab}
use Rattle.elab_typed.specs.Instances.{as_typed, before_constructor, before_reference, before_exception}
use Rattle.elab_typed.proofs.Names.{over-as}
use Rattle.pat_elab.specs.of_elab_steps.World.{World, type_of}
use Rattle.pat_elab.specs.of_elab_context.Telling.{IsInUse}
use Rattle.pat_elab.specs.Elaborated.{bound_of}
use Rattle.pat_elab.specs.declared.bound.BoundVariable.{BoundVariable}

abbrev AreUsed : Around → Bound → Type 0
AreUsed A = AllByRecursion (λ (v : Vid × Typ). IsInUse A v.1)

used-both : (A : Around) (vs us : Bound) → AreUsed A vs → AreUsed A us → AreUsed A (vs ++ us)
used-both A [] us h k = k
used-both A (v ∷ vs) us h k = (h.0, used-both A vs us h.1 k)

module _ (table : List Constructor) (A : Around) where
  mutual
    pattern-used : {k j : ℕ} {a : bare.Pat} {p : prog.Pat} {t : Typ} {vs : Bound} {c : Choices} {r : Scope} → PatElab table A k a p t vs c r j
        → over A.parameters (as_typed A t) ≡ true → AreUsed A vs
    pattern-used (wild_elab p o) h = tt
    pattern-used (constant_elab p c) h = tt
    pattern-used (variable_elab p x n {t = t} le b) h = (record { names = b.over; parameters = sym (over-as A.number A.parameters t) ∙ h }, tt)
    pattern-used (alone_elab p e d a) h = tt
    pattern-used (built_elab p b ts g o) h = tt
    pattern-used (fields_elab p fs n) h = fields-used fs
    pattern-used (open_elab p others fs d o) h = fields-used fs
    pattern-used (con_elab p q e d (before_constructor c ts n us m g s o) b) h = pattern-used b o
    pattern-used (con_elab p q e d (before_reference ts m g o) b) h = pattern-used b o
    pattern-used (con_elab p q e d (before_exception x f n o) b) h = pattern-used b o
    pattern-used (built_con_elab p b ts g s o a) h = pattern-used a o
    pattern-used (typed_elab p a s) h = pattern-used a h
    pattern-used (as_elab p x n {t = t} le b s a) h = (record { names = b.over; parameters = sym (over-as A.number A.parameters t) ∙ h }, pattern-used a h)

    fields-used : {whole : Row} {k j : ℕ} {fs : bare.PatFields} {gs : prog.PatFields} {w : Row} {vs : Bound} {c : Choices} {r : Scope}
        → PatsElab table A whole k fs gs w vs c r j → AreUsed A vs
    fields-used no_pats_elab = tt
    fields-used (a_pat_elab l {vs = vs} {us = us} f o a fs) = used-both A vs us (pattern-used a o) (fields-used fs)

pub variables-used : (W : World) (A : Around) (bs : List BoundVariable) {k j : ℕ} {a : bare.Pat} {p : prog.Pat} {t : Typ} {c : Choices} {r : Scope}
    → PatElab W.table A k a p t (bound_of W bs) c r j → over A.parameters t ≡ true → AllByRecursion (λ b. IsInUse A (type_of W b.ty)) bs
variables-used W A bs {t = t} e o = each bs (pattern-used W.table A e (over-as A.number A.parameters t ∙ o))
  where
    each : (bs : List BoundVariable) → AreUsed A (bound_of W bs) → AllByRecursion (λ b. IsInUse A (type_of W b.ty)) bs
    each [] h = tt
    each (b ∷ bs) h = (h.0, each bs h.1)
