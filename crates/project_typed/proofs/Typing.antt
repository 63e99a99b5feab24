-- A project that elaborates has a typing.
use Rattle.std.proofs.Common.{◌≡◌, ℕ, false, List, [], Option, Some, refl, sym, ap, subst, ◌∙◌}
use Rattle.std.specs.Prelude.{option_map}
use Rattle.ty_core.specs.Types.{var, no_variable}
use Rattle.ty_core.specs.declared.scheme.Quantified.{Quantified}
use Rattle.sml_tree.specs.BareTree.{Decs}
use Rattle.core_rules.specs.Initial.{static_env, initial_members, prelude_members}
use Rattle.core_rules.specs.Objects.{plus, with_env}
use Rattle.core_rules.specs.Project.{Part, static_standard}
use Rattle.core_rules.specs.Typing.{DecsHave}
use Rattle.ir_poly.specs.Prog as prog
use Rattle.ir_poly.specs.Types.{Constructor, admits_in}
use Rattle.core_elab.specs.Scopes.{Scope}
use Rattle.elab_typed.specs.Contexts.{KeptEnv, env_under, kept_env, Around, generic}
use Rattle.elab_typed.specs.Laws.{Fits}
use Rattle.elab_typed.proofs.Typing.{decs-typed}
use Rattle.elab_typed.proofs.Under.{after-under, plus-under, kept-env-under}
use Rattle.project_typed.specs.Typing.{PartsHave, no_part_has, source_has, first_basis_has, later_basis_has}
use Rattle.project_typed.specs.Elaborates.{Standard, standard_with, basis_around, PartsElab, no_part_elab, source_elab, first_basis_elab, later_basis_elab}

none-admits : (qs : List Quantified) (v : ℕ) → qs ≡ [] → admits_in qs v ≡ false
none-admits qs v e = ap (λ ds. admits_in ds v) e

-- where no parameter is in scope
closed-fits : (A : Around) → A.parameters ≡ [] → Fits A var
closed-fits A e = record { admits = λ v h. absurd (cc (none-admits A.parameters v e, h)); over = λ v. tt }

-- what the standard basis brings is what the rules say
standard-is : (prelude : Decs) (e : KeptEnv) (r : Scope) → env_under var (standard_with e r).env ≡ static_standard prelude (env_under var e)
standard-is prelude e r =
    sym (plus-under var (kept_env (static_env initial_members)) e) ∙ ap (λ d. plus d (env_under var e)) (kept-env-under var (static_env initial_members))

-- the prelude sees what the rules say
prelude-sees : (A : Around) → generic (basis_around prelude_members A)
    ≡ record { names = A.names; tyvars = []; env = static_env prelude_members }
prelude-sees A = λ i. record { names = A.names; tyvars = []; env = kept-env-under var (static_env prelude_members) i }

module _ {table : List Constructor} {prelude : Decs} where
  pub parts-typed : {A B : Around} {k i : ℕ} {b : Option Standard} {parts : List Part} {es : prog.Decs} → PartsElab table prelude A k b parts es B i
      → A.parameters ≡ [] → PartsHave prelude (generic A) (option_map (λ s. env_under var s.env) b) parts (generic B)
  parts-typed no_part_elab none = no_part_has
  parts-typed {A} {B} {b = b} (source_elab {parts = parts} {made = made} {number = number} {e = e} {r = r} {G = G} d h) none =
      source_has (decs-typed d var (closed-fits A none))
      (subst (λ c. PartsHave prelude c (option_map (λ s. env_under var s.env) b) parts (generic B)) (sym (after-under var A made number e r G))
      (parts-typed h none))
  parts-typed {A} {B} (first_basis_elab {parts = parts} {made = made} {number = number} {e = e} {r = r} {G = G} {c = c} d h) none =
      first_basis_has
      (subst (λ z. DecsHave no_variable z prelude made (env_under var e) c) (prelude-sees A)
      (decs-typed d var (closed-fits (basis_around prelude_members A) refl)))
      (subst (λ z. PartsHave prelude (with_env (generic A) made z) (Some z) parts (generic B)) (standard-is prelude e r)
      (subst (λ z. PartsHave prelude z (Some (env_under var (standard_with e r).env)) parts (generic B))
      (sym (after-under var A made number (standard_with e r).env (standard_with e r).scope G)) (parts-typed h none)))
  parts-typed {A} {B} (later_basis_elab {b = b} {parts = parts} h) none =
      later_basis_has (subst (λ c. PartsHave prelude c (Some (env_under var b.env)) parts (generic B)) (sym (after-under var A 0 A.number b.env b.scope A.known))
      (parts-typed h none))
