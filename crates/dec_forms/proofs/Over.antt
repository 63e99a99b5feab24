-- What is bound over parameters speaks of no others.
use Rattle.std.proofs.Common.{◌≡◌, ℕ, zero, suc, Bool, true, false, ◌||◌, List, [], ◌∷◌, ◌++◌, map, length, Option, Some, None, nat_eq, if◌then◌else◌, refl, sym, ap, ap₂, ◌∙◌}
use Rattle.std.specs.Prelude.{option_map, unwrap_or}
use Rattle.std.specs.List.{list_all}
use Rattle.std.proofs.lemmas.Bool.{and_parts}
use Rattle.ty_core.specs.Types.{Typ, var}
use Rattle.ty_core.specs.declared.scheme.Quantified.{Quantified}
use Rattle.core_rules.specs.Closing.{behind, place_in, scheme_under}
use Rattle.core_rules.specs.Objects.{Env, with_env}
use Rattle.core_rules.specs.Typing.{Bound}
use Rattle.ir_poly.specs.TestsChecked.{Knowns}
use Rattle.ir_poly.specs.Types.{in_scope, over}
use Rattle.ir_poly.proofs.ReplaceLemmas.{replace-agree}
use Rattle.core_elab.specs.Scopes.{Scope}
use Rattle.elab_typed.specs.Contexts.{Around, IsOver, KeptEnv, after, env_under, generals, kept_values, values_under}
use Rattle.elab_typed.proofs.Instancing.{eq-turned}
use Rattle.elab_typed.proofs.Under.{after-under}

abbrev pub Agree : List Quantified → (ℕ → Typ) → (ℕ → Typ) → Type 0
Agree D s f = (v : ℕ) → in_scope D v ≡ true → s v ≡ f v

not-placed : (qs D : List Quantified) (v : ℕ) → place_in qs v ≡ None → in_scope (qs ++ D) v ≡ true → in_scope D v ≡ true
not-placed [] D v e h = h
not-placed (q ∷ qs) D v e h =
    by (nat_eq v q.variable) (place_in qs v) refl e (ap (λ b. b || in_scope (qs ++ D) v) (sym (eq-turned q.variable v)) ∙ h) (not-placed qs D v)
  where
    by : (b : Bool) (o : Option ℕ) → place_in qs v ≡ o → (if b then Some zero else option_map suc o) ≡ None → (b || in_scope (qs ++ D) v) ≡ true
        → (place_in qs v ≡ None → in_scope (qs ++ D) v ≡ true → in_scope D v ≡ true) → in_scope D v ≡ true
    by true o p e h k = cc
    by false (Some n) p e h k = cc
    by false None p e h k = k p h

general-same : (qs D : List Quantified) (t : Typ) (s f : ℕ → Typ) → over (qs ++ D) t ≡ true → Agree D s f → scheme_under s qs t ≡ scheme_under f qs t
general-same qs D t s f o a =
    ap (λ b. record { marks = map (λ q. q.mark) qs; body = b })
    (replace-agree (qs ++ D) t o (λ v. unwrap_or (option_map var (place_in qs v)) (behind (length qs) (s v))) (λ v. unwrap_or (option_map var (place_in qs v)) (behind (length qs) (f v)))
    (λ v h. by v h (place_in qs v) refl))
  where
    by : (v : ℕ) → in_scope (qs ++ D) v ≡ true → (p : Option ℕ) → place_in qs v ≡ p
        → unwrap_or (option_map var p) (behind (length qs) (s v)) ≡ unwrap_or (option_map var p) (behind (length qs) (f v))
    by v h (Some n) e = refl
    by v h None e = ap (behind (length qs)) (a v (not-placed qs D v e h))

pub generals-same : (qs D : List Quantified) (vs : Bound) (s f : ℕ → Typ) → list_all (λ b. over (qs ++ D) b.1) vs ≡ true → Agree D s f
    → values_under s (generals qs vs) ≡ values_under f (generals qs vs)
generals-same qs D [] s f o a = refl
generals-same qs D (v ∷ vs) s f o a =
    let p = and_parts (over (qs ++ D) v.1) (list_all (λ b. over (qs ++ D) b.1) vs) o in
    ap₂ (λ c l. (v.0, record { scheme = c; status = Rattle.ty_core.specs.declared.env.Status.TheVariants.Variable }) ∷ l) (general-same qs D v.1 s f p.0 a) (generals-same qs D vs s f p.1 a)

-- after declarations whose environment speaks of the parameters in scope alone
pub over_after : (A : Around) (made : ℕ) (number : ℕ → ℕ) (d : KeptEnv) (r : Scope) (G : Knowns) → IsOver A
    → ((s f : ℕ → Typ) → Agree A.parameters s f → env_under s d ≡ env_under f d) → IsOver (after A made number d r G)
over_after A made number d r G o h s f a =
    sym (after-under s A made number d r G) ∙ ap₂ (λ c e. with_env c made e) (o s f a) (h s f a) ∙ after-under f A made number d r G

pub over_generals : (A : Around) (qs : List Quantified) (vs : Bound) (r : Scope) (G : Knowns) → IsOver A → list_all (λ b. over (qs ++ A.parameters) b.1) vs ≡ true
    → IsOver (after A 0 A.number (kept_values (generals qs vs)) r G)
over_generals A qs vs r G o h =
    over_after A 0 A.number (kept_values (generals qs vs)) r G o
    (λ s f a. ap (λ l. Rattle.core_rules.specs.Objects.env l [] Rattle.core_rules.specs.Objects.no_structures) (generals-same qs A.parameters vs s f h a))
