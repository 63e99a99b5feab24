-- Open variables that are done with are those that were generalised.
use Rattle.std.proofs.Common.{◌≡◌, ◌<◌, ◌↔◌, ◌+◌, ℕ, Bool, true, false, nat_lt, IsTrue, List, [], ◌∷◌, ◌++◌, length, take, get_or, refl, sym, ap, ◌∙◌, arith}
use Rattle.std.specs.List.{AllByRecursion, flat_map}
use Rattle.std.specs.Option.{option_to_list}
use Rattle.std.proofs.lemmas.Bool.{eqb-true, eq-eqb, ltb-true, ltb-false}
use Rattle.std.proofs.lemmas.Grind.{flat_map-append}
use Rattle.std.proofs.lemmas.List.{take_more}
use Rattle.ty_solve.specs.Substitution.{is_open}
use Rattle.ir_poly.specs.Types.{in_scope}
use Rattle.sml_tree.specs.declared.ident.Vid.{Vid}
use Rattle.elab_state.specs.States.{dead_level, general_in, limit_in, made, said_in}
use Rattle.elab_state.specs.declared.state.State.{State}
use Rattle.elab_steps.specs.Tidy.{IsTidy}
use Rattle.elab_context.specs.declared.entry.Entry.{Entry}
use Rattle.open_variables.specs.Open.{AreDone, IsDone, is_done_in}
use Rattle.open_variables.proofs.Limits.{limit-past}
use Rattle.run_end.specs.Settled.{IsSettledType, own_type, types_brought}

-- lists

each-then : (P Q : ℕ → Type 0) → ((k : ℕ) → P k → Q k) → (ks : List ℕ) → AllByRecursion P ks → AllByRecursion Q ks
each-then P Q f [] h = tt
each-then P Q f (k ∷ ks) h = (f k h.0, each-then P Q f ks h.1)

one-more : (l : List ℕ) → l ++ [] ≡ l
one-more [] = refl
one-more (k ∷ l) = ap (λ r. k ∷ r) (one-more l)

pub types-next : (es : List (Vid × Entry)) (i : ℕ) (e : Vid × Entry) (old new : List ℕ) → i < length es → e ≡ get_or es i e → old ≡ types_brought (take i es)
    → new ≡ old ++ option_to_list (own_type e.1) → new ≡ types_brought (take (i + 1) es)
types-next es i e old new lt is h n =
    let f = λ (x : Vid × Entry). option_to_list (own_type x.1) in
    n ∙ ap (λ l. l ++ f e) h ∙ ap (λ l. flat_map f (take i es) ++ l) (sym (one-more (f e))) ∙ sym (flat_map-append f (take i es) (e ∷ []))
    ∙ ap (flat_map f) (ap (λ x. take i es ++ x ∷ []) is ∙ sym (take_more es i e lt))

-- variables

module _ (S : State) (l : ℕ) (tidy : IsTidy S l) where
  done-general : (v : ℕ) → is_open (said_in S v) ≡ true → is_done_in S.solver v ≡ true → in_scope (general_in S) v ≡ true
  done-general v o d = by (nat_lt v (made S)) refl
    where
      level : (limit_in S v).level ≡ dead_level
      level = eqb-true (limit_in S v).level dead_level d

      by : (b : Bool) → nat_lt v (made S) ≡ b → in_scope (general_in S) v ≡ true
      by true e = tidy.ended v (ltb-true v (made S) e) o level
      by false e =
          let p = ltb-false v (made S) e in
          let n = S.solver.each_has_one in
          let z = limit-past S.solver.limits.items v (omega (arith, p, n)) in
          absurd (omega (arith, z, level))

  general-done : (v : ℕ) → in_scope (general_in S) v ≡ true → is_done_in S.solver v ≡ true
  general-done v i = eq-eqb (limit_in S v).level dead_level (tidy.done v i)

  done-settled : (k : ℕ) → IsDone S.solver k → IsSettledType S k
  done-settled k h v o i = done-general v i (h v o i)

  settled-done : (k : ℕ) → IsSettledType S k → IsDone S.solver k
  settled-done k h v o i = general-done v (h v o i)

  pub all-settled : (b : Bool) (ks : List ℕ) → IsTrue b ↔ AreDone S.solver ks → IsTrue b ↔ AllByRecursion (IsSettledType S) ks
  all-settled b ks h =
      (λ t. each-then (IsDone S.solver) (IsSettledType S) done-settled ks (h.0 t), λ a. h.1 (each-then (IsSettledType S) (IsDone S.solver) settled-done ks a))
