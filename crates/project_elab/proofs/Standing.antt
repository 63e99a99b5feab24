-- The standard basis elaborates.
use Rattle.std.proofs.Common.{◌≡◌, ◌+◌, ◌++◌, ℕ, true, List, [], ◌∷◌, refl, sym, ap, subst, ◌∙◌, arith}
use Rattle.std.specs.Prelude.{filter}
use mathlib.Core.Path.{fun_ext}
use Rattle.sml_tree.specs.BareTree as bare
use Rattle.sml_tree.specs.TreeOf as source
use Rattle.core_rules.specs.Objects.{Structures, no_env, no_structures, structure, structure_map, structures_of}
use Rattle.core_rules.specs.Initial.{initial_members, prelude_members, static_env}
use Rattle.core_rules.specs.Project.{standard_basis}
use Rattle.ir_poly.specs.Prog as prog
use Rattle.core_elab.specs.Resolves.{joined}
use Rattle.core_elab.specs.Scopes.{Scope, basis_scope, empty, scoped, typed_by, inside, plus_scope}
use Rattle.prog_tree.specs.declared.tree.Dec.{Dec}
use Rattle.elab_typed.specs.Contexts.{Around, KeptEnv, after, kept_env, plus_kept}
use Rattle.elab_typed.specs.Elaborates.{DecsElab}
use Rattle.project_typed.specs.Elaborates.{ProjectElab, basis_around, first_basis_elab, no_part_elab, nothing_around, standard_with}
use Rattle.elab_state.specs.declared.state.State.{State}
use Rattle.elab_steps.specs.Growing.{Grows}
use Rattle.elab_steps.specs.World.{World}
use Rattle.elab_steps.proofs.Growing.{comes_before, grows_on}
use Rattle.elab_context.specs.Telling.{IsContext, Tells}
use Rattle.elab_context.specs.declared.context.Context.{Context}
use Rattle.elab_finish.specs.of_basis_context.Basis.{without_prim}
use Rattle.elab_finish.specs.of_basis_context.Telling.{TellsBasis, TellsPrelude, around_in, prelude_around_in}
use Rattle.run_end.specs.of_dec_forms.Decs.{all_joined}
use Rattle.run_end.specs.of_dec_forms.Bringing.{Effect, all_effects, past}
use Rattle.run_end.specs.of_dec_forms.declared.brought.Brought.{Brought}
use Rattle.run_end.proofs.of_dec_forms.Effects.{all_choices, effects-do}
use Rattle.run_end.proofs.of_dec_forms.TellingScope.{tells_past}
use Rattle.elab_exps.specs.Decs.{AreDeclared}
use Rattle.project_elab.specs.Standard.{IsStandard}
use Rattle.project_elab.proofs.Showing.{brings_around}
use Rattle.project_elab.proofs.Hiding.{adds_hidden, context_hidden}

-- nothing behind, and nothing in front

joined-none : (x : prog.Decs) → joined x prog.no_decs ≡ x
joined-none prog.no_decs = refl
joined-none (prog.val_dec qs bs fs ds) = ap (prog.val_dec qs bs fs) (joined-none ds)
joined-none (prog.exception_dec x i a ds) = ap (prog.exception_dec x i a) (joined-none ds)
joined-none (prog.counted_dec n ds) = ap (prog.counted_dec n) (joined-none ds)

all-kept : {A : Type 0} (xs : List A) → filter (λ x. true) xs ≡ xs
all-kept [] = refl
all-kept (x ∷ xs) = ap (λ l. x ∷ l) (all-kept xs)

structures-same : (ss : Structures) → structures_of (structure_map ss) ≡ ss
structures-same no_structures = refl
structures-same (structure x e ss) = ap (structure x e) (structures-same ss)

none-kept : (e : KeptEnv) → plus_kept (kept_env no_env) e ≡ e
none-kept e = λ i. record {
  values = all-kept e.values i;
  types = all-kept e.types i;
  structures = (ap structures_of (all-kept (structure_map e.structures)) ∙ structures-same e.structures) i;
}

none-scoped : (q : Scope) → plus_scope empty q ≡ q
none-scoped empty = refl
none-scoped (scoped x d q) = ap (scoped x d) (none-scoped q)
none-scoped (typed_by x c q) = ap (typed_by x c) (none-scoped q)
none-scoped (inside x c q) = ap (inside x c) (none-scoped q)

-- names of the basis have their own numbers
own-numbers : (W : World) → W.naming Rattle.std.specs.Prelude.None ≡ (λ k. k)
own-numbers W = fun_ext W.initial

prelude-around : (W : World) → prelude_around_in W ≡ basis_around prelude_members nothing_around
prelude-around W = ap (λ (f : ℕ → ℕ). record (basis_around prelude_members nothing_around) { number = f }) (own-numbers W)

-- what is around behind the standard basis
abbrev behind : Effect → Around
behind m = after nothing_around m.made m.number (standard_with m.env m.scope).env (standard_with m.env m.scope).scope m.known

past-standard : (W : World) (m : Effect) → past (around_in W) m ≡ behind m
past-standard W m =
    λ i. record nothing_around {
      names = nothing_around.names + m.made;
      number = m.number;
      env = sym (none-kept (plus_kept (kept_env (static_env initial_members)) m.env)) i;
      scope = sym (none-scoped (plus_scope (basis_scope initial_members) m.scope)) i;
      known = m.known;
    }

module _ (N S T : State) (C D : Context) (ds : List bare.Dec) (old new : List Dec) (a b : Brought) (grows : Grows N S) (tells : TellsPrelude S C) (i : IsContext S C)
    (hidden : IsContext S (without_prim C)) (tells_hidden : TellsBasis S (without_prim C)) (h : AreDeclared S C ds T D old new a b) where
  pub standard_is : IsStandard N (source.decs_of ds) T (without_prim D) h.decs
  standard_is = record {
    grows = grows_on N S T grows h.bring.grows;
    stands = record { context = context_hidden S T C D h.bring.values h.bring.types h.bring.grows hidden h.bring.adds h.stands.context; level = h.stands.level };
    gives = λ W c has p.
        let before = comes_before S T W h.bring.grows c in
        let A = prelude_around_in W in
        let B = around_in W in
        let g = h.bring.gives i.numbered W c A (tells W before has p) in
        let m = all_effects A g.effects in
        let u = g.elab 0 (omega arith) in
        let x = all_joined g.parts in
        let dec : DecsElab W.table (basis_around prelude_members nothing_around) 0 (source.decs_of ds) x m.made m.number m.env m.scope m.known (all_choices g.choices) u.next =
        subst (λ Z. DecsElab W.table Z 0 (source.decs_of ds) x m.made m.number m.env m.scope m.known (all_choices g.choices) u.next) (prelude-around W) (effects-do u.elab) in
        record {
          around = behind m;
          next = u.next;
          most = u.most;
          elab =
              subst (λ y. ProjectElab W.table (source.decs_of ds) (standard_basis ∷ []) y (behind m) u.next) (joined-none x ∙ g.whole)
              (first_basis_elab dec no_part_elab);
          tells =
              subst (Tells (without_prim D) W) (past-standard W m)
              (tells_past (without_prim C) (without_prim D) W B S.next h.bring.values h.bring.types m (tells_hidden W before has p) hidden.numbered
              (adds_hidden C D h.bring.values h.bring.types h.bring.adds)
              (brings_around D (without_prim D) W A B S.next h.bring.values h.bring.types m g.brings refl refl refl refl refl refl refl refl));
        };
  }

pub standard_made : (N S T : State) (C D E : Context) (ds : List bare.Dec) (old new : List Dec) (a b : Brought) → Grows N S → TellsPrelude S C → IsContext S C
    → IsContext S (without_prim C) → TellsBasis S (without_prim C) → AreDeclared S C ds T D old new a b → E ≡ without_prim D
    → (decs : List Dec) × (new ≡ old ++ decs) × IsStandard N (source.decs_of ds) T E decs
standard_made N S T C D E ds old new a b grows tells i hidden tells_hidden h e =
    (h.decs, h.all, subst (λ F. IsStandard N (source.decs_of ds) T F h.decs) (sym e) (standard_is N S T C D ds old new a b grows tells i hidden tells_hidden h))
