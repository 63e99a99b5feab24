-- What comes into scope depends on what is around by names, their numbers, parameters and the program's variables alone.
use Rattle.std.proofs.Common.{◌≡◌, ◌+◌, ℕ, Option, Some, None, List, nat_eq, refl, sym, ap, subst, ◌∙◌, arith}
use Rattle.std.specs.Prelude.{option_map, unwrap_or}
use Rattle.std.specs.Map.{lookup}
use Rattle.sml_tree.specs.declared.ident.Vid.{Vid}
use Rattle.ty_core.specs.declared.scheme.Quantified.{Quantified}
use Rattle.ir_poly.specs.TestsChecked.{Knowns}
use Rattle.ir_poly.specs.TestsChecked as checked
use Rattle.ir_poly.specs.Types.{in_scope}
use Rattle.core_elab.specs.Scopes.{plus_scope, typed_in}
use Rattle.elab_typed.specs.Contexts.{Around}
use Rattle.elab_typed.specs.Numbers.{AgreeBelow}
use Rattle.elab_types.specs.declared.scope.TypeEntry.{TypeEntry}
use Rattle.elab_steps.proofs.Changing.{begins-same}
use Rattle.elab_steps.specs.World.{World}
use Rattle.elab_context.proofs.Contents.{has_constructors_still}
use Rattle.elab_context.specs.Entries.{last_of}
use Rattle.elab_context.specs.Telling.{kept_of}
use Rattle.elab_context.specs.declared.context.Context.{Context}
use Rattle.elab_context.specs.declared.entry.Entry.{Entry}
use Rattle.run_end.specs.of_dec_forms.Bringing.{Brings, Effect, past}
use Rattle.run_end.proofs.of_dec_forms.Wider.{Wider, fit-later, kept-later, known-later}

-- so it comes into F's scope, which has D's schemes and names, where B is around
module _ (D F : Context) (W : World) (A B : Around) (k : ℕ) (es : List (Vid × Entry)) (ts : List (ℕ × TypeEntry)) (m : Effect) (f : Brings D W A k es ts m)
    (schemes : F.schemes ≡ D.schemes) (names : F.names ≡ D.names) (naming : F.naming ≡ D.naming) (numbers : F.numbers ≡ D.numbers)
    (around_names : B.names ≡ A.names) (around_number : B.number ≡ A.number) (parameters : B.parameters ≡ A.parameters) (known : B.known ≡ A.known) where
  names-there : B.names + m.made ≡ F.names
  names-there = ap (λ n. n + m.made) around_names ∙ f.names ∙ sym names

  same : Wider D F W (past A m) (past B m)
  same = record {
    schemes = begins-same _ _ (ap (λ z. z.items) schemes);
    names = let e = around_names in omega (arith, e);
    here = f.names;
    there = names-there;
    number_here = f.number;
    number_there = f.number ∙ ap W.naming (sym naming);
    agree = λ x lt. refl;
    parameters = parameters;
  }

  kept-if : (x : Vid) (o : Option Entry) → last_of es x ≡ o → option_map (kept_of D W) o ≡ option_map (kept_of F W) o
  kept-if x None e = refl
  kept-if x (Some d) e = ap Some (sym (kept-later D F W (past A m) (past B m) same d (f.fit x d e)))

  pub brings_around : Brings F W B k es ts m
  brings_around = record {
    values = λ x. f.values x ∙ kept-if x (last_of es x) refl;
    types = f.types;
    structures = f.structures;
    denotes = f.denotes;
    alone = f.alone;
    retyped = f.retyped;
    constructors = λ s x e h.
        let o = lookup (nat_eq x) m.env.types in
        has_constructors_still D F W W (past A m) (past B m) e o o (typed_in (plus_scope s m.scope) x) (typed_in (plus_scope s m.scope) x)
        same.schemes (kept-later D F W (past A m) (past B m) same) (fit-later D F W (past A m) (past B m) same) refl refl (f.constructors s x e h);
    fit = λ x e h. fit-later D F W (past A m) (past B m) same e (f.fit x e h);
    new = λ x e j v h s. f.new x e j v h (sym (known-later D F W (past A m) (past B m) same e (f.fit x e h)) ∙ s);
    older = λ j lt. f.older j lt ∙ sym (ap (λ (K : Knowns). checked.at K j) known);
    names = names-there;
    number = f.number ∙ ap W.naming (sym naming);
    numbers = λ x. ap (λ z. W.naming z x) naming ∙ f.numbers x ∙ ap (λ l. unwrap_or (lookup (nat_eq x) l) x) (sym numbers);
    initial = f.initial;
    agree =
        subst (λ n. AgreeBelow n B.number m.number) (sym around_names) (subst (λ (num : ℕ → ℕ). AgreeBelow A.names num m.number) (sym around_number) f.agree);
    over = λ s g h. f.over s g (λ v e. h v (ap (λ (qs : List Quantified). in_scope qs v) parameters ∙ e));
  }
