-- Declarations that bring value identifiers alone, or type constructors alone, and no type name.
use Rattle.std.proofs.Common.{◌∷◌, ◌≡◌, ◌<◌, ℕ, List, [], Option, Some, None, nat_eq, refl, sym, ap, subst, ◌∙◌, arith}
use Rattle.std.specs.Prelude.{option_map}
use Rattle.std.specs.Option.{option_or}
use Rattle.std.specs.List.{AllByRecursion}
use Rattle.std.specs.Map.{lookup}
use Rattle.sml_tree.specs.declared.ident.Vid.{Vid}
use Rattle.vid_scope.specs.Entries.{entry_of, with_entries}
use Rattle.core_rules.specs.Objects.{Map, TypeStructure, env, no_structures}
use Rattle.ir_poly.specs.TestsChecked.{Knowns}
use Rattle.ir_poly.specs.TestsChecked as checked
use Rattle.core_elab.specs.Scopes.{Scope, denotes_in, inside_in, typed_in, plus_scope}
use Rattle.elab_typed.specs.Contexts.{Around, KeptValues, kept_values}
use Rattle.elab_types.specs.declared.scope.TypeEntry.{TypeEntry}
use Rattle.closed_types.specs.of_elab_steps.World.{World}
use Rattle.closed_types.proofs.of_elab_steps.Changing.{begins-same}
use Rattle.exp_forms.specs.of_elab_context.Numbered.{IsBelowIf, IsNumbered}
use Rattle.exp_forms.specs.of_elab_context.Telling.{HasConstructors, Tells, function_of, kept_of}
use Rattle.exp_forms.specs.of_elab_context.declared.context.Context.{Context}
use Rattle.exp_forms.specs.of_elab_context.declared.entry.Entry.{Entry}
use Rattle.exp_forms.specs.of_elab_context.Entries.{last_of}
use Rattle.dec_forms.specs.Telling.{with_all}
use Rattle.dec_forms.proofs.Telling.{AreFurther, entry-among}
use Rattle.dec_forms.specs.Bringing.{Brings, Effect, past}
use Rattle.dec_forms.specs.Entries.{Adds, last_at, with_types}
use Rattle.dec_forms.proofs.Listed.{last-among}
use Rattle.dec_forms.proofs.Wider.{Wider, fit-later, kept-later, known-later}

abbrev pub values_effect : Around → KeptValues → Scope → Knowns → Effect
values_effect A ks r G = record { made = 0; number = A.number; env = kept_values ks; scope = r; known = G }

-- no name is new
pub wider_same : (C D : Context) (W : World) (A : Around) (m : Effect) → Tells C W A → m.made ≡ 0 → m.number ≡ A.number → D.schemes ≡ C.schemes → D.names ≡ C.names → D.naming ≡ C.naming
    → Wider C D W A (past A m)
wider_same C D W A m t e q sch nam ing = record {
  schemes = begins-same _ _ (ap (λ z. z.items) sch);
  names = omega arith;
  here = t.names;
  there = let h = t.names in omega (arith, e, h, nam);
  number_here = t.number;
  number_there = q ∙ t.number ∙ ap W.naming (sym ing);
  agree = λ x lt. ap (λ (f : ℕ → ℕ). f x) q;
  parameters = refl;
}

-- value identifiers

pub values_add : (C D : Context) (es : List (Vid × Entry)) → D ≡ with_all C es → Adds C D es []
values_add C D es q = subst (λ D. Adds C D es []) (sym q) (record {
  values = refl;
  structures = refl;
  members = refl;
  tyvars = refl;
  types = refl;
  schemes = begins-same _ _ refl;
  level = refl;
  rest = refl;
  numbers = record { own = []; is = refl };
})

module _ (C : Context) (W : World) (A : Around) (k : ℕ) (es : List (Vid × Entry)) (ks : KeptValues) (r : Scope) (G : Knowns) (t : Tells C W A) (f : AreFurther C W A es ks r G)
    (older : (n : ℕ) → n < k → checked.at G n ≡ checked.at A.known n) where
  abbrev D : Context
  D = with_all C es

  abbrev B : Around
  B = past A (values_effect A ks r G)

  wider : Wider C D W A B
  wider = wider_same C D W A (values_effect A ks r G) t refl refl refl refl refl

  kept-if : (x : Vid) (o : Option Entry) → last_of es x ≡ o → option_map (kept_of C W) o ≡ option_map (kept_of D W) o
  kept-if x None e = refl
  kept-if x (Some d) e = ap Some (sym (kept-later C D W A B wider d (f.fit x d e)))

  pub values_bring : Brings D W A k es [] (values_effect A ks r G)
  values_bring = record {
    values = λ x. f.kept x ∙ kept-if x (last_of es x) refl;
    types = λ x. refl;
    structures = refl;
    denotes = f.denotes;
    alone = f.alone;
    retyped = λ s x h. f.untyped s x;
    constructors = λ s x e h. cc;
    fit = λ x e h. fit-later C D W A B wider e (f.fit x e h);
    new = λ x e n v h q. f.new x e n v h (sym (known-later C D W A B wider e (f.fit x e h)) ∙ q);
    older = older;
    names = let e = t.names in omega (arith, e);
    number = t.number;
    numbers = t.numbers;
    initial = t.initial;
    agree = λ x lt. refl;
    over = λ s g h. ap (λ vs. env vs [] no_structures) (f.over s g h);
  }

-- type constructors

abbrev pub types_effect : Around → Map ℕ TypeStructure → Scope → Effect
types_effect A ts r = record { made = 0; number = A.number; env = record { values = []; types = ts; structures = no_structures }; scope = r; known = A.known }

pub types_add : (C D : Context) (ts : List (ℕ × TypeEntry)) → D ≡ with_types C ts → Adds C D [] ts
types_add C D ts q = subst (λ D. Adds C D [] ts) (sym q) (record {
  values = refl;
  structures = refl;
  members = refl;
  tyvars = refl;
  types = refl;
  schemes = begins-same _ _ refl;
  level = refl;
  rest = refl;
  numbers = record { own = []; is = refl };
})

pub types_bring : (C : Context) (W : World) (A : Around) (k : ℕ) (ts : List (ℕ × TypeEntry)) (us : Map ℕ TypeStructure) (r : Scope) → Tells C W A
    → ((x : ℕ) → option_map (λ y. y.function) (lookup (nat_eq x) us) ≡ option_map (function_of W) (last_at ts x))
    → ((s : Scope) (x : Vid) → denotes_in (plus_scope s r) x ≡ denotes_in s x) → ((s : Scope) (q : ℕ) → inside_in (plus_scope s r) q ≡ inside_in s q)
    → ((s : Scope) (x : ℕ) → last_at ts x ≡ None → typed_in (plus_scope s r) x ≡ typed_in s x)
    → ((s : Scope) (x : ℕ) (e : TypeEntry) → last_at ts x ≡ Some e
    → HasConstructors (with_types C ts) W (past A (types_effect A us r)) e (lookup (nat_eq x) us) (typed_in (plus_scope s r) x))
    → Brings (with_types C ts) W A k [] ts (types_effect A us r)
types_bring C W A k ts us r t are denotes alone retyped constructors = record {
  values = λ x. refl;
  types = are;
  structures = refl;
  denotes = denotes;
  alone = alone;
  retyped = retyped;
  constructors = constructors;
  fit = λ x e h. cc;
  new = λ x e n v h q. cc;
  older = λ n lt. refl;
  names = let e = t.names in omega (arith, e);
  number = t.number;
  numbers = t.numbers;
  initial = t.initial;
  agree = λ x lt. refl;
  over = λ s f h. refl;
}

-- numbers

pub numbered_values : (k : ℕ) (C D : Context) (es : List (Vid × Entry)) → IsNumbered k C → AllByRecursion (λ (e : Vid × Entry). IsBelowIf k e.1) es → D ≡ with_all C es → IsNumbered k D
numbered_values k C D es n b q = subst (IsNumbered k) (sym q) whole
  where
    short : (x : Vid) (e : Entry) → entry_of (with_entries C.values es) x ≡ Some e → IsBelowIf k e
    short x e h = by (last_of es x) refl (sym (entry-among C.values es x) ∙ h)
      where
        by : (o : Option Entry) → last_of es x ≡ o → option_or o (entry_of C.values x) ≡ Some e → IsBelowIf k e
        by None r s = n [] x e s
        by (Some d) r s = last-among (IsBelowIf k) es x e b (r ∙ s)

    whole : IsNumbered k (with_all C es)
    whole [] x e h = short x e h
    whole (q ∷ []) x e h = n (q ∷ []) x e h
    whole (q ∷ r ∷ qs) x e h = n (q ∷ r ∷ qs) x e h
