-- What `open` brings, where a context tells of the structures.
use Rattle.std.proofs.Common.{◌≡◌, ℕ, List, [], ◌∷◌, ◌++◌, Option, Some, None, nat_eq, refl, sym, ap, ap₂, subst, ◌∙◌, arith}
use Rattle.std.specs.Prelude.{option_map, option_and_then}
use Rattle.std.specs.Option.{option_or}
use Rattle.std.specs.List.{AllByRecursion}
use Rattle.mlc_base.specs.declared.place.Place.{Place}
use Rattle.sml_tree.specs.BareTree.{LongIdAt, open_dec}
use Rattle.sml_tree.specs.declared.ident.Vid.{Vid}
use Rattle.core_rules.specs.Choices.{no_choice}
use Rattle.core_rules.specs.Elaborated.{opened}
use Rattle.core_rules.specs.Objects.{along, at, env, joined, no_structures, plus, structures, value_in, Values}
use Rattle.core_rules.specs.Words.{same_vid}
use Rattle.core_rules.proofs.LookUps.{at-joined, vid-tells}
use Rattle.core_elab.specs.Scopes.{Scope, along_scope, denotes_in, empty, inside_in, opened_scope, plus_scope, typed_in}
use Rattle.prog_tree.specs.declared.tree.Dec.{Dec}
use Rattle.elab_typed.specs.Contexts.{Around, generic, given, kept_env}
use Rattle.elab_typed.specs.Elaborates.{open_dec_elab}
use Rattle.elab_typed.proofs.Under.{kept-env-under}
use Rattle.elab_state.specs.declared.state.State.{State}
use Rattle.elab_steps.specs.World.{World}
use Rattle.elab_steps.proofs.Growing.{grows_same}
use Rattle.elab_context.specs.Entries.{contents_at, entry_in, last_of, member_in}
use Rattle.elab_context.specs.Numbered.{IsBelowIf, IsNumbered}
use Rattle.elab_context.specs.Telling.{IsContext, IsFit, IsHeld, Tells, denotes_of, kept_of}
use Rattle.elab_context.specs.declared.context.Context.{Context}
use Rattle.elab_context.specs.declared.entry.Entry.{Entry}
use Rattle.dec_forms.proofs.of_exp_forms.Entering.{context_with}
use Rattle.dec_forms.specs.Bringing.{Brings, Effect, IsBringing, past}
use Rattle.dec_forms.specs.Telling.{with_all}
use Rattle.dec_forms.specs.declared.brought.Brought.{Brought}
use Rattle.dec_forms.proofs.Joining.{last-append}
use Rattle.dec_forms.proofs.Listed.{all-map, last-among}
use Rattle.dec_forms.proofs.Plain.{numbered_values, values_add, wider_same}
use Rattle.dec_forms.proofs.Wider.{Wider, fit-later, kept-later, known-later}
use Rattle.scope_decs.specs.Opening.{AreOpened, IsOpened, none_opened, one_opened}
use Rattle.scope_decs.proofs.Opening.{IsMember, all_members, entry-bound, last_found}
use Rattle.scope_decs.proofs.Scoping.{denotes-behind, given-found, inside-behind, map-or, typed-behind}

-- an environment of values alone, and a scope of them alone, which have the last of each identifier
record HasLast (C : Context) (W : World) (vs : Values) (r : Scope) (es : List (Vid × Entry)) : Type 0 where
  kept : (x : Vid) → option_map given (at same_vid vs x) ≡ option_map (kept_of C W) (last_of es x)
  denotes : (x : Vid) → denotes_in r x ≡ option_map denotes_of (last_of es x)
  untyped : (x : ℕ) → typed_in r x ≡ None
  alone : (x : ℕ) → inside_in r x ≡ None

-- what the rules open
record Opening (C : Context) (W : World) (A : Around) (ys : List LongIdAt) (es : List (Vid × Entry)) : Type 0 where
  values : Values
  scope : Scope
  env : opened (generic A).env ys ≡ Some (env values [] no_structures)
  scopes : opened_scope A.scope ys ≡ Some scope
  has : HasLast C W values scope es

both-last : (C : Context) (W : World) (vs us : Values) (r s : Scope) (es fs : List (Vid × Entry)) → HasLast C W vs r es → HasLast C W us s fs
    → HasLast C W (joined same_vid vs us) (plus_scope r s) (es ++ fs)
both-last C W vs us r s es fs h k = record {
  kept = λ x.
      ap (option_map given) (at-joined same_vid vid-tells vs us x) ∙ map-or given (at same_vid us x) (at same_vid vs x) ∙ ap₂ option_or (k.kept x) (h.kept x)
      ∙ sym (map-or (kept_of C W) (last_of fs x) (last_of es x)) ∙ ap (option_map (kept_of C W)) (sym (last-append es fs x));
  denotes = λ x.
      denotes-behind r s x ∙ ap₂ option_or (k.denotes x) (h.denotes x) ∙ sym (map-or denotes_of (last_of fs x) (last_of es x))
      ∙ ap (option_map denotes_of) (sym (last-append es fs x));
  untyped = λ x. typed-behind r s x ∙ ap₂ option_or (k.untyped x) (h.untyped x);
  alone = λ x. inside-behind r s x ∙ ap₂ option_or (k.alone x) (h.alone x);
}

module _ (C : Context) (W : World) (A : Around) (t : Tells C W A) where
  -- one structure
  opened-next : (y : LongIdAt) (ys : List LongIdAt) (es fs : List (Vid × Entry)) → IsOpened C y es → Opening C W A ys fs → Opening C W A (y ∷ ys) (es ++ fs)
  opened-next y ys es fs o p =
      let q = y.long.id in
      let h = t.structures q o.number o.bound in
      let last : (x : Vid) → last_of es x ≡ entry_in C (q ∷ []) x =
      λ x.
      ap (λ l. last_of l x) o.is
      ∙ last_found (member_in C.members.items o.number) (contents_at C o.number) x (h.entries x ∙ entry-bound C q o.number x o.bound)
      ∙ sym (entry-bound C q o.number x o.bound) in
      record {
        values = joined same_vid h.values p.values;
        scope = plus_scope h.inner p.scope;
        env =
            ap₂ (λ d o. option_and_then (λ d. option_map (plus d) o) d)
            (ap (λ qs. option_and_then (λ d. at nat_eq (structures d) q) (along (generic A).env qs)) o.short ∙ h.is) p.env;
        scopes =
            ap₂ (λ d o. option_and_then (λ d. option_map (plus_scope d) o) d)
            (ap (λ qs. option_and_then (λ d. inside_in d q) (along_scope A.scope qs)) o.short ∙ h.scopes) p.scopes;
        has = both-last C W h.values p.values h.inner p.scope es fs (record {
          kept = λ x.
              sym (ap (λ o. option_map given (option_and_then (λ d. value_in d x) (option_and_then (λ d. along d []) o))) h.is) ∙ t.values (record { qualifiers = q ∷ []; vid = x })
              ∙ ap (option_map (kept_of C W)) (sym (last x));
          denotes = λ x.
              sym (ap (λ o. option_and_then (λ d. denotes_in d x) (option_and_then (λ d. along_scope d []) o)) h.scopes) ∙ t.denotes (record { qualifiers = q ∷ []; vid = x })
              ∙ ap (option_map denotes_of) (sym (last x));
          untyped = h.untyped;
          alone = h.alone;
        }) p.has;
      }

  are-opened : {ys : List LongIdAt} {es : List (Vid × Entry)} → AreOpened C ys es → Opening C W A ys es
  are-opened none_opened = record {
    values = [];
    scope = empty;
    env = refl;
    scopes = refl;
    has = record { kept = λ x. refl; denotes = λ x. refl; untyped = λ x. refl; alone = λ x. refl };
  }
  are-opened (one_opened {y = y} {ys = ys} {es = es} {fs = fs} o h) = opened-next y ys es fs o (are-opened h)

-- what they are in scope

abbrev opened_effect : Around → Values → Scope → Effect
opened_effect A vs r = record { made = 0; number = A.number; env = kept_env (env vs [] no_structures); scope = r; known = A.known }

module _ (C : Context) (W : World) (A : Around) (k : ℕ) (es : List (Vid × Entry)) (vs : Values) (r : Scope) (t : Tells C W A)
    (m : AllByRecursion (λ (e : Vid × Entry). IsMember C e.1) es) (h : HasLast C W vs r es) where
  abbrev D : Context
  D = with_all C es

  abbrev B : Around
  B = past A (opened_effect A vs r)

  wider : Wider C D W A B
  wider = wider_same C D W A (opened_effect A vs r) t refl refl refl refl refl

  member-of : (x : Vid) (e : Entry) → last_of es x ≡ Some e → IsMember C e
  member-of x e q = last-among (IsMember C) es x e m q

  fits : (e : Entry) → IsMember C e → IsFit C W A e
  fits e b = t.fit (record { qualifiers = b.structure ∷ []; vid = b.vid }) e b.is

  kept-if : (x : Vid) (o : Option Entry) → last_of es x ≡ o → option_map (kept_of C W) o ≡ option_map (kept_of D W) o
  kept-if x None q = refl
  kept-if x (Some e) q = ap Some (sym (kept-later C D W A B wider e (fits e (member-of x e q))))

  opened-bring : Brings D W A k es [] (opened_effect A vs r)
  opened-bring = record {
    values = λ x. given-found vs x ∙ h.kept x ∙ kept-if x (last_of es x) refl;
    types = λ x. refl;
    structures = refl;
    denotes = λ s x. denotes-behind s r x ∙ ap (λ o. option_or o (denotes_in s x)) (h.denotes x);
    alone = λ s q. inside-behind s r q ∙ ap (λ o. option_or o (inside_in s q)) (h.alone q);
    retyped = λ s x n. typed-behind s r x ∙ ap (λ o. option_or o (typed_in s x)) (h.untyped x);
    constructors = λ s x e n. cc;
    fit = λ x e q. fit-later C D W A B wider e (fits e (member-of x e q));
    new = λ x e n v q g.
        let b = member-of x e q in
        t.known (record { qualifiers = b.structure ∷ []; vid = b.vid }) e n v b.is (sym (known-later C D W A B wider e (fits e b)) ∙ g);
    older = λ n lt. refl;
    names = let e = t.names in omega (arith, e);
    number = t.number;
    numbers = t.numbers;
    initial = t.initial;
    agree = λ x lt. refl;
    over = λ s f a. kept-env-under s (env vs [] no_structures) ∙ sym (kept-env-under f (env vs [] no_structures));
  }

append-nil : {A : Type 0} (xs : List A) → xs ≡ xs ++ []
append-nil [] = refl
append-nil (x ∷ xs) = ap (λ l. x ∷ l) (append-nil xs)

-- it is bringing

below : (k : ℕ) (C : Context) (es : List (Vid × Entry)) → IsNumbered k C → AllByRecursion (λ (e : Vid × Entry). IsMember C e.1) es
    → AllByRecursion (λ (e : Vid × Entry). IsBelowIf k e.1) es
below k C es n m = all-map (λ (e : Vid × Entry). IsMember C e.1) (λ (e : Vid × Entry). IsBelowIf k e.1) es (λ e b. n (b.structure ∷ []) b.vid e.1 b.is) m

pub open_bringing : (S : State) (C D : Context) (p : Place) (ys : List LongIdAt) (es : List (Vid × Entry)) (decs : List Dec) (old new : Brought) → AreOpened C ys es → D ≡ with_all C es
    → decs ≡ [] → new.values.items ≡ old.values.items ++ es → new.types.items ≡ old.types.items → IsBringing S C (open_dec p ys) S D decs old new
open_bringing S C D p ys es decs old new h q ed ev et = subst (λ l. IsBringing S C (open_dec p ys) S D l old new) (sym ed) (record {
  values = es;
  types = [];
  all_values = ev;
  all_types = et ∙ append-nil old.types.items;
  adds = values_add C D es q;
  grows = grows_same S;
  numbered = λ n. numbered_values S.next C D es n (below S.next C es n (all_members h)) q;
  gives = λ n W c A t.
      let o = are-opened C W A t h in
      record {
        effect = opened_effect A o.values o.scope;
        choices = no_choice;
        elab = λ i le. record { next = i; most = le; elab = open_dec_elab p o.env o.scopes };
        brings =
            subst (λ D. Brings D W A S.next es [] (opened_effect A o.values o.scope)) (sym q)
            (opened-bring C W A S.next es o.values o.scope t (all_members h) o.has);
      };
})

pub open_context : (S : State) (C D : Context) (ys : List LongIdAt) (es : List (Vid × Entry)) → AreOpened C ys es → D ≡ with_all C es → IsContext S C → IsContext S D
open_context S C D ys es h q i =
    context_with S C D es i
    (all-map (λ (e : Vid × Entry). IsMember C e.1) (λ (e : Vid × Entry). IsHeld S C e.1) es (λ e b. i.entries (b.structure ∷ []) b.vid e.1 b.is) (all_members h))
    (below S.next C es i.numbered (all_members h)) q
