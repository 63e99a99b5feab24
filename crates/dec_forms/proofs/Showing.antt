-- `local`: what its second part brings is in scope behind it.
use Rattle.std.proofs.Common.{◌≡◌, ◌<◌, ◌≤◌, ◌+◌, ℕ, List, [], ◌∷◌, ◌++◌, map, length, take, Option, Some, None, refl, sym, ap, ap₂, subst, ◌∙◌, arith}
use Rattle.std.specs.Option.{option_or}
use Rattle.std.specs.List.{AllByRecursion}
use Rattle.std.proofs.lemmas.List.{map-append}
use Rattle.mlc_base.specs.declared.place.Place.{Place}
use Rattle.ty_table.specs.TypeAt.{top, type_at}
use Rattle.ty_instance.proofs.Going.{stays-on}
use Rattle.sml_tree.specs.BareTree as bare
use Rattle.sml_tree.specs.TreeOf as source
use Rattle.sml_tree.specs.declared.ident.Vid.{Vid}
use Rattle.vid_scope.specs.Entries.{entry_of, with_entries}
use Rattle.core_rules.specs.Choices.{both}
use Rattle.core_elab.specs.Resolves.{joined}
use Rattle.prog_tree.specs.TreeOf.{dec_of, decs_of}
use Rattle.prog_tree.specs.declared.tree.Dec.{Dec}
use Rattle.elab_typed.specs.Elaborates.{DecElab, local_elab}
use Rattle.elab_types.specs.declared.scope.TypeEntry.{TypeEntry}
use Rattle.closed_types.specs.of_elab_state.States.{types_in}
use Rattle.closed_types.specs.of_elab_state.declared.state.State.{State}
use Rattle.closed_types.specs.of_elab_steps.Growing.{Begins, Grows}
use Rattle.closed_types.proofs.of_elab_steps.Growing.{comes_before, grows_on}
use Rattle.exp_forms.specs.of_elab_context.Entries.{entry_in, last_of}
use Rattle.exp_forms.specs.of_elab_context.Telling.{IsContext, IsHeld}
use Rattle.exp_forms.specs.of_elab_context.declared.context.Context.{Context}
use Rattle.exp_forms.specs.of_elab_context.declared.entry.Entry.{Entry}
use Rattle.exp_forms.specs.of_elab_context.declared.entry.Entry.TheVariants.{Constructor, Reference, Initial, Primitive, Raised, Single, Own, General}
use Rattle.exp_forms.proofs.of_elab_context.Reading.{context_later, numbered_later}
use Rattle.exp_forms.specs.of_elab_context.Numbered.{IsBelowIf, IsNumbered}
use Rattle.dec_forms.specs.Decs.{all_joined}
use Rattle.dec_forms.proofs.Telling.{entry-among}
use Rattle.dec_forms.specs.Bringing.{AreBringing, IsBringing, all_effects, last_effect, past}
use Rattle.dec_forms.specs.Entries.{Adds, type_scope, types_onto}
use Rattle.dec_forms.specs.declared.brought.Brought.{Brought}
use Rattle.dec_forms.proofs.Effects.{all_choices, effects-do}
use Rattle.dec_forms.proofs.Joining.{adds_then, brings_last}
use Rattle.dec_forms.proofs.Several.{decs-append}
use Rattle.dec_forms.proofs.TellingScope.{tells_past}
use Rattle.dec_forms.specs.Local.{IsEmpty, shown_in}

-- what an identifier is behind it
shown-entry : (P : Entry → Type 0) (C D E F : Context) (es : List (Vid × Entry)) (x : Vid) (e : Entry) → E.values ≡ with_entries D.values es → F.values ≡ with_entries C.values es
    → entry_in F [] x ≡ Some e → (entry_in E [] x ≡ Some e → P e) → (entry_in C [] x ≡ Some e → P e) → P e
shown-entry P C D E F es x e a b h new old = by (last_of es x) refl (sym (entry-among C.values es x) ∙ sym (ap (λ s. entry_of s x) b) ∙ h)
  where
    by : (o : Option Entry) → last_of es x ≡ o → option_or o (entry_of C.values x) ≡ Some e → P e
    by None q k = old k
    by (Some d) q k =
        new (ap (λ s. entry_of s x) a ∙ entry-among D.values es x ∙ ap (λ o. option_or o (entry_of D.values x)) q ∙ k)

numbered-shown : (k j : ℕ) (C D E : Context) (es : List (Vid × Entry)) (b : Brought) → k ≤ j → IsNumbered k C → IsNumbered j E → E.values ≡ with_entries D.values es → b.values.items ≡ es
    → E.structures ≡ C.structures → E.members.items ≡ C.members.items → IsNumbered j (shown_in C E b)
numbered-shown k j C D E es b le n m a q st me [] x e h =
    shown-entry (IsBelowIf j) C D E (shown_in C E b) es x e a (ap (with_entries C.values) q) h (λ i. m [] x e i) (λ i. numbered_later k j C le n [] x e i)
numbered-shown k j C D E es b le n m a q st me (r ∷ []) x e h = m (r ∷ []) x e h
numbered-shown k j C D E es b le n m a q st me (r ∷ s ∷ qs) x e h = m (r ∷ s ∷ qs) x e h

pub local_is : (S M T : State) (C D E F : Context) (p : Place) (ds es : List bare.Dec) (xs ys : List Dec) (a b none shown old new : Brought) → IsEmpty none → AreBringing S C ds M D xs a b
    → AreBringing M D es T E ys none shown → F ≡ shown_in C E shown → new.values.items ≡ old.values.items ++ shown.values.items → new.types.items ≡ old.types.items ++ shown.types.items
    → IsBringing S C (bare.local_dec p (source.decs_of ds) (source.decs_of es)) T F (xs ++ ys) old new
local_is S M T C D E F p ds es xs ys a b none shown old new z h k q ev et =
    let vs : shown.values.items ≡ k.values = k.all_values ∙ ap (λ l. l ++ k.values) z.values in
    let ts : shown.types.items ≡ k.types = k.all_types ∙ ap (λ l. l ++ k.types) z.types in
    let added = adds_then C D E h.values k.values h.types k.types h.adds k.adds in
    subst (λ F. IsBringing S C (bare.local_dec p (source.decs_of ds) (source.decs_of es)) T F (xs ++ ys) old new) (sym q)
    (record {
      values = k.values;
      types = k.types;
      all_values = ev ∙ ap (λ l. old.values.items ++ l) vs;
      all_types = et ∙ ap (λ l. old.types.items ++ l) ts;
      adds = record {
        values = ap (with_entries C.values) vs;
        structures = k.adds.structures ∙ h.adds.structures;
        members = k.adds.members ∙ h.adds.members;
        tyvars = refl;
        types = ap (types_onto C.types.types) ts;
        schemes = stays-on _ _ _ h.adds.schemes k.adds.schemes;
        level = k.adds.level ∙ h.adds.level;
        rest =
            ap (λ (z : Context). record z { values = with_entries C.values shown.values.items; types = type_scope C.types.tyvars (types_onto C.types.types shown.types.items) }) added.rest;
        numbers = added.numbers;
      };
      grows = grows_on S M T h.grows k.grows;
      numbered = λ n.
          numbered-shown S.next T.next C D E k.values shown (grows_on S M T h.grows k.grows).next n (k.numbered (h.numbered n)) k.adds.values vs (k.adds.structures ∙ h.adds.structures)
          (k.adds.members ∙ h.adds.members);
      gives = λ n W c A t.
          let e = h.gives n W (comes_before M T W k.grows c) A t in
          let m = all_effects A e.effects in
          let t' = tells_past C D W A S.next h.values h.types m t n h.adds e.brings in
          let f = k.gives (h.numbered n) W c (past A m) t' in
          let r = all_effects (past A m) f.effects in
          let cs = both (all_choices e.choices) (all_choices f.choices) in
          let whole : joined (all_joined e.parts) (all_joined f.parts) ≡ decs_of (map (dec_of W.reading) (xs ++ ys)) =
          ap₂ joined e.whole f.whole ∙ sym (decs-append (map (dec_of W.reading) xs) (map (dec_of W.reading) ys)) ∙ ap decs_of (sym (map-append (dec_of W.reading) xs ys)) in
          record {
            effect = last_effect m r;
            choices = cs;
            elab = λ i le.
                let g = e.elab i le in
                let u = f.elab g.next g.most in
                record {
                  next = u.next;
                  most = u.most;
                  elab =
                      subst
                      (λ x. DecElab W.table A i (bare.local_dec p (source.decs_of ds) (source.decs_of es)) x (m.made + r.made) r.number r.env r.scope r.known cs u.next)
                      whole (local_elab p (effects-do g.elab) (effects-do u.elab));
                };
            brings = brings_last D E (shown_in C E shown) W A S.next M.next h.values k.values h.types k.types m r e.brings h.grows.next f.brings refl refl refl refl;
          };
    })

-- the context behind it

all-onto : (P : ℕ × TypeEntry → Type 0) (s ts : List (ℕ × TypeEntry)) → AllByRecursion P s → AllByRecursion P ts → AllByRecursion P (types_onto s ts)
all-onto P s [] h k = h
all-onto P s (t ∷ ts) h k = all-onto P (t ∷ s) ts (k.0, h) k.1

among-onto : (P : ℕ × TypeEntry → Type 0) (s ts : List (ℕ × TypeEntry)) → AllByRecursion P (types_onto s ts) → AllByRecursion P s × AllByRecursion P ts
among-onto P s [] h = (h, tt)
among-onto P s (t ∷ ts) h = let r = among-onto P (t ∷ s) ts h in (r.0.1, (r.0.0, r.1))

onto-again : (P : ℕ × TypeEntry → Type 0) (s d ts : List (ℕ × TypeEntry)) → AllByRecursion P (types_onto d ts) → AllByRecursion P s → AllByRecursion P (types_onto s ts)
onto-again P s d ts h k = all-onto P s ts k (among-onto P d ts h).1

held-same : (T : State) (E : Context) (C : Context) (b : Brought) (e : Entry) → IsHeld T E e → IsHeld T (shown_in C E b) e
held-same T E C b (Constructor s n y) h = h
held-same T E C b (Reference s) h = h
held-same T E C b (Initial s n) h = h
held-same T E C b (Primitive s q) h = h
held-same T E C b (Raised n None) h = h
held-same T E C b (Raised n (Some k)) h = h
held-same T E C b (Single t n) h = h
held-same T E C b (Own t n) h = h
held-same T E C b (General l t n o) h = h

-- more schemes
held-wider : (T : State) (C E : Context) (e : Entry) → length C.schemes.items ≤ length E.schemes.items → IsHeld T C e → IsHeld T E e
held-wider T C E (Constructor s n y) le h = omega (arith, le, h)
held-wider T C E (Reference s) le h = omega (arith, le, h)
held-wider T C E (Initial s n) le h = omega (arith, le, h)
held-wider T C E (Primitive s q) le h = omega (arith, le, h)
held-wider T C E (Raised n None) le h = h
held-wider T C E (Raised n (Some k)) le h = h
held-wider T C E (Single t n) le h = h
held-wider T C E (Own t n) le h = h
held-wider T C E (General l t n o) le h = h

longer-list : {A : Type 0} (xs ys : List A) → Begins xs ys → length xs ≤ length ys
longer-list [] ys e = omega arith
longer-list (x ∷ xs) [] e = cc
longer-list (x ∷ xs) (y ∷ ys) e = let h : take (length xs) ys ≡ xs = cc in let k = longer-list xs ys h in omega (arith, k)

pub context_shown : (S T : State) (C D E F : Context) (es us : List (Vid × Entry)) (ts vs : List (ℕ × TypeEntry)) (b : Brought) → Grows S T → IsContext S C
    → Adds D E es ts → b.values.items ≡ es → b.types.items ≡ ts → Adds C E us vs → IsContext T E → F ≡ shown_in C E b → IsContext T F
context_shown S T C D E F es us ts vs b g i a ev et w j q = subst (IsContext T) (sym q) (record {
  wide = j.wide;
  deep = j.deep;
  naming = j.naming;
  holds = record {
    tyvars = later.holds.tyvars;
    bodies = types (λ (b : ℕ × TypeEntry). b.1.body < length (types_in T)) j.holds.bodies later.holds.bodies;
    closed = types (λ (b : ℕ × TypeEntry). top (type_at (types_in T) b.1.body) ≤ b.1.arity) j.holds.closed later.holds.closed;
  };
  known = later.known;
  schemes = j.schemes;
  entries = λ qs x e h. held-same T E C b e (entry qs x e h);
  numbered = numbered-shown S.next T.next C D E es b g.next i.numbered j.numbered a.values ev w.structures w.members;
  live = later.live;
  level = j.level;
  tidy = j.tidy;
})
  where
    later : IsContext T C
    later = context_later S T C g i

    types : (P : ℕ × TypeEntry → Type 0) → AllByRecursion P E.types.types → AllByRecursion P C.types.types → AllByRecursion P (types_onto C.types.types b.types.items)
    types P h k = subst (λ l. AllByRecursion P (types_onto C.types.types l)) (sym et) (onto-again P C.types.types D.types.types ts (subst (AllByRecursion P) a.types h) k)

    entry : (qs : List ℕ) (x : Vid) (e : Entry) → entry_in (shown_in C E b) qs x ≡ Some e → IsHeld T E e
    entry [] x e h =
        shown-entry (IsHeld T E) C D E (shown_in C E b) es x e a.values (ap (with_entries C.values) ev) h (λ i. j.entries [] x e i)
        (λ i. held-wider T C E e (longer-list C.schemes.items E.schemes.items w.schemes) (later.entries [] x e i))
    entry (r ∷ []) x e h = j.entries (r ∷ []) x e h
    entry (r ∷ s ∷ qs) x e h = j.entries (r ∷ s ∷ qs) x e h
