-- What comes into scope, and then further things.
use Rattle.std.proofs.Common.{◌≡◌, ◌≤◌, ◌+◌, ℕ, cond, List, [], ◌∷◌, ◌++◌, Option, Some, None, nat_eq, refl, sym, ap, ap₂, subst, ◌∙◌, arith}
use Rattle.std.specs.Prelude.{option_map, unwrap_or}
use Rattle.std.specs.Option.{option_or}
use Rattle.std.specs.Map.{lookup}
use Rattle.std.proofs.lemmas.Bool.{lt-ltb, ltb-true}
use Rattle.std.proofs.lemmas.List.{append_assoc}
use Rattle.ty_instance.proofs.Going.{stays-on}
use Rattle.sml_tree.specs.declared.ident.Vid.{Vid}
use Rattle.vid_scope.specs.Entries.{entry_of, with_entries, with_entry}
use Rattle.vid_scope.specs.declared.vids.VidScope.{VidScope}
use Rattle.core_rules.specs.Words.{same_vid}
use Rattle.core_rules.specs.Objects.{joined, Structures, no_structures, structures_of, structure_map, TypeStructure, plus}
use Rattle.core_rules.proofs.LookUps.{vid-tells, nat-tells, at-joined}
use Rattle.ir_poly.specs.TestsChecked.{Known}
use Rattle.ir_poly.specs.TestsChecked as checked
use Rattle.core_elab.specs.Scopes.{Scope, plus_scope, denotes_in, inside_in, typed_in}
use Rattle.elab_typed.specs.Contexts.{Around}
use Rattle.elab_typed.specs.Numbers.{AgreeBelow}
use Rattle.elab_typed.proofs.Under.{plus-under}
use Rattle.elab_types.specs.declared.scope.TypeEntry.{TypeEntry}
use Rattle.closed_types.proofs.of_elab_steps.Changing.{begins-same}
use Rattle.closed_types.specs.of_elab_steps.World.{World}
use Rattle.exp_forms.specs.of_elab_context.Entries.{entry_in, last_of}
use Rattle.exp_forms.proofs.of_elab_context.Contents.{has_constructors_still}
use Rattle.exp_forms.specs.of_elab_context.Telling.{Tells, HasConstructors, IsFit, kept_of, denotes_of, known_of, function_of}
use Rattle.exp_forms.specs.of_elab_context.declared.context.Context.{Context}
use Rattle.exp_forms.specs.of_elab_context.declared.entry.Entry.{Entry}
use Rattle.exp_forms.specs.of_elab_context.Numbered.{IsNumbered}
use Rattle.exp_forms.proofs.Entering.{number-known}
use Rattle.dec_forms.proofs.After.{after-after, plus-plus}
use Rattle.dec_forms.proofs.Telling.{entry-among}
use Rattle.dec_forms.specs.Entries.{Adds, last_at, types_onto}
use Rattle.dec_forms.specs.Bringing.{Brings, Effect, past, joint_effect, last_effect}
use Rattle.dec_forms.proofs.Wider.{Wider, fit-later, kept-later, known-later}
use Rattle.dec_forms.proofs.TellingScope.{mapped-none, tells_past, wider_past, none-joined}

or-assoc : {A : Type 0} (o p q : Option A) → option_or o (option_or p q) ≡ option_or (option_or o p) q
or-assoc None p q = refl
or-assoc (Some a) p q = refl

map-or : {A B : Type 0} (f : A → B) (o p : Option A) → option_map f (option_or o p) ≡ option_or (option_map f o) (option_map f p)
map-or f None p = refl
map-or f (Some a) p = refl

or-none : {A : Type 0} (o : Option A) → option_or o None ≡ o
or-none None = refl
or-none (Some a) = refl

pub last-append : (es ds : List (Vid × Entry)) (x : Vid) → last_of (es ++ ds) x ≡ option_or (last_of ds x) (last_of es x)
last-append [] ds x = sym (or-none (last_of ds x))
last-append (e ∷ es) ds x =
    ap (λ o. option_or o (cond (same_vid x e.0) (Some e.1) None)) (last-append es ds x) ∙ sym (or-assoc (last_of ds x) (last_of es x) (cond (same_vid x e.0) (Some e.1) None))

pub last-at-append : (ts us : List (ℕ × TypeEntry)) (x : ℕ) → last_at (ts ++ us) x ≡ option_or (last_at us x) (last_at ts x)
last-at-append [] us x = sym (or-none (last_at us x))
last-at-append (t ∷ ts) us x =
    ap (λ o. option_or o (cond (nat_eq x t.0) (Some t.1) None)) (last-at-append ts us x) ∙ sym (or-assoc (last_at us x) (last_at ts x) (cond (nat_eq x t.0) (Some t.1) None))

pub entries-append : (s : VidScope Entry) (es ds : List (Vid × Entry)) → with_entries s (es ++ ds) ≡ with_entries (with_entries s es) ds
entries-append s [] ds = refl
entries-append s (e ∷ es) ds = entries-append (with_entry s e.0 e.1) es ds

pub onto-append : (s ts us : List (ℕ × TypeEntry)) → types_onto s (ts ++ us) ≡ types_onto (types_onto s ts) us
onto-append s [] us = refl
onto-append s (t ∷ ts) us = onto-append (t ∷ s) ts us

pub adds_then : (C D E : Context) (es ds : List (Vid × Entry)) (ts us : List (ℕ × TypeEntry)) → Adds C D es ts → Adds D E ds us → Adds C E (es ++ ds) (ts ++ us)
adds_then C D E es ds ts us a b = record {
  values = b.values ∙ ap (λ s. with_entries s ds) a.values ∙ sym (entries-append C.values es ds);
  structures = b.structures ∙ a.structures;
  members = b.members ∙ a.members;
  tyvars = b.tyvars ∙ a.tyvars;
  types = b.types ∙ ap (λ s. types_onto s us) a.types ∙ sym (onto-append C.types.types ts us);
  schemes = stays-on _ _ _ a.schemes b.schemes;
  level = b.level ∙ a.level;
  rest =
      b.rest
      ∙ ap (λ (k : Context). record k { values = E.values; types = E.types; schemes = E.schemes; names = E.names; naming = E.naming; numbers = E.numbers }) a.rest;
  numbers = record { own = b.numbers.own ++ a.numbers.own; is = b.numbers.is ∙ ap (λ l. b.numbers.own ++ l) a.numbers.is ∙ sym (append_assoc b.numbers.own a.numbers.own C.numbers) };
}

-- structures that are none are none together
no-structures : (ss us : Structures) → ss ≡ no_structures → us ≡ no_structures → structures_of (joined nat_eq (structure_map ss) (structure_map us)) ≡ no_structures
no-structures ss us e q = none-joined ss us q ∙ e

agree-then : (n m : ℕ) (f g h : ℕ → ℕ) → AgreeBelow n f g → AgreeBelow (n + m) g h → AgreeBelow n f h
agree-then n m f g h a b x lt = let l = ltb-true x n lt in b x (lt-ltb x (n + m) (omega (arith, l))) ∙ a x lt

-- the effects one after the other
module _ (C D E : Context) (W : World) (A : Around) (k i : ℕ) (es ds : List (Vid × Entry)) (ts us : List (ℕ × TypeEntry)) (m q : Effect) (t : Tells C W A) (n : IsNumbered k C)
    (a : Adds C D es ts) (b : Brings D W A k es ts m) (le : k ≤ i) (num : IsNumbered i D) (c : Adds D E ds us) (f : Brings E W (past A m) i ds us q) where
  abbrev both : Effect
  both = joint_effect m q

  mid : Tells D W (past A m)
  mid = tells_past C D W A k es ts m t n a b

  wider : Wider D E W (past A m) (past (past A m) q)
  wider = wider_past D E W (past A m) i ds us q mid c f

  same-around : past (past A m) q ≡ past A both
  same-around = after-after A m.made q.made m.number q.number m.env q.env m.scope q.scope m.known q.known

  kept-if : (x : Vid) (o : Option Entry) → last_of es x ≡ o → option_map (kept_of D W) o ≡ option_map (kept_of E W) o
  kept-if x None e = refl
  kept-if x (Some d) e = ap Some (sym (kept-later D E W (past A m) (past (past A m) q) wider d (b.fit x d e)))

  entry-here : (x : Vid) (e : Entry) → last_of es x ≡ Some e → entry_in D [] x ≡ Some e
  entry-here x e h = ap (λ s. entry_of s x) a.values ∙ entry-among C.values es x ∙ ap (λ o. option_or o (entry_of C.values x)) h

  from-last : (x : Vid) (e : Entry) (P : Entry → Type 0) → last_of (es ++ ds) x ≡ Some e → ((d : Entry) → last_of ds x ≡ Some d → P d) → ((d : Entry) → last_of es x ≡ Some d → P d) → P e
  from-last x e P h new old = by (last_of ds x) refl (sym (last-append es ds x) ∙ h)
    where
      by : (o : Option Entry) → last_of ds x ≡ o → option_or o (last_of es x) ≡ Some e → P e
      by None q h = old e h
      by (Some d) q h = let same : d ≡ e = cc in subst P same (new d q)

  typed-both : (s : Scope) (x : ℕ) → last_at us x ≡ None → typed_in (plus_scope s both.scope) x ≡ typed_in (plus_scope s m.scope) x
  typed-both s x l = ap (λ y. typed_in y x) (sym (plus-plus s m.scope q.scope)) ∙ f.retyped (plus_scope s m.scope) x l

  retyped-both : (s : Scope) (x : ℕ) → last_at (ts ++ us) x ≡ None → typed_in (plus_scope s both.scope) x ≡ typed_in s x
  retyped-both s x h = by (last_at us x) refl (sym (last-at-append ts us x) ∙ h)
    where
      by : (o : Option TypeEntry) → last_at us x ≡ o → option_or o (last_at ts x) ≡ None → typed_in (plus_scope s both.scope) x ≡ typed_in s x
      by None l h = typed-both s x l ∙ b.retyped s x h
      by (Some d) l h = cc

  fit-both : (e : Entry) → IsFit E W (past (past A m) q) e → IsFit E W (past A both) e
  fit-both e = subst (λ B. IsFit E W B e) same-around

  constructors-both : (s : Scope) (x : ℕ) (e : TypeEntry) → last_at (ts ++ us) x ≡ Some e
      → HasConstructors E W (past A both) e (lookup (nat_eq x) both.env.types) (typed_in (plus_scope s both.scope) x)
  constructors-both s x e h = by (last_at us x) refl (sym (last-at-append ts us x) ∙ h)
    where
      types-is : lookup (nat_eq x) both.env.types ≡ option_or (lookup (nat_eq x) q.env.types) (lookup (nat_eq x) m.env.types)
      types-is = at-joined nat_eq nat-tells m.env.types q.env.types x

      by : (o : Option TypeEntry) → last_at us x ≡ o → option_or o (last_at ts x) ≡ Some e
          → HasConstructors E W (past A both) e (lookup (nat_eq x) both.env.types) (typed_in (plus_scope s both.scope) x)
      by None l h =
          let none = mapped-none (λ (y : TypeStructure). y.function) (lookup (nat_eq x) q.env.types) (f.types x ∙ ap (option_map (function_of W)) l) in
          has_constructors_still D E W W (past A m) (past A both) e (lookup (nat_eq x) m.env.types) (lookup (nat_eq x) both.env.types) (typed_in (plus_scope s m.scope) x)
          (typed_in (plus_scope s both.scope) x) c.schemes (kept-later D E W (past A m) (past (past A m) q) wider)
          (λ d i. fit-both d (fit-later D E W (past A m) (past (past A m) q) wider d i)) (types-is ∙ ap (λ o. option_or o (lookup (nat_eq x) m.env.types)) none) (typed-both s x l)
          (b.constructors s x e h)
      by (Some d) l h =
          let same : d ≡ e = cc in
          let new = f.constructors (plus_scope s m.scope) x e (l ∙ ap Some same) in
          has_constructors_still E E W W (past (past A m) q) (past A both) e (lookup (nat_eq x) q.env.types) (lookup (nat_eq x) both.env.types)
          (typed_in (plus_scope (plus_scope s m.scope) q.scope) x) (typed_in (plus_scope s both.scope) x) (begins-same E.schemes.items E.schemes.items refl) (λ d i. refl) fit-both
          (types-is ∙ ap (λ o. option_or o (lookup (nat_eq x) m.env.types)) new.is ∙ sym new.is) (ap (λ y. typed_in y x) (sym (plus-plus s m.scope q.scope))) new

  pub brings_then : Brings E W A k (es ++ ds) (ts ++ us) both
  brings_then = record {
    values = λ x.
        at-joined same_vid vid-tells m.env.values q.env.values x ∙ ap₂ option_or (f.values x) (b.values x ∙ kept-if x (last_of es x) refl)
        ∙ sym (map-or (kept_of E W) (last_of ds x) (last_of es x)) ∙ ap (option_map (kept_of E W)) (sym (last-append es ds x));
    types = λ x.
        ap (option_map (λ y. y.function)) (at-joined nat_eq nat-tells m.env.types q.env.types x)
        ∙ map-or (λ (y : TypeStructure). y.function) (lookup (nat_eq x) q.env.types) (lookup (nat_eq x) m.env.types) ∙ ap₂ option_or (f.types x) (b.types x)
        ∙ sym (map-or (function_of W) (last_at us x) (last_at ts x)) ∙ ap (option_map (function_of W)) (sym (last-at-append ts us x));
    structures = no-structures m.env.structures q.env.structures b.structures f.structures;
    denotes = λ s x.
        ap (λ z. denotes_in z x) (sym (plus-plus s m.scope q.scope)) ∙ f.denotes (plus_scope s m.scope) x ∙ ap (option_or (option_map denotes_of (last_of ds x))) (b.denotes s x)
        ∙ or-assoc (option_map denotes_of (last_of ds x)) (option_map denotes_of (last_of es x)) (denotes_in s x)
        ∙ ap (λ o. option_or o (denotes_in s x)) (sym (map-or denotes_of (last_of ds x) (last_of es x)) ∙ ap (option_map denotes_of) (sym (last-append es ds x)));
    alone = λ s z. ap (λ y. inside_in y z) (sym (plus-plus s m.scope q.scope)) ∙ f.alone (plus_scope s m.scope) z ∙ b.alone s z;
    retyped = retyped-both;
    constructors = constructors-both;
    fit = λ x e h.
        fit-both e
        (from-last x e (IsFit E W (past (past A m) q)) h (λ d l. f.fit x d l) (λ d l. fit-later D E W (past A m) (past (past A m) q) wider d (b.fit x d l)));
    new = λ x e j v h s.
        from-last x e (λ d. known_of W (past (past A m) q) d ≡ Some (j, v) → checked.at q.known j ≡ Some v) h (λ d l s. f.new x d j v l s)
        (λ d l s.
        let old = sym (known-later D E W (past A m) (past (past A m) q) wider d (b.fit x d l)) ∙ s in
        f.older j (num [] x d (entry-here x d l) j (number-known W (past A m) d j v old)) ∙ b.new x d j v l old)
        (ap (λ B. known_of W B e) same-around ∙ s);
    older = λ j lt. f.older j (omega (arith, lt, le)) ∙ b.older j lt;
    names = let s = f.names in omega (arith, s);
    number = f.number;
    numbers = f.numbers;
    initial = f.initial;
    agree = agree-then A.names m.made A.number m.number q.number b.agree f.agree;
    over = λ s g h. sym (plus-under s m.env q.env) ∙ ap₂ plus (b.over s g h) (f.over s g h) ∙ plus-under g m.env q.env;
  }

-- what the second of two parts brings, where the first goes out of scope again: F has what C has, with the schemes, the names and their numbers of E
module _ (D E F : Context) (W : World) (A : Around) (k i : ℕ) (es ds : List (Vid × Entry)) (ts us : List (ℕ × TypeEntry)) (m q : Effect) (b : Brings D W A k es ts m) (le : k ≤ i)
    (f : Brings E W (past A m) i ds us q) (schemes : F.schemes ≡ E.schemes) (names : F.names ≡ E.names) (naming : F.naming ≡ E.naming) (numbers : F.numbers ≡ E.numbers) where
  abbrev from : Around
  from = past (past A m) q

  abbrev to : Around
  to = past A (last_effect m q)

  same : Wider E F W from to
  same = record {
    schemes = begins-same _ _ (ap (λ z. z.items) schemes);
    names = omega arith;
    here = f.names;
    there = let s = f.names in omega (arith, s, names);
    number_here = f.number;
    number_there = f.number ∙ ap W.naming (sym naming);
    agree = λ x lt. refl;
    parameters = refl;
  }

  shown-if : (x : Vid) (o : Option Entry) → last_of ds x ≡ o → option_map (kept_of E W) o ≡ option_map (kept_of F W) o
  shown-if x None e = refl
  shown-if x (Some d) e = ap Some (sym (kept-later E F W from to same d (f.fit x d e)))

  pub brings_last : Brings F W A k ds us (last_effect m q)
  brings_last = record {
    values = λ x. f.values x ∙ shown-if x (last_of ds x) refl;
    types = f.types;
    structures = f.structures;
    denotes = f.denotes;
    alone = f.alone;
    retyped = f.retyped;
    constructors = λ s x e h.
        has_constructors_still E F W W from to e (lookup (nat_eq x) q.env.types) (lookup (nat_eq x) q.env.types) (typed_in (plus_scope s q.scope) x) (typed_in (plus_scope s q.scope) x)
        same.schemes (kept-later E F W from to same) (fit-later E F W from to same) refl refl (f.constructors s x e h);
    fit = λ x e h. fit-later E F W from to same e (f.fit x e h);
    new = λ x e j v h s. f.new x e j v h (sym (known-later E F W from to same e (f.fit x e h)) ∙ s);
    older = λ j lt. f.older j (omega (arith, lt, le)) ∙ b.older j lt;
    names = let s = f.names in omega (arith, s, names);
    number = f.number ∙ ap W.naming (sym naming);
    numbers = λ x. ap (λ z. W.naming z x) naming ∙ f.numbers x ∙ ap (λ l. unwrap_or (lookup (nat_eq x) l) x) (sym numbers);
    initial = f.initial;
    agree = agree-then A.names m.made A.number m.number q.number b.agree f.agree;
    over = f.over;
  }
