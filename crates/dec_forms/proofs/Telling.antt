-- What a context with further values tells of.
use Rattle.std.proofs.Common.{◌≡◌, ◌+◌, ℕ, Bool, true, false, cond, List, [], ◌∷◌, Option, Some, None, nat_eq, refl, sym, ap, ap₂, subst, ◌∙◌, arith}
use Rattle.std.specs.Prelude.{option_map, option_and_then}
use Rattle.std.specs.Option.{option_or}
use Rattle.std.specs.Map.{lookup}
use Rattle.ty_core.specs.Types.{Typ, var}
use Rattle.sml_tree.specs.Terminal.{LongVid}
use Rattle.sml_tree.specs.declared.ident.Vid.{Vid}
use Rattle.vid_scope.specs.Entries.{entry_of, with_entry, with_entries}
use Rattle.vid_scope.specs.declared.vids.VidScope.{VidScope}
use Rattle.vid_scope.proofs.Latest.{latest_found}
use Rattle.core_rules.specs.Words.{same_vid}
use Rattle.core_rules.specs.Elaborated.{type_in}
use Rattle.core_rules.specs.Objects.{Map, Over, joined, Structures, structures_of, structure_map}
use Rattle.core_rules.specs.Objects as static
use Rattle.core_rules.proofs.LookUps.{vid-tells, at-joined}
use Rattle.ir_poly.specs.TestsChecked.{Knowns, Known}
use Rattle.ir_poly.specs.TestsChecked as checked
use Rattle.core_elab.specs.Scopes.{Scope, plus_scope, denotes_in, inside_in, typed_in, along_scope, long_denotes_in}
use Rattle.elab_typed.specs.Contexts.{given, KeptValues, kept_in, kept_values, values_under, Around, after}
use Rattle.closed_types.proofs.of_elab_steps.Changing.{begins-same}
use Rattle.closed_types.specs.of_elab_steps.World.{World, type_of}
use Rattle.exp_forms.specs.of_elab_context.Entries.{contents_at, entry_in, last_of}
use Rattle.exp_forms.proofs.of_elab_context.Contents.{has_constructors_still, has_contents_still}
use Rattle.exp_forms.specs.of_elab_context.Telling.{Tells, IsFit, IsInUse, kept_of, denotes_of, known_of}
use Rattle.exp_forms.specs.of_elab_context.declared.context.Context.{Context}
use Rattle.exp_forms.specs.of_elab_context.declared.entry.Entry.{Entry}
use Rattle.exp_forms.specs.of_elab_context.declared.entry.Entry.TheVariants.{Constructor, Reference, Initial, Primitive, Raised, Single, Own, General}
use Rattle.dec_forms.specs.Telling.{with_all}
use Rattle.dec_forms.proofs.Over.{Agree, over_after}

or-else : {A : Type 0} (o : Option A) (b : Bool) (a : A) (p : Option A) → option_or o (cond b (Some a) p) ≡ option_or (option_or o (cond b (Some a) None)) p
or-else None true a p = refl
or-else None false a p = refl
or-else (Some x) b a p = refl

pub entry-among : (s : VidScope Entry) (es : List (Vid × Entry)) (x : Vid) → entry_of (with_entries s es) x ≡ option_or (last_of es x) (entry_of s x)
entry-among s [] x = refl
entry-among s (e ∷ es) x =
    entry-among (with_entry s e.0 e.1) es x ∙ ap (option_or (last_of es x)) (latest_found s (with_entry s e.0 e.1) e.0 e.1 refl x)
    ∙ or-else (last_of es x) (same_vid x e.0) e.1 (entry_of s x)

-- what the context has stays

kept-same : (C : Context) (es : List (Vid × Entry)) (W : World) (e : Entry) → kept_of (with_all C es) W e ≡ kept_of C W e
kept-same C es W (Constructor s n y) = refl
kept-same C es W (Reference s) = refl
kept-same C es W (Initial s n) = refl
kept-same C es W (Primitive s q) = refl
kept-same C es W (Raised n a) = refl
kept-same C es W (Single t n) = refl
kept-same C es W (Own t n) = refl
kept-same C es W (General l t n o) = refl

kept-same-if : (C : Context) (es : List (Vid × Entry)) (W : World) (o : Option Entry) → option_map (kept_of C W) o ≡ option_map (kept_of (with_all C es) W) o
kept-same-if C es W None = refl
kept-same-if C es W (Some e) = ap Some (sym (kept-same C es W e))

-- what is around a phrase with further values
abbrev pub around_with : Around → KeptValues → Scope → Knowns → Around
around_with A ks r G = after A 0 A.number (kept_values ks) r G

same-names : (A : Around) (ks : KeptValues) (r : Scope) (G : Knowns) (t : Typ) → Over A.names t → Over (around_with A ks r G).names t
same-names A ks r G t o = let e : A.names + 0 ≡ A.names = omega arith in subst (λ n. Over n t) (sym e) o

in-use : (A : Around) (ks : KeptValues) (r : Scope) (G : Knowns) (t : Typ) → IsInUse A t → IsInUse (around_with A ks r G) t
in-use A ks r G t h = record { names = same-names A ks r G t h.names; parameters = h.parameters }

fit-same : (C : Context) (es : List (Vid × Entry)) (W : World) (A : Around) (ks : KeptValues) (r : Scope) (G : Knowns) (e : Entry) → IsFit C W A e → IsFit (with_all C es) W (around_with A ks r G) e
fit-same C es W A ks r G (Constructor s n y) h = record { argument = h.argument; general = h.general; body = h.body; names = h.names; row = h.row }
fit-same C es W A ks r G (Reference s) h = h
fit-same C es W A ks r G (Initial s n) h = h
fit-same C es W A ks r G (Primitive s q) h = record { body = h.body; marks = h.marks }
fit-same C es W A ks r G (Raised n None) h = tt
fit-same C es W A ks r G (Raised n (Some k)) h = in-use A ks r G (type_of W k) h
fit-same C es W A ks r G (Single t n) h = in-use A ks r G (type_of W t) h
fit-same C es W A ks r G (Own t n) h = in-use A ks r G (type_of W t) h
fit-same C es W A ks r G (General l t n o) h = record { marks = h.marks; names = same-names A ks r G (type_of W t) h.names; body = h.body; parts = h.parts; none = h.none }

known-same : (W : World) (A : Around) (ks : KeptValues) (r : Scope) (G : Knowns) (e : Entry) → known_of W (around_with A ks r G) e ≡ known_of W A e
known-same W A ks r G (Constructor s n y) = refl
known-same W A ks r G (Reference s) = refl
known-same W A ks r G (Initial s n) = refl
known-same W A ks r G (Primitive s q) = refl
known-same W A ks r G (Raised n a) = refl
known-same W A ks r G (Single t n) = refl
known-same W A ks r G (Own t n) = refl
known-same W A ks r G (General l t n true) = refl
known-same W A ks r G (General l t n false) = refl

-- types and structures stay

joined-none : {K V : Type 0} (same : K → K → Bool) (m : Map K V) → joined same m [] ≡ m
joined-none same [] = refl
joined-none same (e ∷ m) = ap (λ l. e ∷ l) (joined-none same m)

structures-same : (ss : Structures) → structures_of (structure_map ss) ≡ ss
structures-same static.no_structures = refl
structures-same (static.structure x e ss) = ap (static.structure x e) (structures-same ss)

types-apart : (vs us : static.Values) (ts : Map ℕ static.TypeStructure) (ss : Structures) (qs : List ℕ) (x : ℕ)
    → option_map (λ y. y.function) (type_in (static.env vs ts ss) qs x) ≡ option_map (λ y. y.function) (type_in (static.env us ts ss) qs x)
types-apart vs us ts ss [] x = refl
types-apart vs us ts ss (q ∷ qs) x = refl

-- what the new values ask
pub record AreFurther (C : Context) (W : World) (A : Around) (es : List (Vid × Entry)) (ks : KeptValues) (r : Scope) (G : Knowns) : Type 0 where
  pub kept : (x : Vid) → lookup (same_vid x) ks ≡ option_map (kept_of C W) (last_of es x)
  pub denotes : (s : Scope) (x : Vid) → denotes_in (plus_scope s r) x ≡ option_or (option_map denotes_of (last_of es x)) (denotes_in s x)
  pub alone : (s : Scope) (q : ℕ) → inside_in (plus_scope s r) q ≡ inside_in s q
  pub untyped : (s : Scope) (x : ℕ) → typed_in (plus_scope s r) x ≡ typed_in s x
  pub fit : (x : Vid) (e : Entry) → last_of es x ≡ Some e → IsFit C W A e
  pub new : (x : Vid) (e : Entry) (n : ℕ) (v : Known) → last_of es x ≡ Some e → known_of W A e ≡ Some (n, v) → checked.at G n ≡ Some v
  pub over : (s f : ℕ → Typ) → Agree A.parameters s f → values_under s ks ≡ values_under f ks
  pub old : (x : LongVid) (e : Entry) (n : ℕ) (v : Known) → entry_in C x.qualifiers x.vid ≡ Some e → known_of W A e ≡ Some (n, v) → checked.at G n ≡ Some v

module _ (C : Context) (W : World) (A : Around) (es : List (Vid × Entry)) (ks : KeptValues) (r : Scope) (G : Knowns) (t : Tells C W A) (f : AreFurther C W A es ks r G) where
  abbrev there : Around
  there = around_with A ks r G

  abbrev whole : Context
  whole = with_all C es

  values-of : (qs : List ℕ) (x : Vid) → kept_in there.env (record { qualifiers = qs; vid = x }) ≡ option_map (kept_of whole W) (entry_in whole qs x)
  values-of [] x =
      at-joined same_vid vid-tells A.env.values ks x ∙ ap₂ option_or (f.kept x) (t.values (record { qualifiers = []; vid = x }))
      ∙ by (last_of es x) (entry_of C.values x) ∙ ap (option_map (kept_of whole W)) (sym (entry-among C.values es x))
    where
      by : (o p : Option Entry) → option_or (option_map (kept_of C W) o) (option_map (kept_of C W) p) ≡ option_map (kept_of whole W) (option_or o p)
      by None p = kept-same-if C es W p
      by (Some e) p = ap Some (sym (kept-same C es W e))
  values-of (q ∷ []) x =
      ap₂ (λ ts ss. option_map given (static.long_value_in (static.env [] ts ss) (record { qualifiers = q ∷ []; vid = x }))) (joined-none nat_eq A.env.types)
      (ap structures_of (joined-none nat_eq (structure_map A.env.structures)) ∙ structures-same A.env.structures)
      ∙ t.values (record { qualifiers = q ∷ []; vid = x }) ∙ kept-same-if C es W (entry_in C (q ∷ []) x)
  values-of (q ∷ p ∷ qs) x =
      ap₂ (λ ts ss. option_map given (static.long_value_in (static.env [] ts ss) (record { qualifiers = q ∷ p ∷ qs; vid = x }))) (joined-none nat_eq A.env.types)
      (ap structures_of (joined-none nat_eq (structure_map A.env.structures)) ∙ structures-same A.env.structures)
      ∙ t.values (record { qualifiers = q ∷ p ∷ qs; vid = x })

  denotes-at : (qs : List ℕ) (x : Vid) → long_denotes_in there.scope (record { qualifiers = qs; vid = x }) ≡ option_map denotes_of (entry_in whole qs x)
  denotes-at [] x =
      f.denotes A.scope x ∙ ap (option_or (option_map denotes_of (last_of es x))) (t.denotes (record { qualifiers = []; vid = x }))
      ∙ by (last_of es x) (entry_of C.values x) ∙ ap (option_map denotes_of) (sym (entry-among C.values es x))
    where
      by : (o p : Option Entry) → option_or (option_map denotes_of o) (option_map denotes_of p) ≡ option_map denotes_of (option_or o p)
      by None p = refl
      by (Some e) p = refl
  denotes-at (q ∷ []) x =
      ap (λ o. option_and_then (λ d. denotes_in d x) (option_and_then (λ d. along_scope d []) o)) (f.alone A.scope q) ∙ t.denotes (record { qualifiers = q ∷ []; vid = x })
  denotes-at (q ∷ p ∷ qs) x =
      ap (λ o. option_and_then (λ d. denotes_in d x) (option_and_then (λ d. along_scope d (p ∷ qs)) o)) (f.alone A.scope q)
      ∙ t.denotes (record { qualifiers = q ∷ p ∷ qs; vid = x })

  -- a short identifier is new or as before
  short-entry : (x : Vid) (e : Entry) (P : Entry → Type 0) → entry_in whole [] x ≡ Some e → ((d : Entry) → last_of es x ≡ Some d → P d) → (entry_in C [] x ≡ Some e → P e) → P e
  short-entry x e P h new old = by (last_of es x) refl (sym (entry-among C.values es x) ∙ h)
    where
      by : (o : Option Entry) → last_of es x ≡ o → option_or o (entry_of C.values x) ≡ Some e → P e
      by None q h = old h
      by (Some d) q h = let same : d ≡ e = cc in subst P same (new d q)

  fit-at : (qs : List ℕ) (x : Vid) (e : Entry) → entry_in whole qs x ≡ Some e → IsFit whole W there e
  fit-at [] x e h =
      short-entry x e (IsFit whole W there) h (λ d q. fit-same C es W A ks r G d (f.fit x d q))
      (λ h. fit-same C es W A ks r G e (t.fit (record { qualifiers = []; vid = x }) e h))
  fit-at (q ∷ []) x e h = fit-same C es W A ks r G e (t.fit (record { qualifiers = q ∷ []; vid = x }) e h)
  fit-at (q ∷ p ∷ qs) x e h = cc

  known-at : (qs : List ℕ) (x : Vid) (e : Entry) (n : ℕ) (v : Known) → entry_in whole qs x ≡ Some e → known_of W there e ≡ Some (n, v) → checked.at G n ≡ Some v
  known-at [] x e n v h q =
      short-entry x e (λ d. known_of W there d ≡ Some (n, v) → checked.at G n ≡ Some v) h
      (λ d l s. f.new x d n v l (sym (known-same W A ks r G d) ∙ s))
      (λ h s. f.old (record { qualifiers = []; vid = x }) e n v h (sym (known-same W A ks r G e) ∙ s)) q
  known-at (q ∷ []) x e n v h s = f.old (record { qualifiers = q ∷ []; vid = x }) e n v h (sym (known-same W A ks r G e) ∙ s)
  known-at (q ∷ p ∷ qs) x e n v h s = cc

  pub tells_further : Tells whole W there
  tells_further = record {
    names = let e : A.names + 0 ≡ A.names = omega arith in e ∙ t.names;
    number = t.number;
    numbers = t.numbers;
    initial = t.initial;
    built = t.built;
    parameters = t.parameters;
    values = λ x. values-of x.qualifiers x.vid;
    denotes = λ x. denotes-at x.qualifiers x.vid;
    fit = λ x e h. fit-at x.qualifiers x.vid e h;
    known = λ x e n v h. known-at x.qualifiers x.vid e n v h;
    tyvars = t.tyvars;
    types = λ qs x.
        ap₂ (λ ts ss. option_map (λ y. y.function) (type_in (static.env (values_under var (joined same_vid A.env.values ks)) ts ss) qs x)) (joined-none nat_eq A.env.types)
        (ap structures_of (joined-none nat_eq (structure_map A.env.structures)) ∙ structures-same A.env.structures)
        ∙ types-apart (values_under var (joined same_vid A.env.values ks)) (values_under var A.env.values) A.env.types A.env.structures qs x ∙ t.types qs x;
    constructors = λ x e h.
        has_constructors_still C whole W W A there e (lookup (nat_eq x) A.env.types) (lookup (nat_eq x) there.env.types) (typed_in A.scope x) (typed_in there.scope x)
        (begins-same C.schemes.items C.schemes.items refl) (λ d i. kept-same C es W d) (λ d i. fit-same C es W A ks r G d i) (ap (lookup (nat_eq x)) (joined-none nat_eq A.env.types))
        (f.untyped A.scope x) (t.constructors x e h);
    structures = λ q k h.
        let ss = A.env.structures in
        has_contents_still C whole q (contents_at C k) (contents_at C k) (lookup (nat_eq q) (structure_map ss)) (lookup (nat_eq q) (structure_map there.env.structures))
        (inside_in A.scope q) (inside_in there.scope q) refl (λ x. refl)
        (ap (λ l. lookup (nat_eq q) (structure_map l)) (ap structures_of (joined-none nat_eq (structure_map ss)) ∙ structures-same ss)) (f.alone A.scope q) (t.structures q k h);
    over = over_after A 0 A.number (kept_values ks) r G t.over (λ s g a. ap (λ l. static.env l [] static.no_structures) (f.over s g a));
  }
