-- What a context with the variables of a pattern tells of.
use Rattle.std.proofs.Common.{◌≡◌, ◌⊎◌, inl, inr, ◌<◌, ◌+◌, ℕ, suc, length, take, get_or, Bool, true, false, not, ◌||◌, cond, List, [], ◌∷◌, ◌++◌, Option, Some, None, nat_eq, refl, sym, ap, ap₂, subst, ◌∙◌, arith}
use Rattle.std.specs.Prelude.{option_map, option_and_then}
use Rattle.std.proofs.lemmas.Bool.{and_parts}
use Rattle.std.proofs.lemmas.List.{map-append}
use Rattle.std.proofs.Math.Seq.{take-suc}
use Rattle.std.specs.Option.{option_or}
use Rattle.std.specs.List.{AllByRecursion}
use Rattle.std.specs.Map.{lookup}
use Rattle.ty_core.specs.Types.{Typ, var}
use Rattle.sml_tree.specs.Terminal.{LongVid}
use Rattle.sml_tree.specs.declared.ident.Vid.{Vid}
use Rattle.vid_scope.specs.Entries.{entry_of, with_entry, with_entries}
use Rattle.vid_scope.specs.declared.vids.VidScope.{VidScope}
use Rattle.vid_scope.proofs.Latest.{latest_found}
use Rattle.core_rules.specs.Words.{same_vid, is_in}
use Rattle.core_rules.specs.Elaborated.{type_in}
use Rattle.core_rules.specs.Restrictions.{distinct}
use Rattle.core_rules.specs.Objects.{Map, joined, Structures, structures_of, structure_map}
use Rattle.core_rules.specs.Objects as static
use Rattle.core_rules.specs.Typing.{Bound, bound_in, AreDistinct}
use Rattle.core_rules.proofs.LookUps.{vid-tells, at-joined}
use Rattle.ir_poly.specs.TestsChecked.{Knowns, Known, of_type}
use Rattle.ir_poly.specs.TestsChecked as checked
use Rattle.core_elab.specs.Scopes.{variable, Scope, empty, scoped, denotes_in, inside_in, typed_in, along_scope, long_denotes_in}
use Rattle.elab_typed.specs.Contexts.{given, single, kept_in, singles, values_under, with_bound, Around}
use Rattle.elab_typed.specs.Instances.{as_typed}
use Rattle.pat_elab.specs.of_elab_steps.World.{World, type_of}
use Rattle.pat_elab.proofs.of_elab_steps.Changing.{begins-same}
use Rattle.pat_elab.specs.of_elab_context.Entries.{contents_at, entry_in}
use Rattle.pat_elab.proofs.of_elab_context.Contents.{has_constructors_still, has_contents_still}
use Rattle.pat_elab.specs.of_elab_context.Telling.{Tells, IsFit, IsInUse, kept_of, denotes_of, known_of}
use Rattle.pat_elab.specs.of_elab_context.declared.context.Context.{Context}
use Rattle.pat_elab.specs.of_elab_context.declared.entry.Entry.{Entry}
use Rattle.pat_elab.specs.of_elab_context.declared.entry.Entry.TheVariants.{Constructor, Reference, Initial, Primitive, Raised, Single, Own, General}
use Rattle.pat_elab.specs.Elaborated.{bound_of, scope_of, scope_onto}
use Rattle.pat_elab.specs.declared.bound.BoundVariable.{BoundVariable}
use Rattle.pat_elab.proofs.Forms.{onto-plus}
use Rattle.exp_forms.specs.Binding.{Binding, IsKnown}
use Rattle.exp_forms.specs.Within.{entries_of, within}
use Rattle.exp_forms.proofs.Over.{over_within}

-- the latest variable of an identifier
abbrev pub latest : List BoundVariable → Vid → Option BoundVariable
latest [] x = None
latest (b ∷ bs) x = option_or (latest bs x) (cond (same_vid x b.vid) (Some b) None)

or-else : {A B : Type 0} (f : A → B) (o : Option A) (b : Bool) (a : A) (p : Option B) → option_or (option_map f o) (cond b (Some (f a)) p) ≡ option_or (option_map f (option_or o (cond b (Some a) None))) p
or-else f None true a p = refl
or-else f None false a p = refl
or-else f (Some x) b a p = refl

entry-of : (s : VidScope Entry) (bs : List BoundVariable) (x : Vid)
    → entry_of (with_entries s (entries_of bs)) x ≡ option_or (option_map (λ b. Single b.ty b.number) (latest bs x)) (entry_of s x)
entry-of s [] x = refl
entry-of s (b ∷ bs) x =
    entry-of (with_entry s b.vid (Single b.ty b.number)) bs x
    ∙ ap (option_or (option_map (λ b. Single b.ty b.number) (latest bs x))) (latest_found s (with_entry s b.vid (Single b.ty b.number)) b.vid (Single b.ty b.number) refl x)
    ∙ or-else (λ (b : BoundVariable). Single b.ty b.number) (latest bs x) (same_vid x b.vid) b (entry_of s x)

pub denotes-of : (s : Scope) (bs : List BoundVariable) (x : Vid) → denotes_in (scope_onto s bs) x ≡ option_or (option_map (λ b. variable b.number) (latest bs x)) (denotes_in s x)
denotes-of s [] x = refl
denotes-of s (b ∷ bs) x =
    denotes-of (scoped b.vid (variable b.number) s) bs x ∙ or-else (λ (b : BoundVariable). variable b.number) (latest bs x) (same_vid x b.vid) b (denotes_in s x)

-- found first where none is bound twice

absent : (W : World) (bs : List BoundVariable) (x : Vid) → is_in same_vid x (bound_in (bound_of W bs)) ≡ false → latest bs x ≡ None
absent W [] x h = refl
absent W (b ∷ bs) x h = by (same_vid x b.vid) h (absent W bs x)
  where
    by : (c : Bool) → (c || is_in same_vid x (bound_in (bound_of W bs))) ≡ false → (is_in same_vid x (bound_in (bound_of W bs)) ≡ false → latest bs x ≡ None)
        → option_or (latest bs x) (cond c (Some b) None) ≡ None
    by true h k = cc
    by false h k = ap (λ o. option_or o None) (k h)

not-so : (b : Bool) → not b ≡ true → b ≡ false
not-so true h = cc
not-so false h = refl

pub or-none : {A : Type 0} (o : Option A) → o ≡ option_or o None
or-none None = refl
or-none (Some a) = refl

pub lookup-of : (W : World) (bs : List BoundVariable) (x : Vid) → distinct same_vid (bound_in (bound_of W bs)) ≡ true
    → lookup (same_vid x) (bound_of W bs) ≡ option_map (λ b. type_of W b.ty) (latest bs x)
lookup-of W [] x d = refl
lookup-of W (b ∷ bs) x d =
    let p = and_parts (not (is_in same_vid b.vid (bound_in (bound_of W bs)))) (distinct same_vid (bound_in (bound_of W bs))) d in
    by (vid-tells x b.vid) (absent W bs b.vid (not-so (is_in same_vid b.vid (bound_in (bound_of W bs))) p.0)) (lookup-of W bs x p.1)
  where
    by : ((same_vid x b.vid ≡ true) × (x ≡ b.vid)) ⊎ (same_vid x b.vid ≡ false) → latest bs b.vid ≡ None
        → lookup (same_vid x) (bound_of W bs) ≡ option_map (λ b. type_of W b.ty) (latest bs x)
        → cond (same_vid x b.vid) (Some (type_of W b.ty)) (lookup (same_vid x) (bound_of W bs))
        ≡ option_map (λ b. type_of W b.ty) (option_or (latest bs x) (cond (same_vid x b.vid) (Some b) None))
    by (inl q) n h =
        ap (λ c. cond c (Some (type_of W b.ty)) (lookup (same_vid x) (bound_of W bs))) q.0
        ∙ sym (ap₂ (λ o c. option_map (λ (b : BoundVariable). type_of W b.ty) (option_or o (cond c (Some b) None))) (ap (latest bs) q.1 ∙ n) q.0)
    by (inr q) n h =
        ap (λ c. cond c (Some (type_of W b.ty)) (lookup (same_vid x) (bound_of W bs))) q ∙ h ∙ ap (option_map (λ (b : BoundVariable). type_of W b.ty)) (or-none (latest bs x))
        ∙ sym (ap (λ c. option_map (λ (b : BoundVariable). type_of W b.ty) (option_or (latest bs x) (cond c (Some b) None))) q)

pub latest-among : (P : BoundVariable → Type 0) (bs : List BoundVariable) (x : Vid) (b : BoundVariable) → AllByRecursion P bs → latest bs x ≡ Some b → P b
latest-among P [] x b h e = cc
latest-among P (c ∷ bs) x b h e = by (latest bs x) refl (same_vid x c.vid) e (latest-among P bs x b h.1)
  where
    by : (o : Option BoundVariable) → latest bs x ≡ o → (t : Bool) → option_or o (cond t (Some c) None) ≡ Some b → (latest bs x ≡ Some b → P b) → P b
    by None q true e k = let same : c ≡ b = cc in subst P same h.0
    by None q false e k = cc
    by (Some a) q t e k = let same : a ≡ b = cc in k (q ∙ ap Some same)

-- what the context has stays

kept-same : (C : Context) (bs : List BoundVariable) (W : World) (e : Entry) → kept_of (within C bs) W e ≡ kept_of C W e
kept-same C bs W (Constructor s n y) = refl
kept-same C bs W (Reference s) = refl
kept-same C bs W (Initial s n) = refl
kept-same C bs W (Primitive s q) = refl
kept-same C bs W (Raised n a) = refl
kept-same C bs W (Single t n) = refl
kept-same C bs W (Own t n) = refl
kept-same C bs W (General l t n o) = refl

kept-same-if : (C : Context) (bs : List BoundVariable) (W : World) (o : Option Entry) → option_map (kept_of C W) o ≡ option_map (kept_of (within C bs) W) o
kept-same-if C bs W None = refl
kept-same-if C bs W (Some e) = ap Some (sym (kept-same C bs W e))

in-use : (A : Around) (vs : Bound) (r : Scope) (G : Knowns) (t : Typ) → IsInUse A t → IsInUse (with_bound A vs r G) t
in-use A vs r G t h = record { names = h.names; parameters = h.parameters }

fit-same : (C : Context) (bs : List BoundVariable) (W : World) (A : Around) (vs : Bound) (r : Scope) (G : Knowns) (e : Entry) → IsFit C W A e → IsFit (within C bs) W (with_bound A vs r G) e
fit-same C bs W A vs r G (Constructor s n y) h = record { argument = h.argument; general = h.general; body = h.body; names = h.names; row = h.row }
fit-same C bs W A vs r G (Reference s) h = h
fit-same C bs W A vs r G (Initial s n) h = h
fit-same C bs W A vs r G (Primitive s q) h = record { body = h.body; marks = h.marks }
fit-same C bs W A vs r G (Raised n None) h = tt
fit-same C bs W A vs r G (Raised n (Some k)) h = in-use A vs r G (type_of W k) h
fit-same C bs W A vs r G (Single t n) h = in-use A vs r G (type_of W t) h
fit-same C bs W A vs r G (Own t n) h = in-use A vs r G (type_of W t) h
fit-same C bs W A vs r G (General l t n o) h = record { marks = h.marks; names = h.names; body = h.body; parts = h.parts; none = h.none }

known-same : (W : World) (A : Around) (vs : Bound) (r : Scope) (G : Knowns) (e : Entry) → known_of W (with_bound A vs r G) e ≡ known_of W A e
known-same W A vs r G (Constructor s n y) = refl
known-same W A vs r G (Reference s) = refl
known-same W A vs r G (Initial s n) = refl
known-same W A vs r G (Primitive s q) = refl
known-same W A vs r G (Raised n a) = refl
known-same W A vs r G (Single t n) = refl
known-same W A vs r G (Own t n) = refl
known-same W A vs r G (General l t n true) = refl
known-same W A vs r G (General l t n false) = refl

-- types and structures stay

joined-none : {K V : Type 0} (same : K → K → Bool) (m : Map K V) → joined same m [] ≡ m
joined-none same [] = refl
joined-none same (e ∷ m) = ap (λ l. e ∷ l) (joined-none same m)

structures-same : (ss : Structures) → structures_of (structure_map ss) ≡ ss
structures-same static.no_structures = refl
structures-same (static.structure x e ss) = ap (static.structure x e) (structures-same ss)

singles-at : (vs : Bound) (x : Vid) → lookup (same_vid x) (singles vs) ≡ option_map single (lookup (same_vid x) vs)
singles-at [] x = refl
singles-at (v ∷ vs) x = by (same_vid x v.0) (singles-at vs x)
  where
    by : (b : Bool) → lookup (same_vid x) (singles vs) ≡ option_map single (lookup (same_vid x) vs)
        → cond b (Some (single v.1)) (lookup (same_vid x) (singles vs)) ≡ option_map single (cond b (Some v.1) (lookup (same_vid x) vs))
    by true h = refl
    by false h = h

types-apart : (vs us : static.Values) (ts : Map ℕ static.TypeStructure) (ss : Structures) (qs : List ℕ) (x : ℕ)
    → option_map (λ y. y.function) (type_in (static.env vs ts ss) qs x) ≡ option_map (λ y. y.function) (type_in (static.env us ts ss) qs x)
types-apart vs us ts ss [] x = refl
types-apart vs us ts ss (q ∷ qs) x = refl

typed-onto : (s : Scope) (bs : List BoundVariable) (x : ℕ) → typed_in (scope_onto s bs) x ≡ typed_in s x
typed-onto s [] x = refl
typed-onto s (b ∷ bs) x = typed-onto (scoped b.vid (variable b.number) s) bs x

pub inside-onto : (s : Scope) (bs : List BoundVariable) (q : ℕ) → inside_in (scope_onto s bs) q ≡ inside_in s q
inside-onto s [] q = refl
inside-onto s (b ∷ bs) q = inside-onto (scoped b.vid (variable b.number) s) bs q

-- all that it tells
module _ (C : Context) (W : World) (A : Around) (bs : List BoundVariable) (k j : ℕ) (G : Knowns) (t : Tells C W A)
    (b : Binding A k j A.known G (bound_of W bs) (scope_of bs)) (d : AreDistinct (bound_in (bound_of W bs))) (uses : AllByRecursion (λ b. IsInUse A (type_of W b.ty)) bs)
    (older : (x : LongVid) (e : Entry) (n : ℕ) (v : Known) → entry_in C x.qualifiers x.vid ≡ Some e → known_of W A e ≡ Some (n, v) → n < k) where
  abbrev there : Around
  there = with_bound A (bound_of W bs) (scope_of bs) G

  values-of : (qs : List ℕ) (x : Vid) → kept_in there.env (record { qualifiers = qs; vid = x }) ≡ option_map (kept_of (within C bs) W) (entry_in (within C bs) qs x)
  values-of [] x =
      at-joined same_vid vid-tells A.env.values (singles (bound_of W bs)) x
      ∙ ap₂ option_or (singles-at (bound_of W bs) x ∙ ap (option_map single) (lookup-of W bs x d)) (t.values (record { qualifiers = []; vid = x }))
      ∙ by (latest bs x) (entry_of C.values x) ∙ ap (option_map (kept_of (within C bs) W)) (sym (entry-of C.values bs x))
    where
      by : (o : Option BoundVariable) (p : Option Entry) → option_or (option_map single (option_map (λ b. type_of W b.ty) o)) (option_map (kept_of C W) p)
          ≡ option_map (kept_of (within C bs) W) (option_or (option_map (λ b. Single b.ty b.number) o) p)
      by None p = kept-same-if C bs W p
      by (Some b) p = refl
  values-of (q ∷ []) x =
      ap₂ (λ ts ss. option_map given (static.long_value_in (static.env [] ts ss) (record { qualifiers = q ∷ []; vid = x }))) (joined-none nat_eq A.env.types)
      (ap structures_of (joined-none nat_eq (structure_map A.env.structures)) ∙ structures-same A.env.structures)
      ∙ t.values (record { qualifiers = q ∷ []; vid = x }) ∙ kept-same-if C bs W (entry_in C (q ∷ []) x)
  values-of (q ∷ r ∷ qs) x =
      ap₂ (λ ts ss. option_map given (static.long_value_in (static.env [] ts ss) (record { qualifiers = q ∷ r ∷ qs; vid = x }))) (joined-none nat_eq A.env.types)
      (ap structures_of (joined-none nat_eq (structure_map A.env.structures)) ∙ structures-same A.env.structures)
      ∙ t.values (record { qualifiers = q ∷ r ∷ qs; vid = x })

  denotes-at : (qs : List ℕ) (x : Vid) → long_denotes_in there.scope (record { qualifiers = qs; vid = x }) ≡ option_map denotes_of (entry_in (within C bs) qs x)
  denotes-at [] x =
      ap (λ s. denotes_in s x) (sym (onto-plus A.scope bs)) ∙ denotes-of A.scope bs x ∙ ap (option_or (option_map (λ b. variable b.number) (latest bs x))) (t.denotes (record { qualifiers = []; vid = x }))
      ∙ by (latest bs x) (entry_of C.values x) ∙ ap (option_map denotes_of) (sym (entry-of C.values bs x))
    where
      by : (o : Option BoundVariable) (p : Option Entry) → option_or (option_map (λ b. variable b.number) o) (option_map denotes_of p)
          ≡ option_map denotes_of (option_or (option_map (λ b. Single b.ty b.number) o) p)
      by None p = refl
      by (Some b) p = refl
  denotes-at (q ∷ []) x = along q [] x ∙ t.denotes (record { qualifiers = q ∷ []; vid = x })
    where
      along : (q : ℕ) (qs : List ℕ) (x : Vid) → long_denotes_in there.scope (record { qualifiers = q ∷ qs; vid = x }) ≡ long_denotes_in A.scope (record { qualifiers = q ∷ qs; vid = x })
      along q qs x = ap (λ o. option_and_then (λ d. denotes_in d x) (option_and_then (λ d. along_scope d qs) o)) (ap (λ s. inside_in s q) (sym (onto-plus A.scope bs)) ∙ inside-onto A.scope bs q)
  denotes-at (q ∷ r ∷ qs) x = along q (r ∷ qs) x ∙ t.denotes (record { qualifiers = q ∷ r ∷ qs; vid = x })
    where
      along : (q : ℕ) (qs : List ℕ) (x : Vid) → long_denotes_in there.scope (record { qualifiers = q ∷ qs; vid = x }) ≡ long_denotes_in A.scope (record { qualifiers = q ∷ qs; vid = x })
      along q qs x = ap (λ o. option_and_then (λ d. denotes_in d x) (option_and_then (λ d. along_scope d qs) o)) (ap (λ s. inside_in s q) (sym (onto-plus A.scope bs)) ∙ inside-onto A.scope bs q)

  -- a short identifier is new or as before
  short-entry : (x : Vid) (e : Entry) (P : Entry → Type 0) → entry_in (within C bs) [] x ≡ Some e → ((b : BoundVariable) → latest bs x ≡ Some b → P (Single b.ty b.number))
      → (entry_in C [] x ≡ Some e → P e) → P e
  short-entry x e P h new old = by (latest bs x) refl (sym (entry-of C.values bs x) ∙ h)
    where
      by : (o : Option BoundVariable) → latest bs x ≡ o → option_or (option_map (λ b. Single b.ty b.number) o) (entry_of C.values x) ≡ Some e → P e
      by None q h = old h
      by (Some b) q h = let same : Single b.ty b.number ≡ e = cc in subst P same (new b q)

  fit-at : (qs : List ℕ) (x : Vid) (e : Entry) → entry_in (within C bs) qs x ≡ Some e → IsFit (within C bs) W there e
  fit-at [] x e h =
      short-entry x e (IsFit (within C bs) W there) h
      (λ b q. in-use A (bound_of W bs) (scope_of bs) G (type_of W b.ty) (latest-among (λ b. IsInUse A (type_of W b.ty)) bs x b uses q))
      (λ h. fit-same C bs W A (bound_of W bs) (scope_of bs) G e (t.fit (record { qualifiers = []; vid = x }) e h))
  fit-at (q ∷ []) x e h = fit-same C bs W A (bound_of W bs) (scope_of bs) G e (t.fit (record { qualifiers = q ∷ []; vid = x }) e h)
  fit-at (q ∷ r ∷ qs) x e h = cc

  old-known : (x : LongVid) (e : Entry) (n : ℕ) (v : Known) → entry_in C x.qualifiers x.vid ≡ Some e → known_of W there e ≡ Some (n, v) → checked.at G n ≡ Some v
  old-known x e n v h q =
      let p = sym (known-same W A (bound_of W bs) (scope_of bs) G e) ∙ q in
      b.older n (older x e n v h p) ∙ t.known x e n v h p

  new-known : (x : Vid) (a : BoundVariable) → latest bs x ≡ Some a → checked.at G a.number ≡ Some (of_type (as_typed A (type_of W a.ty)))
  new-known x a q =
      let known = b.known d x in
      let at : IsKnown A k j G (Some (variable a.number)) (Some (type_of W a.ty)) =
      subst (λ o. IsKnown A k j G o (Some (type_of W a.ty))) (denotes-of empty bs x ∙ ap (λ o. option_or (option_map (λ (b : BoundVariable). variable b.number) o) None) q)
      (subst (IsKnown A k j G (denotes_in (scope_of bs) x)) (lookup-of W bs x d ∙ ap (option_map (λ (b : BoundVariable). type_of W b.ty)) q) known) in
      at.1.1

  known-at : (qs : List ℕ) (x : Vid) (e : Entry) (n : ℕ) (v : Known) → entry_in (within C bs) qs x ≡ Some e → known_of W there e ≡ Some (n, v) → checked.at G n ≡ Some v
  known-at [] x e n v h =
      short-entry x e (λ e. known_of W there e ≡ Some (n, v) → checked.at G n ≡ Some v) h
      (λ a q s.
      let pair : (a.number, of_type (as_typed A (type_of W a.ty))) ≡ (n, v) = cc in
      subst (λ m. checked.at G m ≡ Some v) (ap (λ (z : ℕ × Known). z.0) pair) (new-known x a q ∙ ap Some (ap (λ (z : ℕ × Known). z.1) pair)))
      (λ h. old-known (record { qualifiers = []; vid = x }) e n v h)
  known-at (q ∷ []) x e n v h = old-known (record { qualifiers = q ∷ []; vid = x }) e n v h
  known-at (q ∷ r ∷ qs) x e n v h = λ s. cc

  pub tells_within : Tells (within C bs) W there
  tells_within = record {
    names = t.names;
    number = t.number;
    numbers = t.numbers;
    initial = t.initial;
    built = t.built;
    parameters = t.parameters;
    values = λ x. values-of x.qualifiers x.vid;
    denotes = λ x. denotes-at x.qualifiers x.vid;
    fit = λ x e h. fit-at x.qualifiers x.vid e h;
    known = λ x e n v h. known-at x.qualifiers x.vid e n v h;
    tyvars = t.tyvars;
    types = λ qs x.
        ap₂ (λ ts ss. option_map (λ y. y.function) (type_in (static.env (values_under var (joined same_vid A.env.values (singles (bound_of W bs)))) ts ss) qs x)) (joined-none nat_eq A.env.types)
        (ap structures_of (joined-none nat_eq (structure_map A.env.structures)) ∙ structures-same A.env.structures)
        ∙ types-apart (values_under var (joined same_vid A.env.values (singles (bound_of W bs)))) (values_under var A.env.values) A.env.types A.env.structures qs x ∙ t.types qs x;
    constructors = λ x e h.
        has_constructors_still C (within C bs) W W A there e (lookup (nat_eq x) A.env.types) (lookup (nat_eq x) there.env.types) (typed_in A.scope x) (typed_in there.scope x)
        (begins-same C.schemes.items C.schemes.items refl) (λ d f. kept-same C bs W d) (λ d f. fit-same C bs W A (bound_of W bs) (scope_of bs) G d f) (ap (lookup (nat_eq x)) (joined-none nat_eq A.env.types))
        (ap (λ s. typed_in s x) (sym (onto-plus A.scope bs)) ∙ typed-onto A.scope bs x) (t.constructors x e h);
    structures = λ q k h.
        let ss = A.env.structures in
        has_contents_still C (within C bs) q (contents_at C k) (contents_at C k) (lookup (nat_eq q) (structure_map ss)) (lookup (nat_eq q) (structure_map there.env.structures))
        (inside_in A.scope q) (inside_in there.scope q) refl (λ x. refl)
        (ap (λ l. lookup (nat_eq q) (structure_map l)) (ap structures_of (joined-none nat_eq (structure_map ss)) ∙ structures-same ss))
        (ap (λ s. inside_in s q) (sym (onto-plus A.scope bs)) ∙ inside-onto A.scope bs q) (t.structures q k h);
    over = over_within W A bs (scope_of bs) G t.over uses;
  }

-- one variable more

pub with-snoc : (s : VidScope Entry) (es : List (Vid × Entry)) (e : Vid × Entry) → with_entries s (es ++ e ∷ []) ≡ with_entry (with_entries s es) e.0 e.1
with-snoc s [] e = refl
with-snoc s (d ∷ es) e = with-snoc (with_entry s d.0 d.1) es e

pub within-next : (C : Context) (bs : List BoundVariable) (i : ℕ) (b : BoundVariable) (old new : Context) (s : VidScope Entry) → i < length bs → b ≡ get_or bs i b
    → old ≡ within C (take i bs) → s ≡ with_entry old.values b.vid (Single b.ty b.number) → new ≡ record old { values = s } → new ≡ within C (take (i + 1) bs)
within-next C bs i b old new s lt is e q n =
    let up : suc i ≡ i + 1 = omega arith in
    n ∙ ap₂ (λ (k : Context) (v : VidScope Entry). record k { values = v }) e (q ∙ ap (λ (k : Context). with_entry k.values b.vid (Single b.ty b.number)) e)
    ∙ ap (λ (v : VidScope Entry). record C { values = v })
    (sym (with-snoc C.values (entries_of (take i bs)) (b.vid, Single b.ty b.number)) ∙ ap (with_entries C.values) (sym (map-append (λ (b : BoundVariable). (b.vid, Single b.ty b.number)) (take i bs) (b ∷ [])))
    ∙ ap (λ l. with_entries C.values (entries_of l)) (ap (λ (z : BoundVariable). take i bs ++ z ∷ []) is ∙ sym (take-suc bs i b lt) ∙ ap (λ j. take j bs) up))
