-- Entries of a list, none of them twice.
use Rattle.std.proofs.Common.{◌≡◌, ◌⊎◌, inl, inr, ℕ, Bool, true, false, not, ◌&&◌, ◌||◌, cond, List, [], ◌∷◌, ◌++◌, Option, Some, None, nat_eq, refl, sym, ap, ap₂, subst, ◌∙◌}
use Rattle.std.specs.Prelude.{option_map}
use Rattle.std.specs.Option.{option_or}
use Rattle.std.specs.List.{AllByRecursion}
use Rattle.std.specs.Map.{lookup}
use Rattle.std.proofs.lemmas.Bool.{and_parts}
use Rattle.sml_tree.specs.declared.ident.Vid.{Vid}
use Rattle.sml_tree.specs.declared.ident.Vid.TheVariants.{Named, Equals, Fresh}
use Rattle.core_rules.specs.Restrictions.{distinct, may_construct}
use Rattle.core_rules.specs.Words.{same_vid, is_in}
use Rattle.core_rules.proofs.LookUps.{vid-tells}
use Rattle.core_elab.specs.Scopes.{Scope, empty, scoped, plus_scope, denotes_in, inside_in, typed_in}
use Rattle.closed_types.specs.of_elab_steps.World.{World}
use Rattle.exp_forms.specs.of_elab_context.Telling.{kept_of, denotes_of, kept_entries, scope_of_entries, vids_in}
use Rattle.exp_forms.specs.of_elab_context.declared.context.Context.{Context}
use Rattle.exp_forms.specs.of_elab_context.declared.entry.Entry.{Entry}
use Rattle.exp_forms.specs.of_elab_context.Entries.{last_of}
use Rattle.dec_forms.specs.Entries.{constructing_name, named_vids}

-- what holds of each

pub all-append : {A : Type 0} (P : A → Type 0) (xs : List A) (x : A) → AllByRecursion P xs → P x → AllByRecursion P (xs ++ x ∷ [])
all-append P [] x h p = (p, tt)
all-append P (y ∷ xs) x h p = (h.0, all-append P xs x h.1 p)

pub all-map : {A : Type 0} (P Q : A → Type 0) (xs : List A) → ((x : A) → P x → Q x) → AllByRecursion P xs → AllByRecursion Q xs
all-map P Q [] f h = tt
all-map P Q (x ∷ xs) f h = (f x h.0, all-map P Q xs f h.1)

pub last-among : (P : Entry → Type 0) (es : List (Vid × Entry)) (x : Vid) (e : Entry) → AllByRecursion (λ (d : Vid × Entry). P d.1) es → last_of es x ≡ Some e → P e
last-among P [] x e h q = cc
last-among P (d ∷ es) x e h q = by (last_of es x) refl (same_vid x d.0) q (last-among P es x e h.1)
  where
    by : (o : Option Entry) → last_of es x ≡ o → (b : Bool) → option_or o (cond b (Some d.1) None) ≡ Some e → (last_of es x ≡ Some e → P e) → P e
    by None s true q k = let same : d.1 ≡ e = cc in subst P same h.0
    by None s false q k = cc
    by (Some a) s b q k = let same : a ≡ e = cc in k (s ∙ ap Some same)

-- what is found

pub kept-listed : (C : Context) (W : World) (es : List (Vid × Entry)) (x : Vid) → lookup (same_vid x) (kept_entries C W es) ≡ option_map (kept_of C W) (lookup (same_vid x) es)
kept-listed C W [] x = refl
kept-listed C W (e ∷ es) x = by (same_vid x e.0) (kept-listed C W es x)
  where
    by : (b : Bool) → lookup (same_vid x) (kept_entries C W es) ≡ option_map (kept_of C W) (lookup (same_vid x) es)
        → cond b (Some (kept_of C W e.1)) (lookup (same_vid x) (kept_entries C W es)) ≡ option_map (kept_of C W) (cond b (Some e.1) (lookup (same_vid x) es))
    by true h = refl
    by false h = h

pub denotes-listed : (s : Scope) (es : List (Vid × Entry)) (x : Vid)
    → denotes_in (plus_scope s (scope_of_entries es)) x ≡ option_or (option_map denotes_of (lookup (same_vid x) es)) (denotes_in s x)
denotes-listed s [] x = refl
denotes-listed s (e ∷ es) x = by (same_vid x e.0) (denotes-listed s es x)
  where
    by : (b : Bool) → denotes_in (plus_scope s (scope_of_entries es)) x ≡ option_or (option_map denotes_of (lookup (same_vid x) es)) (denotes_in s x)
        → cond b (Some (denotes_of e.1)) (denotes_in (plus_scope s (scope_of_entries es)) x)
        ≡ option_or (option_map denotes_of (cond b (Some e.1) (lookup (same_vid x) es))) (denotes_in s x)
    by true h = refl
    by false h = h

pub alone-listed : (s : Scope) (es : List (Vid × Entry)) (q : ℕ) → inside_in (plus_scope s (scope_of_entries es)) q ≡ inside_in s q
alone-listed s [] q = refl
alone-listed s (e ∷ es) q = alone-listed s es q

pub untyped-listed : (s : Scope) (es : List (Vid × Entry)) (x : ℕ) → typed_in (plus_scope s (scope_of_entries es)) x ≡ typed_in s x
untyped-listed s [] x = refl
untyped-listed s (e ∷ es) x = untyped-listed s es x

pub scope-append : (es : List (Vid × Entry)) (e : Vid × Entry) → scope_of_entries (es ++ e ∷ []) ≡ plus_scope (scoped e.0 (denotes_of e.1) empty) (scope_of_entries es)
scope-append [] e = refl
scope-append (d ∷ es) e = ap (scoped d.0 (denotes_of d.1)) (scope-append es e)

-- the first is the last

not-so : (b : Bool) → not b ≡ true → b ≡ false
not-so true h = cc
not-so false h = refl

absent : (es : List (Vid × Entry)) (x : Vid) → is_in same_vid x (vids_in es) ≡ false → last_of es x ≡ None
absent [] x h = refl
absent (e ∷ es) x h = by (same_vid x e.0) h (absent es x)
  where
    by : (c : Bool) → (c || is_in same_vid x (vids_in es)) ≡ false → (is_in same_vid x (vids_in es) ≡ false → last_of es x ≡ None)
        → option_or (last_of es x) (cond c (Some e.1) None) ≡ None
    by true h k = cc
    by false h k = ap (λ o. option_or o None) (k h)

or-none : {A : Type 0} (o : Option A) → option_or o None ≡ o
or-none None = refl
or-none (Some a) = refl

pub last-first : (es : List (Vid × Entry)) (x : Vid) → distinct same_vid (vids_in es) ≡ true → last_of es x ≡ lookup (same_vid x) es
last-first [] x d = refl
last-first (e ∷ es) x d =
    let p = and_parts (not (is_in same_vid e.0 (vids_in es))) (distinct same_vid (vids_in es)) d in
    by (vid-tells x e.0) (absent es e.0 (not-so (is_in same_vid e.0 (vids_in es)) p.0)) (last-first es x p.1)
  where
    by : ((same_vid x e.0 ≡ true) × (x ≡ e.0)) ⊎ (same_vid x e.0 ≡ false) → last_of es e.0 ≡ None → last_of es x ≡ lookup (same_vid x) es
        → option_or (last_of es x) (cond (same_vid x e.0) (Some e.1) None) ≡ cond (same_vid x e.0) (Some e.1) (lookup (same_vid x) es)
    by (inl q) n h =
        ap₂ (λ o c. option_or o (cond c (Some e.1) None)) (ap (last_of es) q.1 ∙ n) q.0 ∙ sym (ap (λ c. cond c (Some e.1) (lookup (same_vid x) es)) q.0)
    by (inr q) n h =
        ap₂ (λ o c. option_or o (cond c (Some e.1) None)) h q ∙ or-none (lookup (same_vid x) es) ∙ sym (ap (λ c. cond c (Some e.1) (lookup (same_vid x) es)) q)

-- names that constructors may have

pub constructing-is : (x : Vid) (n : ℕ) → constructing_name x ≡ Some n → x ≡ Named n
constructing-is (Named y) n h = by (may_construct (Named y)) h
  where
    by : (b : Bool) → cond b (Some y) None ≡ Some n → Named y ≡ Named n
    by true h = let same : y ≡ n = cc in ap Named same
    by false h = cc
constructing-is Equals n h = cc
constructing-is (Fresh k) n h = cc

pub constructing-may : (x : Vid) (n : ℕ) → constructing_name x ≡ Some n → may_construct x ≡ true
constructing-may (Named y) n h = by (may_construct (Named y)) refl h
  where
    by : (b : Bool) → may_construct (Named y) ≡ b → cond b (Some y) None ≡ Some n → may_construct (Named y) ≡ true
    by true q h = q
    by false q h = cc
constructing-may Equals n h = cc
constructing-may (Fresh k) n h = cc

-- names, as identifiers

named-in : (x : ℕ) (ns : List ℕ) → is_in same_vid (Named x) (named_vids ns) ≡ is_in nat_eq x ns
named-in x [] = refl
named-in x (n ∷ ns) = ap (λ b. nat_eq x n || b) (named-in x ns)

pub named-once : (ns : List ℕ) → distinct same_vid (named_vids ns) ≡ distinct nat_eq ns
named-once [] = refl
named-once (n ∷ ns) = ap₂ (λ a b. not a && b) (named-in n ns) (named-once ns)
