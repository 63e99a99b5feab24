-- Entries that come into scope one by one.
use Rattle.std.proofs.Common.{◌≡◌, ◌<◌, ◌+◌, ℕ, List, [], ◌∷◌, ◌++◌, length, take, get_or, refl, sym, ap, ap₂, ◌∙◌, arith}
use Rattle.std.proofs.Math.Seq.{take-suc}
use Rattle.sml_tree.specs.declared.ident.Vid.{Vid}
use Rattle.vid_scope.specs.Entries.{with_entry, with_entries}
use Rattle.vid_scope.specs.declared.vids.VidScope.{VidScope}
use Rattle.elab_types.specs.declared.scope.TypeEntry.{TypeEntry}
use Rattle.elab_types.specs.declared.scope.TypeScope.{TypeScope}
use Rattle.exp_forms.specs.of_elab_context.declared.context.Context.{Context}
use Rattle.exp_forms.specs.of_elab_context.declared.entry.Entry.{Entry}
use Rattle.dec_forms.specs.Telling.{with_all}
use Rattle.dec_forms.specs.Entries.{types_onto, type_scope, with_types}

with-snoc : (s : VidScope Entry) (es : List (Vid × Entry)) (e : Vid × Entry) → with_entries s (es ++ e ∷ []) ≡ with_entry (with_entries s es) e.0 e.1
with-snoc s [] e = refl
with-snoc s (d ∷ es) e = with-snoc (with_entry s d.0 d.1) es e

take-next : {A : Type 0} (xs : List A) (i : ℕ) (x : A) → i < length xs → x ≡ get_or xs i x → take i xs ++ x ∷ [] ≡ take (i + 1) xs
take-next xs i x lt is =
    let up : ℕ.suc i ≡ i + 1 = omega arith in ap (λ z. take i xs ++ z ∷ []) is ∙ sym (take-suc xs i x lt) ∙ ap (λ j. take j xs) up

pub values-next : (C : Context) (es : List (Vid × Entry)) (i : ℕ) (e : Vid × Entry) (old new : Context) (s : VidScope Entry) → i < length es → e ≡ get_or es i e
    → old ≡ with_all C (take i es) → s ≡ with_entry old.values e.0 e.1 → new ≡ record old { values = s } → new ≡ with_all C (take (i + 1) es)
values-next C es i e old new s lt is h q n =
    n ∙ ap₂ (λ (k : Context) (v : VidScope Entry). record k { values = v }) h (q ∙ ap (λ (k : Context). with_entry k.values e.0 e.1) h)
    ∙ ap (λ (v : VidScope Entry). record C { values = v }) (sym (with-snoc C.values (take i es) e) ∙ ap (with_entries C.values) (take-next es i e lt is))

onto-snoc : (s ts : List (ℕ × TypeEntry)) (t : ℕ × TypeEntry) → types_onto s (ts ++ t ∷ []) ≡ t ∷ types_onto s ts
onto-snoc s [] t = refl
onto-snoc s (u ∷ ts) t = onto-snoc (u ∷ s) ts t

pub types-next : (C : Context) (ts : List (ℕ × TypeEntry)) (i : ℕ) (t : ℕ × TypeEntry) (old new : Context) (s : TypeScope) → i < length ts → t ≡ get_or ts i t
    → old ≡ with_types C (take i ts) → s.tyvars ≡ old.types.tyvars → s.types ≡ (t.0, t.1) ∷ old.types.types → new ≡ record old { types = s } → new ≡ with_types C (take (i + 1) ts)
types-next C ts i t old new s lt is h v q n =
    n ∙ ap₂ (λ (k : Context) (z : TypeScope). record k { types = z }) h
    (λ j. type_scope ((v ∙ ap (λ (k : Context). k.types.tyvars) h) j) ((q ∙ ap (λ (k : Context). (t.0, t.1) ∷ k.types.types) h) j))
    ∙ ap (λ l. record C { types = type_scope C.types.tyvars l }) (sym (onto-snoc C.types.types (take i ts) t) ∙ ap (types_onto C.types.types) (take-next ts i t lt is))
