-- A context without the structure `Prim`, after declarations.
use Rattle.std.proofs.Common.{◌≡◌, ◌≤◌, ℕ, List, [], ◌∷◌, take, length, nat_eq, Some, None, sym, ap, ap₂, ◌∙◌, arith}
use Rattle.std.specs.Prelude.{option_and_then}
use Rattle.std.specs.Map.{lookup}
use Rattle.sml_tree.specs.declared.ident.Vid.{Vid}
use Rattle.elab_types.specs.Reading.{left_at}
use Rattle.elab_types.specs.declared.scope.TypeEntry.{TypeEntry}
use Rattle.elab_state.specs.declared.state.State.{State}
use Rattle.elab_steps.specs.Growing.{Begins, Grows}
use Rattle.elab_context.specs.Entries.{entry_in, member_in}
use Rattle.elab_context.specs.Numbered.{IsBelowIf}
use Rattle.elab_context.specs.Telling.{IsContext, IsHeld}
use Rattle.elab_context.specs.declared.context.Context.{Context}
use Rattle.elab_context.specs.declared.entry.Entry.{Entry}
use Rattle.elab_context.specs.declared.entry.Entry.TheVariants.{Constructor, Reference, Initial, Primitive, Raised, Single, Own, General}
use Rattle.elab_context.proofs.Reading.{context_later}
use Rattle.elab_finish.specs.of_basis_context.Basis.{without_prim}
use Rattle.run_end.specs.of_dec_forms.Entries.{Adds}

-- declarations add the same
pub adds_hidden : (C D : Context) (es : List (Vid × Entry)) (ts : List (ℕ × TypeEntry)) → Adds C D es ts → Adds (without_prim C) (without_prim D) es ts
adds_hidden C D es ts a = record {
  values = a.values;
  structures = ap (left_at 1) a.structures;
  members = a.members;
  tyvars = a.tyvars;
  types = a.types;
  schemes = a.schemes;
  level = a.level;
  rest = ap without_prim a.rest;
  numbers = record { own = a.numbers.own; is = a.numbers.is };
}

-- what is held with fewer schemes is held
held-wider : (T : State) (C E : Context) (e : Entry) → length C.schemes.items ≤ length E.schemes.items → IsHeld T C e → IsHeld T E e
held-wider T C E (Constructor s n y) le h = omega (arith, le, h)
held-wider T C E (Reference s) le h = omega (arith, le, h)
held-wider T C E (Initial s n) le h = omega (arith, le, h)
held-wider T C E (Primitive s q) le h = omega (arith, le, h)
held-wider T C E (Raised n None) le h = h
held-wider T C E (Raised n (Some k)) le h = h
held-wider T C E (Single t n) le h = h
held-wider T C E (Own t n) le h = h
held-wider T C E (General l t n o) le h = h

longer-list : {A : Type 0} (xs ys : List A) → Begins xs ys → length xs ≤ length ys
longer-list [] ys e = omega arith
longer-list (x ∷ xs) [] e = cc
longer-list (x ∷ xs) (y ∷ ys) e = let h : take (length xs) ys ≡ xs = cc in let k = longer-list xs ys h in omega (arith, k)

-- what the remaining structures have was there before
module _ (S T : State) (C D : Context) (es : List (Vid × Entry)) (ts : List (ℕ × TypeEntry)) (g : Grows S T) (i : IsContext S (without_prim C)) (a : Adds C D es ts) (j : IsContext T D) where
  later : IsContext T (without_prim C)
  later = context_later S T (without_prim C) g i

  long-is : (q : ℕ) (x : Vid) → entry_in (without_prim D) (q ∷ []) x ≡ entry_in (without_prim C) (q ∷ []) x
  long-is q x = ap₂ (λ (s : List (ℕ × ℕ)) ms. option_and_then (λ k. member_in ms k x) (lookup (nat_eq q) (left_at 1 s))) a.structures a.members

  entry-held : (qs : List ℕ) (x : Vid) (e : Entry) → entry_in (without_prim D) qs x ≡ Some e → IsHeld T (without_prim D) e
  entry-held [] x e h = held-wider T D (without_prim D) e (omega arith) (j.entries [] x e h)
  entry-held (q ∷ []) x e h =
      held-wider T (without_prim C) (without_prim D) e (longer-list C.schemes.items D.schemes.items a.schemes) (later.entries (q ∷ []) x e (sym (long-is q x) ∙ h))
  entry-held (q ∷ r ∷ qs) x e h = cc

  entry-below : (qs : List ℕ) (x : Vid) (e : Entry) → entry_in (without_prim D) qs x ≡ Some e → IsBelowIf T.next e
  entry-below [] x e h = j.numbered [] x e h
  entry-below (q ∷ []) x e h = later.numbered (q ∷ []) x e (sym (long-is q x) ∙ h)
  entry-below (q ∷ r ∷ qs) x e h = cc

  pub context_hidden : IsContext T (without_prim D)
  context_hidden = record {
    wide = j.wide;
    deep = j.deep;
    naming = j.naming;
    holds = j.holds;
    known = j.known;
    schemes = j.schemes;
    entries = entry-held;
    numbered = entry-below;
    live = j.live;
    level = j.level;
    tidy = j.tidy;
  }
