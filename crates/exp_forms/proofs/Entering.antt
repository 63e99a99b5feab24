-- A context with the variables of a pattern.
use Rattle.std.proofs.Common.{◌≡◌, ℕ, Bool, true, false, cond, List, [], ◌∷◌, Some, None, refl, sym, ap, subst, ◌∙◌, arith}
use Rattle.std.specs.Prelude.{option_map}
use Rattle.std.specs.List.{AllByRecursion}
use Rattle.sml_tree.specs.declared.ident.Vid.{Vid}
use Rattle.core_rules.specs.Words.{same_vid}
use Rattle.vid_scope.specs.Entries.{entry_of, with_entries, with_entry}
use Rattle.vid_scope.specs.declared.vids.VidScope.{VidScope}
use Rattle.vid_scope.proofs.Latest.{latest_found}
use Rattle.ir_poly.specs.TestsChecked.{Known}
use Rattle.elab_typed.specs.Contexts.{Around}
use Rattle.pat_elab.specs.of_elab_state.declared.state.State.{State}
use Rattle.pat_elab.specs.of_elab_steps.Growing.{Grows}
use Rattle.pat_elab.specs.of_elab_steps.World.{World}
use Rattle.pat_elab.specs.of_elab_context.Entries.{entry_in}
use Rattle.pat_elab.specs.of_elab_context.Telling.{IsContext, IsHeld, known_of}
use Rattle.pat_elab.specs.of_elab_context.declared.context.Context.{Context}
use Rattle.pat_elab.specs.of_elab_context.declared.entry.Entry.{Entry}
use Rattle.pat_elab.specs.of_elab_context.declared.entry.Entry.TheVariants.{Constructor, Reference, Initial, Primitive, Raised, Single, Own, General}
use Rattle.pat_elab.proofs.of_elab_context.Reading.{context_later}
use Rattle.pat_elab.specs.Elaborated.{AreVariables}
use Rattle.pat_elab.specs.declared.bound.BoundVariable.{BoundVariable}
use Rattle.exp_forms.specs.Within.{entries_of, within}
use Rattle.pat_elab.specs.of_elab_context.Numbered.{number_of, IsBelowIf}

-- what holds of all that is in scope holds with one more

abbrev InScope : (Entry → Type 0) → Context → Type 0
InScope P C = (qs : List ℕ) (x : Vid) (e : Entry) → entry_in C qs x ≡ Some e → P e

one-more : (P : Entry → Type 0) (C : Context) (x : Vid) (v : Entry) → P v → InScope P C → InScope P (record C { values = with_entry C.values x v })
one-more P C x v h k [] y e q = by (same_vid y x) (sym (latest_found C.values (with_entry C.values x v) x v refl y) ∙ q)
  where
    by : (b : Bool) → cond b (Some v) (entry_of C.values y) ≡ Some e → P e
    by true s = let same : v ≡ e = cc in subst P same h
    by false s = k [] y e s
one-more P C x v h k (q ∷ []) y e s = k (q ∷ []) y e s
one-more P C x v h k (q ∷ r ∷ qs) y e s = k (q ∷ r ∷ qs) y e s

all-more : (P : Entry → Type 0) (C : Context) (es : List (Vid × Entry)) → AllByRecursion (λ (e : Vid × Entry). P e.1) es → InScope P C
    → InScope P (record C { values = with_entries C.values es })
all-more P C [] h k = k
all-more P C (e ∷ es) h k = all-more P (record C { values = with_entry C.values e.0 e.1 }) es h.1 (one-more P C e.0 e.1 h.0 k)

held-same : (S : State) (C : Context) (v : VidScope Entry) (e : Entry) → IsHeld S C e → IsHeld S (record C { values = v }) e
held-same S C v (Constructor s n y) h = h
held-same S C v (Reference s) h = h
held-same S C v (Initial s n) h = h
held-same S C v (Primitive s q) h = h
held-same S C v (Raised n None) h = h
held-same S C v (Raised n (Some k)) h = h
held-same S C v (Single t n) h = h
held-same S C v (Own t n) h = h
held-same S C v (General l t n o) h = h

pub context_with : (S : State) (C D : Context) (es : List (Vid × Entry)) → IsContext S C → AllByRecursion (λ (e : Vid × Entry). IsHeld S C e.1) es
    → AllByRecursion (λ (e : Vid × Entry). IsBelowIf S.next e.1) es → D ≡ record C { values = with_entries C.values es } → IsContext S D
context_with S C D es i h b q = subst (IsContext S) (sym q) (record {
  wide = i.wide;
  deep = i.deep;
  naming = i.naming;
  holds = i.holds;
  known = i.known;
  schemes = i.schemes;
  entries = λ qs x e f. held-same S C (with_entries C.values es) e (all-more (IsHeld S C) C es h i.entries qs x e f);
  numbered = all-more (IsBelowIf S.next) C es b i.numbered;
  live = i.live;
  level = i.level;
  tidy = i.tidy;
})

each-single : (P : Entry → Type 0) (bs : List BoundVariable) → AllByRecursion (λ b. P (Single b.ty b.number)) bs → AllByRecursion (λ (e : Vid × Entry). P e.1) (entries_of bs)
each-single P [] h = tt
each-single P (b ∷ bs) h = (h.0, each-single P bs h.1)

pub context_within : (S T : State) (C D : Context) (bs : List BoundVariable) → Grows S T → IsContext S C → AreVariables S bs → D ≡ within C bs → IsContext T D
context_within S T C D bs g i h q =
    context_later S T D g
    (context_with S C D (entries_of bs) i (each-single (IsHeld S C) bs (held bs h)) (each-single (IsBelowIf S.next) bs (below bs h)) q)
  where
    held : (bs : List BoundVariable) → AreVariables S bs → AllByRecursion (λ b. IsHeld S C (Single b.ty b.number)) bs
    held [] h = tt
    held (b ∷ bs) h = (h.0.is, held bs h.1)

    below : (bs : List BoundVariable) → AreVariables S bs → AllByRecursion (λ b. IsBelowIf S.next (Single b.ty b.number)) bs
    below [] h = tt
    below (b ∷ bs) h = ((λ n q. let same : b.number ≡ n = cc in let lt = h.0.below in omega (arith, same, lt)), below bs h.1)

-- numbers

-- what is known of an identifier's variable is known of its number
pub number-known : (W : World) (A : Around) (e : Entry) (n : ℕ) (v : Known) → known_of W A e ≡ Some (n, v) → number_of e ≡ Some n
number-known W A (Constructor s m y) n v q = ap (option_map (λ (z : ℕ × Known). z.0)) q
number-known W A (Reference s) n v q = ap (option_map (λ (z : ℕ × Known). z.0)) q
number-known W A (Initial s m) n v q = ap (option_map (λ (z : ℕ × Known). z.0)) q
number-known W A (Primitive s p) n v q = ap (option_map (λ (z : ℕ × Known). z.0)) q
number-known W A (Raised m a) n v q = ap (option_map (λ (z : ℕ × Known). z.0)) q
number-known W A (Single t m) n v q = ap (option_map (λ (z : ℕ × Known). z.0)) q
number-known W A (Own t m) n v q = ap (option_map (λ (z : ℕ × Known). z.0)) q
number-known W A (General l t m true) n v q = ap (option_map (λ (z : ℕ × Known). z.0)) q
number-known W A (General l t m false) n v q = ap (option_map (λ (z : ℕ × Known). z.0)) q
