-- The functions of a group in scope.
use Rattle.std.proofs.Common.{◌≡◌, ◌<◌, ◌≤◌, ◌+◌, ℕ, suc, List, [], ◌∷◌, ◌++◌, length, take, get_or, refl, sym, ap, ap₂, subst, ◌∙◌, arith}
use Rattle.std.specs.Prelude.{reverse}
use Rattle.std.specs.List.{AllByRecursion}
use Rattle.std.proofs.lemmas.List.{map-append}
use Rattle.std.proofs.Math.Seq.{take-suc}
use Rattle.sml_tree.specs.declared.ident.Vid.{Vid}
use Rattle.vid_scope.specs.Entries.{with_entries, with_entry}
use Rattle.vid_scope.specs.declared.vids.VidScope.{VidScope}
use Rattle.elab_state.specs.declared.state.State.{State}
use Rattle.elab_context.specs.Numbered.{IsBelowIf}
use Rattle.elab_context.specs.Telling.{IsContext, IsHeld}
use Rattle.elab_context.specs.declared.context.Context.{Context}
use Rattle.elab_context.specs.declared.entry.Entry.{Entry}
use Rattle.elab_context.specs.declared.entry.Entry.TheVariants.{Own}
use Rattle.dec_forms.specs.of_pat_elab.Elaborated.{AreVariables}
use Rattle.dec_forms.specs.of_pat_elab.declared.bound.BoundVariable.{BoundVariable}
use Rattle.dec_forms.proofs.of_exp_forms.Entering.{context_with}
use Rattle.dec_forms.proofs.of_exp_forms.Within.{with-snoc}
use Rattle.dec_forms.specs.Telling.{with_all}
use Rattle.rec_groups.specs.Heads.{own_entries, rising, with_own}
use Rattle.rec_groups.specs.declared.head.Head.{Head}
use Rattle.rec_groups.proofs.Reserving.{reverse-last}

-- entries behind others
with-both : (s : VidScope Entry) (es ds : List (Vid × Entry)) → with_entries s (es ++ ds) ≡ with_entries (with_entries s es) ds
with-both s [] ds = refl
with-both s (e ∷ es) ds = with-both (with_entry s e.0 e.1) es ds

pub all-both : (C : Context) (es ds : List (Vid × Entry)) → with_all C (es ++ ds) ≡ with_all (with_all C es) ds
all-both C es ds = ap (λ (v : VidScope Entry). record C { values = v }) (with-both C.values es ds)

own-both : (bs cs : List BoundVariable) → own_entries (bs ++ cs) ≡ own_entries bs ++ own_entries cs
own-both bs cs = map-append (λ (b : BoundVariable). (b.vid, Own b.ty b.number)) bs cs

-- one variable more
pub own-next : (C : Context) (bs : List BoundVariable) (i : ℕ) (b : BoundVariable) (old new : Context) (s : VidScope Entry) → i < length bs → b ≡ get_or bs i b
    → old ≡ with_all C (own_entries (take i bs)) → s ≡ with_entry old.values b.vid (Own b.ty b.number) → new ≡ record old { values = s } → new ≡ with_all C (own_entries (take (i + 1) bs))
own-next C bs i b old new s lt is e q n =
    let up : suc i ≡ i + 1 = omega arith in
    n ∙ ap₂ (λ (k : Context) (v : VidScope Entry). record k { values = v }) e (q ∙ ap (λ (k : Context). with_entry k.values b.vid (Own b.ty b.number)) e)
    ∙ ap (λ (v : VidScope Entry). record C { values = v }) (sym (with-snoc C.values (own_entries (take i bs)) (b.vid, Own b.ty b.number)) ∙ ap (with_entries C.values) (sym (own-both (take i bs) (b ∷ []))))
    ∙ ap (λ l. with_all C (own_entries l)) (ap (λ (z : BoundVariable). take i bs ++ z ∷ []) is ∙ sym (take-suc bs i b lt) ∙ ap (λ j. take j bs) up)

-- one head more, where the last function's comes first
pub heads-next : (C : Context) (hs : List Head) (i : ℕ) (h : Head) (old new : Context) → i < length hs → h ≡ get_or hs i h → old ≡ with_own C (reverse (take i hs))
    → new ≡ with_all old (own_entries h.variables.items) → new ≡ with_own C (reverse (take (i + 1) hs))
heads-next C hs i h old new lt is e n =
    let up : suc i ≡ i + 1 = omega arith in
    n ∙ ap (λ k. with_all k (own_entries h.variables.items)) e ∙ sym (all-both C (own_entries (rising (reverse (take i hs)))) (own_entries h.variables.items))
    ∙ ap (with_all C) (sym (own-both (rising (reverse (take i hs))) h.variables.items))
    ∙ ap (λ l. with_own C l) (sym (reverse-last (take i hs) h) ∙ ap reverse (ap (λ (z : Head). take i hs ++ z ∷ []) is ∙ sym (take-suc hs i h lt) ∙ ap (λ j. take j hs) up))

-- what a state has of them

pub all-joined : {A : Type 0} (P : A → Type 0) (xs ys : List A) → AllByRecursion P xs → AllByRecursion P ys → AllByRecursion P (xs ++ ys)
all-joined P [] ys h k = k
all-joined P (x ∷ xs) ys h k = (h.0, all-joined P xs ys h.1 k)

pub all-reversed : {A : Type 0} (P : A → Type 0) (xs : List A) → AllByRecursion P xs → AllByRecursion P (reverse xs)
all-reversed P [] h = tt
all-reversed P (x ∷ xs) h = subst (AllByRecursion P) (sym (Rattle.std.proofs.lemmas.List.reverse-append (x ∷ []) xs)) (all-joined P (reverse xs) (x ∷ []) (all-reversed P xs h.1) (h.0, tt))

pub rising-all : (P : BoundVariable → Type 0) (hs : List Head) → AllByRecursion (λ h. AllByRecursion P h.variables.items) hs → AllByRecursion P (rising hs)
rising-all P [] k = tt
rising-all P (h ∷ hs) k = all-joined P (rising hs) h.variables.items (rising-all P hs k.1) k.0

each-own : (P : Entry → Type 0) (bs : List BoundVariable) → AllByRecursion (λ b. P (Own b.ty b.number)) bs → AllByRecursion (λ (e : Vid × Entry). P e.1) (own_entries bs)
each-own P [] h = tt
each-own P (b ∷ bs) h = (h.0, each-own P bs h.1)

pub context_own : (S : State) (C D : Context) (hs : List Head) → D ≡ with_own C (reverse hs) → IsContext S C → AllByRecursion (λ h. AreVariables S h.variables.items) hs → IsContext S D
context_own S C D hs q i h =
    let vars = rising (reverse hs) in
    let all : AreVariables S vars = rising-all (Rattle.dec_forms.specs.of_pat_elab.Elaborated.HasVariable S) (reverse hs) (all-reversed (λ h. AreVariables S h.variables.items) hs h) in
    context_with S C D (own_entries vars) i (each-own (IsHeld S C) vars (held vars all)) (each-own (IsBelowIf S.next) vars (below vars all)) q
  where
    held : (bs : List BoundVariable) → AreVariables S bs → AllByRecursion (λ b. IsHeld S C (Own b.ty b.number)) bs
    held [] h = tt
    held (b ∷ bs) h = (h.0.is, held bs h.1)

    below : (bs : List BoundVariable) → AreVariables S bs → AllByRecursion (λ b. IsBelowIf S.next (Own b.ty b.number)) bs
    below [] h = tt
    below (b ∷ bs) h = ((λ n q. let same : b.number ≡ n = cc in let lt = h.0.below in omega (arith, same, lt)), below bs h.1)

-- all heads
pub heads-all : (C : Context) (hs : List Head) (i : ℕ) (new : Context) → length hs ≤ i → new ≡ with_own C (reverse (take i hs)) → new ≡ with_own C (reverse hs)
heads-all C hs i new le e = e ∙ ap (λ l. with_own C (reverse l)) (all hs i le)
  where
    all : (hs : List Head) (i : ℕ) → length hs ≤ i → take i hs ≡ hs
    all [] ℕ.zero le = refl
    all [] (suc i) le = refl
    all (h ∷ hs) ℕ.zero le = absurd (omega (arith, le))
    all (h ∷ hs) (suc i) le = ap (λ l. h ∷ l) (all hs i (omega (arith, le)))
