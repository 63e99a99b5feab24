-- Identifiers of three kinds: what is bound among one kind leaves the others.
use Rattle.std.proofs.Common.{◌≡◌, ◌≤◌, ◌-◌, ◌+◌, ℕ, zero, suc, Bool, true, false, cond, List, [], ◌∷◌, ◌++◌, length, drop, Option, Some, nat_eq, refl, sym, ap, ap₂, subst, ◌∙◌, arith}
use Rattle.std.specs.Map.{lookup}
use Rattle.sml_tree.specs.declared.ident.Vid.{Vid}
use Rattle.sml_tree.specs.declared.ident.Vid.TheVariants.{Named, Equals, Fresh}
use Rattle.core_rules.specs.Words.{same_vid}
use Rattle.vid_scope.specs.Entries.{entry_of, with_entry, with_entries, left_of, left, mark_of, HasLatest, Undoes}
use Rattle.vid_scope.specs.declared.vids.VidMark.{VidMark}
use Rattle.vid_scope.specs.declared.vids.VidScope.{VidScope}

latest : {V : Type 0} (s : VidScope V) (x : Vid) (v : V) (y : Vid) → entry_of (with_entry s x v) y ≡ cond (same_vid y x) (Some v) (entry_of s y)
latest s (Named x) v (Named y) = refl
latest s (Named x) v (Fresh y) = refl
latest s (Named x) v Equals = refl
latest s (Fresh x) v (Named y) = refl
latest s (Fresh x) v (Fresh y) = refl
latest s (Fresh x) v Equals = refl
latest s Equals v (Named y) = refl
latest s Equals v (Fresh y) = refl
latest s Equals v Equals = refl

pub latest_found : {V : Type 0} (s t : VidScope V) (x : Vid) (v : V) → t ≡ with_entry s x v → HasLatest s x v t
latest_found s t x v e y = ap (λ t. entry_of t y) e ∙ latest s x v y

-- more in front
abbrev More : {A : Type 0} → List A → List A → Type 0
More {A} xs ys = (p : List A) × (xs ≡ p ++ ys)

more-one : {A : Type 0} (x : A) (xs ys : List A) → More xs ys → More (x ∷ xs) ys
more-one x xs ys m = (x ∷ m.0, ap (λ l. x ∷ l) m.1)

left-more : {A : Type 0} (p ys : List A) → left_of (p ++ ys) (length ys) ≡ ys
left-more [] ys = let e : length ys - length ys ≡ 0 = omega arith in ap (λ n. drop n ys) e
left-more (x ∷ p) ys = let e : suc (length (p ++ ys)) - length ys ≡ suc (length (p ++ ys) - length ys) = longer p ys in ap (λ n. drop n (x ∷ p ++ ys)) e ∙ left-more p ys
  where
    count : {A : Type 0} (p ys : List A) → length ys ≤ length (p ++ ys)
    count [] ys = omega arith
    count (x ∷ p) ys = let h = count p ys in omega (arith, h)

    longer : {A : Type 0} (p ys : List A) → suc (length (p ++ ys)) - length ys ≡ suc (length (p ++ ys) - length ys)
    longer p ys = let h = count p ys in omega (arith, h)

left-all : {A : Type 0} (xs ys : List A) → More xs ys → left_of xs (length ys) ≡ ys
left-all xs ys m = ap (λ l. left_of l (length ys)) m.1 ∙ left-more m.0 ys

record Above {V : Type 0} (t s : VidScope V) : Type 0 where
  pub named : More t.named s.named
  pub fresh : More t.fresh s.fresh
  pub equals : More t.equals s.equals

above-one : {V : Type 0} (t s : VidScope V) (x : Vid) (v : V) → Above t s → Above (with_entry t x v) s
above-one t s (Named x) v a = record { named = more-one (x, v) t.named s.named a.named; fresh = a.fresh; equals = a.equals }
above-one t s (Fresh x) v a = record { named = a.named; fresh = more-one (x, v) t.fresh s.fresh a.fresh; equals = a.equals }
above-one t s Equals v a = record { named = a.named; fresh = a.fresh; equals = more-one (0, v) t.equals s.equals a.equals }

above-all : {V : Type 0} (t s : VidScope V) (bs : List (Vid × V)) → Above t s → Above (with_entries t bs) s
above-all t s [] a = a
above-all t s (b ∷ bs) a = above-all (with_entry t b.0 b.1) s bs (above-one t s b.0 b.1 a)

scope-of : {V : Type 0} (a b c a' b' c' : List (ℕ × V)) → a ≡ a' → b ≡ b' → c ≡ c'
    → ◌≡◌ {A = VidScope V} (record { named = a; fresh = b; equals = c }) (record { named = a'; fresh = b'; equals = c' })
scope-of a b c a' b' c' p q r = ap (λ a. record { named = a; fresh = b; equals = c }) p ∙ ap (λ b. record { named = a'; fresh = b; equals = c }) q ∙ ap (λ c. record { named = a'; fresh = b'; equals = c }) r

back : {V : Type 0} (s : VidScope V) (bs : List (Vid × V)) → left (with_entries s bs) (mark_of s) ≡ s
back s bs =
    let a = above-all s s bs (record { named = ([], refl); fresh = ([], refl); equals = ([], refl) }) in
    scope-of _ _ _ s.named s.fresh s.equals (left-all _ s.named a.named) (left-all _ s.fresh a.fresh) (left-all _ s.equals a.equals)

pub scopes_left : {V : Type 0} (old new : VidScope V) (m : VidMark) → new ≡ left old m → Undoes old m new
scopes_left old new m e s bs q p = e ∙ ap₂ left p q ∙ back s bs
