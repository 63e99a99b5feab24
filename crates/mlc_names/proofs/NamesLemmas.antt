-- Texts that are kept in a set, seen as a list.
use Rattle.std.proofs.Common.{rules, ◌≡◌, ◌≢◌, ℕ, ◌<◌, inl, inr, Bool, true, false, ◌||◌, cond, nat_eq, nat_lt, if◌then◌else◌, List, [], ◌∷◌, ◌++◌, map, length, Some, None, Vec, Global, refl, ap, subst, sym, ◌∙◌, option_map, slice_get, get_or, take, ◌+◌, arith, position, AllPairs}
use Rattle.std.specs.List.{AllByRecursion, IsDistinct, position_or_len, list_any}
use Rattle.std.specs.Borrow.{Bor}
use Rattle.std.specs.Cmp.Lexicographic.{pointwise}
use Rattle.std.specs.Str.{bytes_eq}
use Rattle.std.proofs.lemmas.Bool.{ltb-true}
use Rattle.std.proofs.lemmas.List.{map-append, map_more}
use Rattle.std.proofs.lemmas.List.Folds.{list_any_at}
use Rattle.std.proofs.lemmas.List.Quantifiers.{all_pairs_push}
use Rattle.std.proofs.lemmas.List.Sums.{passes_at_first}
use Rattle.std.proofs.lemmas.Map.Made.{AllPairs-from_IsDistinct}
use Rattle.std.proofs.lemmas.Option.{slice_get_cases, slice_get-map}
use Rattle.std.proofs.lemmas.Slice.Eq.{bytes_eq-Decides}
use Rattle.indexmap.specs.IndexSet.{insert_key}
use Rattle.mlc_names.specs.Names.{with_text, with_texts}
use Rattle.mlc_names.specs.StandardWords.{standard_words}

abbrev pub Kept : Type 0
Kept = Vec ℕ Global

abbrev pub texts_of : List Kept → List (List ℕ)
texts_of = map (λ t. t.items)

abbrev pub is_text : List ℕ → Kept → Bool
is_text text kept = pointwise nat_eq text kept.items

abbrev pub same_text : Kept → Kept → Bool
same_text t u = pointwise nat_eq t.items u.items

list_any-texts_of : (text : List ℕ) (ks : List Kept) → list_any (bytes_eq text) (texts_of ks) ≡ list_any (is_text text) ks
list_any-texts_of text [] = refl
list_any-texts_of text (k ∷ ks) = ap (λ b. is_text text k || b) (list_any-texts_of text ks)

-- a text that is there
pub with_text-found : (text : List ℕ) (ks : List Kept) → list_any (is_text text) ks ≡ true → texts_of ks ≡ with_text (texts_of ks) text
with_text-found text ks h = rw (list_any-texts_of text ks, h) refl

-- a text that isn't
pub with_text-new : (text : List ℕ) (ks ks' : List Kept) (kept : Kept) → kept.items ≡ text → list_any (is_text text) ks ≡ false → ks' ≡ insert_key same_text ks kept → texts_of ks' ≡ with_text (texts_of ks) text
with_text-new text ks ks' kept e h i =
    let g : list_any (same_text kept) ks ≡ false = subst (λ t. list_any (is_text t) ks ≡ false) (sym e) h in
    let j : insert_key same_text ks kept ≡ ks ++ kept ∷ [] = ap (λ b. if b then ks else ks ++ kept ∷ []) g in
    let m : texts_of (ks ++ kept ∷ []) ≡ texts_of ks ++ kept.items ∷ [] = map-append (λ t. t.items) ks (kept ∷ []) in
    let w : with_text (texts_of ks) text ≡ texts_of ks ++ text ∷ [] = rw (list_any-texts_of text ks, h) refl in
    ap texts_of (i ∙ j) ∙ m ∙ ap (λ t. texts_of ks ++ t ∷ []) e ∙ sym w

-- the text at a place
pub held_at : (text : List ℕ) (ks : List Kept) (i : ℕ) (k : Kept) → slice_get ks i ≡ Some k → is_text text k ≡ true → slice_get (texts_of ks) i ≡ Some text
held_at text ks i k e h =
    slice_get-map (λ t. t.items) ks i ∙ ap (option_map (λ t. t.items)) e ∙ ap Some (sym ((bytes_eq-Decides text k.items).0 h))

found_place : (p : Kept → Bool) (ks : List Kept) (i : ℕ) (b : Bool) → nat_lt (position_or_len p ks) (length ks) ≡ b → cond b (Some (position_or_len p ks)) None ≡ Some i → (position_or_len p ks ≡ i) × (i < length ks)
found_place p ks i true lt e = let at : position_or_len p ks ≡ i = cc in (at, subst (λ n. n < length ks) at (ltb-true _ _ lt))
found_place p ks i false lt e = cc

-- the text that was found
pub held_found : (text : List ℕ) (ks : List Kept) (i : ℕ) → Some i ≡ position (is_text text) ks → slice_get (texts_of ks) i ≡ Some text
held_found text ks i e =
    let at = found_place (is_text text) ks i (nat_lt (position_or_len (is_text text) ks) (length ks)) refl (sym e) in
    elim (slice_get_cases ks i).1 as (λ _. slice_get (texts_of ks) i ≡ Some text) [
      | inl h ↦ held_at text ks i h.0 h.2 (ap (is_text text) (sym h.3 ∙ ap (λ n. get_or ks n h.0) (sym at.0)) ∙ passes_at_first (is_text text) ks h.0 (subst (λ n. n < length ks) (sym at.0) at.1))
      | inr h ↦ absurd (omega (arith, at.1, h.0))
    ]

-- no text stands twice
all-texts_of : (t : Kept) (ks : List Kept) → AllByRecursion (λ u. same_text t u ≡ false) ks → AllByRecursion (λ u. bytes_eq t.items u ≡ false) (texts_of ks)
all-texts_of t [] h = tt
all-texts_of t (k ∷ ks) h = (h.0, all-texts_of t ks h.1)

distinct-texts_of : (ks : List Kept) → IsDistinct same_text ks → IsDistinct bytes_eq (texts_of ks)
unfolding IsDistinct
distinct-texts_of [] h = tt
distinct-texts_of (k ∷ ks) h = (all-texts_of k ks h.0, distinct-texts_of ks h.1)

pub one_to_one : (ks : List Kept) → IsDistinct same_text ks → AllPairs (λ text other. text ≢ other) (texts_of ks)
one_to_one ks h = AllPairs-from_IsDistinct bytes_eq-Decides (texts_of ks) (distinct-texts_of ks h)

-- Texts that are asked for one after the other.

pub with_texts-append : (held texts more : List (List ℕ)) → with_texts held (texts ++ more) ≡ with_texts (with_texts held texts) more
with_texts-append held [] more = refl
with_texts-append held (text ∷ texts) more = with_texts-append (with_text held text) texts more

pub with_texts-more : (words : List (Bor (List ℕ))) (d : Bor (List ℕ)) (i : ℕ) (held names names' : List (List ℕ)) (text : List ℕ) → i < length words → names ≡ with_texts held (map (λ w. w.now) (take i words)) → names' ≡ with_text names text → text ≡ (get_or words i d).now → names' ≡ with_texts held (map (λ w. w.now) (take (i + 1) words))
with_texts-more words d i held names names' text h before is e =
    is ∙ ap (λ t. with_text names t) e ∙ ap (λ n. with_text n (get_or words i d).now) before
    ∙ sym (with_texts-append held (map (λ w. w.now) (take i words)) ((get_or words i d).now ∷ []))
    ∙ sym (ap (with_texts held) (map_more (λ w. w.now) words i d h))

-- No two texts become alike.

abbrev pub AreApart : List (List ℕ) → Type 0
AreApart texts = AllPairs (λ text other. text ≢ other) texts

not-there : (texts : List (List ℕ)) (text : List ℕ) → list_any (bytes_eq text) texts ≡ false → (k : ℕ) (d : List ℕ) → k < length texts → get_or texts k d ≢ text
not-there texts text h k d within e =
    let there : list_any (bytes_eq text) texts ≡ true = list_any_at (bytes_eq text) texts k d within ((bytes_eq-Decides text (get_or texts k d)).1 (sym e)) in
    absurd (cc)

either-apart : (there : Bool) (texts : List (List ℕ)) (text : List ℕ) → list_any (bytes_eq text) texts ≡ there → AreApart texts → AreApart (if there then texts else texts ++ text ∷ [])
either-apart true texts text h apart = apart
either-apart false texts text h apart = all_pairs_push (λ t other. t ≢ other) texts text apart (not-there texts text h)

pub with_text-apart : (texts : List (List ℕ)) (text : List ℕ) → AreApart texts → AreApart (with_text texts text)
with_text-apart texts text apart = either-apart (list_any (bytes_eq text) texts) texts text refl apart

pub with_texts-apart : (held texts : List (List ℕ)) → AreApart held → AreApart (with_texts held texts)
with_texts-apart held [] apart = apart
with_texts-apart held (text ∷ texts) apart = with_texts-apart (with_text held text) texts (with_text-apart held text apart)

no-texts-apart : AreApart []
no-texts-apart = search rules

pub standard_words-apart : AreApart standard_words
standard_words-apart = with_texts-apart [] standard_words no-texts-apart
