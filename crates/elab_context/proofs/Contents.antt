-- Constructors of type constructors, and what structures have, told again of another context.
use Rattle.std.proofs.Common.{◌≡◌, ◌⊎◌, inl, inr, slice_get, append-nil, min, nat_lt, ◌≤◌, ◌<◌, ◌+◌, ◌-◌, ℕ, zero, suc, Bool, true, false, List, [], ◌∷◌, ◌++◌, length, take, drop, Option, Some, None, refl, sym, ap, ap₂, subst, ◌∙◌, arith}
use Rattle.std.specs.List.{AllByRecursion}
use Rattle.std.proofs.lemmas.Bool.{ltb-false, ltb-true}
use Rattle.sml_tree.specs.declared.ident.Vid.{Vid}
use Rattle.vid_scope.specs.of_core_rules.Objects.{Env, TypeStructure}
use Rattle.vid_scope.specs.of_core_rules.Restrictions.{distinct}
use Rattle.vid_scope.specs.of_core_rules.Words.{same_vid}
use Rattle.elab_steps.specs.of_core_elab.Scopes.{Scope}
use Rattle.elab_steps.specs.of_elab_typed.Contexts.{Around}
use Rattle.elab_steps.specs.of_elab_types.declared.scope.TypeEntry.{TypeEntry}
use Rattle.elab_steps.specs.Growing.{Begins}
use Rattle.elab_steps.specs.World.{World}
use Rattle.elab_context.specs.Entries.{constructor_entry, constructors_in, constructors_of, entry_in, last_of}
use Rattle.elab_context.specs.Telling.{HasConstructors, HasContents, IsFit, kept_of, kept_entries, scope_of_entries, vids_in}
use Rattle.elab_context.specs.declared.context.Context.{Context}
use Rattle.elab_context.specs.declared.entry.Built.{Built}
use Rattle.elab_context.specs.declared.entry.Entry.{Entry}
use Rattle.elab_context.specs.declared.entry.Scheme.{Scheme}

-- a part of a list stays where the list goes on
part-stays : {A : Type 0} (n k : ℕ) (xs ys : List A) → take (length xs) ys ≡ xs → k + n ≤ length xs → take n (drop k ys) ≡ take n (drop k xs)
part-stays zero zero xs ys e le = refl
part-stays (suc n) zero [] ys e le = absurd (omega (arith, le))
part-stays (suc n) zero (x ∷ xs) [] e le = cc
part-stays (suc n) zero (x ∷ xs) (y ∷ ys) e le =
    let a : y ≡ x = cc in
    let b : take (length xs) ys ≡ xs = cc in
    ap₂ (λ z l. z ∷ l) a (part-stays n zero xs ys b (omega (arith, le)))
part-stays n (suc k) [] ys e le = absurd (omega (arith, le))
part-stays n (suc k) (x ∷ xs) [] e le = cc
part-stays n (suc k) (x ∷ xs) (y ∷ ys) e le =
    let b : take (length xs) ys ≡ xs = cc in
    part-stays n k xs ys b (omega (arith, le))

pub constructors-stay : (C D : Context) (e : TypeEntry) → Begins C.schemes.items D.schemes.items → e.constructors.first + e.constructors.count ≤ length C.schemes.items
    → constructors_of D e ≡ constructors_of C e
constructors-stay C D e b le = ap (constructors_in e.constructors.first) (part-stays e.constructors.count e.constructors.first C.schemes.items D.schemes.items b le)

longer : {A : Type 0} (xs ys : List A) → take (length xs) ys ≡ xs → length xs ≤ length ys
longer [] ys e = omega arith
longer (x ∷ xs) [] e = absurd (cc)
longer (x ∷ xs) (y ∷ ys) e =
    let b : take (length xs) ys ≡ xs = cc in
    let l = longer xs ys b in omega (arith, l)

-- Constructors that are found one after the other

abbrev one-of : ℕ → Option Built → List (Vid × Entry)
one-of n None = []
one-of n (Some c) = constructor_entry n c ∷ []

next-of-all : (k i n : ℕ) (xs : List Scheme) (s : Scheme) → n ≡ k + i → slice_get xs i ≡ Some s
    → constructors_in k (take (suc i) xs) ≡ constructors_in k (take i xs) ++ one-of n s.constructor
next-of-all k i n [] s e h = absurd (cc)
next-of-all k zero n (x ∷ xs) s e h =
    let same : x ≡ s = cc in
    let number : k ≡ n = omega (arith, e) in
    ap (λ (z : Scheme). constructors_in k (z ∷ [])) same ∙ by s.constructor k n number
  where
    by : (o : Option Built) (k n : ℕ) → k ≡ n → elim o [ None ↦ [] | Some c ↦ constructor_entry k c ∷ [] ] ≡ one-of n o
    by None k n q = refl
    by (Some c) k n q = ap (λ m. constructor_entry m c ∷ []) q
next-of-all k (suc i) n (x ∷ xs) s e h =
    let f : slice_get xs i ≡ Some s = h in
    by x.constructor (next-of-all (suc k) i n xs s (omega (arith, e)) f)
  where
    by : (o : Option Built) → constructors_in (suc k) (take (suc i) xs) ≡ constructors_in (suc k) (take i xs) ++ one-of n s.constructor
        → elim o [ None ↦ constructors_in (suc k) (take (suc i) xs) | Some c ↦ constructor_entry k c ∷ constructors_in (suc k) (take (suc i) xs) ]
        ≡ elim o [ None ↦ constructors_in (suc k) (take i xs) | Some c ↦ constructor_entry k c ∷ constructors_in (suc k) (take i xs) ] ++ one-of n s.constructor
    by None q = q
    by (Some c) q = ap (λ l. constructor_entry k c ∷ l) q

found-behind : (f i n : ℕ) (xs : List Scheme) → n ≡ f + i → slice_get (drop f xs) i ≡ slice_get xs n
found-behind zero i n xs e = let same : i ≡ n = omega (arith, e) in ap (slice_get xs) same
found-behind (suc f) i n [] e = refl
found-behind (suc f) i zero (x ∷ xs) e = absurd (omega (arith, e))
found-behind (suc f) i (suc n) (x ∷ xs) e = found-behind f i n xs (omega (arith, e))

next-part : (f n : ℕ) (xs : List Scheme) (s : Scheme) → f ≤ n → slice_get xs n ≡ Some s
    → constructors_in f (take (n + 1 - f) (drop f xs)) ≡ constructors_in f (take (n - f) (drop f xs)) ++ one-of n s.constructor
next-part f n xs s le h =
    let up : n + 1 - f ≡ suc (n - f) = omega (arith, le) in
    let is : n ≡ f + (n - f) = omega (arith, le) in
    ap (λ i. constructors_in f (take i (drop f xs))) up ∙ next-of-all f (n - f) n (drop f xs) s is (found-behind f (n - f) n xs is ∙ h)

-- at first
pub none_yet : (f : ℕ) (xs : List Scheme) → [] ≡ constructors_in f (take (f - f) (drop f xs))
none_yet f xs = let none : 0 ≡ f - f = omega arith in ap (λ i. constructors_in f (take i (drop f xs))) none

-- with no constructor more, and with one
pub none_found : (f n m : ℕ) (xs : List Scheme) (s : Scheme) (old new : List (Vid × Entry)) → f ≤ n → m ≡ n + 1 → slice_get xs n ≡ Some s → s.constructor ≡ None
    → old ≡ constructors_in f (take (n - f) (drop f xs)) → new ≡ old → new ≡ constructors_in f (take (m - f) (drop f xs))
none_found f n m xs s old new le up h none e q =
    q ∙ e ∙ sym (append-nil (constructors_in f (take (n - f) (drop f xs)))) ∙ ap (λ o. constructors_in f (take (n - f) (drop f xs)) ++ one-of n o) (sym none)
    ∙ sym (next-part f n xs s le h) ∙ ap (λ m. constructors_in f (take (m - f) (drop f xs))) (sym up)

pub one_found : (f n m : ℕ) (xs : List Scheme) (s : Scheme) (c : Built) (old new : List (Vid × Entry)) → f ≤ n → m ≡ n + 1 → slice_get xs n ≡ Some s → s.constructor ≡ Some c
    → old ≡ constructors_in f (take (n - f) (drop f xs)) → new ≡ old ++ constructor_entry n c ∷ [] → new ≡ constructors_in f (take (m - f) (drop f xs))
one_found f n m xs s c old new le up h is e q =
    q ∙ ap (λ l. l ++ constructor_entry n c ∷ []) e ∙ ap (λ o. constructors_in f (take (n - f) (drop f xs)) ++ one-of n o) (sym is) ∙ sym (next-part f n xs s le h)
    ∙ ap (λ m. constructors_in f (take (m - f) (drop f xs))) (sym up)

-- all of them, where the part ends or the list does
all-taken : {A : Type 0} (n : ℕ) (xs : List A) → length xs ≤ n → take n xs ≡ xs
all-taken zero [] le = refl
all-taken (suc n) [] le = refl
all-taken zero (x ∷ xs) le = absurd (omega (arith, le))
all-taken (suc n) (x ∷ xs) le = ap (λ l. x ∷ l) (all-taken n xs (omega (arith, le)))

length-behind : {A : Type 0} (f : ℕ) (xs : List A) → length (drop f xs) ≡ length xs - f
length-behind zero xs = omega arith
length-behind (suc f) [] = omega arith
length-behind (suc f) (x ∷ xs) = length-behind f xs ∙ (omega arith)

pub end_is : (first count end all sum len : ℕ) → sum ≡ min (first + count) 18446744073709551615 → end ≡ min sum all → all ≡ len → all < 18446744073709551616
    → (end ≡ first + count) ⊎ ((len ≤ end) × (end ≤ first + count))
end_is first count end all sum len s e l b = by (nat_lt all (first + count)) refl
  where
    by : (c : Bool) → nat_lt all (first + count) ≡ c → (end ≡ first + count) ⊎ ((len ≤ end) × (end ≤ first + count))
    by true q = let lt = ltb-true all (first + count) q in inr (omega (arith, s, e, l, b, lt), omega (arith, s, e, l, b, lt))
    by false q = let le = ltb-false all (first + count) q in inl (omega (arith, s, e, l, b, le))

pub all_found : (f count end n : ℕ) (xs : List Scheme) (es : List (Vid × Entry)) → (end ≡ f + count) ⊎ ((length xs ≤ end) × (end ≤ f + count)) → f ≤ n → end ≤ n
    → (f ≤ end → n ≤ end) → es ≡ constructors_in f (take (n - f) (drop f xs)) → es ≡ constructors_in f (take count (drop f xs))
all_found f count end n xs es (inl e) fn en le h =
    let below : n ≤ end = le (omega (arith, e)) in
    let is : n - f ≡ count = omega (arith, e, en, below) in
    h ∙ ap (λ i. constructors_in f (take i (drop f xs))) is
all_found f count end n xs es (inr q) fn en le h =
    let long = length-behind f xs in
    let a = q.0 in
    let b = q.1 in
    h ∙ ap (constructors_in f) (all-taken (n - f) (drop f xs) (omega (arith, long, a, en)) ∙ sym (all-taken count (drop f xs) (omega (arith, long, a, b))))

-- what is kept of entries, and what they have, where each of them stays
kept-all : (C D : Context) (W V : World) (A : Around) → ((e : Entry) → IsFit C W A e → kept_of D V e ≡ kept_of C W e) → (es : List (Vid × Entry)) → AllByRecursion (λ c. IsFit C W A c.1) es
    → kept_entries D V es ≡ kept_entries C W es
kept-all C D W V A f [] h = refl
kept-all C D W V A f (e ∷ es) h = ap₂ (λ k l. (e.0, k) ∷ l) (f e.1 h.0) (kept-all C D W V A f es h.1)

fit-all : (C D : Context) (W V : World) (A B : Around) → ((e : Entry) → IsFit C W A e → IsFit D V B e) → (es : List (Vid × Entry)) → AllByRecursion (λ c. IsFit C W A c.1) es
    → AllByRecursion (λ c. IsFit D V B c.1) es
fit-all C D W V A B f [] h = tt
fit-all C D W V A B f (e ∷ es) h = (f e.1 h.0, fit-all C D W V A B f es h.1)

-- the constructors of a type constructor, where the context has further schemes, the environment and the scope have the same of it, and entries stay what they are
pub has_constructors_still : (C D : Context) (W V : World) (A B : Around) (e : TypeEntry) (o p : Option TypeStructure) (r s : Option Scope) → Begins C.schemes.items D.schemes.items
    → ((d : Entry) → IsFit C W A d → kept_of D V d ≡ kept_of C W d) → ((d : Entry) → IsFit C W A d → IsFit D V B d) → p ≡ o → s ≡ r → HasConstructors C W A e o r
    → HasConstructors D V B e p s
has_constructors_still C D W V A B e o p r s b kept fit same scopes h =
    let stay = constructors-stay C D e b h.within in
    record {
      structure = h.structure;
      is = same ∙ h.is;
      values = h.values ∙ sym (ap (kept_entries D V) stay ∙ kept-all C D W V A kept (constructors_of C e) h.fit);
      scopes = scopes ∙ h.scopes ∙ ap (λ l. Some (scope_of_entries l)) (sym stay);
      once = ap (λ l. distinct same_vid (vids_in l)) stay ∙ h.once;
      fit = subst (AllByRecursion (λ c. IsFit D V B c.1)) (sym stay) (fit-all C D W V A B fit (constructors_of C e) h.fit);
      within = let l = longer C.schemes.items D.schemes.items b in let w = h.within in omega (arith, l, w);
    }

-- what a structure has, where the environment and the scope have the same of it, and look-ups in it find the same
pub has_contents_still : (C D : Context) (q : ℕ) (es ds : List (Vid × Entry)) (o p : Option Env) (r s : Option Scope) → ds ≡ es → ((x : Vid) → entry_in D (q ∷ []) x ≡ entry_in C (q ∷ []) x)
    → p ≡ o → s ≡ r → HasContents C q es o r → HasContents D q ds p s
has_contents_still C D q es ds o p r s same entries env scope h = record {
  values = h.values;
  is = env ∙ h.is;
  inner = h.inner;
  scopes = scope ∙ h.scopes;
  untyped = h.untyped;
  alone = h.alone;
  entries = λ x. ap (λ l. last_of l x) same ∙ h.entries x ∙ sym (entries x);
}
