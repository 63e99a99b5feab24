-- Scopes are told lists by number, and so they are told types.
use Rattle.std.proofs.Common.{◌≡◌, ◌≢◌, AllPairs, ℕ, Bool, true, false, not, ◌||◌, List, [], ◌∷◌, ◌++◌, map, length, reverse, Some, nat_eq, if◌then◌else◌, refl, sym, ap, ap₂, ◌∙◌}
use Rattle.std.specs.List.{list_any}
use Rattle.std.proofs.lemmas.Bool.{eqb-true, eq-eqb, false≢true}
use Rattle.std.proofs.lemmas.List.{reverse-append, map-append}
use Rattle.ty_core.specs.Types.{Typ, var}
use Rattle.ty_table.specs.TypeAt.{type_at, AllBelow}
use Rattle.ty_table.proofs.Keeping.{one-place}
use Rattle.monomorphise.specs.Monomorphise.{same_types, is_among, is_in}
use Rattle.monomorphise.proofs.Names.{types-is, types-same}
use Rattle.mono_names.specs.Named.{types_named}
use Rattle.mono_scopes.specs.Scopes.{variable, binding, with_list, noted}
use Rattle.needed_scopes.specs.Scopes.{OpenScope, of_variable, of_binding, with_other, noted_at}
use Rattle.mono_state.specs.Seen.{Held, Later, types_in, scope_at}
use Rattle.mono_state.specs.Going.{IsHeld, AllHeld, ScopesHeld}
use Rattle.mono_close.proofs.Tables.{below-longer, length-longer}
use Rattle.mono_state.proofs.Growing.{got-longer}
use Rattle.mono_state.proofs.Naming.{list-at}

-- types have one list of numbers
one-list : (ts : List Typ) (l m : List ℕ) → AllPairs (λ t u. t ≢ u) ts → AllBelow (length ts) l → AllBelow (length ts) m → types_named ts l ≡ types_named ts m → l ≡ m
one-list ts [] [] h a b e = refl
one-list ts [] (j ∷ m) h a b e = cc
one-list ts (i ∷ l) [] h a b e = cc
one-list ts (i ∷ l) (j ∷ m) h a b e =
    let p : type_at ts i ≡ type_at ts j = cc in
    let q : types_named ts l ≡ types_named ts m = cc in
    ap₂ (λ k n. k ∷ n) (one-place (var 0) ts i j h a.0 b.0 p) (one-list ts l m h a.1 b.1 q)

-- so lists of equal types have one number
same-number : {T U : Held} (j k : ℕ) → Later T U → IsHeld T j → IsHeld T k → types_in U j ≡ types_in U k → j ≡ k
same-number {T = T} {U = U} j k l a b e =
    let p : types_named U.types a.numbers ≡ types_named U.types b.numbers = sym (list-at j a.numbers l a.there) ∙ e ∙ list-at k b.numbers l b.there in
    let n = length-longer T.types U.types l.longer.types in
    let q = one-list U.types a.numbers b.numbers l.types_once (below-longer (length T.types) (length U.types) a.numbers n a.below)
    (below-longer (length T.types) (length U.types) b.numbers n b.below) p in
    l.lists_once j k a.numbers (got-longer T.lists U.lists j a.numbers l.longer.lists a.there) (got-longer T.lists U.lists k b.numbers l.longer.lists b.there ∙ ap Some (sym q))

pub same-lists : {T U : Held} (j k : ℕ) → Later T U → IsHeld T j → IsHeld T k → same_types (types_in U j) (types_in U k) ≡ nat_eq j k
same-lists {U = U} j k l a b = go (same_types (types_in U j) (types_in U k)) refl (nat_eq j k) refl
  where
    go : (x : Bool) → same_types (types_in U j) (types_in U k) ≡ x → (y : Bool) → nat_eq j k ≡ y → x ≡ y
    go true e true f = refl
    go false e false f = refl
    go true e false f = absurd (false≢true (sym f ∙ eq-eqb j k (same-number j k l a b (types-is (types_in U j) (types_in U k) e))))
    go false e true f =
        absurd (false≢true (sym e ∙ ap (λ n. same_types (types_in U j) (types_in U n)) (sym (eqb-true j k f)) ∙ types-same (types_in U j)))

pub among-same : (x : ℕ) (vs : List ℕ) → is_among x vs ≡ list_any (nat_eq x) vs
among-same x [] = refl
among-same x (y ∷ vs) = go (nat_eq x y) (among-same x vs)
  where
    go : (b : Bool) → is_among x vs ≡ list_any (nat_eq x) vs → (if b then true else is_among x vs) ≡ (b || list_any (nat_eq x) vs)
    go true h = refl
    go false h = h

turned : {A : Type 0} (xs : List A) (x : A) → reverse (xs ++ x ∷ []) ≡ x ∷ reverse xs
turned xs x = reverse-append xs (x ∷ [])

behind : {A : Type 0} (x : A) (xs : List A) → reverse (x ∷ xs) ≡ reverse xs ++ x ∷ []
behind x xs = reverse-append (x ∷ []) xs

in-end : (a b : List Typ) (ts : List (List Typ)) → is_in a (ts ++ b ∷ []) ≡ (same_types a b || is_in a ts)
in-end a b [] = go (same_types a b)
  where
    go : (x : Bool) → (if x then true else false) ≡ (x || false)
    go true = refl
    go false = refl
in-end a b (c ∷ ts) = ap (λ y. if same_types a c then true else y) (in-end a b ts) ∙ go (same_types a c) (same_types a b) (is_in a ts)
  where
    go : (x y z : Bool) → (if x then true else (y || z)) ≡ (y || (if x then true else z))
    go true true z = refl
    go true false z = refl
    go false y z = refl

pub in-same : {T U : Held} (k : ℕ) (ks : List ℕ) → Later T U → IsHeld T k → AllHeld T ks → is_in (types_in U k) (reverse (map (types_in U) ks)) ≡ list_any (nat_eq k) ks
in-same k [] l a h = refl
in-same {U = U} k (j ∷ ks) l a h =
    ap (is_in (types_in U k)) (behind (types_in U j) (map (types_in U) ks))
    ∙ in-end (types_in U k) (types_in U j) (reverse (map (types_in U) ks))
    ∙ ap₂ (λ x y. x || y) (same-lists k j l a h.0) (in-same k ks l a h.1)

with-same : {T U : Held} (u k : ℕ) (ks : List ℕ) → Later T U → IsHeld T u → IsHeld T k → AllHeld T ks
    → with_list (types_in U u) (types_in U k) (reverse (map (types_in U) ks)) ≡ reverse (map (types_in U) (with_other u k ks))
with-same {U = U} u k ks l a b h =
    ap₂ (λ x y. if not (x || y) then types_in U k ∷ reverse (map (types_in U) ks) else reverse (map (types_in U) ks)) (same-lists u k l a b) (in-same k ks l b h)
    ∙ go (nat_eq u k) (list_any (nat_eq k) ks)
  where
    go : (x y : Bool) → (if not (x || y) then types_in U k ∷ reverse (map (types_in U) ks) else reverse (map (types_in U) ks))
        ≡ reverse (map (types_in U) (if x then ks else (if y then ks else ks ++ k ∷ [])))
    go true y = refl
    go false true = refl
    go false false = sym (ap reverse (map-append (types_in U) ks (k ∷ [])) ∙ turned (map (types_in U) ks) (types_in U k))

pub noted-same : {T U : Held} (x k : ℕ) (l : List OpenScope) → Later T U → IsHeld T k → ScopesHeld T l → map (scope_at U) (noted_at x k l) ≡ noted x (types_in U k) (map (scope_at U) l)
noted-same x k [] w a h = refl
noted-same {U = U} x k (of_variable y ∷ l) w a h = go (nat_eq x y) (noted-same x k l w a h)
  where
    go : (b : Bool) → map (scope_at U) (noted_at x k l) ≡ noted x (types_in U k) (map (scope_at U) l)
        → map (scope_at U) (if b then of_variable y ∷ l else of_variable y ∷ noted_at x k l)
        ≡ (if b then variable y ∷ map (scope_at U) l else variable y ∷ noted x (types_in U k) (map (scope_at U) l))
    go true r = refl
    go false r = ap (λ m. variable y ∷ m) r
noted-same {U = U} x k (of_binding vs u ks ∷ l) w a h =
    go (list_any (nat_eq x) vs) (is_among x vs) (sym (among-same x vs)) (with-same u k ks w h.0 a h.1) (noted-same x k l w a h.2)
  where
    go : (b c : Bool) → b ≡ c → with_list (types_in U u) (types_in U k) (reverse (map (types_in U) ks)) ≡ reverse (map (types_in U) (with_other u k ks))
        → map (scope_at U) (noted_at x k l) ≡ noted x (types_in U k) (map (scope_at U) l)
        → map (scope_at U) (if b then of_binding vs u (with_other u k ks) ∷ l else of_binding vs u ks ∷ noted_at x k l)
        ≡ (if c then binding vs (types_in U u) (with_list (types_in U u) (types_in U k) (reverse (map (types_in U) ks))) ∷ map (scope_at U) l
        else binding vs (types_in U u) (reverse (map (types_in U) ks)) ∷ noted x (types_in U k) (map (scope_at U) l))
    go true true e p r = ap (λ ts. binding vs (types_in U u) ts ∷ map (scope_at U) l) (sym p)
    go false false e p r = ap (λ m. binding vs (types_in U u) (reverse (map (types_in U) ks)) ∷ m) r
    go true false e p r = absurd (false≢true (sym e))
    go false true e p r = absurd (false≢true e)

with-held : {T : Held} (u k : ℕ) (ks : List ℕ) → IsHeld T k → AllHeld T ks → AllHeld T (with_other u k ks)
with-held {T = T} u k ks a h = go (nat_eq u k) (list_any (nat_eq k) ks)
  where
    end : (ks : List ℕ) → AllHeld T ks → AllHeld T (ks ++ k ∷ [])
    end [] h = (a, tt)
    end (j ∷ ks) h = (h.0, end ks h.1)

    go : (x y : Bool) → AllHeld T (if x then ks else (if y then ks else ks ++ k ∷ []))
    go true y = h
    go false true = h
    go false false = end ks h

pub noted-held : {T : Held} (x k : ℕ) (l : List OpenScope) → IsHeld T k → ScopesHeld T l → ScopesHeld T (noted_at x k l)
noted-held x k [] a h = tt
noted-held {T = T} x k (of_variable y ∷ l) a h = go (nat_eq x y) (noted-held x k l a h)
  where
    go : (b : Bool) → ScopesHeld T (noted_at x k l) → ScopesHeld T (if b then of_variable y ∷ l else of_variable y ∷ noted_at x k l)
    go true r = h
    go false r = r
noted-held {T = T} x k (of_binding vs u ks ∷ l) a h = go (list_any (nat_eq x) vs) (noted-held x k l a h.2)
  where
    go : (b : Bool) → ScopesHeld T (noted_at x k l) → ScopesHeld T (if b then of_binding vs u (with_other u k ks) ∷ l else of_binding vs u ks ∷ noted_at x k l)
    go true r = (h.0, with-held u k ks a h.1, h.2)
    go false r = (h.0, h.1, r)
