-- Lists and what is held of them stay in step.
use Rattle.std.proofs.Common.{◌≡◌, ◌<◌, ◌⊎◌, inl, inr, ℕ, zero, suc, Bool, true, false, not, ◌&&◌, ◌||◌, List, [], ◌∷◌, ◌++◌, map, length, slice_get, slice_set, slice_index_or, get_or, Option, Some, None, nat_eq, if◌then◌else◌, refl, sym, ap, ap₂, subst, ◌∙◌, arith, Vec, Global, take, min, option_map}
use Rattle.std.specs.Prelude.{option_to_list}
use Rattle.std.specs.List.{list_any}
use Rattle.std.proofs.lemmas.Bool.{eqb-true, eq-eqb, false≢true}
use Rattle.std.proofs.lemmas.List.{map-set, length-map}
use Rattle.indexmap.specs.IndexSet.{insert_key}
use Rattle.mono_sets.specs.Kept.{same_pair, with_number, AreKept}

-- lists

length-end : {A : Type 0} (l : List A) (x : A) → length (l ++ x ∷ []) ≡ suc (length l)
length-end [] x = refl
length-end (y ∷ l) x = ap suc (length-end l x)

got-end : (l : List ℕ) (x i s : ℕ) → slice_get (l ++ x ∷ []) i ≡ Some s → (slice_get l i ≡ Some s) ⊎ ((i ≡ length l) × (s ≡ x))
got-end [] x zero s e = let p : x ≡ s = cc in inr (refl, sym p)
got-end [] x (suc i) s e = absurd (cc)
got-end (y ∷ l) x zero s e = inl e
got-end (y ∷ l) x (suc i) s e = go (got-end l x i s e)
  where
    go : (slice_get l i ≡ Some s) ⊎ ((i ≡ length l) × (s ≡ x)) → (slice_get l i ≡ Some s) ⊎ ((suc i ≡ suc (length l)) × (s ≡ x))
    go (inl p) = inl p
    go (inr p) = inr (ap suc p.0, p.1)

got-within : (l : List ℕ) (i s : ℕ) → slice_get l i ≡ Some s → i < length l
got-within [] i s e = absurd (cc)
got-within (y ∷ l) zero s e = omega arith
got-within (y ∷ l) (suc i) s e = let h = got-within l i s e in omega arith

pub got-read : (l : List ℕ) (i d : ℕ) → i < length l → slice_get l i ≡ Some (slice_index_or l i d)
got-read [] i d lt = absurd (omega arith)
got-read (y ∷ l) zero d lt = refl
got-read (y ∷ l) (suc i) d lt = got-read l i d (omega arith)

at-front : (ls : List (List ℕ)) (x : List ℕ) (i : ℕ) → i < length ls → get_or (ls ++ x ∷ []) i [] ≡ get_or ls i []
at-front [] x i lt = absurd (omega arith)
at-front (l ∷ ls) x zero lt = refl
at-front (l ∷ ls) x (suc i) lt = at-front ls x i (omega arith)

at-end : (ls : List (List ℕ)) (x : List ℕ) (i : ℕ) → i ≡ length ls → get_or (ls ++ x ∷ []) i [] ≡ x
at-end [] x zero e = refl
at-end [] x (suc i) e = absurd (omega arith)
at-end (l ∷ ls) x zero e = absurd (omega arith)
at-end (l ∷ ls) x (suc i) e = at-end ls x i (omega arith)

set-length : (ls : List (List ℕ)) (i : ℕ) (x : List ℕ) → length (slice_set ls i x) ≡ length ls
set-length [] i x = refl
set-length (l ∷ ls) zero x = refl
set-length (l ∷ ls) (suc i) x = ap suc (set-length ls i x)

set-here : (ls : List (List ℕ)) (i : ℕ) (x : List ℕ) → i < length ls → get_or (slice_set ls i x) i [] ≡ x
set-here [] i x lt = absurd (omega arith)
set-here (l ∷ ls) zero x lt = refl
set-here (l ∷ ls) (suc i) x lt = set-here ls i x (omega arith)

set-there : (ls : List (List ℕ)) (i j : ℕ) (x : List ℕ) → (i ≡ j → ⊥) → get_or (slice_set ls i x) j [] ≡ get_or ls j []
set-there [] i j x n = refl
set-there (l ∷ ls) zero zero x n = absurd (n refl)
set-there (l ∷ ls) zero (suc j) x n = refl
set-there (l ∷ ls) (suc i) zero x n = refl
set-there (l ∷ ls) (suc i) (suc j) x n = set-there ls i j x (λ e. n (ap suc e))

pub set-same : (ls : List (List ℕ)) (i : ℕ) → slice_set ls i (get_or ls i []) ≡ ls
set-same [] i = refl
set-same (l ∷ ls) zero = refl
set-same (l ∷ ls) (suc i) = ap (λ m. l ∷ m) (set-same ls i)

any-end : {A : Type 0} (f : A → Bool) (l : List A) (x : A) → list_any f (l ++ x ∷ []) ≡ (list_any f l || f x)
any-end f [] x = go (f x)
  where
    go : (b : Bool) → (b || false) ≡ (false || b)
    go true = refl
    go false = refl
any-end f (y ∷ l) x = ap (λ b. f y || b) (any-end f l x) ∙ go (f y) (list_any f l) (f x)
  where
    go : (a b c : Bool) → (a || (b || c)) ≡ ((a || b) || c)
    go true b c = refl
    go false b c = refl

or-false : (b : Bool) → (b || false) ≡ b
or-false true = refl
or-false false = refl

other-serial : (s k t j : ℕ) → (s ≡ t → ⊥) → same_pair (s, k) (t, j) ≡ false
other-serial s k t j n = go (nat_eq s t) refl
  where
    go : (b : Bool) → nat_eq s t ≡ b → (b && nat_eq k j) ≡ false
    go true e = absurd (n (eqb-true s t e))
    go false e = refl

own-serial : (s k t j : ℕ) → s ≡ t → same_pair (s, k) (t, j) ≡ nat_eq k j
own-serial s k t j e = ap (λ b. b && nat_eq k j) (eq-eqb s t e)

-- nothing is there

pub keeps-none : AreKept [] [] 0 []
keeps-none = record { long = refl; apart = λ i j s e f. absurd (cc); early = λ i s e. absurd (cc); has = λ i s k e. absurd (cc); none_yet = λ s k le. refl }

-- one more list

pub keeps-push : (ls ms : List (List ℕ)) (ss ts : List ℕ) (n m : ℕ) (held : List (ℕ × ℕ)) → ms ≡ ls ++ [] ∷ [] → ts ≡ ss ++ n ∷ [] → m ≡ suc n → AreKept ls ss n held → AreKept ms ts m held
keeps-push ls ms ss ts n m held p q r a = subst (λ ms. AreKept ms ts m held) (sym p) (subst (λ ts. AreKept (ls ++ [] ∷ []) ts m held) (sym q) (record {
  long = length-end ss n ∙ ap suc a.long ∙ sym (length-end ls []);
  apart = λ i j s e f. one i j s (got-end ss n i s e) (got-end ss n j s f);
  early = λ i s e. let h = below i s (got-end ss n i s e) in h;
  has = λ i s k e. same i s k (got-end ss n i s e);
  none_yet = λ s k le. a.none_yet s k (omega (arith, le, r));
}))
  where
    one : (i j s : ℕ) → (slice_get ss i ≡ Some s) ⊎ ((i ≡ length ss) × (s ≡ n)) → (slice_get ss j ≡ Some s) ⊎ ((j ≡ length ss) × (s ≡ n)) → i ≡ j
    one i j s (inl e) (inl f) = a.apart i j s e f
    one i j s (inl e) (inr f) = let h = a.early i s e in absurd (omega (arith, h, f.1))
    one i j s (inr e) (inl f) = let h = a.early j s f in absurd (omega (arith, h, e.1))
    one i j s (inr e) (inr f) = e.0 ∙ sym f.0

    below : (i s : ℕ) → (slice_get ss i ≡ Some s) ⊎ ((i ≡ length ss) × (s ≡ n)) → s < m
    below i s (inl e) = let h = a.early i s e in omega (arith, h, r)
    below i s (inr e) = let h = e.1 in omega (arith, h, r)

    same : (i s k : ℕ) → (slice_get ss i ≡ Some s) ⊎ ((i ≡ length ss) × (s ≡ n)) → list_any (same_pair (s, k)) held ≡ list_any (nat_eq k) (get_or (ls ++ [] ∷ []) i [])
    same i s k (inl e) = let h = got-within ss i s e in let l = a.long in a.has i s k e ∙ ap (list_any (nat_eq k)) (sym (at-front ls [] i (omega (arith, h, l))))
    same i s k (inr e) = let h = e.1 in a.none_yet s k (omega (arith, h)) ∙ ap (list_any (nat_eq k)) (sym (at-end ls [] i (e.0 ∙ a.long)))

-- a number is put into a list

module _ (ls : List (List ℕ)) (ss : List ℕ) (n : ℕ) (held now : List (ℕ × ℕ)) (at s k : ℕ) (of : slice_get ss at ≡ Some s) (a : AreKept ls ss n held) (put : now ≡ insert_key same_pair held (s, k)) where
  abbrev own : List ℕ
  own = get_or ls at []

  -- it was there
  pub keeps-old : (b : Bool) → b ≡ not (list_any (same_pair (s, k)) held) → b ≡ false → AreKept ls ss n now × (ls ≡ slice_set ls at (with_number k own))
  keeps-old b e f = go (list_any (same_pair (s, k)) held) refl
    where
      go : (c : Bool) → list_any (same_pair (s, k)) held ≡ c → AreKept ls ss n now × (ls ≡ slice_set ls at (with_number k own))
      go true h = (
        subst (AreKept ls ss n) (sym (put ∙ ap (λ c. if c then held else held ++ (s, k) ∷ []) h)) a,
        sym (ap (λ c. slice_set ls at (if c then own else own ++ k ∷ [])) (sym (a.has at s k of) ∙ h) ∙ set-same ls at),
      )
      go false h = absurd (false≢true (sym f ∙ e ∙ ap not h))

  -- it is new
  pub keeps-new : (ms : List (List ℕ)) (b : Bool) → b ≡ not (list_any (same_pair (s, k)) held) → b ≡ true → ms ≡ slice_set ls at (own ++ k ∷ []) → AreKept ms ss n now × (ms ≡ slice_set ls at (with_number k own))
  keeps-new ms b e f q = go (list_any (same_pair (s, k)) held) refl
    where
      within : at < length ls
      within = let h = got-within ss at s of in let l = a.long in omega (arith, h, l)

      same : (i t j : ℕ) → slice_get ss i ≡ Some t → (c : Bool) → nat_eq at i ≡ c → list_any (same_pair (t, j)) (held ++ (s, k) ∷ []) ≡ list_any (nat_eq j) (get_or (slice_set ls at (own ++ k ∷ [])) i [])
      same i t j g true h =
          let i-is : at ≡ i = eqb-true at i h in
          let p : Some s ≡ Some t = sym of ∙ ap (slice_get ss) i-is ∙ g in
          let t-is : s ≡ t = cc in
          any-end (same_pair (t, j)) held (s, k)
          ∙ ap₂ (λ x y. x || y) (a.has i t j g ∙ ap (λ z. list_any (nat_eq j) (get_or ls z [])) (sym i-is)) (own-serial t j s k (sym t-is))
          ∙ sym (any-end (nat_eq j) own k)
          ∙ ap (list_any (nat_eq j)) (sym (set-here ls at (own ++ k ∷ []) within) ∙ ap (λ z. get_or (slice_set ls at (own ++ k ∷ [])) z []) i-is)
      same i t j g false h =
          let other : t ≡ s → ⊥ = λ p. false≢true (sym h ∙ eq-eqb at i (a.apart at i s of (g ∙ ap Some p))) in
          any-end (same_pair (t, j)) held (s, k) ∙ ap (λ y. list_any (same_pair (t, j)) held || y) (other-serial t j s k other) ∙ or-false (list_any (same_pair (t, j)) held)
          ∙ a.has i t j g ∙ ap (list_any (nat_eq j)) (sym (set-there ls at i (own ++ k ∷ []) (λ p. false≢true (sym h ∙ eq-eqb at i p))))

      kept : AreKept (slice_set ls at (own ++ k ∷ [])) ss n (held ++ (s, k) ∷ [])
      kept = record {
        long = a.long ∙ sym (set-length ls at (own ++ k ∷ []));
        apart = a.apart;
        early = a.early;
        has = λ i t j g. same i t j g (nat_eq at i) refl;
        none_yet = λ t j le. let h = a.early at s of in any-end (same_pair (t, j)) held (s, k) ∙ ap₂ (λ x y. x || y) (a.none_yet t j le) (other-serial t j s k (λ p. absurd (omega (arith, h, le, p))));
      }

      go : (c : Bool) → list_any (same_pair (s, k)) held ≡ c → AreKept ms ss n now × (ms ≡ slice_set ls at (with_number k own))
      go true h = absurd (false≢true (sym (e ∙ ap not h) ∙ f))
      go false h = (
        subst (λ ms. AreKept ms ss n now) (sym q) (subst (AreKept (slice_set ls at (own ++ k ∷ [])) ss n) (sym (put ∙ ap (λ c. if c then held else held ++ (s, k) ∷ []) h)) kept),
        q ∙ sym (ap (λ c. slice_set ls at (if c then own else own ++ k ∷ [])) (sym (a.has at s k of) ∙ h)),
      )

-- as the code has them

abbrev pub items_of : Vec ℕ Global → List ℕ
items_of l = l.items

pub got-index : (l : List ℕ) (i s : ℕ) → s ≡ slice_index_or l i s → i < length l → slice_get l i ≡ Some s
got-index l i s e lt = got-read l i s lt ∙ ap Some (sym e)

item : (rests : List (Vec ℕ Global)) (before : Vec ℕ Global) (v : ℕ) → v < length rests → before ≡ slice_index_or rests v before → before.items ≡ get_or (map items_of rests) v []
item [] before v lt b = absurd (omega (arith, lt))
item (r ∷ rests) before zero lt b = ap items_of b
item (r ∷ rests) before (suc v) lt b = item rests before v (omega (arith, lt)) b

pub pushed-one : (rests : List (Vec ℕ Global)) (v k : ℕ) (before after : Vec ℕ Global) → v < length (map items_of rests) → before ≡ slice_index_or rests v before → after.items ≡ before.items ++ k ∷ []
    → map items_of (slice_set rests v after) ≡ slice_set (map items_of rests) v (get_or (map items_of rests) v [] ++ k ∷ [])
pushed-one rests v k before after lt b p =
    let n = length-map rests items_of in
    map-set items_of rests v after ∙ ap (slice_set (map items_of rests) v) (p ∙ ap (λ l. l ++ k ∷ []) (item rests before v (omega (arith, lt, n)) b))

pub pushed-none : (rests : List (Vec ℕ Global)) (all : List (Vec ℕ Global)) (new : Vec ℕ Global) → all ≡ rests ++ new ∷ [] → new.items ≡ [] → map items_of all ≡ map items_of rests ++ [] ∷ []
pushed-none rests all new e n = ap (map items_of) e ∙ go rests
  where
    go : (rests : List (Vec ℕ Global)) → map items_of (rests ++ new ∷ []) ≡ map items_of rests ++ [] ∷ []
    go [] = ap (λ l. l ∷ []) n
    go (r ∷ rests) = ap (λ m. items_of r ∷ m) (go rests)

pub serial-within : (ls : List (List ℕ)) (ss : List ℕ) (n at : ℕ) (held : List (ℕ × ℕ)) → AreKept ls ss n held → at < length ls → at < length ss
serial-within ls ss n at held a lt = let l = a.long in omega (arith, l, lt)

-- the last ones are taken away

take-length : {A : Type 0} (m : ℕ) (l : List A) → length (take m l) ≡ min m (length l)
take-length zero l = omega arith
take-length (suc m) [] = omega arith
take-length (suc m) (x ∷ l) = let h = take-length m l in omega (arith, h)

got-taken : (m : ℕ) (l : List ℕ) (i s : ℕ) → slice_get (take m l) i ≡ Some s → (slice_get l i ≡ Some s) × (i < m)
got-taken zero l i s e = absurd (cc)
got-taken (suc m) [] i s e = absurd (cc)
got-taken (suc m) (x ∷ l) zero s e = (e, omega arith)
got-taken (suc m) (x ∷ l) (suc i) s e = let h = got-taken m l i s e in let p = h.1 in (h.0, omega (arith, p))

at-taken : (m : ℕ) (ls : List (List ℕ)) (i : ℕ) → i < m → get_or (take m ls) i [] ≡ get_or ls i []
at-taken zero ls i lt = absurd (omega arith)
at-taken (suc m) [] i lt = refl
at-taken (suc m) (l ∷ ls) zero lt = refl
at-taken (suc m) (l ∷ ls) (suc i) lt = at-taken m ls i (omega arith)

keeps-take : (ls : List (List ℕ)) (ss : List ℕ) (n m : ℕ) (held : List (ℕ × ℕ)) → AreKept ls ss n held → AreKept (take m ls) (take m ss) n held
keeps-take ls ss n m held a = record {
  long = take-length m ss ∙ ap (min m) a.long ∙ sym (take-length m ls);
  apart = λ i j s e f. a.apart i j s (got-taken m ss i s e).0 (got-taken m ss j s f).0;
  early = λ i s e. a.early i s (got-taken m ss i s e).0;
  has = λ i s k e. let g = got-taken m ss i s e in a.has i s k g.0 ∙ ap (list_any (nat_eq k)) (sym (at-taken m ls i g.1));
  none_yet = a.none_yet;
}

mapped-take : (m : ℕ) (rests : List (Vec ℕ Global)) → map items_of (take m rests) ≡ take m (map items_of rests)
mapped-take zero rests = refl
mapped-take (suc m) [] = refl
mapped-take (suc m) (r ∷ rests) = ap (λ l. items_of r ∷ l) (mapped-take m rests)

pub keeps-pop : (rests new : List (Vec ℕ Global)) (ss ts : List ℕ) (n a b : ℕ) (held : List (ℕ × ℕ)) → new ≡ take a rests → ts ≡ take b ss → a ≡ b → AreKept (map items_of rests) ss n held → AreKept (map items_of new) ts n held
keeps-pop rests new ss ts n a b held p q e k =
    subst (λ ms. AreKept ms ts n held) (sym (ap (map items_of) p ∙ mapped-take a rests))
    (subst (λ ts. AreKept (take a (map items_of rests)) ts n held) (sym (q ∙ ap (λ m. take m ss) (sym e))) (keeps-take (map items_of rests) ss n a held k))

pub same-lengths : (rests : List (Vec ℕ Global)) (ss : List ℕ) (n : ℕ) (held : List (ℕ × ℕ)) → AreKept (map items_of rests) ss n held → length rests ≡ length ss
same-lengths rests ss n held k = sym (k.long ∙ length-map rests items_of)

pub mapped-length : (rests : List (Vec ℕ Global)) → length (map items_of rests) ≡ length rests
mapped-length rests = length-map rests items_of

pub mapped-pop : (rests new : List (Vec ℕ Global)) (o : Option (Vec ℕ Global)) → rests ≡ new ++ option_to_list o → map items_of rests ≡ map items_of new ++ option_to_list (option_map items_of o)
mapped-pop rests new o e = ap (map items_of) e ∙ go new ∙ ap (λ l. map items_of new ++ l) (one o)
  where
    one : (o : Option (Vec ℕ Global)) → map items_of (option_to_list o) ≡ option_to_list (option_map items_of o)
    one None = refl
    one (Some l) = refl

    go : (new : List (Vec ℕ Global)) → map items_of (new ++ option_to_list o) ≡ map items_of new ++ map items_of (option_to_list o)
    go [] = refl
    go (r ∷ new) = ap (λ m. items_of r ∷ m) (go new)
