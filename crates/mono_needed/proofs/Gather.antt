-- Types are gathered, one after the other.
use Rattle.std.proofs.Common.{◌≡◌, ◌≢◌, AllPairs, ℕ, zero, suc, ◌+◌, ◌<◌, ◌≤◌, ◌⊎◌, inl, inr, List, [], ◌∷◌, ◌++◌, map, length, take, slice_get, get_or, Some, None, option_map, Bool, true, false, nat_eq, ◌||◌, if◌then◌else◌, refl, sym, ap, ap₂, ◌∙◌, subst, arith}
use Rattle.std.specs.List.{list_any}
use Rattle.std.proofs.lemmas.Bool.{eqb-true, eq-eqb, false≢true}
use Rattle.indexmap.specs.IndexSet.{insert_key}
use Rattle.ty_core.specs.Types.{Typ, var}
use Rattle.ty_table.specs.TypeAt.{type_at, AllBelow}
use Rattle.ty_table.proofs.Keeping.{one-place}
use Rattle.ir_poly.specs.Types.{Constructor}
use Rattle.monomorphise.specs.Expansion.{IsOneOf, this, further, IsNeeded, needed_itself, needed_field, needed_argument, AreDifferent, none_differ, one_differs}
use Rattle.monomorphise.specs.Counting.{needed_within}
use Rattle.mono_close.specs.Closing.{Longer}
use Rattle.mono_close.proofs.Tables.{type-longer, length-longer, below-longer}
use Rattle.mono_needed.specs.Gathered.{NeedsAtOnce, a_field, an_argument, AreAllNeeded}
use Rattle.mono_needed.specs.Gathering.{Has, At, Opens, added, AreGathered, Gathers}
use Rattle.mono_needed.proofs.Counts.{all-counted, more-past}

-- numbers in lists

pub has-front : (l r : List ℕ) (k : ℕ) → Has l k → Has (l ++ r) k
has-front [] r k h = absurd h
has-front (x ∷ l) r k (inl e) = inl e
has-front (x ∷ l) r k (inr h) = inr (has-front l r k h)

pub has-back : (l r : List ℕ) (k : ℕ) → Has r k → Has (l ++ r) k
has-back [] r k h = h
has-back (x ∷ l) r k h = inr (has-back l r k h)

pub has-either : (l r : List ℕ) (k : ℕ) → Has (l ++ r) k → Has l k ⊎ Has r k
has-either [] r k h = inr h
has-either (x ∷ l) r k (inl e) = inl (inl e)
has-either (x ∷ l) r k (inr h) = go (has-either l r k h)
  where
    go : Has l k ⊎ Has r k → Has (x ∷ l) k ⊎ Has r k
    go (inl a) = inl (inr a)
    go (inr b) = inr b

pub below-has : (n : ℕ) (l : List ℕ) (k : ℕ) → AllBelow n l → Has l k → k < n
below-has n [] k b h = absurd h
below-has n (x ∷ l) k b (inl e) = subst (λ z. z < n) (sym e) b.0
below-has n (x ∷ l) k b (inr h) = below-has n l k b.1 h

pub below-append : (n : ℕ) (l r : List ℕ) → AllBelow n l → AllBelow n r → AllBelow n (l ++ r)
below-append n [] r a b = b
below-append n (x ∷ l) r a b = (a.0, below-append n l r a.1 b)

pub at-front : (us : List Typ) (l r : List ℕ) (t : Typ) → At us l t → At us (l ++ r) t
at-front us l r t a = record { number = a.number; among = has-front l r a.number a.among; is = a.is }

pub at-back : (us : List Typ) (l r : List ℕ) (t : Typ) → At us r t → At us (l ++ r) t
at-back us l r t a = record { number = a.number; among = has-back l r a.number a.among; is = a.is }

pub at-longer : (us ws : List Typ) (l : List ℕ) (t : Typ) → Longer us ws → AllBelow (length us) l → At us l t → At ws l t
at-longer us ws l t g b a = record { number = a.number; among = a.among; is = type-longer us ws a.number g (below-has (length us) l a.number b a.among) ∙ a.is }

listed : (us : List Typ) (l : List ℕ) (k : ℕ) → Has l k → IsOneOf (type_at us k) (map (type_at us) l)
listed us [] k h = absurd h
listed us (x ∷ l) k (inl e) = subst (λ z. IsOneOf (type_at us z) (map (type_at us) (x ∷ l))) (sym e) this
listed us (x ∷ l) k (inr h) = further (listed us l k h)

at-listed : (us : List Typ) (l : List ℕ) (t : Typ) → At us l t → IsOneOf t (map (type_at us) l)
at-listed us l t a = subst (λ t. IsOneOf t (map (type_at us) l)) a.is (listed us l a.number a.among)

listed-at : (us : List Typ) (l : List ℕ) (t : Typ) → IsOneOf t (map (type_at us) l) → At us l t
listed-at us [] t i = elim i [ ]
listed-at us (x ∷ l) t this = record { number = x; among = inl refl; is = refl }
listed-at us (x ∷ l) t (further i) = let a = listed-at us l t i in record { number = a.number; among = inr a.among; is = a.is }

-- a number that is not among them has another type

pub new-type : (us : List Typ) (ks : List ℕ) (k : ℕ) → AllPairs (λ t u. t ≢ u) us → k < length us → AllBelow (length us) ks → (Has ks k → ⊥) → IsOneOf (type_at us k) (map (type_at us) ks) → ⊥
new-type us ks k o lt b n i =
    let a = listed-at us ks (type_at us k) i in
    n (subst (Has ks) (one-place (var 0) us a.number k o (below-has (length us) ks a.number b a.among) lt a.is) a.among)

one-of-either : (ts us : List Typ) (t : Typ) → IsOneOf t (ts ++ us) → IsOneOf t ts ⊎ IsOneOf t us
one-of-either [] us t i = inr i
one-of-either (u ∷ ts) us t this = inl this
one-of-either (u ∷ ts) us t (further i) = go (one-of-either ts us t i)
  where
    go : IsOneOf t ts ⊎ IsOneOf t us → IsOneOf t (u ∷ ts) ⊎ IsOneOf t us
    go (inl j) = inl (further j)
    go (inr j) = inr j

only-one : (t u : Typ) → IsOneOf t (u ∷ []) → t ≡ u
only-one t u this = refl
only-one t u (further i) = elim i [ ]

different-end : (ts : List Typ) (t : Typ) → AreDifferent ts → (IsOneOf t ts → ⊥) → AreDifferent (ts ++ t ∷ [])
different-end [] t d n = one_differs (λ i. elim i [ ]) none_differ
different-end (u ∷ ts) t (one_differs m d) n = one_differs (λ i. either (one-of-either ts (t ∷ []) u i)) (different-end ts t d (λ i. n (further i)))
  where
    either : IsOneOf u ts ⊎ IsOneOf u (t ∷ []) → ⊥
    either (inl i) = m i
    either (inr i) = n (subst (λ z. IsOneOf z (u ∷ ts)) (only-one u t i) this)

map-append : (f : ℕ → Typ) (l r : List ℕ) → map f (l ++ r) ≡ map f l ++ map f r
map-append f [] r = refl
map-append f (x ∷ l) r = ap (λ m. f x ∷ m) (map-append f l r)

map-longer : (us ws : List Typ) (l : List ℕ) → Longer us ws → AllBelow (length us) l → map (type_at ws) l ≡ map (type_at us) l
map-longer us ws [] g b = refl
map-longer us ws (x ∷ l) g b = ap₂ (λ t ts. t ∷ ts) (type-longer us ws x g b.0) (map-longer us ws l g b.1)

length-end : (ks : List ℕ) (k : ℕ) → length (ks ++ k ∷ []) ≡ suc (length ks)
length-end [] k = refl
length-end (x ∷ ks) k = ap suc (length-end ks k)

length-mapped : (f : ℕ → Typ) (l : List ℕ) → length (map f l) ≡ length l
length-mapped f [] = refl
length-mapped f (x ∷ l) = ap suc (length-mapped f l)

-- a number that is put into a set

held : (ks : List ℕ) (k : ℕ) → list_any (nat_eq k) ks ≡ true → Has ks k
held [] k h = absurd (false≢true h)
held (x ∷ ks) k h = go (nat_eq k x) refl (held ks k)
  where
    go : (c : Bool) → nat_eq k x ≡ c → (list_any (nat_eq k) ks ≡ true → Has ks k) → Has (x ∷ ks) k
    go true i r = inl (eqb-true k x i)
    go false i r = inr (r (sym (ap (λ c. c || list_any (nat_eq k) ks) i) ∙ h))

any-first : (b c : Bool) → (b || c) ≡ false → b ≡ true → ⊥
any-first true c e i = false≢true (sym e)
any-first false c e i = false≢true i

any-rest : (b c : Bool) → (b || c) ≡ false → c ≡ false
any-rest true c e = absurd (false≢true (sym e))
any-rest false c e = e

not-held : (ks : List ℕ) (k : ℕ) → list_any (nat_eq k) ks ≡ false → Has ks k → ⊥
not-held [] k h a = a
not-held (x ∷ ks) k h (inl e) = any-first (nat_eq k x) (list_any (nat_eq k) ks) h (eq-eqb k x e)
not-held (x ∷ ks) k h (inr a) = not-held ks k (any-rest (nat_eq k x) (list_any (nat_eq k) ks) h) a

in-key : (ks : List ℕ) (k : ℕ) (b : Bool) → list_any (nat_eq k) ks ≡ b → (j : ℕ) → Has ks j → Has (if b then ks else ks ++ k ∷ []) j
in-key ks k true e j h = h
in-key ks k false e j h = has-front ks (k ∷ []) j h

key-in : (ks : List ℕ) (k : ℕ) (b : Bool) → list_any (nat_eq k) ks ≡ b → Has (if b then ks else ks ++ k ∷ []) k
key-in ks k true e = held ks k e
key-in ks k false e = has-back ks (k ∷ []) k (inl refl)

still-in : (ks xs : List ℕ) (k : ℕ) → Has ks k → Has (added ks xs) k
still-in ks [] k h = h
still-in ks (x ∷ xs) k h = still-in (insert_key nat_eq ks x) xs k (in-key ks x (list_any (nat_eq x) ks) refl k h)

added-in : (ks xs : List ℕ) (k : ℕ) → Has xs k → Has (added ks xs) k
added-in ks [] k h = absurd h
added-in ks (x ∷ xs) k (inl e) = still-in (insert_key nat_eq ks x) xs k (subst (Has (insert_key nat_eq ks x)) (sym e) (key-in ks x (list_any (nat_eq x) ks) refl))
added-in ks (x ∷ xs) k (inr h) = added-in (insert_key nat_eq ks x) xs k h

take-front : (l r : List ℕ) (n : ℕ) → n ≤ length l → take n (l ++ r) ≡ take n l
take-front l r zero le = refl
take-front [] r (suc n) le = absurd (omega arith)
take-front (x ∷ l) r (suc n) le = ap (λ m. x ∷ m) (take-front l r n (omega arith))

key-take : (ks : List ℕ) (k n : ℕ) (b : Bool) → n ≤ length ks → take n (if b then ks else ks ++ k ∷ []) ≡ take n ks
key-take ks k n true le = refl
key-take ks k n false le = take-front ks (k ∷ []) n le

key-long : (ks : List ℕ) (k : ℕ) (b : Bool) → length ks ≤ length (if b then ks else ks ++ k ∷ [])
key-long ks k true = omega arith
key-long ks k false = let e = length-end ks k in omega (arith, e)

-- those that were there stay where they are
added-take : (ks xs : List ℕ) (n : ℕ) → n ≤ length ks → take n (added ks xs) ≡ take n ks
added-take ks [] n le = refl
added-take ks (x ∷ xs) n le =
    let l = key-long ks x (list_any (nat_eq x) ks) in
    added-take (insert_key nat_eq ks x) xs n (omega (arith, l)) ∙ key-take ks x n (list_any (nat_eq x) ks) le

take-one : (ks : List ℕ) (n t k : ℕ) → slice_get ks n ≡ Some t → Has (take (suc n) ks) k → Has (take n ks) k ⊎ (k ≡ t)
take-one [] n t k e h = absurd h
take-one (x ∷ ks) zero t k e (inl p) = let q : x ≡ t = cc in inr (p ∙ q)
take-one (x ∷ ks) zero t k e (inr h) = absurd h
take-one (x ∷ ks) (suc n) t k e (inl p) = inl (inl p)
take-one (x ∷ ks) (suc n) t k e (inr h) = go (take-one ks n t k e h)
  where
    go : Has (take n ks) k ⊎ (k ≡ t) → Has (take (suc n) (x ∷ ks)) k ⊎ (k ≡ t)
    go (inl i) = inl (inr i)
    go (inr p) = inr p

taken-has : (ks : List ℕ) (n k : ℕ) → Has (take n ks) k → Has ks k
taken-has [] zero k h = absurd h
taken-has [] (suc n) k h = absurd h
taken-has (x ∷ ks) zero k h = absurd h
taken-has (x ∷ ks) (suc n) k (inl e) = inl e
taken-has (x ∷ ks) (suc n) k (inr h) = inr (taken-has ks n k h)

got-has : (ks : List ℕ) (n t : ℕ) → slice_get ks n ≡ Some t → Has ks t
got-has [] n t e = absurd (cc)
got-has (x ∷ ks) zero t e = let q : t ≡ x = cc in inl q
got-has (x ∷ ks) (suc n) t e = inr (got-has ks n t e)

pub got-less : (ks : List ℕ) (n t : ℕ) → slice_get ks n ≡ Some t → n < length ks
got-less [] n t e = absurd (cc)
got-less (x ∷ ks) zero t e = omega arith
got-less (x ∷ ks) (suc n) t e = let h = got-less ks n t e in omega (arith, h)

pub got-read : (ks : List ℕ) (n t : ℕ) → n < length ks → t ≡ get_or ks n t → slice_get ks n ≡ Some t
got-read [] n t lt e = absurd (omega arith)
got-read (x ∷ ks) zero t lt e = ap Some (sym e)
got-read (x ∷ ks) (suc n) t lt e = got-read ks n t (omega arith) e

none-more : (ks : List ℕ) (n k : ℕ) → length ks ≤ n → Has ks k → Has (take n ks) k
none-more [] n k le h = absurd h
none-more (x ∷ ks) zero k le h = absurd (omega arith)
none-more (x ∷ ks) (suc n) k le (inl p) = inl p
none-more (x ∷ ks) (suc n) k le (inr h) = inr (none-more ks n k (omega arith) h)

-- types are gathered

module _ (constructors : List Constructor) (roots : List Typ) where
  gathered-one : (us : List Typ) (ks : List ℕ) (k : ℕ) (b : Bool) → list_any (nat_eq k) ks ≡ b → AllPairs (λ t u. t ≢ u) us → k < length us → IsNeeded constructors roots (type_at us k) → AreGathered constructors roots us ks
      → AreGathered constructors roots us (if b then ks else ks ++ k ∷ [])
  gathered-one us ks k true e once lt n g = g
  gathered-one us ks k false e once lt n g = record {
    below = below-append (length us) ks (k ∷ []) g.below (lt, tt);
    apart = subst AreDifferent (sym (map-append (type_at us) ks (k ∷ []))) (different-end (map (type_at us) ks) (type_at us k) g.apart (new-type us ks k once lt g.below (not-held ks k e)));
    there = λ j h. either j (has-either ks (k ∷ []) j h);
  }
    where
      either : (j : ℕ) → Has ks j ⊎ Has (k ∷ []) j → IsNeeded constructors roots (type_at us j)
      either j (inl h) = g.there j h
      either j (inr (inl p)) = subst (λ z. IsNeeded constructors roots (type_at us z)) (sym p) n
      either j (inr (inr h)) = absurd h

  gathered-added : (us : List Typ) (ks xs : List ℕ) → AllPairs (λ t u. t ≢ u) us → AllBelow (length us) xs → ((k : ℕ) → Has xs k → IsNeeded constructors roots (type_at us k)) → AreGathered constructors roots us ks
      → AreGathered constructors roots us (added ks xs)
  gathered-added us ks [] once b n g = g
  gathered-added us ks (x ∷ xs) once b n g =
      gathered-added us (insert_key nat_eq ks x) xs once b.1 (λ k h. n k (inr h)) (gathered-one us ks x (list_any (nat_eq x) ks) refl once b.0 (n x (inl refl)) g)

  pub gathers-begins : (us : List Typ) (new ks rs : List ℕ) → new ≡ [] → ks ≡ added new rs → roots ≡ map (type_at us) rs → AllPairs (λ t u. t ≢ u) us → AllBelow (length us) rs → Gathers constructors roots us ks 0
  gathers-begins us new ks rs e p r once b = subst (λ ks. Gathers constructors roots us ks 0) (sym (p ∙ ap (λ l. added l rs) e)) (record {
    gathered = gathered-added us [] rs once b (λ k h. needed_itself (subst (IsOneOf (type_at us k)) (sym r) (listed us rs k h))) (record { below = tt; apart = none_differ; there = λ k h. absurd h });
    roots_are = λ t i. let a = listed-at us rs t (subst (IsOneOf t) r i) in record { number = a.number; among = added-in [] rs a.number a.among; is = a.is };
    parts_are = λ k u h n. absurd h;
  })

  needed-next : (t u : Typ) → IsNeeded constructors roots t → NeedsAtOnce constructors t u → IsNeeded constructors roots u
  needed-next t u n (a_field ls ts e i) = needed_field (subst (IsNeeded constructors roots) e n) i
  needed-next t u n (an_argument c h) = needed_argument c n h

  gathered-longer : (us ws : List Typ) (ks : List ℕ) → Longer us ws → AreGathered constructors roots us ks → AreGathered constructors roots ws ks
  gathered-longer us ws ks longer g = record {
    below = below-longer (length us) (length ws) ks (length-longer us ws longer) g.below;
    apart = subst AreDifferent (sym (map-longer us ws ks longer g.below)) g.apart;
    there = λ k h. subst (IsNeeded constructors roots) (sym (type-longer us ws k longer (below-has (length us) ks k g.below h))) (g.there k h);
  }

  -- what the next one needs is put there
  module _ (us ws : List Typ) (ks none found : List ℕ) (n t : ℕ) (empty : none ≡ []) (got : slice_get ks n ≡ Some t) (longer : Longer us ws) (once : AllPairs (λ t u. t ≢ u) ws) (o : Opens constructors (type_at us t) ws none found)
      (g : Gathers constructors roots us ks n) where
    numbers-are : found ≡ o.numbers
    numbers-are = o.is ∙ ap (λ l. l ++ o.numbers) empty

    was-there : (u : Typ) → At us ks u → At ws (added ks found) u
    was-there u a = let b = at-longer us ws ks u longer g.gathered.below a in record { number = b.number; among = still-in ks found b.number b.among; is = b.is }

    is-there : (u : Typ) → At ws o.numbers u → At ws (added ks found) u
    is-there u a = record { number = a.number; among = added-in ks found a.number (subst (λ l. Has l a.number) (sym numbers-are) a.among); is = a.is }

    t-needed : IsNeeded constructors roots (type_at us t)
    t-needed = g.gathered.there t (got-has ks n t got)

    found-needed : (k : ℕ) → Has found k → IsNeeded constructors roots (type_at ws k)
    found-needed k h = needed-next (type_at us t) (type_at ws k) t-needed (o.sound k (subst (λ l. Has l k) numbers-are h))

    parts-now : (k : ℕ) (u : Typ) → Has (take (suc n) (added ks found)) k → NeedsAtOnce constructors (type_at ws k) u → At ws (added ks found) u
    parts-now k u h w = either (take-one ks n t k got taken)
      where
        taken : Has (take (suc n) ks) k
        taken = let l = got-less ks n t got in subst (λ l. Has l k) (added-take ks found (suc n) (omega (arith, l))) h

        before : NeedsAtOnce constructors (type_at us k) u
        before = subst (λ t. NeedsAtOnce constructors t u) (type-longer us ws k longer (below-has (length us) ks k g.gathered.below (taken-has ks (suc n) k taken))) w

        either : Has (take n ks) k ⊎ (k ≡ t) → At ws (added ks found) u
        either (inl i) = was-there u (g.parts_are k u i before)
        either (inr e) = is-there u (o.complete u (subst (λ z. NeedsAtOnce constructors (type_at us z) u) e before))

    pub gathers-opens : (new : List ℕ) → new ≡ added ks found → Gathers constructors roots ws new (n + 1)
    gathers-opens new p = subst (λ l. Gathers constructors roots ws l (n + 1)) (sym p) (subst (Gathers constructors roots ws (added ks found)) (let q : suc n ≡ n + 1 = omega arith in q) (record {
      gathered = gathered-added ws ks found once (subst (AllBelow (length ws)) (sym numbers-are) o.below) found-needed (gathered-longer us ws ks longer g.gathered);
      roots_are = λ u i. was-there u (g.roots_are u i);
      parts_are = parts-now;
    }))

  -- what each of them needs is there
  gathers-ends : (us : List Typ) (ks : List ℕ) (n : ℕ) → length ks ≤ n → Gathers constructors roots us ks n → AreAllNeeded constructors roots (map (type_at us) ks)
  gathers-ends us ks n e g = record {
    each_once = g.gathered.apart;
    roots_are = λ t i. at-listed us ks t (g.roots_are t i);
    parts_are = λ t u i w. let a = listed-at us ks t i in at-listed us ks u (g.parts_are a.number u (none-more ks n a.number e a.among) (subst (λ t. NeedsAtOnce constructors t u) (sym a.is) w));
    only = λ t i. let a = listed-at us ks t i in subst (IsNeeded constructors roots) a.is (g.gathered.there a.number a.among);
  }

  -- the answers

  pub answers-all : (limit : ℕ) (us : List Typ) (ks : List ℕ) (n : ℕ) → length ks ≤ n → n ≤ limit → Gathers constructors roots us ks n → Some (length ks) ≡ option_map length (needed_within constructors limit [] roots)
  answers-all limit us ks n e le g =
      let l = length-mapped (type_at us) ks in
      ap Some (sym l) ∙ sym (all-counted constructors limit roots (map (type_at us) ks) (gathers-ends us ks n e g) (omega (arith, l, e, le)))

  pub answers-past : (limit : ℕ) (us : List Typ) (ks : List ℕ) (n : ℕ) → limit < length ks → Gathers constructors roots us ks n → None ≡ option_map length (needed_within constructors limit [] roots)
  answers-past limit us ks n lt g =
      let l = length-mapped (type_at us) ks in
      sym (ap (option_map length) (more-past constructors limit roots (map (type_at us) ks) (record { each_once = g.gathered.apart; only = λ t i. let a = listed-at us ks t i in subst (IsNeeded constructors roots) a.is (g.gathered.there a.number a.among) }) (omega (arith, l, lt))))
