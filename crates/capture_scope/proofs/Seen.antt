-- The scope of the variables that are seen.
use Rattle.std.proofs.Common.{◌≡◌, ℕ, zero, suc, ◌+◌, ◌-◌, ◌<◌, ◌≤◌, Bool, true, false, List, [], ◌∷◌, ◌++◌, reverse, map, take, drop, length, nat_eq, if◌then◌else◌, get_or, refl, sym, ap, ap₂, subst, ◌∙◌, arith}
use Rattle.std.specs.List.{list_any}
use Rattle.indexmap.specs.IndexSet.{insert_key}
use Rattle.std.proofs.lemmas.List.{append-nil, reverse-append, reverse-reverse, length-reverse, length-append, take-append-drop, take-append-le, drop-append-le, take_more}
use Rattle.closure_convert.specs.Scope.{Scope, Member, names, add}
use Rattle.closure_convert.specs.Closed.{scope_of}
use Rattle.closure_convert.specs.Capture.{onto, visible}
use Rattle.capture_scope.specs.declared.scope.Member as code
use Rattle.capture_scope.specs.Seen.{members_of, scope_in, IsSeen}
use Rattle.capture_scope.specs.Found.{left_to}

assoc : {A : Type 0} (a b c : List A) → (a ++ b) ++ c ≡ a ++ (b ++ c)
assoc [] b c = refl
assoc (n ∷ a) b c = ap (λ l. n ∷ l) (assoc a b c)

onto-is : (xs ys : List ℕ) → onto xs ys ≡ reverse xs ++ ys
onto-is [] ys = refl
onto-is (x ∷ xs) ys = onto-is xs (x ∷ ys) ∙ sym (assoc (reverse xs) (x ∷ []) ys) ∙ ap (λ l. l ++ ys) (sym (reverse-append (x ∷ []) xs))

nothing-left : {A : Type 0} (g : ℕ) → ◌≡◌ {A = List A} [] (drop g [])
nothing-left zero = refl
nothing-left (suc g) = refl

drop-add : {A : Type 0} (c g : ℕ) (xs : List A) → drop (c + g) xs ≡ drop g (drop c xs)
drop-add zero g xs = ap (λ n. drop n xs) (let e : 0 + g ≡ g = omega arith in e)
drop-add (suc c) g [] = ap (λ n. drop n []) (let e : suc c + g ≡ suc (c + g) = omega arith in e) ∙ nothing-left g
drop-add (suc c) g (x ∷ xs) = ap (λ n. drop n (x ∷ xs)) (let e : suc c + g ≡ suc (c + g) = omega arith in e) ∙ drop-add c g xs

-- what is seen is captured, or of the group, or bound
pub seen-parts : (xs : List ℕ) (c : ℕ) (ms : List Member) → IsSeen xs c ms → take c xs ++ (names ms ++ drop (c + length ms) xs) ≡ xs
seen-parts xs c ms s =
    ap (λ l. take c xs ++ l) (ap₂ (λ a b. a ++ b) (sym s.names_stand) (drop-add c (length ms) xs) ∙ take-append-drop (length ms) (drop c xs)) ∙ take-append-drop c xs

pub visible-is : (xs : List ℕ) (c : ℕ) (ms : List Member) → IsSeen xs c ms → visible (scope_in xs c ms) ≡ xs
visible-is xs c ms s =
    ap (λ l. take c xs ++ (names ms ++ l)) (onto-is (reverse (drop (c + length ms) xs)) [] ∙ append-nil (reverse (reverse (drop (c + length ms) xs))) ∙ reverse-reverse (drop (c + length ms) xs))
    ∙ seen-parts xs c ms s

-- Entering

pub names-long : (ms : List Member) → length (names ms) ≡ length ms
names-long [] = refl
names-long (m ∷ ms) = ap suc (names-long ms)

take-whole : {A : Type 0} (xs : List A) → take (length xs) xs ≡ xs
take-whole [] = refl
take-whole (x ∷ xs) = ap (λ l. x ∷ l) (take-whole xs)

take-all : {A : Type 0} (xs ys : List A) → take (length xs) (xs ++ ys) ≡ xs
take-all [] ys = refl
take-all (x ∷ xs) ys = ap (λ l. x ∷ l) (take-all xs ys)

drop-whole : {A : Type 0} (xs : List A) → drop (length xs) xs ≡ []
drop-whole [] = refl
drop-whole (x ∷ xs) = drop-whole xs

drop-all : {A : Type 0} (xs ys : List A) → drop (length xs) (xs ++ ys) ≡ ys
drop-all [] ys = refl
drop-all (x ∷ xs) ys = drop-all xs ys

-- before anything is bound
module _ (cs : List ℕ) (ms : List Member) where
  pub unbound-seen : IsSeen (cs ++ names ms) (length cs) ms
  unbound-seen = record {
    within = let a = length-append cs (names ms) in let n = names-long ms in omega (arith, a, n);
    names_stand = ap (take (length ms)) (drop-all cs (names ms)) ∙ ap (λ n. take n (names ms)) (sym (names-long ms)) ∙ take-whole (names ms);
  }

  none-bound : drop (length cs + length ms) (cs ++ names ms) ≡ []
  none-bound =
      drop-add (length cs) (length ms) (cs ++ names ms) ∙ ap (drop (length ms)) (drop-all cs (names ms)) ∙ ap (λ n. drop n (names ms)) (sym (names-long ms)) ∙ drop-whole (names ms)

  pub unbound : scope_in (cs ++ names ms) (length cs) ms ≡ record { locals = []; group = ms; captured = cs }
  unbound = ap₂ (λ l c. record { locals = reverse l; group = ms; captured = c }) none-bound (take-all cs (names ms))

pub top-seen : IsSeen [] 0 []
top-seen = record { within = omega arith; names_stand = refl }

-- Binding and leaving

pub added-seen : (xs new : List ℕ) (c x : ℕ) (ms : List Member) → new ≡ xs ++ x ∷ [] → IsSeen xs c ms → IsSeen new c ms
added-seen xs new c x ms e s = subst (λ l. IsSeen l c ms) (sym e) (record {
  within = let a = length-append xs (x ∷ []) in let w = s.within in omega (arith, a, w);
  names_stand = ap (take (length ms)) (drop-append-le c xs (x ∷ []) (let w = s.within in omega (arith, w))) ∙ take-append-le (length ms) (drop c xs) (x ∷ []) (long c xs (let w = s.within in omega (arith, w))) ∙ s.names_stand;
})
  where
    long : (c : ℕ) (xs : List ℕ) → c + length ms ≤ length xs → length ms ≤ length (drop c xs)
    long zero xs h = omega (arith, h)
    long (suc c) [] h = absurd (omega (arith, h))
    long (suc c) (y ∷ xs) h = long c xs (omega (arith, h))

pub added-is : (xs new : List ℕ) (c x : ℕ) (ms : List Member) → new ≡ xs ++ x ∷ [] → IsSeen xs c ms → scope_in new c ms ≡ add x (scope_in xs c ms)
added-is xs new c x ms e s =
    ap (λ l. scope_in l c ms) e
    ∙ ap₂ (λ l cs. record { locals = l; group = ms; captured = cs })
    (ap reverse (drop-append-le (c + length ms) xs (x ∷ []) s.within) ∙ reverse-append (drop (c + length ms) xs) (x ∷ [])) (take-append-le c xs (x ∷ []) (let w = s.within in omega (arith, w)))

take-take : {A : Type 0} (n m : ℕ) (xs : List A) → n ≤ m → take n (take m xs) ≡ take n xs
take-take zero m xs h = refl
take-take (suc n) zero xs h = absurd (omega (arith, h))
take-take (suc n) (suc m) [] h = refl
take-take (suc n) (suc m) (x ∷ xs) h = ap (λ l. x ∷ l) (take-take n m xs (omega (arith, h)))

nothing-taken : {A : Type 0} (m : ℕ) → ◌≡◌ {A = List A} [] (take m [])
nothing-taken zero = refl
nothing-taken (suc m) = refl

drop-take : {A : Type 0} (n m : ℕ) (xs : List A) → drop n (take (n + m) xs) ≡ take m (drop n xs)
drop-take zero m xs = ap (λ k. take k xs) (let e : 0 + m ≡ m = omega arith in e)
drop-take (suc n) m [] = ap (λ k. drop (suc n) (take k [])) (let e : suc n + m ≡ suc (n + m) = omega arith in e) ∙ nothing-taken m
drop-take (suc n) m (x ∷ xs) = ap (λ k. drop (suc n) (take k (x ∷ xs))) (let e : suc n + m ≡ suc (n + m) = omega arith in e) ∙ drop-take n m xs

-- the first so many, backwards
reverse-take : {A : Type 0} (n : ℕ) (xs : List A) → reverse (take n xs) ≡ drop (length xs - n) (reverse xs)
reverse-take n xs =
    sym (ap (drop (length xs - n)) (sym (ap reverse (take-append-drop n xs)) ∙ reverse-append (take n xs) (drop n xs))
    ∙ ap (λ k. drop k (reverse (drop n xs) ++ reverse (take n xs))) (sym (length-reverse (drop n xs) ∙ rest n xs)) ∙ drop-all (reverse (drop n xs)) (reverse (take n xs)))
  where
    rest : {A : Type 0} (n : ℕ) (xs : List A) → length (drop n xs) ≡ length xs - n
    rest zero xs = omega arith
    rest (suc n) [] = omega arith
    rest (suc n) (x ∷ xs) = let r = rest n xs in omega (arith, r)

drop-long : (n : ℕ) (xs : List ℕ) → length (drop n xs) ≡ length xs - n
drop-long zero xs = omega arith
drop-long (suc n) [] = omega arith
drop-long (suc n) (x ∷ xs) = let r = drop-long n xs in omega (arith, r)

drop-past : {A : Type 0} (n : ℕ) (xs : List A) → length xs ≤ n → drop n xs ≡ []
drop-past zero [] h = refl
drop-past (suc n) [] h = refl
drop-past zero (x ∷ xs) h = absurd (omega (arith, h))
drop-past (suc n) (x ∷ xs) h = drop-past n xs (omega (arith, h))

module _ (xs : List ℕ) (c : ℕ) (ms : List Member) (s : IsSeen xs c ms) where
  pub cut-seen : (m : ℕ) → IsSeen (take (c + length ms + m) xs) c ms
  cut-seen m = record {
    within = least (c + length ms) m xs s.within;
    names_stand = ap (λ k. take (length ms) (drop c (take k xs))) (let e : c + length ms + m ≡ c + (length ms + m) = omega arith in e) ∙ ap (take (length ms)) (drop-take c (length ms + m) xs)
        ∙ take-take (length ms) (length ms + m) (drop c xs) (omega arith) ∙ s.names_stand;
  }
    where
      least : (n m : ℕ) (xs : List ℕ) → n ≤ length xs → n ≤ length (take (n + m) xs)
      least zero m xs h = omega arith
      least (suc n) m [] h = absurd (omega (arith, h))
      least (suc n) m (x ∷ xs) h =
          let r = least n m xs (omega (arith, h)) in
          let e : suc n + m ≡ suc (n + m) = omega arith in
          let q = ap (λ k. length (take k (x ∷ xs))) e in omega (arith, r, q)

  pub cut-is : (m len : ℕ) → (drop (length xs - len) (reverse (drop (c + length ms) xs)) ≡ reverse (take m (drop (c + length ms) xs))) → scope_in (take (c + length ms + m) xs) c ms ≡ left_to len (scope_in xs c ms)
  cut-is m len e =
      ap₂ (λ l cs. record { locals = l; group = ms; captured = cs })
      (ap reverse (drop-take (c + length ms) m xs) ∙ sym e ∙ ap (λ v. drop (length v - len) (reverse (drop (c + length ms) xs))) (sym (visible-is xs c ms s)))
      (take-take c (c + length ms + m) xs (omega arith))

  -- to more than what was there at first, or to that
  pub left-more : (len : ℕ) → c + length ms ≤ len → IsSeen (take len xs) c ms
  left-more len h = let e : c + length ms + (len - (c + length ms)) ≡ len = omega (arith, h) in subst (λ n. IsSeen (take n xs) c ms) e (cut-seen (len - (c + length ms)))

  pub left-more-is : (len : ℕ) → c + length ms ≤ len → scope_in (take len xs) c ms ≡ left_to len (scope_in xs c ms)
  left-more-is len h =
      let e : c + length ms + (len - (c + length ms)) ≡ len = omega (arith, h) in
      let w = s.within in
      let d = drop-long (c + length ms) xs in
      sym (ap (λ n. scope_in (take n xs) c ms) e)
      ∙ cut-is (len - (c + length ms)) len (ap (λ k. drop k (reverse (drop (c + length ms) xs))) (let q : length xs - len ≡ length (drop (c + length ms) xs) - (len - (c + length ms)) = omega (arith, d, h, w) in q)
      ∙ sym (reverse-take (len - (c + length ms)) (drop (c + length ms) xs)))

  pub left-least : IsSeen (take (c + length ms) xs) c ms
  left-least = left-more (c + length ms) (omega arith)

  pub left-least-is : (len : ℕ) → len < c + length ms → scope_in (take (c + length ms) xs) c ms ≡ left_to len (scope_in xs c ms)
  left-least-is len h =
      let e : c + length ms + 0 ≡ c + length ms = omega arith in
      let w = s.within in
      let d = drop-long (c + length ms) xs in
      let r = length-reverse (drop (c + length ms) xs) in
      sym (ap (λ n. scope_in (take n xs) c ms) e) ∙ cut-is 0 len (drop-past (length xs - len) (reverse (drop (c + length ms) xs)) (omega (arith, d, h, w, r)))

-- Leaving all that is bound

onto-long : (xs ys : List ℕ) → length (onto xs ys) ≡ length xs + length ys
onto-long [] ys = omega arith
onto-long (x ∷ xs) ys = let r = onto-long xs (x ∷ ys) in omega (arith, r)

none-left : (s : Scope) → drop (length (visible s) - 0) s.locals ≡ []
none-left s =
    let a = length-append s.captured (names s.group ++ onto s.locals []) in
    let b = length-append (names s.group) (onto s.locals []) in
    let c = onto-long s.locals [] in
    drop-past (length (visible s) - 0) s.locals (omega (arith, a, b, c))

pub all-left : (s now : Scope) → now ≡ left_to 0 s → now ≡ record { locals = []; group = s.group; captured = s.captured }
all-left s now e = e ∙ ap (λ l. record { locals = l; group = s.group; captured = s.captured }) (none-left s)

pub begun : (x : ℕ) (s now new : Scope) → now ≡ left_to 0 s → new ≡ add x now → new ≡ scope_of s.captured s.group x
begun x s now new e n = n ∙ ap (add x) (all-left s now e)

-- What an index has

pub inserted : (ks new : List ℕ) (x : ℕ) (b : Bool) → b ≡ Rattle.std.specs.Prelude.not (list_any (nat_eq x) ks) → b ≡ true → new ≡ insert_key nat_eq ks x → new ≡ ks ++ x ∷ []
inserted ks new x b e t n = n ∙ by (list_any (nat_eq x) ks) (sym t ∙ e)
  where
    by : (c : Bool) → true ≡ Rattle.std.specs.Prelude.not c → (if c then ks else ks ++ x ∷ []) ≡ ks ++ x ∷ []
    by true q = absurd (cc)
    by false q = refl

pub one-more : {A : Type 0} (ks now new : List ℕ) (name : A → ℕ) (xs : List A) (i : ℕ) (x d : A) → i < length xs → x ≡ get_or xs i d → now ≡ ks ++ map name (take i xs) → new ≡ now ++ name x ∷ [] → new ≡ ks ++ map name (take (i + 1) xs)
one-more ks now new name xs i x d h is e n =
    n ∙ ap (λ l. l ++ name x ∷ []) e ∙ assoc ks (map name (take i xs)) (name x ∷ [])
    ∙ ap (λ l. ks ++ l) (sym (ap (map name) (take_more xs i d h ∙ ap (λ y. take i xs ++ y ∷ []) (sym is)) ∙ map-last (take i xs)))
  where
    map-last : (ys : List _) → map name (ys ++ x ∷ []) ≡ map name ys ++ name x ∷ []
    map-last [] = refl
    map-last (y ∷ ys) = ap (λ l. name y ∷ l) (map-last ys)

pub names-are : (group : List code.Member) → map (λ (m : code.Member). m.name) group ≡ names (members_of group)
names-are [] = refl
names-are (m ∷ ms) = ap (λ l. m.name ∷ l) (names-are ms)

take-over : {A : Type 0} (xs : List A) (i : ℕ) → length xs ≤ i → take i xs ≡ xs
take-over [] zero h = refl
take-over [] (suc i) h = refl
take-over (x ∷ xs) zero h = absurd (omega (arith, h))
take-over (x ∷ xs) (suc i) h = ap (λ l. x ∷ l) (take-over xs i (omega (arith, h)))

pub names-done : (ks now : List ℕ) (group : List code.Member) (i : ℕ) → length group ≤ i → now ≡ ks ++ map (λ (m : code.Member). m.name) (take i group) → now ≡ ks ++ names (members_of group)
names-done ks now group i h e = e ∙ ap (λ l. ks ++ map (λ (m : code.Member). m.name) l) (take-over group i h) ∙ ap (λ l. ks ++ l) (names-are group)

pub members-long : (group : List code.Member) → length (members_of group) ≡ length group
members-long [] = refl
members-long (m ∷ ms) = ap suc (members-long ms)

-- the scope as it is seen
pub seen-visible : (xs : List ℕ) (c : ℕ) (ms : List Member) (s : Scope) → IsSeen xs c ms → scope_in xs c ms ≡ s → visible s ≡ xs
seen-visible xs c ms s h e = sym (ap visible e) ∙ visible-is xs c ms h

pub unbound-keys : (captured : List ℕ) (group : List code.Member) (none ks new : List ℕ) → none ≡ [] → ks ≡ none ++ captured → new ≡ ks ++ names (members_of group) → new ≡ captured ++ names (members_of group)
unbound-keys captured group none ks new n a b = b ∙ ap (λ l. l ++ names (members_of group)) (a ∙ ap (λ l. l ++ captured) n)

pub no-keys : (ks : List ℕ) → length ks ≡ 0 → ks ≡ []
no-keys [] e = refl
no-keys (k ∷ ks) e = absurd (omega (arith, e))
