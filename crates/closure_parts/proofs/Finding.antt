-- Places that are found by hash, and where a body finds its variables.
use Rattle.std.proofs.Common.{◌≡◌, ℕ, zero, suc, ◌+◌, ◌<◌, ◌≤◌, Bool, true, false, List, [], ◌∷◌, ◌++◌, map, take, drop, length, reverse, get_or, slice_get, Option, Some, None, option_map, unwrap_or, nat_eq, if◌then◌else◌, refl, sym, ap, ap₂, subst, ◌∙◌, arith}
use Rattle.std.specs.Map.{lookup}
use Rattle.std.specs.Str.{bytes_eq}
use Rattle.std.proofs.lemmas.Bool.{eqb-true, eq-eqb}
use Rattle.std.proofs.lemmas.List.{drop_more, reverse-append, reverse-reverse, length-reverse}
use Rattle.mlc_names.specs.declared.label.Label.{Label}
use Rattle.mlc_names.specs.declared.label.Label.TheVariants.{Number, Word}
use Rattle.ir_values.specs.Values.{same_label, false_number, true_number}
use Rattle.ir_mono.specs.Types as table
use Rattle.ir_mono.specs.Types.{bool_number, node_at}
use Rattle.flow_sets.specs.Member.{is_in}
use Rattle.closure_convert.specs.Scope.{Scope, Way, no_way, leads, follows, way, index_of}
use Rattle.first_values.specs.Operations as op
use Rattle.first_values.specs.Values as cells
use Rattle.ir_first.specs.Tree as out
use Rattle.closure_meaning.specs.Convert.{Numbering, holder, var, outer, access, label_index, constructor_index, constructors_in, tag_among, con_tag}
use Rattle.flow_types.specs.of_closure_whole.Converted.{text_index}
use Rattle.capture_scope.specs.declared.scope.Found.{Found}
use Rattle.capture_scope.specs.declared.scope.Found.TheVariants.{Local, Captured, Leads, Follows}
use Rattle.capture_scope.specs.Found.{Place, local, captured, leading, following, nowhere, found_of, found_in, found_around}
use Rattle.closure_parts.specs.Indexed.{Finds, AreFound, constructor_numbers, number_next, label_key, texts_of, is_text, FindsTexts, Kept}
use Rattle.closure_parts.specs.Puts.{sole_of}
use Rattle.closure_parts.specs.declared.places.Index.{Index}
use Rattle.flow_types.specs.Kinds.{items_of}

-- numbers

differ : (a b : ℕ) → (a ≡ b → ⊥) → nat_eq a b ≡ false
differ a b h = by (nat_eq a b) refl
  where
    by : (c : Bool) → nat_eq a b ≡ c → c ≡ false
    by true e = absurd (h (eqb-true a b e))
    by false e = refl

pub flip : (a b : ℕ) → nat_eq a b ≡ nat_eq b a
flip a b = by (nat_eq a b) (nat_eq b a) refl refl
  where
    by : (c d : Bool) → nat_eq a b ≡ c → nat_eq b a ≡ d → c ≡ d
    by true true p q = refl
    by false false p q = refl
    by true false p q = let e : nat_eq b a ≡ true = eq-eqb b a (sym (eqb-true a b p)) in absurd (cc)
    by false true p q = let e : nat_eq a b ≡ true = eq-eqb a b (sym (eqb-true b a q)) in absurd (cc)

placed-by : (b : Bool) (o : Option ℕ) (n i r count : ℕ) → n ≡ i + 1 → unwrap_or o count ≡ n + r → unwrap_or (if b then Some i else o) count ≡ i + (if b then zero else suc r)
placed-by true o n i r count m h = omega arith
placed-by false o n i r count m h = h ∙ (let e : n + r ≡ i + suc r = omega (arith, m) in e)

-- one more in front of those that are placed
pub placed-next : (keys : List ℕ) (n i e d : ℕ) (now new : List (ℕ × ℕ)) → n ≡ i + 1 → i < length keys → e ≡ get_or keys i d
    → ((q : ℕ) → lookup (nat_eq q) new ≡ (if nat_eq e q then Some i else lookup (nat_eq q) now))
    → ((k : ℕ) → unwrap_or (lookup (nat_eq k) now) (length keys) ≡ n + index_of k (drop n keys))
    → (k : ℕ) → unwrap_or (lookup (nat_eq k) new) (length keys) ≡ i + index_of k (drop i keys)
placed-next keys n i e d now new m lt is put inv k =
    let left : drop i keys ≡ e ∷ drop n keys = drop_more keys i d lt ∙ ap₂ (λ y j. y ∷ drop j keys) (sym is) (sym m) in
    ap (λ o. unwrap_or o (length keys)) (put k ∙ ap (λ (b : Bool). if b then Some i else lookup (nat_eq k) now) (flip e k))
    ∙ placed-by (nat_eq k e) (lookup (nat_eq k) now) n i (index_of k (drop n keys)) (length keys) m (inv k)
    ∙ ap (λ l. i + index_of k l) (sym left)

gone : {A : Type 0} (xs : List A) (n : ℕ) → length xs ≤ n → drop n xs ≡ []
gone [] zero h = refl
gone [] (suc n) h = refl
gone (x ∷ xs) zero h = absurd (omega (arith, h))
gone (x ∷ xs) (suc n) h = gone xs n (omega (arith, h))

pub placed-none : (keys : List ℕ) (n : ℕ) (places : List (ℕ × ℕ)) → n ≡ length keys → places ≡ [] → (k : ℕ) → unwrap_or (lookup (nat_eq k) places) (length keys) ≡ n + index_of k (drop n keys)
placed-none keys n places h e k =
    ap (λ l. unwrap_or (lookup (nat_eq k) l) (length keys)) e
    ∙ (let z : index_of k (drop n keys) ≡ 0 = ap (index_of k) (gone keys n (omega (arith, h))) in let r : length keys ≡ n + index_of k (drop n keys) = omega (arith, z, h) in r)

pub placed-all : (keys : List ℕ) (n : ℕ) (places : List (ℕ × ℕ)) → n ≤ 0 → ((k : ℕ) → unwrap_or (lookup (nat_eq k) places) (length keys) ≡ n + index_of k (drop n keys))
    → (k : ℕ) → unwrap_or (lookup (nat_eq k) places) (length keys) ≡ index_of k keys
placed-all keys n places h inv k =
    let z : n ≡ 0 = omega (arith, h) in
    inv k ∙ ap (λ j. j + index_of k (drop j keys)) z ∙ (let r : 0 + index_of k keys ≡ index_of k keys = omega arith in r)

-- strings

pub texts-next : (keys : List Kept) (n i : ℕ) (e d : Kept) (now new : List (Kept × ℕ)) → n ≡ i + 1 → i < length keys → e.items ≡ (get_or keys i d).items
    → ((s : List ℕ) → lookup (is_text s) new ≡ (if bytes_eq s e.items then Some i else lookup (is_text s) now))
    → ((s : List ℕ) → unwrap_or (lookup (is_text s) now) (length keys) ≡ n + text_index s (texts_of (drop n keys)))
    → (s : List ℕ) → unwrap_or (lookup (is_text s) new) (length keys) ≡ i + text_index s (texts_of (drop i keys))
texts-next keys n i e d now new m lt is put inv s =
    let left : texts_of (drop i keys) ≡ e.items ∷ texts_of (drop n keys) = ap texts_of (drop_more keys i d lt) ∙ ap₂ (λ y j. y ∷ texts_of (drop j keys)) (sym is) (sym m) in
    ap (λ o. unwrap_or o (length keys)) (put s)
    ∙ placed-by (bytes_eq s e.items) (lookup (is_text s) now) n i (text_index s (texts_of (drop n keys))) (length keys) m (inv s)
    ∙ ap (λ l. i + text_index s l) (sym left)

pub length-texts : (keys : List Kept) → length (texts_of keys) ≡ length keys
length-texts [] = refl
length-texts (k ∷ ks) = ap suc (length-texts ks)

pub texts-none : (keys : List Kept) (n : ℕ) (places : List (Kept × ℕ)) → n ≡ length keys → places ≡ [] → (s : List ℕ) → unwrap_or (lookup (is_text s) places) (length keys) ≡ n + text_index s (texts_of (drop n keys))
texts-none keys n places h e s =
    ap (λ l. unwrap_or (lookup (is_text s) l) (length keys)) e
    ∙ (let z : text_index s (texts_of (drop n keys)) ≡ 0 = ap (λ l. text_index s (texts_of l)) (gone keys n (omega (arith, h))) in let r : length keys ≡ n + text_index s (texts_of (drop n keys)) = omega (arith, z, h) in r)

pub texts-all : (keys : List Kept) (n : ℕ) (places : List (Kept × ℕ)) → n ≤ 0 → ((s : List ℕ) → unwrap_or (lookup (is_text s) places) (length keys) ≡ n + text_index s (texts_of (drop n keys)))
    → FindsTexts places (texts_of keys)
texts-all keys n places h inv s =
    let z : n ≡ 0 = omega (arith, h) in
    ap (unwrap_or (lookup (is_text s) places)) (length-texts keys) ∙ inv s ∙ ap (λ j. j + text_index s (texts_of (drop j keys))) z ∙ (let r : 0 + text_index s (texts_of keys) ≡ text_index s (texts_of keys) = omega arith in r)

-- for each number

pub at-last : {A : Type 0} (P : ℕ → A → Type 0) (xs : List A) (x : A) → ((t : ℕ) (y : A) → slice_get xs t ≡ Some y → P t y) → P (length xs) x → (t : ℕ) (y : A) → slice_get (xs ++ x ∷ []) t ≡ Some y → P t y
at-last P [] x h p zero y e = let q : x ≡ y = (cc) in subst (P zero) q p
at-last P [] x h p (suc t) y e = absurd (cc)
at-last P (z ∷ xs) x h p zero y e = h zero y e
at-last P (z ∷ xs) x h p (suc t) y e = at-last (λ n. P (suc n)) xs x (λ n. h (suc n)) p t y e

length-last : {A : Type 0} (xs : List A) (x : A) → length (xs ++ x ∷ []) ≡ length xs + 1
length-last [] x = omega arith
length-last (y ∷ xs) x = let r = length-last xs x in omega (arith, r)

pub found-next : (xs new : List Index) (x : Index) (t n : ℕ) (keys : ℕ → List ℕ) → n ≡ t + 1 → new ≡ xs ++ x ∷ [] → Finds x (keys t) → AreFound xs t keys → AreFound new n keys
found-next xs new x t n keys m e f h =
    subst (λ l. AreFound l n keys) (sym e)
    (record {
      long = let a = length-last xs x in let b = h.long in omega (arith, a, b, m);
      each = at-last (λ k y. Finds y (keys k)) xs x h.each (subst (λ k. Finds x (keys k)) (sym h.long) f);
    })

pub found-none : (xs : List Index) (keys : ℕ → List ℕ) → xs ≡ [] → AreFound xs 0 keys
found-none xs keys e = subst (λ l. AreFound l 0 keys) (sym e) (record { long = refl; each = λ t y k. absurd (cc) })

-- constructors

take-nil : (n : ℕ) → take {A = ℕ × Option ℕ} n [] ≡ []
take-nil zero = refl
take-nil (suc n) = refl

take-next : (cs : List (ℕ × Option ℕ)) (i : ℕ) → map (λ k. k.0) (take (i + 1) cs) ≡ number_next (map (λ k. k.0) (take i cs)) (option_map (λ e. e.0) (slice_get cs i))
take-next [] zero = refl
take-next [] (suc i) = ap (map (λ k. k.0)) (take-nil (suc i + 1))
take-next (c ∷ cs) zero = refl
take-next (c ∷ cs) (suc i) = ap (λ m. map (λ k. k.0) (take m (c ∷ cs))) (let e : suc i + 1 ≡ suc (i + 1) = omega arith in e) ∙ by (option_map (λ e. e.0) (slice_get cs i)) (take-next cs i)
  where
    by : (o : Option ℕ) → map (λ k. k.0) (take (i + 1) cs) ≡ number_next (map (λ k. k.0) (take i cs)) o → map (λ k. k.0) (take (suc (i + 1)) (c ∷ cs)) ≡ number_next (c.0 ∷ map (λ k. k.0) (take i cs)) o
    by None h = ap (λ l. c.0 ∷ l) h
    by (Some k) h = ap (λ l. c.0 ∷ l) h

pub number-one : (cs : List (ℕ × Option ℕ)) (i k : ℕ) (ks new : List ℕ) (found : Option ℕ) → option_map (λ e. e.0) (slice_get cs i) ≡ found → found ≡ Some k → new ≡ ks ++ k ∷ []
    → new ≡ number_next ks (option_map (λ e. e.0) (slice_get cs i))
number-one cs i k ks new found a b n = n ∙ ap (number_next ks) (sym (a ∙ b))

pub number-none : (cs : List (ℕ × Option ℕ)) (i : ℕ) (ks : List ℕ) (found : Option ℕ) → option_map (λ e. e.0) (slice_get cs i) ≡ found → found ≡ None → ks ≡ number_next ks (option_map (λ e. e.0) (slice_get cs i))
number-none cs i ks found a b = ap (number_next ks) (sym (a ∙ b))

pub numbers-next : (cs : List (ℕ × Option ℕ)) (i n : ℕ) (ks new : List ℕ) → n ≡ i + 1 → new ≡ number_next ks (option_map (λ e. e.0) (slice_get cs i)) → ks ≡ map (λ e. e.0) (take i cs) → new ≡ map (λ e. e.0) (take n cs)
numbers-next cs i n ks new m h inv = h ∙ ap (λ l. number_next l (option_map (λ e. e.0) (slice_get cs i))) inv ∙ sym (take-next cs i) ∙ ap (λ j. map (λ e. e.0) (take j cs)) (sym m)

before-all : {A : Type 0} (xs : List A) (i : ℕ) → length xs ≤ i → take i xs ≡ xs
before-all [] zero h = refl
before-all [] (suc i) h = refl
before-all (x ∷ xs) zero h = absurd (omega (arith, h))
before-all (x ∷ xs) (suc i) h = ap (λ l. x ∷ l) (before-all xs i (omega (arith, h)))

map-append : {A B : Type 0} (f : A → B) (xs ys : List A) → map f (xs ++ ys) ≡ map f xs ++ map f ys
map-append f [] ys = refl
map-append f (x ∷ xs) ys = ap (λ l. f x ∷ l) (map-append f xs ys)

turned : (ds : List (ℕ × Option ℕ)) → reverse (map (λ e. e.0) ds) ≡ map (λ e. e.0) (reverse ds)
turned [] = refl
turned (d ∷ ds) =
    reverse-append (d.0 ∷ []) (map (λ e. e.0) ds) ∙ ap (λ l. l ++ d.0 ∷ []) (turned ds) ∙ sym (map-append (λ e. e.0) (reverse ds) (d ∷ [])) ∙ ap (map (λ e. e.0)) (sym (reverse-append (d ∷ []) ds))

pub numbers-all : (cs : List (ℕ × Option ℕ)) (i : ℕ) (ks new : List ℕ) → length cs ≤ i → ks ≡ map (λ e. e.0) (take i (reverse cs)) → new ≡ reverse ks → new ≡ map (λ e. e.0) cs
numbers-all cs i ks new le h n =
    let l = length-reverse cs in
    n ∙ ap reverse (h ∙ ap (map (λ e. e.0)) (before-all (reverse cs) i (omega (arith, le, l)))) ∙ turned (reverse cs) ∙ ap (map (λ e. e.0)) (reverse-reverse cs)

pub constructor-number : (c : ℕ) (cs : List (ℕ × Option ℕ)) → index_of c (map (λ k. k.0) cs) ≡ constructor_index c cs
constructor-number c [] = refl
constructor-number c (k ∷ cs) = ap (λ r. if nat_eq c k.0 then zero else suc r) (constructor-number c cs)

-- labels

same-answer : (a b : Bool) → (a ≡ true → b ≡ true) → (b ≡ true → a ≡ true) → a ≡ b
same-answer true true f g = refl
same-answer false false f g = refl
same-answer true false f g = absurd (let e : false ≡ true = f refl in cc)
same-answer false true f g = absurd (let e : false ≡ true = g refl in cc)

odd-even : (m n : ℕ) → m + m ≡ n + n + 1 → ⊥
odd-even zero n e = absurd (omega arith)
odd-even (suc m) zero e = absurd (omega arith)
odd-even (suc m) (suc n) e = odd-even m n (omega arith)

halves : (m n : ℕ) → m + m ≡ n + n → m ≡ n
halves m n e = omega arith

-- two labels are one where their numbers are
key-same : (l k : Label) → nat_eq (label_key l) (label_key k) ≡ same_label l k
key-same (Number m) (Number n) = same-answer (nat_eq (m + m) (n + n)) (nat_eq m n) (λ e. eq-eqb m n (halves m n (eqb-true (m + m) (n + n) e))) (λ e. let same : m ≡ n = eqb-true m n e in eq-eqb (m + m) (n + n) (omega arith))
key-same (Word x) (Word y) = same-answer (nat_eq (x + x + 1) (y + y + 1)) (nat_eq x y)
    (λ e. let p : x + x + 1 ≡ y + y + 1 = eqb-true (x + x + 1) (y + y + 1) e in eq-eqb x y (halves x y (omega arith))) (λ e. let same : x ≡ y = eqb-true x y e in eq-eqb (x + x + 1) (y + y + 1) (omega arith))
key-same (Number m) (Word y) = same-answer (nat_eq (m + m) (y + y + 1)) false (λ e. absurd (odd-even m y (eqb-true (m + m) (y + y + 1) e))) (λ e. absurd (cc))
key-same (Word x) (Number n) = same-answer (nat_eq (x + x + 1) (n + n)) false (λ e. absurd (odd-even n x (sym (eqb-true (x + x + 1) (n + n) e)))) (λ e. absurd (cc))

pub label-number : (l : Label) (ls : List Label) → index_of (label_key l) (map label_key ls) ≡ label_index l ls
label-number l [] = refl
label-number l (k ∷ ls) = ap₂ (λ (b : Bool) r. if b then zero else suc r) (key-same l k) (label-number l ls)

-- where a body finds a variable

abbrev op_at : (tag : ℕ → ℕ) → Scope → ℕ → Place → out.Op
op_at tag s x local = out.plain op.same (var x ∷ [])
op_at tag s x (captured i) = out.plain (op.field i) (holder ∷ [])
op_at tag s x leading = out.plain op.same (holder ∷ [])
op_at tag s x (following k) = out.make (tag k) (cells.one holder ∷ [])
op_at tag s x nowhere = out.plain op.same (var x ∷ [])

-- found there, it is read there
found-access : (n : Numbering) (s : Scope) (x : ℕ) (p : Place) → p ≡ found_in s x → (p ≡ nowhere → ⊥) → op_at n.tag s x p ≡ access n s x
found-access n s x p h k = ap (op_at n.tag s x) h ∙ inside (is_in x s.locals) (way x s.group) (λ e. k (h ∙ e))
  where
    outside : (b : Bool) → ((if b then captured (index_of x s.captured) else nowhere) ≡ nowhere → ⊥) → op_at n.tag s x (if b then captured (index_of x s.captured) else nowhere) ≡ out.plain (op.field (index_of x s.captured)) (holder ∷ [])
    outside true q = refl
    outside false q = absurd (q refl)

    around : (w : Way) → (found_around s x w ≡ nowhere → ⊥) → op_at n.tag s x (found_around s x w) ≡ outer n s.captured x w
    around no_way q = outside (is_in x s.captured) q
    around leads q = refl
    around (follows k) q = refl

    inside : (b : Bool) (w : Way) → ((if b then local else found_around s x w) ≡ nowhere → ⊥) → op_at n.tag s x (if b then local else found_around s x w) ≡ (if b then out.plain op.same (var x ∷ []) else outer n s.captured x w)
    inside true w q = refl
    inside false w q = around w q

module _ (n : Numbering) (s : Scope) (x : ℕ) (found : Found) (h : found_of found ≡ found_in s x) where
  access-at : (f : Found) → found ≡ f → (found_of f ≡ nowhere → ⊥) → op_at n.tag s x (found_of f) ≡ access n s x
  access-at f e k = found-access n s x (found_of f) (ap found_of (sym e) ∙ h) k

  pub access-local : found ≡ Local → out.plain op.same (var x ∷ []) ≡ access n s x
  access-local e = access-at Local e (λ q. absurd (cc))

  pub access-captured : (i : ℕ) → found ≡ Captured i → out.plain (op.field i) (holder ∷ []) ≡ access n s x
  access-captured i e = access-at (Captured i) e (λ q. absurd (cc))

  pub access-leads : found ≡ Leads → out.plain op.same (holder ∷ []) ≡ access n s x
  access-leads e = access-at Leads e (λ q. absurd (cc))

  pub access-follows : (k tag : ℕ) → found ≡ Follows k → tag ≡ n.tag k → out.make tag (cells.one holder ∷ []) ≡ access n s x
  access-follows k tag e t = ap (λ i. out.make i (cells.one holder ∷ [])) t ∙ access-at (Follows k) e (λ q. absurd (cc))

-- sets

pub set-there : (ss : List Kept) (i : ℕ) (d : Kept) → i < length ss → (get_or ss i d).items ≡ get_or (items_of ss) i []
set-there [] i d h = absurd (omega (arith, h))
set-there (s ∷ ss) zero d h = refl
set-there (s ∷ ss) (suc i) d h = set-there ss i d (omega (arith, h))

pub set-past : (ss : List Kept) (i : ℕ) → length ss ≤ i → get_or (items_of ss) i [] ≡ []
set-past [] i h = refl
set-past (s ∷ ss) zero h = absurd (omega (arith, h))
set-past (s ∷ ss) (suc i) h = set-past ss i (omega (arith, h))

pub one-sole : (ks : List ℕ) (k d : ℕ) → length ks ≡ 1 → k ≡ get_or ks 0 d → Some k ≡ sole_of ks
one-sole [] k d h e = absurd (omega (arith, h))
one-sole (j ∷ []) k d h e = ap Some e
one-sole (j ∷ l ∷ ks) k d h e = absurd (omega (arith, h))

pub none-sole : (ks : List ℕ) → (length ks ≡ 1 → ⊥) → None ≡ sole_of ks
none-sole [] h = refl
none-sole (j ∷ []) h = absurd (h refl)
none-sole (j ∷ l ∷ ks) h = refl

pub found-all : (xs : List Index) (n m : ℕ) (keys : ℕ → List ℕ) → n ≡ m → AreFound xs n keys → AreFound xs m keys
found-all xs n m keys e h = subst (λ k. AreFound xs k keys) e h

-- where there is none of a number, nothing is found
pub nothing-found : (types : List table.Row) (t c : ℕ) → length types ≤ t → index_of c (constructor_numbers types t) ≡ 0
nothing-found [] t c h = refl
nothing-found (r ∷ rs) zero c h = absurd (omega (arith, h))
nothing-found (r ∷ rs) (suc t) c h = nothing-found rs t c (omega (arith, h))

-- tags

module _ (types : List table.Row) (t c place : ℕ) (h : place ≡ index_of c (constructor_numbers types t)) where
  place-is : place ≡ constructor_index c (constructors_in (slice_get types t))
  place-is = h ∙ constructor-number c (constructors_in (slice_get types t))

  pub tag-other : (t ≡ bool_number → ⊥) → place ≡ con_tag types t c
  tag-other d = place-is ∙ ap (λ (b : Bool). tag_among b c (constructors_in (slice_get types t))) (sym (differ t bool_number d))

  pub tag-more : (tag : ℕ) → t ≡ bool_number → (c ≡ false_number → ⊥) → (c ≡ true_number → ⊥) → tag ≡ place + 2 → tag ≡ con_tag types t c
  tag-more tag e f g r =
      (let p = place-is in let q : tag ≡ suc (suc (constructor_index c (constructors_in (slice_get types t)))) = omega (arith, p, r) in q)
      ∙ ap₂ (λ (a b : Bool). if a then 0 else (if b then 1 else suc (suc (constructor_index c (constructors_in (slice_get types t)))))) (sym (differ c false_number f)) (sym (differ c true_number g))
      ∙ ap (λ (b : Bool). tag_among b c (constructors_in (slice_get types t))) (sym (eq-eqb t bool_number e))

-- three tests fail

pub texts-last : (a b c : Bool) → a ≡ false → b ≡ false → c ≡ false → op.texts ≡ (if a then op.ints else (if b then op.words else (if c then op.chars else op.texts)))
texts-last a b c p q r = ap₂ (λ (v w : Bool). if v then op.ints else (if w then op.words else op.texts)) (sym p) (sym q) ∙ ap (λ (w : Bool). if a then op.ints else (if b then op.words else (if w then op.chars else op.texts))) (sym r)

pub label-found : (types : List table.Row) (t key place : ℕ) (l : Label) (ls : List Label) → place ≡ index_of key (map label_key ls) → key ≡ label_key l → place ≡ label_index l ls
label-found types t key place l ls h k = h ∙ ap (λ v. index_of v (map label_key ls)) k ∙ label-number l ls
