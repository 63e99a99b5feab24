-- What is kept of variables, and the sets made of it.
use Rattle.std.proofs.Common.{◌≡◌, ℕ, zero, suc, ◌+◌, ◌<◌, ◌≤◌, Bool, true, false, List, [], ◌∷◌, ◌++◌, map, drop, length, Option, Some, None, nat_eq, nat_lt, if◌then◌else◌, get_or, slice_set, slice_index_or, Vec, refl, sym, ap, ap₂, subst, ◌∙◌, arith}
use Rattle.std.specs.Option.{option_map}
use Rattle.std.specs.Global.{Global}
use Rattle.std.proofs.lemmas.Bool.{ltb-true, ltb-false, eqb-true, eqb-false, eq-eqb}
use Rattle.std.proofs.lemmas.List.{append-nil, drop_more}
use Rattle.ir_mono.specs.Types as table
use Rattle.flow_sets.specs.ByType as kinds
use Rattle.flow_sets.specs.ByType.{bound, bound_in, is_of, type_of}
use Rattle.closure_whole.specs.Rising.{is_function, functions_from, larger, above, rising_from}
use Rattle.mono_bound.specs.declared.bound.What.{What}
use Rattle.mono_bound.specs.declared.bound.What.TheVariants as what
use Rattle.mono_bound.specs.declared.bound.Bound.{Bound}
use Rattle.mono_bound.specs.Bound.{what_of, bound_of}
use Rattle.plain_tree.specs.declared.tree.Exp.{Exp}
use Rattle.mono_bound.specs.Bound.{exp_bound}
use Rattle.mono_bound.specs.Reads.{mono_of}
use Rattle.flow_types.specs.declared.flow.Flow.{Flow}
use Rattle.flow_types.specs.Flows.{IsRising}
use Rattle.flow_types.specs.Kinds.{kind_at, items_of, empty_sets, pushed, with_kind, sets_in, number_in}

-- A place for a number

pub kind-none : (ks : List (Option What)) (x : ℕ) → kind_at (ks ++ None ∷ []) x ≡ kind_at ks x
kind-none [] zero = refl
kind-none [] (suc x) = refl
kind-none (k ∷ ks) zero = refl
kind-none (k ∷ ks) (suc x) = kind-none ks x

length-more : {A : Type 0} (xs : List A) (x : A) → length (xs ++ x ∷ []) ≡ suc (length xs)
length-more [] x = refl
length-more (y ∷ xs) x = ap suc (length-more xs x)

-- while places are made: so long, but at most one past the number
pub record Growing (variable : ℕ) (old now : List (Option What)) : Type 0 where
  pub long : larger variable (length now) ≡ larger variable (length old)
  pub same : (x : ℕ) → kind_at now x ≡ kind_at old x

larger-less : (v n : ℕ) → v < n → larger v n ≡ n
larger-less v n h = by (nat_lt v n) refl
  where
    by : (b : Bool) → nat_lt v n ≡ b → (if b then n else suc v) ≡ n
    by true q = refl
    by false q = let w : n ≤ v = ltb-false v n q in absurd (omega (arith, w, h))

larger-not : (v n : ℕ) → n ≤ v → larger v n ≡ suc v
larger-not v n h = by (nat_lt v n) refl
  where
    by : (b : Bool) → nat_lt v n ≡ b → (if b then n else suc v) ≡ suc v
    by true q = let w : v < n = ltb-true v n q in absurd (omega (arith, w, h))
    by false q = refl

larger-step : (v n : ℕ) → n ≤ v → larger v (suc n) ≡ suc v
larger-step v n h = by (nat_lt v (suc n)) refl
  where
    by : (b : Bool) → nat_lt v (suc n) ≡ b → (if b then suc n else suc v) ≡ suc v
    by true q = let w : v < suc n = ltb-true v (suc n) q in omega (arith, w, h)
    by false q = refl

pub growing-start : (v : ℕ) (old : List (Option What)) → Growing v old old
growing-start v old = record { long = refl; same = λ x. refl }

pub growing-next : (v : ℕ) (old now new : List (Option What)) → length now ≤ v → new ≡ now ++ None ∷ [] → Growing v old now → Growing v old new
growing-next v old now new h e g = record {
  long = ap (larger v) (ap length e ∙ length-more now None) ∙ larger-step v (length now) h ∙ sym (larger-not v (length now) h) ∙ g.long;
  same = λ x. ap (λ ks. kind_at ks x) e ∙ kind-none now x ∙ g.same x;
}

pub grown-long : (v : ℕ) (old now : List (Option What)) → v < length now → Growing v old now → length now ≡ larger v (length old)
grown-long v old now h g = sym (larger-less v (length now) h) ∙ g.long

pub larger-above : (v n : ℕ) → v < larger v n
larger-above v n = by (nat_lt v n) refl
  where
    by : (b : Bool) → nat_lt v n ≡ b → v < (if b then n else suc v)
    by true q = ltb-true v n q
    by false q = omega arith

-- Numbers that are the same, and those that aren't

nat-same : (n : ℕ) → nat_eq n n ≡ true
nat-same n = eq-eqb n n refl

nat-other : (n m : ℕ) → (n ≡ m → ⊥) → nat_eq n m ≡ false
nat-other n m h = by (nat_eq n m) refl
  where
    by : (b : Bool) → nat_eq n m ≡ b → b ≡ false
    by true q = absurd (h (eqb-true n m q))
    by false q = refl

nat-suc : (n m : ℕ) → nat_eq (suc n) (suc m) ≡ nat_eq n m
nat-suc n m = by (nat_eq n m) refl
  where
    by : (b : Bool) → nat_eq n m ≡ b → nat_eq (suc n) (suc m) ≡ b
    by true q = eq-eqb (suc n) (suc m) (ap suc (eqb-true n m q))
    by false q = nat-other (suc n) (suc m) (λ e. eqb-false n m q (omega (arith, e)))

-- A kind is set

length-set : {A : Type 0} (ks : List A) (v : ℕ) (k : A) → length (slice_set ks v k) ≡ length ks
length-set [] v k = refl
length-set (j ∷ ks) zero k = refl
length-set (j ∷ ks) (suc v) k = ap suc (length-set ks v k)

pub kind-set : (ks : List (Option What)) (v : ℕ) (k : Option What) (x : ℕ) → v < length ks → kind_at (slice_set ks v k) x ≡ (if nat_eq x v then k else kind_at ks x)
kind-set [] v k x h = absurd (omega (arith, h))
kind-set (j ∷ ks) zero k zero h = ap (λ b. if b then k else j) (sym (nat-same zero))
kind-set (j ∷ ks) zero k (suc x) h = ap (λ b. if b then k else kind_at ks x) (sym (nat-other (suc x) zero (λ e. omega (arith, e))))
kind-set (j ∷ ks) (suc v) k zero h = ap (λ b. if b then k else j) (sym (nat-other zero (suc v) (λ e. omega (arith, e))))
kind-set (j ∷ ks) (suc v) k (suc x) h = kind-set ks v k x (omega (arith, h)) ∙ ap (λ b. if b then k else kind_at ks x) (sym (nat-suc x v))

pub set-long : (ks : List (Option What)) (v n : ℕ) (k : Option What) → length ks ≡ larger v n → length (slice_set ks v k) ≡ larger v n
set-long ks v n k e = length-set ks v k ∙ e

pub set-kinds : (old ks : List (Option What)) (v n : ℕ) (w : What) → length ks ≡ larger v n → ((x : ℕ) → kind_at ks x ≡ kind_at old x) → (x : ℕ)
    → kind_at (slice_set ks v (Some w)) x ≡ (if nat_eq x v then Some w else kind_at old x)
set-kinds old ks v n w e same x =
    let a = larger-above v n in
    kind-set ks v (Some w) x (omega (arith, a, e)) ∙ ap (λ o. if nat_eq x v then Some w else o) (same x)

-- The first of each variable's bindings

pub record Known (bs : List Bound) (ks : List (Option What)) : Type 0 where
  pub long : length ks ≡ above (map bound_of bs)
  pub kinds : (x : ℕ) → option_map what_of (kind_at ks x) ≡ option_map (λ (b : kinds.Bound). b.what) (bound_in x (map bound_of bs))

pub known-none : (bs : List Bound) (n : ℕ) (ks : List (Option What)) → length bs ≤ n → ks ≡ [] → Known (drop n bs) ks
known-none bs n ks h e = subst (λ l. Known l ks) (sym (gone bs n h)) (subst (Known []) (sym e) (record { long = refl; kinds = λ x. refl }))
  where
    gone : (bs : List Bound) (n : ℕ) → length bs ≤ n → drop n bs ≡ []
    gone [] zero h = refl
    gone [] (suc n) h = refl
    gone (b ∷ bs) zero h = absurd (omega (arith, h))
    gone (b ∷ bs) (suc n) h = gone bs n (omega (arith, h))

known-front : (b : Bound) (bs : List Bound) (now new : List (Option What)) → length new ≡ larger b.variable (length now)
    → ((x : ℕ) → kind_at new x ≡ (if nat_eq x b.variable then Some b.what else kind_at now x)) → Known bs now → Known (b ∷ bs) new
known-front b bs now new e h k = record {
  long = e ∙ ap (larger b.variable) k.long;
  kinds = λ x. ap (option_map what_of) (h x) ∙ by x (nat_eq x b.variable);
}
  where
    by : (x : ℕ) (q : Bool) → option_map what_of (if q then Some b.what else kind_at now x) ≡ option_map (λ (c : kinds.Bound). c.what) (if q then Some (bound_of b) else bound_in x (map bound_of bs))
    by x true = refl
    by x false = k.kinds x

pub known-next : (bs : List Bound) (n i : ℕ) (b d : Bound) (now new : List (Option What)) → n ≡ i + 1 → i < length bs → b ≡ get_or bs i d → length new ≡ larger b.variable (length now)
    → ((x : ℕ) → kind_at new x ≡ (if nat_eq x b.variable then Some b.what else kind_at now x)) → Known (drop n bs) now → Known (drop i bs) new
known-next bs n i b d now new m h is e f k =
    subst (λ l. Known l new) (ap (λ c. c ∷ drop (i + 1) bs) is ∙ sym (drop_more bs i d h)) (known-front b (drop (i + 1) bs) now new e f (subst (λ v. Known (drop v bs) now) m k))

-- Sets

empty-more : (n : ℕ) → empty_sets n ++ [] ∷ [] ≡ empty_sets (suc n)
empty-more zero = refl
empty-more (suc n) = ap (λ l. [] ∷ l) (empty-more n)

items-more : (ss : List (Vec ℕ Global)) (v : Vec ℕ Global) → items_of (ss ++ v ∷ []) ≡ items_of ss ++ v.items ∷ []
items-more [] v = refl
items-more (s ∷ ss) v = ap (λ l. s.items ∷ l) (items-more ss v)

pub longer : (now new : List (Vec ℕ Global)) (v : Vec ℕ Global) → new ≡ now ++ v ∷ [] → length new ≡ suc (length now)
longer now new v e = ap length e ∙ length-more now v

pub empty-next : (now new : List (Vec ℕ Global)) (v : Vec ℕ Global) → new ≡ now ++ v ∷ [] → v.items ≡ [] → items_of now ≡ empty_sets (length now) → items_of new ≡ empty_sets (length new)
empty-next now new v e n h =
    ap items_of e ∙ items-more now v ∙ ap₂ (λ l i. l ++ i ∷ []) h n ∙ empty-more (length now) ∙ ap empty_sets (sym (longer now new v e))

pub pushed-put : (sets : List (Vec ℕ Global)) (n x : ℕ) (s d : Vec ℕ Global) → n < length sets → s.items ≡ (get_or sets n d).items ++ x ∷ [] → items_of (slice_set sets n s) ≡ pushed n x (items_of sets)
pushed-put [] n x s d h e = absurd (omega (arith, h))
pushed-put (v ∷ sets) zero x s d h e = ap (λ l. l ∷ items_of sets) e
pushed-put (v ∷ sets) (suc n) x s d h e = ap (λ l. v.items ∷ l) (pushed-put sets n x s d (omega (arith, h)) e)

pub pushed-past : (ss : List (Vec ℕ Global)) (n x : ℕ) → length ss ≤ n → items_of ss ≡ pushed n x (items_of ss)
pushed-past [] n x h = refl
pushed-past (s ∷ ss) zero x h = absurd (omega (arith, h))
pushed-past (s ∷ ss) (suc n) x h = ap (λ l. s.items ∷ l) (pushed-past ss n x (omega (arith, h)))

pub sets-next : (ks : List (Option What)) (i : ℕ) (k d : Option What) (now new all : List (List ℕ)) → i < length ks → k ≡ get_or ks i d → new ≡ with_kind k i now
    → sets_in i (drop i ks) now ≡ all → sets_in (i + 1) (drop (i + 1) ks) new ≡ all
sets-next ks i k d now new all h is e w =
    let m : i + 1 ≡ suc i = omega arith in
    ap (λ j. sets_in j (drop (i + 1) ks) new) m ∙ ap (sets_in (suc i) (drop (i + 1) ks)) (e ∙ ap (λ j. with_kind j i now) is) ∙ ap (λ l. sets_in i l now) (sym (drop_more ks i d h)) ∙ w

-- the set of each type has the functions of the type, in rising order

abbrev is_kind : (t : ℕ) → Option What → Bool
is_kind t None = false
is_kind t (Some (what.Value u)) = false
is_kind t (Some what.Name) = false
is_kind t (Some (what.Parameter u)) = nat_eq t u

abbrev functions_in : (t x : ℕ) → List (Option What) → List ℕ
functions_in t x [] = []
functions_in t x (k ∷ ks) = if is_kind t k then x ∷ functions_in t (suc x) ks else functions_in t (suc x) ks

abbrev appended : (t x : ℕ) → List (Option What) → List (List ℕ) → List (List ℕ)
appended t x ks [] = []
appended t x ks (s ∷ ss) = (s ++ functions_in t x ks) ∷ appended (suc t) x ks ss

appended-none : (t x : ℕ) (ss : List (List ℕ)) → ss ≡ appended t x [] ss
appended-none t x [] = refl
appended-none t x (s ∷ ss) = ap₂ (λ a b. a ∷ b) (sym (append-nil s)) (appended-none (suc t) x ss)

-- where no set is of that kind
other-kind : (t x : ℕ) (k : Option What) (ks : List (Option What)) (ss : List (List ℕ)) → ((u : ℕ) → t ≤ u → is_kind u k ≡ false) → appended t (suc x) ks ss ≡ appended t x (k ∷ ks) ss
other-kind t x k ks [] h = refl
other-kind t x k ks (s ∷ ss) h =
    ap₂ (λ (b : Bool) l. (s ++ (if b then x ∷ functions_in t (suc x) ks else functions_in t (suc x) ks)) ∷ l) (sym (h t (omega arith))) (other-kind (suc t) x k ks ss (λ u l. h u (omega (arith, l))))

assoc : {A : Type 0} (a b c : List A) → (a ++ b) ++ c ≡ a ++ (b ++ c)
assoc [] b c = refl
assoc (n ∷ a) b c = ap (λ l. n ∷ l) (assoc a b c)

push-appended : (t u x w : ℕ) (ks : List (Option What)) (ss : List (List ℕ)) → w ≡ t + u → appended t (suc x) ks (pushed u x ss) ≡ appended t x (Some (what.Parameter w) ∷ ks) ss
push-appended t u x w ks [] e = refl
push-appended t zero x w ks (s ∷ ss) e =
    ap₂ (λ a l. a ∷ l)
    (assoc s (x ∷ []) (functions_in t (suc x) ks) ∙ ap (λ (b : Bool). s ++ (if b then x ∷ functions_in t (suc x) ks else functions_in t (suc x) ks)) (sym (ap (nat_eq t) (let r : w ≡ t = omega (arith, e) in r) ∙ nat-same t)))
    (other-kind (suc t) x (Some (what.Parameter w)) ks ss (λ v l. nat-other v w (λ q. omega (arith, q, l, e))))
push-appended t (suc u) x w ks (s ∷ ss) e =
    ap₂ (λ (b : Bool) l. (s ++ (if b then x ∷ functions_in t (suc x) ks else functions_in t (suc x) ks)) ∷ l) (sym (nat-other t w (λ q. omega (arith, q, e)))) (push-appended (suc t) u x w ks ss (omega (arith, e)))

kind-appended : (x : ℕ) (k : Option What) (ks : List (Option What)) (ss : List (List ℕ)) → appended 0 (suc x) ks (with_kind k x ss) ≡ appended 0 x (k ∷ ks) ss
kind-appended x None ks ss = other-kind 0 x None ks ss (λ u l. refl)
kind-appended x (Some (what.Value t)) ks ss = other-kind 0 x (Some (what.Value t)) ks ss (λ u l. refl)
kind-appended x (Some what.Name) ks ss = other-kind 0 x (Some what.Name) ks ss (λ u l. refl)
kind-appended x (Some (what.Parameter t)) ks ss = push-appended 0 t x t ks ss (omega arith)

sets-appended : (x : ℕ) (ks : List (Option What)) (ss : List (List ℕ)) → sets_in x ks ss ≡ appended 0 x ks ss
sets-appended x [] ss = appended-none 0 x ss
sets-appended x (k ∷ ks) ss = sets-appended (suc x) ks (with_kind k x ss) ∙ kind-appended x k ks ss

is-same : (t : ℕ) (k : Option What) (o : Option kinds.Bound) → option_map what_of k ≡ option_map (λ (b : kinds.Bound). b.what) o → is_kind t k ≡ is_function t o
is-same t None None e = refl
is-same t None (Some b) e = absurd (cc)
is-same t (Some w) None e = absurd (cc)
is-same t (Some w) (Some b) e = by w (some-is e)
  where
    some-is : {A : Type 0} {x y : A} → Some x ≡ Some y → x ≡ y
    some-is e = cc

    by : (w : What) → what_of w ≡ b.what → is_kind t (Some w) ≡ is_of t b.what
    by (what.Value u) e = ap (is_of t) e
    by what.Name e = ap (is_of t) e
    by (what.Parameter u) e = ap (is_of t) e

functions-same : (t x : ℕ) (ks : List (Option What)) (bs : List kinds.Bound) → ((y : ℕ) → option_map what_of (kind_at ks y) ≡ option_map (λ (b : kinds.Bound). b.what) (bound_in (x + y) bs))
    → functions_in t x ks ≡ functions_from t x (length ks) bs
functions-same t x [] bs h = refl
functions-same t x (k ∷ ks) bs h =
    let z : x + 0 ≡ x = omega arith in
    ap₂ (λ (b : Bool) l. if b then x ∷ l else l) (is-same t k (bound_in x bs) (h 0 ∙ ap (λ y. option_map (λ (b : kinds.Bound). b.what) (bound_in y bs)) z))
    (functions-same t (suc x) ks bs (λ y. h (suc y) ∙ ap (λ v. option_map (λ (b : kinds.Bound). b.what) (bound_in v bs)) (let r : x + suc y ≡ suc x + y = omega arith in r)))

rising-appended : (t n : ℕ) (bs : List Bound) (ks : List (Option What)) → Known bs ks → appended t 0 ks (empty_sets n) ≡ rising_from t n (map bound_of bs)
rising-appended t zero bs ks k = refl
rising-appended t (suc n) bs ks k =
    ap₂ (λ a l. a ∷ l) (functions-same t 0 ks (map bound_of bs) (λ y. k.kinds y ∙ ap (λ v. option_map (λ (b : kinds.Bound). b.what) (bound_in v (map bound_of bs))) (let r : y ≡ 0 + y = omega arith in r)) ∙ ap (λ m. functions_from t 0 m (map bound_of bs)) k.long) (rising-appended (suc t) n bs ks k)

pub sets-rise : (n : ℕ) (bs : List Bound) (ks : List (Option What)) → Known bs ks → sets_in 0 ks (empty_sets n) ≡ rising_from 0 n (map bound_of bs)
sets-rise n bs ks k = sets-appended 0 ks (empty_sets n) ∙ rising-appended 0 n bs ks k

pub rising-long : (t n : ℕ) (bs : List kinds.Bound) → length (rising_from t n bs) ≡ n
rising-long t zero bs = refl
rising-long t (suc n) bs = ap suc (rising-long (suc t) n bs)

-- Numbers

module _ (types : List table.Row) where
  number-same : (k : Option What) (o : Option kinds.Bound) → option_map what_of k ≡ option_map (λ (b : kinds.Bound). b.what) o → number_in types k ≡ type_of types o
  number-same None None e = refl
  number-same None (Some b) e = absurd (cc)
  number-same (Some w) None e = absurd (cc)
  number-same (Some w) (Some b) e = by w (some-is e)
    where
      some-is : {A : Type 0} {x y : A} → Some x ≡ Some y → x ≡ y
      some-is e = cc

      by : (w : What) → what_of w ≡ b.what → number_in types (Some w) ≡ type_of types (Some b)
      by (what.Value u) e = ap (λ v. type_of types (Some (record { variable = b.variable; what = v }))) e
      by what.Name e = ap (λ v. type_of types (Some (record { variable = b.variable; what = v }))) e
      by (what.Parameter u) e = ap (λ v. type_of types (Some (record { variable = b.variable; what = v }))) e

  number-at : (ks : List (Option What)) (x : ℕ) → slice_index_or (map (number_in types) ks) x (length types) ≡ number_in types (kind_at ks x)
  number-at [] zero = refl
  number-at [] (suc x) = refl
  number-at (k ∷ ks) zero = refl
  number-at (k ∷ ks) (suc x) = number-at ks x

  pub numbers-are : (bs : List Bound) (ks : List (Option What)) (x : ℕ) → Known bs ks → slice_index_or (map (number_in types) ks) x (length types) ≡ type_of types (bound_in x (map bound_of bs))
  numbers-are bs ks x k = number-at ks x ∙ number-same (kind_at ks x) (bound_in x (map bound_of bs)) (k.kinds x)

  pub has-rising : (strings : List (List ℕ)) (body : Exp) (found seen : List Bound) (ks seen-ks seen-ks' : List (Option What)) (flow : Flow) → map bound_of (exp_bound types body) ≡ bound types (mono_of types strings body)
      → found ≡ exp_bound types body → seen ≡ found → Known seen ks → seen-ks ≡ ks → seen-ks' ≡ ks → items_of flow.sets.items ≡ sets_in 0 seen-ks (empty_sets (length types)) → flow.numbers.items ≡ map (number_in types) seen-ks'
      → IsRising flow types (mono_of types strings body)
  has-rising strings body found seen ks seen-ks seen-ks' flow b f z k e e' hs hn initial expansion = record {
    sets = set-lists;
    numbers = λ x.
        ap₂ (λ l n. slice_index_or l x n) (hn ∙ ap (map (number_in types)) e') (sym (items-long flow.sets.items) ∙ ap length set-lists ∙ rising-long 0 (length types) (bound types (mono_of types strings body)))
        ∙ numbers-are seen ks x k ∙ ap (λ bs. type_of types (bound_in x bs)) all;
  }
    where
      all : map bound_of seen ≡ bound types (mono_of types strings body)
      all = ap (map bound_of) (z ∙ f) ∙ b

      items-long : (ss : List (Vec ℕ Global)) → length (items_of ss) ≡ length ss
      items-long [] = refl
      items-long (s ∷ ss) = ap suc (items-long ss)

      set-lists : items_of flow.sets.items ≡ rising_from 0 (length types) (bound types (mono_of types strings body))
      set-lists = hs ∙ ap (λ l. sets_in 0 l (empty_sets (length types))) e ∙ sets-rise (length types) seen ks k ∙ ap (rising_from 0 (length types)) all
