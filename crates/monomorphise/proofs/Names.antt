-- What is needed at which types, and which copies are made of it.
use Rattle.std.proofs.Common.{◌≡◌, ℕ, List, [], ◌∷◌, ◌++◌, Bool, true, false, ◌&&◌, ◌||◌, not, nat_eq, if◌then◌else◌, refl, ap}
use Rattle.std.proofs.lemmas.Bool.{eq-eqb, eqb-true}
use Rattle.mlc_names.specs.declared.label.Label.{Label}
use Rattle.mlc_names.specs.declared.label.Label.TheVariants.{Number, Word}
use Rattle.ty_core.specs.Types.{Symbol, arrow, labels, name, Typ, var, con, Typs, none, more}
use Rattle.ty_core.specs.declared.name.TyName.{TyName}
use Rattle.ty_core.specs.declared.name.Equality as attribute
use Rattle.ty_core.specs.declared.name.Equality.TheVariants.{Always, ByArguments, Never}
use Rattle.ir_mono.specs.of_ir_values.Values.{same_label}
use Rattle.monomorphise.specs.Monomorphise.{same_attribute, same_name, same_labels, same_symbol, same_type, same_parts, same_types, Name, copy_of, is_same, is_among, is_in, others, all_needs}

left : (a b : Bool) → (a && b) ≡ true → a ≡ true
left true b e = refl
left false b e = absurd (cc)

right : (a b : Bool) → (a && b) ≡ true → b ≡ true
right true b e = e
right false b e = absurd (cc)

both : (a b : Bool) → a ≡ true → b ≡ true → (a && b) ≡ true
both true b e f = f
both false b e f = absurd (cc)

-- the test of types is equality
attribute-same : (a : attribute.Equality) → same_attribute a a ≡ true
attribute-same Always = refl
attribute-same ByArguments = refl
attribute-same Never = refl

label-same : (l : Label) → same_label l l ≡ true
label-same (Number n) = eq-eqb n n refl
label-same (Word x) = eq-eqb x x refl

labels-same : (ls : List Label) → same_labels ls ls ≡ true
labels-same [] = refl
labels-same (l ∷ ls) = both (same_label l l) (same_labels ls ls) (label-same l) (labels-same ls)

pub symbol-same : (h : Symbol) → same_symbol h h ≡ true
symbol-same arrow = refl
symbol-same (labels ls) = labels-same ls
symbol-same (name y) = both (nat_eq y.stamp y.stamp) (nat_eq y.arity y.arity && same_attribute y.equality y.equality) (eq-eqb y.stamp y.stamp refl) (both (nat_eq y.arity y.arity) (same_attribute y.equality y.equality) (eq-eqb y.arity y.arity refl) (attribute-same y.equality))

mutual
  pub type-same : (t : Typ) → same_type t t ≡ true
  type-same (var v) = eq-eqb v v refl
  type-same (con h ts) = both (same_symbol h h) (same_parts ts ts) (symbol-same h) (parts-same ts)

  parts-same : (ts : Typs) → same_parts ts ts ≡ true
  parts-same none = refl
  parts-same (more t ts) = both (same_type t t) (same_parts ts ts) (type-same t) (parts-same ts)

pub types-same : (ts : List Typ) → same_types ts ts ≡ true
types-same [] = refl
types-same (t ∷ ts) = both (same_type t t) (same_types ts ts) (type-same t) (types-same ts)

attribute-is : (a b : attribute.Equality) → same_attribute a b ≡ true → a ≡ b
attribute-is Always Always e = refl
attribute-is ByArguments ByArguments e = refl
attribute-is Never Never e = refl
attribute-is _ _ e = absurd (cc)

label-is : (l k : Label) → same_label l k ≡ true → l ≡ k
label-is (Number m) (Number n) e = ap Number (eqb-true m n e)
label-is (Word x) (Word y) e = ap Word (eqb-true x y e)
label-is (Number m) (Word y) e = absurd (cc)
label-is (Word x) (Number n) e = absurd (cc)

labels-is : (ls ks : List Label) → same_labels ls ks ≡ true → ls ≡ ks
labels-is [] [] e = refl
labels-is (l ∷ ls) (k ∷ ks) e = rw (label-is l k (left (same_label l k) (same_labels ls ks) e), labels-is ls ks (right (same_label l k) (same_labels ls ks) e)) refl
labels-is _ _ e = absurd (cc)

pub name-is : (y z : TyName) → same_name y z ≡ true → y ≡ z
name-is y z e = λ i. record {
  stamp = eqb-true y.stamp z.stamp (left (nat_eq y.stamp z.stamp) (nat_eq y.arity z.arity && same_attribute y.equality z.equality) e) i;
  arity = eqb-true y.arity z.arity (left (nat_eq y.arity z.arity) (same_attribute y.equality z.equality) (right (nat_eq y.stamp z.stamp) (nat_eq y.arity z.arity && same_attribute y.equality z.equality) e)) i;
  equality = attribute-is y.equality z.equality (right (nat_eq y.arity z.arity) (same_attribute y.equality z.equality) (right (nat_eq y.stamp z.stamp) (nat_eq y.arity z.arity && same_attribute y.equality z.equality) e)) i;
}

pub symbol-is : (h k : Symbol) → same_symbol h k ≡ true → h ≡ k
symbol-is arrow arrow e = refl
symbol-is (labels ls) (labels ks) e = ap labels (labels-is ls ks e)
symbol-is (name y) (name z) e = ap name (name-is y z e)
symbol-is _ _ e = absurd (cc)

mutual
  pub type-is : (t u : Typ) → same_type t u ≡ true → t ≡ u
  type-is (var v) (var u) e = ap var (eqb-true v u e)
  type-is (con h ts) (con k us) e = λ i. con (symbol-is h k (left (same_symbol h k) (same_parts ts us) e) i) (parts-is ts us (right (same_symbol h k) (same_parts ts us) e) i)
  type-is _ _ e = absurd (cc)

  parts-is : (ts us : Typs) → same_parts ts us ≡ true → ts ≡ us
  parts-is none none e = refl
  parts-is (more t ts) (more u us) e = λ i. more (type-is t u (left (same_type t u) (same_parts ts us) e) i) (parts-is ts us (right (same_type t u) (same_parts ts us) e) i)
  parts-is _ _ e = absurd (cc)

pub types-is : (ts us : List Typ) → same_types ts us ≡ true → ts ≡ us
types-is [] [] e = refl
types-is (t ∷ ts) (u ∷ us) e = λ i. type-is t u (left (same_type t u) (same_types ts us) e) i ∷ types-is ts us (right (same_type t u) (same_types ts us) e) i
types-is _ _ e = absurd (cc)

pub name-same : (k : Name) → is_same k k ≡ true
name-same (copy_of x a) = go (nat_eq x x) (eq-eqb x x refl)
  where
    go : (b : Bool) → b ≡ true → (if b then same_types a a else false) ≡ true
    go true e = types-same a
    go false e = absurd (cc)

-- lists of names and of types
pub data AllNames (P : ℕ → List Typ → Type 0) : List Name → Type 0 where
  all_none : AllNames P []
  all_one : {x : ℕ} {a : List Typ} {w : List Name} → P x a → AllNames P w → AllNames P (copy_of x a ∷ w)

pub data EachOf (P : List Typ → Type 0) : List (List Typ) → Type 0 where
  each_none : EachOf P []
  each_one : {a : List Typ} {ts : List (List Typ)} → P a → EachOf P ts → EachOf P (a ∷ ts)

pub each-map : {P Q : List Typ → Type 0} {ts : List (List Typ)} → ((a : List Typ) → P a → Q a) → EachOf P ts → EachOf Q ts
each-map f each_none = each_none
each-map f (each_one p h) = each_one (f _ p) (each-map f h)

pub each-two : {P Q R : List Typ → Type 0} {ts : List (List Typ)} → ((a : List Typ) → P a → Q a → R a) → EachOf P ts → EachOf Q ts → EachOf R ts
each-two f each_none each_none = each_none
each-two f (each_one p h) (each_one q k) = each_one (f _ p q) (each-two f h k)

pub join : {P : ℕ → List Typ → Type 0} {w w' : List Name} → AllNames P w → AllNames P w' → AllNames P (w ++ w')
join all_none k = k
join (all_one p h) k = all_one p (join h k)

pub front : {P : ℕ → List Typ → Type 0} (w w' : List Name) → AllNames P (w ++ w') → AllNames P w
front [] w' h = all_none
front (copy_of x a ∷ w) w' (all_one p h) = all_one p (front w w' h)

pub back : {P : ℕ → List Typ → Type 0} (w w' : List Name) → AllNames P (w ++ w') → AllNames P w'
back [] w' h = h
back (copy_of x a ∷ w) w' (all_one p h) = back w w' h

pub join-all : {P : ℕ → List Typ → Type 0} {f : List Typ → List Name} {ts : List (List Typ)} → EachOf (λ a. AllNames P (f a)) ts → AllNames P (all_needs f ts)
join-all each_none = all_none
join-all (each_one p h) = join p (join-all h)

pub split-all : {P : ℕ → List Typ → Type 0} (f : List Typ → List Name) (ts : List (List Typ)) → AllNames P (all_needs f ts) → EachOf (λ a. AllNames P (f a)) ts
split-all f [] h = each_none
split-all f (a ∷ ts) h = each_one (front (f a) (all_needs f ts) h) (split-all f ts (back (f a) (all_needs f ts) h))

-- the types at which there are copies: none is unit's, none comes twice, and with unit's they are all that is needed
pub data AreDistinct : List (List Typ) → Type 0 where
  distinct_none : AreDistinct []
  distinct_one : {a : List Typ} {ts : List (List Typ)} → EachOf (λ b. same_types a b ≡ false) ts → AreDistinct ts → AreDistinct (a ∷ ts)

not-in : (a : List Typ) (ts : List (List Typ)) → is_in a ts ≡ false → EachOf (λ b. same_types a b ≡ false) ts
not-in a [] e = each_none
not-in a (b ∷ ts) e = go (same_types a b) refl e (not-in a ts)
  where
    go : (c : Bool) → same_types a b ≡ c → (if c then true else is_in a ts) ≡ false → (is_in a ts ≡ false → EachOf (λ b. same_types a b ≡ false) ts) → EachOf (λ b. same_types a b ≡ false) (b ∷ ts)
    go true q e h = absurd (cc)
    go false q e h = each_one q (h e)

neither : (a b : Bool) → (a || b) ≡ false → (a ≡ false) × (b ≡ false)
neither true b e = absurd (cc)
neither false b e = (refl, e)

pub others-distinct : (vs : List ℕ) (u : List Typ) (w : List Name) → AreDistinct (others vs u w)
others-distinct vs u [] = distinct_none
others-distinct vs u (copy_of x a ∷ w) = go (is_among x vs) (same_types u a || is_in a (others vs u w)) refl (others-distinct vs u w)
  where
    go : (b c : Bool) → (same_types u a || is_in a (others vs u w)) ≡ c → AreDistinct (others vs u w) → AreDistinct (if b && not c then a ∷ others vs u w else others vs u w)
    go true true e h = h
    go true false e h = distinct_one (not-in a (others vs u w) (neither (same_types u a) (is_in a (others vs u w)) e).1) h
    go false c e h = h

pub others-new : (vs : List ℕ) (u : List Typ) (w : List Name) → EachOf (λ a. same_types u a ≡ false) (others vs u w)
others-new vs u [] = each_none
others-new vs u (copy_of x a ∷ w) = go (is_among x vs) (same_types u a || is_in a (others vs u w)) refl (others-new vs u w)
  where
    go : (b c : Bool) → (same_types u a || is_in a (others vs u w)) ≡ c → EachOf (λ a. same_types u a ≡ false) (others vs u w) → EachOf (λ a. same_types u a ≡ false) (if b && not c then a ∷ others vs u w else others vs u w)
    go true true e h = h
    go true false e h = each_one (neither (same_types u a) (is_in a (others vs u w)) e).0 h
    go false c e h = h

-- what holds of each name among the variables holds of the types
pub others-each : {P : ℕ → List Typ → Type 0} {Q : List Typ → Type 0} (vs : List ℕ) (u : List Typ) {w : List Name} → ((x : ℕ) (a : List Typ) → is_among x vs ≡ true → P x a → Q a) → AllNames P w → EachOf Q (others vs u w)
others-each vs u f all_none = each_none
others-each {Q = Q} vs u f (all_one {x = x} {a = a} {w = w} p h) = go (is_among x vs) (not (same_types u a || is_in a (others vs u w))) (λ e. f x a e p) (others-each vs u f h)
  where
    go : (b c : Bool) → (b ≡ true → Q a) → EachOf Q (others vs u w) → EachOf Q (if b && c then a ∷ others vs u w else others vs u w)
    go true true q h = each_one (q refl) h
    go true false q h = h
    go false c q h = h

abbrev pub IsMade : List ℕ → List Typ → List (List Typ) → ℕ → List Typ → Type 0
IsMade vs u ts x a = is_among x vs ≡ true → (same_types u a || is_in a ts) ≡ true

weaker : (b : List Typ) (ts : List (List Typ)) (a u : List Typ) → (same_types u a || is_in a ts) ≡ true → (same_types u a || is_in a (b ∷ ts)) ≡ true
weaker b ts a u e = go (same_types u a) (same_types a b) e
  where
    go : (c d : Bool) → (c || is_in a ts) ≡ true → (c || (if d then true else is_in a ts)) ≡ true
    go true d e = refl
    go false true e = refl
    go false false e = e

all-map : {P Q : ℕ → List Typ → Type 0} {w : List Name} → ((x : ℕ) (a : List Typ) → P x a → Q x a) → AllNames P w → AllNames Q w
all-map f all_none = all_none
all-map f (all_one p h) = all_one (f _ _ p) (all-map f h)

pub others-made : (vs : List ℕ) (u : List Typ) (w : List Name) → AllNames (IsMade vs u (others vs u w)) w
others-made vs u [] = all_none
others-made vs u (copy_of x a ∷ w) = go (is_among x vs) (same_types u a || is_in a (others vs u w)) refl refl (others-made vs u w)
  where
    here : (same_types u a || is_in a (a ∷ others vs u w)) ≡ true
    here = at (same_types u a) (same_types a a) (types-same a)
      where
        at : (c d : Bool) → d ≡ true → (c || (if d then true else is_in a (others vs u w))) ≡ true
        at true d e = refl
        at false true e = refl
        at false false e = absurd (cc)

    go : (b c : Bool) → is_among x vs ≡ b → (same_types u a || is_in a (others vs u w)) ≡ c → AllNames (IsMade vs u (others vs u w)) w → AllNames (IsMade vs u (if b && not c then a ∷ others vs u w else others vs u w)) (copy_of x a ∷ w)
    go true true e q h = all_one (λ y. q) h
    go true false e q h = all_one (λ y. here) (all-map (λ y b k z. weaker a (others vs u w) b u (k z)) h)
    go false c e q h = all_one (λ y. absurd (cc)) h
