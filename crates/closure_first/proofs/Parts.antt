-- The types of what constructors take, put one behind the other.
use Rattle.std.proofs.Common.{◌≡◌, ℕ, zero, suc, ◌+◌, ◌<◌, ◌≤◌, Bool, true, false, List, [], ◌∷◌, ◌++◌, map, take, length, reverse, slice_get, option_map, nat_eq, if◌then◌else◌, Option, Some, None, Vec, Global, refl, sym, ap, ap₂, ◌∙◌, arith}
use Rattle.std.proofs.lemmas.List.{reverse-append, reverse-reverse, length-reverse}
use Rattle.ir_mono.specs.Types as table
use Rattle.ir_mono.specs.Types.{Node, node, node_at, bool_number}
use Rattle.ty_core.specs.Types.{name}
use Rattle.ty_core.specs.declared.name.TyName.{TyName}
use Rattle.first_values.specs.Equality.{Shape}
use Rattle.first_tables.specs.declared.tables.Shape as made
use Rattle.first_tables.specs.TablesOf.{items_of, shape_of}
use Rattle.closure_meaning.specs.Convert as clean
use Rattle.closure_meaning.specs.Convert.{argument_types, part_types, parts_among, constructors_in, shapes_from, shapes}
use Rattle.closure_first.specs.Shapes.{by_stamp, parts_next}

abbrev pub C : Type 0
C = ℕ × Option ℕ

abbrev pub Rows : Type 0
Rows = List (Vec ℕ Global)

pub map-last : {A B : Type 0} (g : A → B) (xs : List A) (x : A) → map g (xs ++ x ∷ []) ≡ map g xs ++ g x ∷ []
map-last g [] x = refl
map-last g (y ∷ ys) x = ap (λ l. g y ∷ l) (map-last g ys x)

part-append : (cs ds : List C) → part_types (cs ++ ds) ≡ part_types cs ++ part_types ds
part-append [] ds = refl
part-append (c ∷ cs) ds = ap (λ l. argument_types c.1 ∷ l) (part-append cs ds)

pub part-turned : (cs : List C) → reverse (part_types cs) ≡ part_types (reverse cs)
part-turned [] = refl
part-turned (c ∷ cs) =
    reverse-append (argument_types c.1 ∷ []) (part_types cs) ∙ ap (λ l. l ++ argument_types c.1 ∷ []) (part-turned cs)
    ∙ sym (part-append (reverse cs) (c ∷ [])) ∙ ap part_types (sym (reverse-append (c ∷ []) cs))

map-turned : (ps : Rows) → map items_of (reverse ps) ≡ reverse (map items_of ps)
map-turned [] = refl
map-turned (p ∷ ps) =
    ap (map items_of) (reverse-append (p ∷ []) ps) ∙ map-last items_of (reverse ps) p ∙ ap (λ l. l ++ items_of p ∷ []) (map-turned ps)
    ∙ sym (reverse-append (items_of p ∷ []) (map items_of ps))

abbrev no_rows : List C
no_rows = []

take-none : (i : ℕ) → take i no_rows ≡ no_rows
take-none zero = refl
take-none (suc i) = refl

pub take-next : (cs : List C) (i : ℕ) → part_types (take (i + 1) cs) ≡ parts_next (part_types (take i cs)) (option_map (λ e. e.1) (slice_get cs i))
take-next [] zero = refl
take-next [] (suc i) = ap part_types (take-none (suc i + 1))
take-next (c ∷ cs) zero = refl
take-next (c ∷ cs) (suc i) =
    ap (λ m. part_types (take m (c ∷ cs))) (let e : suc i + 1 ≡ suc (i + 1) = omega arith in e) ∙ by (option_map (λ e. e.1) (slice_get cs i)) (take-next cs i)
  where
    by : (o : Option (Option ℕ)) → part_types (take (i + 1) cs) ≡ parts_next (part_types (take i cs)) o
        → part_types (take (suc (i + 1)) (c ∷ cs)) ≡ parts_next (argument_types c.1 ∷ part_types (take i cs)) o
    by None h = ap (λ l. argument_types c.1 ∷ l) h
    by (Some a) h = ap (λ l. argument_types c.1 ∷ l) h

pub taken-one : (cs : List C) (i : ℕ) (a : Option ℕ) (old new : Rows) (p : Vec ℕ Global) (found : Option (Option ℕ)) → option_map (λ k. k.1) (slice_get cs i) ≡ found → found ≡ Some a
    → p.items ≡ argument_types a → new ≡ old ++ p ∷ [] → map items_of new ≡ parts_next (map items_of old) (option_map (λ k. k.1) (slice_get cs i))
taken-one cs i a old new p found e s h n =
    ap (map items_of) n ∙ map-last items_of old p ∙ ap (λ l. map items_of old ++ l ∷ []) h ∙ ap (parts_next (map items_of old)) (sym (e ∙ s))

pub taken-none : (cs : List C) (i : ℕ) (old : Rows) (found : Option (Option ℕ)) → option_map (λ k. k.1) (slice_get cs i) ≡ found → found ≡ None
    → map items_of old ≡ parts_next (map items_of old) (option_map (λ k. k.1) (slice_get cs i))
taken-none cs i old found e s = ap (parts_next (map items_of old)) (sym (e ∙ s))

pub parts-next : (cs : List C) (i : ℕ) (now new : Rows) → map items_of new ≡ parts_next (map items_of now) (option_map (λ k. k.1) (slice_get cs i))
    → map items_of now ≡ part_types (take i cs) → map items_of new ≡ part_types (take (i + 1) cs)
parts-next cs i now new h inv = h ∙ ap (λ l. parts_next l (option_map (λ k. k.1) (slice_get cs i))) inv ∙ sym (take-next cs i)

before-all : {A : Type 0} (xs : List A) (i : ℕ) → length xs ≤ i → take i xs ≡ xs
before-all [] zero h = refl
before-all [] (suc i) h = refl
before-all (x ∷ xs) zero h = absurd (omega (arith, h))
before-all (x ∷ xs) (suc i) h = ap (λ l. x ∷ l) (before-all xs i (omega (arith, h)))

abbrev pub truths_of : Bool → List (List ℕ)
truths_of b = if b then [] ∷ [] ∷ [] else []

among : (b : Bool) (cs : List C) → reverse (truths_of b) ++ part_types cs ≡ parts_among b cs
among true cs = refl
among false cs = refl

pub parts-all : (b : Bool) (cs : List C) (i : ℕ) (now all new : Rows) → length cs ≤ i → map items_of now ≡ part_types (take i (reverse cs))
    → map items_of all ≡ map items_of now ++ truths_of b → new ≡ reverse all → map items_of new ≡ parts_among b cs
parts-all b cs i now all new le inv h n =
    let l = length-reverse cs in
    ap (map items_of) n ∙ map-turned all ∙ ap reverse (h ∙ ap (λ l. l ++ truths_of b) (inv ∙ ap part_types (before-all (reverse cs) i (omega (arith, le, l)))))
    ∙ reverse-append (part_types (reverse cs)) (truths_of b)
    ∙ ap (λ l. reverse (truths_of b) ++ l) (part-turned (reverse cs) ∙ ap part_types (reverse-reverse cs)) ∙ among b cs

pub truths-pushed : (b : Bool) (old one two : Rows) (p q : Vec ℕ Global) → b ≡ true → p.items ≡ [] → q.items ≡ [] → one ≡ old ++ p ∷ [] → two ≡ one ++ q ∷ []
    → map items_of two ≡ map items_of old ++ truths_of b
truths-pushed b old one two p q t u v m n =
    ap (map items_of) n ∙ map-last items_of one q ∙ ap₂ (λ l y. l ++ y ∷ []) (ap (map items_of) m ∙ map-last items_of old p ∙ ap (λ y. map items_of old ++ y ∷ []) u) v
    ∙ twice (map items_of old) ∙ ap (λ c. map items_of old ++ truths_of c) (sym t)
  where
    twice : (l : List (List ℕ)) → (l ++ [] ∷ []) ++ [] ∷ [] ≡ l ++ [] ∷ [] ∷ []
    twice [] = refl
    twice (x ∷ l) = ap (λ r. x ∷ r) (twice l)

pub truths-none : (b : Bool) (old : Rows) → b ≡ false → map items_of old ≡ map items_of old ++ truths_of b
truths-none b old f = sym (ap (λ c. map items_of old ++ truths_of c) f ∙ nothing (map items_of old))
  where
    nothing : (l : List (List ℕ)) → l ++ [] ≡ l
    nothing [] = refl
    nothing (x ∷ l) = ap (λ r. x ∷ r) (nothing l)

pub parts-some : (types : List table.Row) (t : ℕ) (b : Bool) (cs : List C) (r : List (List ℕ)) (o : Option (List C)) → b ≡ nat_eq t bool_number → o ≡ Some cs
    → o ≡ option_map (λ r. r.constructors) (slice_get types t) → r ≡ parts_among b cs → r ≡ parts_among (nat_eq t bool_number) (constructors_in (slice_get types t))
parts-some types t b cs r o e s a h = h ∙ ap₂ parts_among e (by (slice_get types t) (sym s ∙ a))
  where
    by : (q : Option table.Row) → Some cs ≡ option_map (λ r. r.constructors) q → cs ≡ constructors_in q
    by (Some v) k = ap (λ o. constructors_of o) k
      where
        constructors_of : Option (List C) → List C
        constructors_of None = []
        constructors_of (Some l) = l
    by None k = ap (λ o. constructors_of o) k
      where
        constructors_of : Option (List C) → List C
        constructors_of None = []
        constructors_of (Some l) = l

pub parts-no : (types : List table.Row) (t : ℕ) (b : Bool) (cs : List C) (r : List (List ℕ)) (o : Option (List C)) → b ≡ nat_eq t bool_number → o ≡ None
    → o ≡ option_map (λ r. r.constructors) (slice_get types t) → cs ≡ [] → r ≡ parts_among b cs → r ≡ parts_among (nat_eq t bool_number) (constructors_in (slice_get types t))
parts-no types t b cs r o e s a z h = h ∙ ap₂ parts_among e (z ∙ by (slice_get types t) (sym s ∙ a))
  where
    constructors_of : Option (List C) → List C
    constructors_of None = []
    constructors_of (Some l) = l

    by : (q : Option table.Row) → None ≡ option_map (λ r. r.constructors) q → [] ≡ constructors_in q
    by (Some v) k = ap constructors_of k
    by None k = refl

-- shapes

named-is : (types : List table.Row) (t : ℕ) (r : table.Row) (y : TyName) (ps : List ℕ) → slice_get types t ≡ Some r
    → by_stamp y.stamp (parts_among (nat_eq t bool_number) (constructors_in (slice_get types t))) ≡ clean.shape_of (nat_eq t bool_number) r (node (name y) ps)
named-is types t r y ps e = ap (λ o. by_stamp y.stamp (parts_among (nat_eq t bool_number) (constructors_in o))) e

pub shape-named : (types : List table.Row) (t : ℕ) (r : table.Row) (y : TyName) (ps : List ℕ) (parts : List (List ℕ)) (s : Shape) → s ≡ by_stamp y.stamp parts
    → parts ≡ parts_among (nat_eq t bool_number) (constructors_in (slice_get types t)) → slice_get types t ≡ Some r
    → s ≡ clean.shape_of (nat_eq t bool_number) r (node (name y) ps)
shape-named types t r y ps parts s h k e = h ∙ ap (by_stamp y.stamp) k ∙ named-is types t r y ps e

seen-at : (types : List table.Row) (t : ℕ) (r : table.Row) (k : Node) → slice_get types t ≡ Some r → node_at types t ≡ Some k → k ≡ r.type
seen-at types t r k e h = ap node_in (sym h ∙ ap (option_map (λ r. r.type)) e)
  where
    node_in : Option Node → Node
    node_in None = r.type
    node_in (Some n) = n

pub shape-seen : (types : List table.Row) (t : ℕ) (r : table.Row) (k : Node) (s : Shape) → ((r : table.Row) → slice_get types t ≡ Some r → s ≡ clean.shape_of (nat_eq t bool_number) r k)
    → node_at types t ≡ Some k → slice_get types t ≡ Some r → s ≡ clean.shape_of (nat_eq t bool_number) r r.type
shape-seen types t r k s h n e = h r e ∙ ap (clean.shape_of (nat_eq t bool_number) r) (seen-at types t r k e n)

pub shape-nothing : (types : List table.Row) (t : ℕ) (r : table.Row) (s : Shape) → node_at types t ≡ None → slice_get types t ≡ Some r → s ≡ clean.shape_of (nat_eq t bool_number) r r.type
shape-nothing types t r s n e = absurd (let c : Some r.type ≡ None = ap (option_map (λ r. r.type)) (sym e) ∙ n in cc)

-- of the types before the i-th

abbrev pub shapes_to : (i : ℕ) → List table.Row → (n : ℕ) → List Shape
shapes_to i rs zero = []
shapes_to i [] (suc n) = []
shapes_to i (r ∷ rs) (suc n) = clean.shape_of (nat_eq i bool_number) r r.type ∷ shapes_to (suc i) rs n

to-next : (rs : List table.Row) (i n : ℕ) (r : table.Row) → slice_get rs n ≡ Some r
    → shapes_to i rs (n + 1) ≡ shapes_to i rs n ++ clean.shape_of (nat_eq (i + n) bool_number) r r.type ∷ []
to-next [] i zero r e = absurd (cc)
to-next [] i (suc n) r e = absurd (cc)
to-next (q ∷ rs) i zero r e =
    ap₂ (λ j v. clean.shape_of (nat_eq j bool_number) v v.type ∷ []) (let z : i ≡ i + 0 = omega arith in z) (let s : q ≡ r = cc in s)
to-next (q ∷ rs) i (suc n) r e =
    ap (λ m. shapes_to i (q ∷ rs) m) (let k : suc n + 1 ≡ suc (n + 1) = omega arith in k)
    ∙ ap (λ l. clean.shape_of (nat_eq i bool_number) q q.type ∷ l) (to-next rs (suc i) n r e)
    ∙ ap (λ j. clean.shape_of (nat_eq i bool_number) q q.type ∷ (shapes_to (suc i) rs n ++ clean.shape_of (nat_eq j bool_number) r r.type ∷ []))
    (let k : suc i + n ≡ i + suc n = omega arith in k)

to-all : (rs : List table.Row) (i n : ℕ) → length rs ≤ n → shapes_to i rs n ≡ shapes_from i rs
to-all [] i zero le = refl
to-all [] i (suc n) le = refl
to-all (r ∷ rs) i zero le = absurd (omega (arith, le))
to-all (r ∷ rs) i (suc n) le = ap (λ l. clean.shape_of (nat_eq i bool_number) r r.type ∷ l) (to-all rs (suc i) n (omega (arith, le)))

there : (rs : List table.Row) (n : ℕ) → n < length rs → (r : table.Row) × (slice_get rs n ≡ Some r)
there [] n lt = absurd (omega (arith, lt))
there (r ∷ rs) zero lt = (r, refl)
there (r ∷ rs) (suc n) lt = there rs n (omega (arith, lt))

pub shapes-next : (types : List table.Row) (i : ℕ) (now new : List made.Shape) (s : made.Shape) → i < length types → new ≡ now ++ s ∷ []
    → ((r : table.Row) → slice_get types i ≡ Some r → shape_of s ≡ clean.shape_of (nat_eq i bool_number) r r.type) → map shape_of now ≡ shapes_to 0 types i → map shape_of new ≡ shapes_to 0 types (i + 1)
shapes-next types i now new s lt n h inv =
    let r = there types i lt in
    ap (map shape_of) n ∙ map-last shape_of now s
    ∙ ap₂ (λ l v. l ++ v ∷ []) inv (h r.0 r.1 ∙ ap (λ j. clean.shape_of (nat_eq j bool_number) r.0 r.0.type) (let z : i ≡ 0 + i = omega arith in z)) ∙ sym (to-next types 0 i r.0 r.1)

pub shapes-all : (types : List table.Row) (i : ℕ) (now : List made.Shape) → length types ≤ i → map shape_of now ≡ shapes_to 0 types i → map shape_of now ≡ shapes types
shapes-all types i now le inv = inv ∙ to-all types 0 i le
