-- What is decided of a table is so, and the other way round.
use Rattle.std.proofs.Common.{◌≡◌, ◌↔◌, ℕ, zero, suc, ◌<◌, Bool, true, false, not, List, [], ◌∷◌, ◌++◌, map, reverse, length, Option, Some, None, nat_eq, nat_lt, cond, slice_get, if◌then◌else◌, IsTrue, refl, sym, ap, ◌∙◌, subst, arith}
use Rattle.std.proofs.lemmas.Bool.{eqb-true, eq-eqb, and_parts, and_from}
use Rattle.std.proofs.lemmas.List.{reverse-append}
use Rattle.std.specs.Map.{lookup}
use Rattle.ty_core.specs.Types.{arrow, labels, name}
use Rattle.ty_core.specs.declared.name.TyName.{TyName}
use Rattle.ir_values.specs.Values.{false_number, true_number, truth_number}
use Rattle.ir_poly.specs.Types.{bool_name, exn_name, unit_type}
use Rattle.ir_mono.specs.Types.{Row, Node, node, node_at, constructor_at, admits, unit_number, bool_number, Is, AllAdmit, admit_none, admit_more, IsComparable, records_are, named_are, IsTable, Stands, stands_con, stand_none}
use Rattle.prog_check.specs.Same.{same_name}
use Rattle.prog_check.proofs.SameLemmas.{name-same, same-name}
use Rattle.mono_types.specs.Rows.{AreOnce}
use Rattle.mono_fits.specs.Asked.{given, is_named, has_constructor}
use Rattle.mono_fits.proofs.Deciding.{given-sound, given-since, named-sound, named-since, constructor-sound, constructor-since}
use Rattle.mono_fits.proofs.Primitives.{stands-sound, stands-since}
use Rattle.mono_uses.specs.Shaped.{is_unit}
use Rattle.mono_uses.proofs.Shapes.{unit-stands}
use Rattle.mono_table.specs.Right.{every, numbers_in, is_none, is_declared, argument_flag, arguments_admit, constructors_of, node_compares, compares, row_right, rows_right, basis_right, table_right}

-- Lists

every-append : (f : ℕ → Bool) (ms ns : List ℕ) → every f ms ≡ true → every f ns ≡ true → every f (ms ++ ns) ≡ true
every-append f [] ns e g = g
every-append f (m ∷ ms) ns e g = let a = and_parts (f m) (every f ms) e in and_from (f m) (every f (ms ++ ns)) a.0 (every-append f ms ns a.1 g)

every-front : (f : ℕ → Bool) (ms ns : List ℕ) → every f (ms ++ ns) ≡ true → every f ms ≡ true
every-front f [] ns e = refl
every-front f (m ∷ ms) ns e = let a = and_parts (f m) (every f (ms ++ ns)) e in and_from (f m) (every f ms) a.0 (every-front f ms ns a.1)

every-behind : (f : ℕ → Bool) (ms ns : List ℕ) → every f (ms ++ ns) ≡ true → every f ns ≡ true
every-behind f [] ns e = e
every-behind f (m ∷ ms) ns e = every-behind f ms ns (and_parts (f m) (every f (ms ++ ns)) e).1

every-so : (f : ℕ → Bool) (ns : List ℕ) → ((n : ℕ) → f n ≡ true) → every f ns ≡ true
every-so f [] g = refl
every-so f (n ∷ ns) g = and_from (f n) (every f ns) (g n) (every-so f ns g)

abbrev firsts : List (ℕ × Option ℕ) → List ℕ
firsts = map (λ e. e.0)

firsts-append : (as_ bs : List (ℕ × Option ℕ)) → firsts (as_ ++ bs) ≡ firsts as_ ++ firsts bs
firsts-append [] bs = refl
firsts-append (a ∷ as_) bs = ap (λ l. a.0 ∷ l) (firsts-append as_ bs)

numbers-more : (e : ℕ × Option ℕ) (es : List (ℕ × Option ℕ)) → numbers_in (e ∷ es) ≡ numbers_in es ++ e.0 ∷ []
numbers-more e es = ap firsts (reverse-append (e ∷ []) es) ∙ firsts-append (reverse es) (e ∷ [])

-- what is found is among them
found-so : (f : ℕ → Bool) (c : ℕ) (b : Option ℕ) (es : List (ℕ × Option ℕ)) → lookup (nat_eq c) es ≡ Some b → every f (numbers_in es) ≡ true → f c ≡ true
found-so f c b [] i e = absurd (cc)
found-so f c b (x ∷ es) i e = by (nat_eq c x.0) refl i (found-so f c b es)
  where
    all : every f (numbers_in es ++ x.0 ∷ []) ≡ true
    all = ap (every f) (sym (numbers-more x es)) ∙ e

    by : (q : Bool) → nat_eq c x.0 ≡ q → cond q (Some x.1) (lookup (nat_eq c) es) ≡ Some b → (lookup (nat_eq c) es ≡ Some b → every f (numbers_in es) ≡ true → f c ≡ true) → f c ≡ true
    by true d i rest = subst (λ n. f n ≡ true) (sym (eqb-true c x.0 d)) (and_parts (f x.0) true (every-behind f (numbers_in es) (x.0 ∷ []) all)).0
    by false d i rest = rest i (every-front f (numbers_in es) (x.0 ∷ []) all)

not-true : (b : Bool) → (b ≡ true → ⊥) → not b ≡ true
not-true true n = absurd (n refl)
not-true false n = refl

true-not : (b : Bool) → not b ≡ true → b ≡ true → ⊥
true-not true e f = cc
true-not false e f = cc

module _ (types : List Row) where
  within : (n : ℕ) (r : Row) (ts : List Row) → slice_get ts n ≡ Some r → n < length ts
  within n r [] e = absurd (cc)
  within zero r (t ∷ ts) e = omega arith
  within (suc n) r (t ∷ ts) e = let p = within n r ts e in omega arith

  -- a row of the number, where something is said of it
  record HasRow (n : ℕ) : Type 0 where
    row : Row
    is : slice_get types n ≡ Some row

  admits-row : (n : ℕ) → admits types n ≡ true → HasRow n
  admits-row n e = by (slice_get types n) refl e
    where
      by : (o : Option Row) → slice_get types n ≡ o → admits types n ≡ true → HasRow n
      by (Some r) i e = record { row = r; is = i }
      by None i e = absurd (let f : admits types n ≡ false = rw i refl in cc)

  constructor-row : (n c : ℕ) (a : Option ℕ) → constructor_at types n c ≡ Some a → HasRow n
  constructor-row n c a e = by (slice_get types n) refl e
    where
      by : (o : Option Row) → slice_get types n ≡ o → constructor_at types n c ≡ Some a → HasRow n
      by (Some r) i e = record { row = r; is = i }
      by None i e = absurd (let f : constructor_at types n c ≡ None = rw i refl in cc)

  constructor-in : (n c : ℕ) (r : Row) → slice_get types n ≡ Some r → constructor_at types n c ≡ lookup (nat_eq c) (constructors_of types n)
  constructor-in n c r i = rw i refl

  rows-at : (m n : ℕ) → n < m → rows_right types m ≡ true → row_right types n ≡ true
  rows-at zero n lt e = absurd (omega arith)
  rows-at (suc m) n lt e = let a = and_parts (row_right types m) (rows_right types m) e in by (nat_eq n m) refl a.0 (λ q. rows-at m n q a.1)
    where
      by : (b : Bool) → nat_eq n m ≡ b → row_right types m ≡ true → (n < m → row_right types n ≡ true) → row_right types n ≡ true
      by true d e f = subst (λ k. row_right types k ≡ true) (sym (eqb-true n m d)) e
      by false d e f = let ne : n ≡ m → ⊥ = (λ (s : n ≡ m). let t : nat_eq n m ≡ true = eq-eqb n m s in cc) in f (grind arith)

  rows-so : (m : ℕ) → ((n : ℕ) → row_right types n ≡ true) → rows_right types m ≡ true
  rows-so zero f = refl
  rows-so (suc m) f = and_from (row_right types m) (rows_right types m) (f m) (rows-so m f)

  answer-not : (b : Bool) → (b ≡ true → ⊥) → false ≡ b
  answer-not true f = absurd (f refl)
  answer-not false f = refl

  pub rows-next : (n : ℕ) (b : Bool) → b ≡ row_right types n → b ≡ true → rows_right types n ≡ true → rows_right types (suc n) ≡ true
  rows-next n b e t w = and_from (row_right types n) (rows_right types n) (sym e ∙ t) w

  pub rows-stop : (m n : ℕ) (b : Bool) → n < m → b ≡ row_right types n → b ≡ false → false ≡ rows_right types m
  rows-stop m n b lt e t = answer-not (rows_right types m) (λ w. let y = rows-at m n lt w in cc)

  pub rows-all : (m n : ℕ) → n ≡ m → rows_right types n ≡ true → true ≡ rows_right types m
  rows-all m n e w = sym w ∙ ap (rows_right types) e

  -- Parts that can be compared

  parts-sound : (ps : List ℕ) → every (admits types) ps ≡ true → AllAdmit types ps
  parts-sound [] e = admit_none
  parts-sound (p ∷ ps) e = let a = and_parts (admits types p) (every (admits types) ps) e in admit_more a.0 (parts-sound ps a.1)

  parts-since : (ps : List ℕ) → AllAdmit types ps → every (admits types) ps ≡ true
  parts-since [] admit_none = refl
  parts-since (p ∷ ps) (admit_more e es) = and_from (admits types p) (every (admits types) ps) e (parts-since ps es)

  -- A type whose values can be compared

  argument-of : (n c a : ℕ) → argument_flag types (constructor_at types n c) ≡ true → constructor_at types n c ≡ Some (Some a) → admits types a ≡ true
  argument-of n c a e i = subst (λ o. argument_flag types o ≡ true) i e

  arguments-so : (n : ℕ) (r : Row) → slice_get types n ≡ Some r → arguments_admit types n (numbers_in (constructors_of types n)) ≡ true → (c a : ℕ) → constructor_at types n c ≡ Some (Some a) → admits types a ≡ true
  arguments-so n r i e c a f =
      argument-of n c a (found-so (λ c. argument_flag types (constructor_at types n c)) c (Some a) (constructors_of types n) (sym (constructor-in n c r i) ∙ f) e) f

  node-sound : (n : ℕ) (r : Row) (k : Node) → slice_get types n ≡ Some r → node_at types n ≡ Some k → node_compares types n k ≡ true → IsComparable types n
  node-sound n r (node arrow ps) i j e = absurd (cc)
  node-sound n r (node (labels ls) ps) i j e = records_are j (parts-sound ps e)
  node-sound n r (node (name y) ps) i j e =
      let a = and_parts (not (same_name y exn_name)) (arguments_admit types n (numbers_in (constructors_of types n))) e in
      named_are j (λ s. true-not (same_name y exn_name) a.0 (ap (λ y. same_name y exn_name) s ∙ same-name exn_name)) (arguments-so n r i a.1)

  compares-sound : (n : ℕ) (r : Row) → slice_get types n ≡ Some r → compares types n ≡ true → IsComparable types n
  compares-sound n r i e = let g = given-sound (node_at types n) (node_compares types n) e in node-sound n r g.value i g.is g.so

  flag-so : (o : Option (Option ℕ)) → ((a : ℕ) → o ≡ Some (Some a) → admits types a ≡ true) → argument_flag types o ≡ true
  flag-so None f = refl
  flag-so (Some None) f = refl
  flag-so (Some (Some a)) f = f a refl

  compares-since : (n : ℕ) → IsComparable types n → compares types n ≡ true
  compares-since n (records_are {ls = ls} {ps = ps} i p) = given-since (node_at types n) (node_compares types n) (node (labels ls) ps) i (parts-since ps p)
  compares-since n (named_are {y = y} {ps = ps} i ne f) =
      given-since (node_at types n) (node_compares types n) (node (name y) ps) i
      (and_from (not (same_name y exn_name)) (arguments_admit types n (numbers_in (constructors_of types n))) (not-true (same_name y exn_name) (λ e. ne (name-same y exn_name e)))
      (every-so (λ c. argument_flag types (constructor_at types n c)) (numbers_in (constructors_of types n)) (λ c. flag-so (constructor_at types n c) (f c))))

  -- Datatypes

  record IsDatatype (n : ℕ) : Type 0 where
    named : TyName
    parts : List ℕ
    is : Is types n (name named) parts
    late : nat_lt 5 named.stamp ≡ true

  declared-node : (n : ℕ) (k : Node) → node_at types n ≡ Some k → is_declared k ≡ true → IsDatatype n
  declared-node n (node (name y) ps) i e = record { named = y; parts = ps; is = i; late = e }
  declared-node n (node arrow ps) i e = absurd (cc)
  declared-node n (node (labels ls) ps) i e = absurd (cc)

  some-there : (n c : ℕ) (a : Option ℕ) → lookup (nat_eq c) (constructors_of types n) ≡ Some a → is_none (constructors_of types n) ≡ false
  some-there n c a e = by (constructors_of types n) e
    where
      by : (es : List (ℕ × Option ℕ)) → lookup (nat_eq c) es ≡ Some a → is_none es ≡ false
      by [] e = absurd (cc)
      by (x ∷ es) e = refl

  -- Rows

  if-so : (b x : Bool) → (if b then x else true) ≡ true → b ≡ true → x ≡ true
  if-so true x e f = e
  if-so false x e f = absurd (cc)

  so-if : (b x : Bool) → (b ≡ true → x ≡ true) → (if b then x else true) ≡ true
  so-if true x f = f refl
  so-if false x f = refl

  unless-so : (b x : Bool) → (if b then true else x) ≡ true → b ≡ false → x ≡ true
  unless-so false x e f = e
  unless-so true x e f = absurd (cc)

  so-unless : (b x : Bool) → (b ≡ false → x ≡ true) → (if b then true else x) ≡ true
  so-unless false x f = f refl
  so-unless true x f = refl

  first-there : (n : ℕ) → is_none (constructors_of types n) ≡ false → (c : ℕ) × (a : Option ℕ) × (constructor_at types n c ≡ Some a)
  first-there n e = by (slice_get types n) refl e
    where
      in-row : (r : Row) (es : List (ℕ × Option ℕ)) → slice_get types n ≡ Some r → constructors_of types n ≡ es → is_none es ≡ false → (c : ℕ) × (a : Option ℕ) × (constructor_at types n c ≡ Some a)
      in-row r [] i j e = absurd (cc)
      in-row r (x ∷ es) i j e = (x.0, x.1, constructor-in n x.0 r i ∙ ap (lookup (nat_eq x.0)) j ∙ ap (λ b. cond b (Some x.1) (lookup (nat_eq x.0) es)) (eq-eqb x.0 x.0 refl))

      by : (o : Option Row) → slice_get types n ≡ o → is_none (constructors_of types n) ≡ false → (c : ℕ) × (a : Option ℕ) × (constructor_at types n c ≡ Some a)
      by None i e = absurd (let f : is_none (constructors_of types n) ≡ true = rw i refl in cc)
      by (Some r) i e = in-row r (constructors_of types n) i refl e

  datatype-since : (t : IsTable types) (n : ℕ) → is_none (constructors_of types n) ≡ false → given (node_at types n) is_declared ≡ true
  datatype-since t n e = by (first-there n e)
    where
      by : (c : ℕ) × (a : Option ℕ) × (constructor_at types n c ≡ Some a) → given (node_at types n) is_declared ≡ true
      by (c, a, i) = by-table (t.datatypes n c a i)
        where
          by-table : (y : TyName) × (ps : List ℕ) × Is types n (name y) ps × (nat_lt 5 y.stamp ≡ true) → given (node_at types n) is_declared ≡ true
          by-table (y, ps, j, l) = given-since (node_at types n) is_declared (node (name y) ps) j l

  row-since : IsTable types → (n : ℕ) → row_right types n ≡ true
  row-since t n =
      and_from (if admits types n then compares types n else true) (if is_none (constructors_of types n) then true else given (node_at types n) is_declared)
      (so-if (admits types n) (compares types n) (λ e. compares-since n (t.comparable n e)))
      (so-unless (is_none (constructors_of types n)) (given (node_at types n) is_declared) (datatype-since t n))

  -- The basis

  unit-is : (n : ℕ) → Stands types (λ v. 0) n unit_type → Is types n (labels []) []
  unit-is n (stands_con i stand_none) = i

  unit-sound : (n : ℕ) → is_unit types n ≡ true → Is types n (labels []) []
  unit-sound n e = unit-is n (stands-sound types 0 n unit_type (sym (unit-stands types 0 n) ∙ e))

  unit-since : (n : ℕ) → Is types n (labels []) [] → is_unit types n ≡ true
  unit-since n i = unit-stands types 0 n ∙ stands-since types 0 n unit_type (stands_con i stand_none)

  table-sound : AreOnce types → table_right types ≡ true → IsTable types
  table-sound once e =
      let a = and_parts (basis_right types) (rows_right types (length types)) e in
      let b = and_parts (is_unit types unit_number) _ a.0 in
      let d = and_parts (is_named types bool_number bool_name) _ b.1 in
      let f = and_parts (has_constructor types bool_number false_number None) _ d.1 in
      record {
        once = once;
        unit = unit-sound unit_number b.0;
        bool = named-sound types bool_number bool_name d.0;
        truths = truth (constructor-sound types bool_number false_number None f.0) (constructor-sound types bool_number true_number None f.1);
        datatypes = λ n c x i.
            let h = constructor-row n c x i in
            let r = rows-at (length types) n (within n h.row types h.is) a.1 in
            let p = and_parts (if admits types n then compares types n else true) (if is_none (constructors_of types n) then true else given (node_at types n) is_declared) r in
            let g = given-sound (node_at types n) is_declared (unless-so (is_none (constructors_of types n)) (given (node_at types n) is_declared) p.1 (some-there n c x (sym (constructor-in n c h.row h.is) ∙ i))) in
            let k = declared-node n g.value g.is g.so in
            (k.named, k.parts, k.is, k.late);
        comparable = λ n q.
            let h = admits-row n q in
            let r = rows-at (length types) n (within n h.row types h.is) a.1 in
            let p = and_parts (if admits types n then compares types n else true) (if is_none (constructors_of types n) then true else given (node_at types n) is_declared) r in
            compares-sound n h.row h.is (if-so (admits types n) (compares types n) p.0 q);
      }
    where
      truth : constructor_at types bool_number false_number ≡ Some None → constructor_at types bool_number true_number ≡ Some None → (b : Bool) → constructor_at types bool_number (truth_number b) ≡ Some None
      truth p q true = q
      truth p q false = p

  table-since : IsTable types → table_right types ≡ true
  table-since t =
      and_from (basis_right types) (rows_right types (length types))
      (and_from (is_unit types unit_number) _ (unit-since unit_number t.unit)
      (and_from (is_named types bool_number bool_name) _ (named-since types bool_number bool_name t.bool)
      (and_from (has_constructor types bool_number false_number None) _ (constructor-since types bool_number false_number None (t.truths false)) (constructor-since types bool_number true_number None (t.truths true)))))
      (rows-so (length types) (row-since t))

  pub table-decided : AreOnce types → (b : Bool) → b ≡ table_right types → IsTrue b ↔ IsTable types
  table-decided once b e = ((λ y. table-sound once (sym e ∙ y)), (λ t. e ∙ table-since t))
