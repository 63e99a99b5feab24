-- The conversion of a program is well formed: its tables, its names, its calls, and what misses.
use Rattle.std.proofs.Common.{◌≡◌, ℕ, zero, suc, ◌<◌, Bool, true, false, ◌||◌, List, [], ◌∷◌, length, map, Option, Some, None, nat_eq, nat_lt, option_map, if◌then◌else◌, get_or, slice_get, refl, sym, ap, subst, ◌∙◌, arith}
use Rattle.std.specs.List.{AllByRecursion, concat}
use Rattle.std.specs.Str.{bytes_eq}
use Rattle.std.proofs.lemmas.Slice.Eq.{bytes_eq-Decides}
use Rattle.std.proofs.lemmas.Bool.{lt-ltb}
use Rattle.mlc_base.specs.declared.place.Place.{Place}
use Rattle.mlc_prims.specs.LitOf.{Literal, int, word, char, string, truth}
use Rattle.ir_mono.specs.Types as table
use Rattle.ir_mono.specs.Types.{admits, flag, node_at, IsFunction}
use Rattle.ir_mono.specs.Mono.{Program}
use Rattle.ir_mono.specs.WellFormed as mono
use Rattle.first_values.specs.Operations.{Tables, Member}
use Rattle.first_values.specs.WellFormed.{IsIn, IsConstant, Takes, Rise}
use Rattle.ir_first.specs.Tree as out
use Rattle.ir_first.specs.WellFormed as first
use Rattle.ir_first.specs.WellFormed.{arity}
use Rattle.flow_sets.specs.Member.{is_in}
use Rattle.flow_sets.specs.Flow.{Flow, variable, at}
use Rattle.flow_sets.specs.ByType.{Bound, bound_in, bound, type_of}
use Rattle.flow_sets.proofs.Known.{once-known}
use Rattle.flow_sets.proofs.Member.{nat_eq-same, or_left, within-same}
use Rattle.flow_sets.proofs.Sets.{of-set}
use Rattle.closure_convert.specs.Scope.{Table, top, index_of}
use Rattle.closure_convert.specs.Capture.{table_of}
use Rattle.closure_convert.proofs.Numbered.{captures-are-right}
use Rattle.closure_meaning.specs.Convert.{Numbering, numbers_in, codes, constant, call_set, set_of, shapes, tables, var, program}
use Rattle.closure_whole.specs.Constants.{IsHeld, AreHeld}
use Rattle.closure_whole.specs.Rising.{above, rising_from, rising}
use Rattle.closure_whole.specs.Tags.{stand_once, place_in, Count, AreDense}
use Rattle.closure_whole.specs.Converted.{text_index, numbering}
use Rattle.closure_whole.specs.Whole.{explicit}
use Rattle.closure_whole.proofs.Tags.{tags-are-dense}
use Rattle.closure_whole.proofs.Rise.{falls}
use Rattle.closure_whole.proofs.Held.{held}
use Rattle.closure_whole.proofs.Whole.{explicit-well-formed}
use Rattle.closure_formed.specs.Tables.{AreRows, AreBytes, Ascends, AreOrderly}
use Rattle.closure_formed.specs.Laws.{ConvertedWellFormed, RisingAreOrderly, WithoutFunctionsWellFormed}
use Rattle.closure_formed.proofs.Tables.{sets-ascend, length-shapes, are-shapes}
use Rattle.closure_formed.proofs.Numbers.{codes-two, takes-two, numbered, has-number}
use Rattle.closure_formed.proofs.Scoped.{Has, Known, Holds, OpFine, scoped, codes-scoped}
use Rattle.closure_formed.proofs.Misses.{whole, clean-program, codes-whole}

or-right : (a : Bool) {d : Bool} → d ≡ true → (a || d) ≡ true
or-right true h = refl
or-right false h = h

row-below : {A : Type 0} (xs : List A) (i : ℕ) {x : A} → slice_get xs i ≡ Some x → i < length xs
row-below [] i e = absurd (cc)
row-below (x ∷ xs) zero e = omega arith
row-below (x ∷ xs) (suc i) e = let l = row-below xs i e in omega (arith, l)

-- a string that stands in the table has its place there
text-at : (s t : List ℕ) (ts : List (List ℕ)) (b : Bool) → bytes_eq s t ≡ b → (i : ℕ) → slice_get (t ∷ ts) i ≡ Some s → ((i : ℕ) → slice_get ts i ≡ Some s → text_index s ts < length ts) → (if b then zero else suc (text_index s ts)) < length (t ∷ ts)
text-at s t ts true q i e rest = omega arith
text-at s t ts false q zero e rest = let same : s ≡ t = cc in let yes : bytes_eq s t ≡ true = (bytes_eq-Decides s t).1 same in absurd (cc)
text-at s t ts false q (suc i) e rest = let l = rest i e in omega (arith, l)

text-below : (s : List ℕ) (ts : List (List ℕ)) (i : ℕ) → slice_get ts i ≡ Some s → text_index s ts < length ts
text-below s [] i e = absurd (cc)
text-below s (t ∷ ts) i e = text-at s t ts (bytes_eq s t) refl i e (text-below s ts)

-- what stands at a place of a list, also after a map
map-at : {A B : Type 0} (f : A → B) (xs : List A) (i : ℕ) (d : A) → i < length xs → slice_get (map f xs) i ≡ Some (f (get_or xs i d))
map-at f [] i d h = absurd (omega (arith, h))
map-at f (x ∷ xs) zero d h = refl
map-at f (x ∷ xs) (suc i) d h = map-at f xs i d (omega (arith, h))

length-rising : (t n : ℕ) (bs : List Bound) → length (rising_from t n bs) ≡ n
length-rising t zero bs = refl
length-rising t (suc n) bs = ap suc (length-rising (suc t) n bs)

row-there : (types : List table.Row) (t : ℕ) (o : Option table.Row) → slice_get types t ≡ o → flag o ≡ true → t < length types
row-there types t None q e = absurd (cc)
row-there types t (Some r) q e = row-below types t q

node-there : (types : List table.Row) (t : ℕ) {k : table.Node} (o : Option table.Row) → slice_get types t ≡ o → option_map (λ r. r.type) o ≡ Some k → t < length types
node-there types t None q e = absurd (cc)
node-there types t (Some r) q e = row-below types t q

-- Tags rise along each set: those that count up, and the numbers of functions where they rise.

count-rises : (tag : ℕ) (ms : List Member) → Count tag ms → Rise ms
count-rises tag [] h = tt
count-rises tag (m ∷ []) h = tt
count-rises tag (m ∷ k ∷ ms) h = let a = h.0 in let b = h.1.0 in (lt-ltb m.tag k.tag (omega (arith, a, b)), count-rises (suc tag) (k ∷ ms) h.1)

dense-rise : (sets : List (List Member)) → AreDense sets → AllByRecursion Rise sets
dense-rise [] h = tt
dense-rise (ms ∷ sets) h = (count-rises 0 ms h.0, dense-rise sets h.1)

numbers-rise : (n : Numbering) → ((k : ℕ) → n.tag k ≡ k) → (sets : List (List ℕ)) → AllByRecursion Ascends sets → AllByRecursion Rise (map (set_of n) sets)
numbers-rise n is [] h = tt
numbers-rise n is (ks ∷ sets) h = (rise ks h.0, numbers-rise n is sets h.1)
  where
    rise : (ks : List ℕ) → Ascends ks → Rise (set_of n ks)
    rise [] h = tt
    rise (k ∷ []) h = tt
    rise (k ∷ l ∷ ks) h = let a = is k in let b = is l in let c = h.0 in (lt-ltb (n.tag k) (n.tag l) (omega (arith, a, b, c)), rise (l ∷ ks) h.1)

module _ (strings : List (List ℕ)) (F : Flow) (p : Program) (w : mono.IsWellFormed p) (orderly : AreOrderly p F) where
  abbrev n : Numbering
  n = numbering strings F p

  abbrev caps : Table
  caps = table_of p.types p.body

  abbrev T : Tables
  T = tables n strings p.initial p.types F

  abbrev all : List Bound
  all = bound p.types p.body

  abbrev cs : List out.Fun
  cs = codes n p.types F caps p.body []

  abbrev ar : List ℕ
  ar = 0 ∷ map arity cs

  constants : (l : Literal) → IsHeld strings l → IsConstant T (constant n l)
  constants (int z) h = tt
  constants (word k) h = tt
  constants (char k) h = tt
  constants (string s) h = lt-ltb (text_index s strings) (length strings) (text-below s strings h.0 h.1)
  constants (truth b) h = tt

  -- each function of a set takes the closure and its argument
  takes : (k : ℕ) → is_in k (numbers_in p.types p.body []) ≡ true → Takes T ar 2 (n.function k)
  takes k m =
      ap (λ z. slice_get z (index_of k (numbers_in p.types p.body []))) (codes-two n p.types F caps p.body (record { same = refl })).same ∙ takes-two k (numbers_in p.types p.body []) m

  all-take : (ks : List ℕ) → ((k : ℕ) → is_in k ks ≡ true → Takes T ar 2 (n.function k)) → AllByRecursion (λ (m : Member). Takes T ar 2 m.function) (set_of n ks)
  all-take [] h = tt
  all-take (k ∷ ks) h = (h k (or_left (nat_eq k k) (is_in k ks) (nat_eq-same k)), all-take ks (λ j i. h j (or-right (nat_eq j k) i)))

  called : (place : Place) (u f a : ℕ) (xs ks : List ℕ) → slice_get T.sets u ≡ Some (set_of n ks) → ((k : ℕ) → is_in k ks ≡ true → Takes T ar 2 (n.function k)) → IsIn xs f → IsIn xs a → first.OpScoped T ar xs (call_set n place u ks f a)
  called place u f a xs [] e h i j = ((i, (set_of n [], e, tt)), (j, tt))
  called place u f a xs (k ∷ []) e h i j = (h k (or_left (nat_eq k k) false (nat_eq-same k)), (i, (j, tt)))
  called place u f a xs (k ∷ l ∷ ks) e h i j = ((i, (set_of n (k ∷ l ∷ ks), e, all-take (k ∷ l ∷ ks) h)), (j, tt))

  callee : (place : Place) (f a u b c : ℕ) (xs : List ℕ) → type_of p.types (bound_in f all) ≡ u → IsFunction p.types u b c → IsIn xs (var f) → IsIn xs (var a)
      → OpFine p.types n F caps T ar all strings xs (call_set n place (F.number (variable f)) (at F (variable f)) (var f) (var a))
  callee place f a u b c xs e i h g =
      let t : IsFunction p.types (type_of p.types (bound_in f all)) b c = subst (λ z. IsFunction p.types z b c) (sym e) i in record {
        is = called place (F.number (variable f)) (var f) (var a) xs (at F (variable f)) (map-at (set_of n) F.sets (F.number (variable f)) [] (orderly.there f b c t))
            (λ k j. takes k (orderly.functions f b c k t j)) h g;
      }

  has : Has p.types n F caps T ar all strings
  has = record {
    constants = constants;
    initial = λ i h. subst (λ z. nat_lt i z ≡ true) (sym w.initial) h;
    equality = λ t h. lt-ltb t (length (shapes p.types)) (subst (λ z. t < z) (sym (length-shapes 0 p.types)) (row-there p.types t (slice_get p.types t) refl h));
    callee = callee;
  }

  known : Known p.types n F caps T ar all strings []
  known = record { is = λ f u a b e i. absurd (cc) }

  holds : Holds top []
  holds = record { locals = λ x i. absurd (cc); outside = λ y i. absurd (cc) }

  tags-rise : (b : Bool) → stand_once (concat F.sets) ≡ b → AllByRecursion Rise T.sets
  tags-rise true o = dense-rise T.sets (tags-are-dense strings F p o)
  tags-rise false o = numbers-rise n (λ k. ap (λ b. if b then place_in F.sets k else k) o) F.sets orderly.ascend

  pub formed : AreHeld strings p.body → AreRows p.types → AreBytes strings → first.IsWellFormed (program n strings F caps p)
  formed d rows bytes =
      let k = once-known p.types p.body w.once in
      let c = captures-are-right p w in record {
        tables = record { initial = w.initial; strings = bytes; types = are-shapes p.types rows; sets = tags-rise (stand_once (concat F.sets)) refl };
        main = refl;
        scoped = ((scoped p.types n F caps T ar all strings has top known k holds c d w.typed).is, (codes-scoped p.types n F caps T ar all strings has top known k c d w.typed (record { are = tt })).are);
        whole = ((clean-program p.types n F caps top w.typed, (whole p.types n F caps top w.typed).is), (codes-whole p.types n F caps w.typed (record { are = tt })).are);
      }

pub converted-well-formed : ConvertedWellFormed
converted-well-formed strings F p w x h rows bytes o = formed strings F p w o h rows bytes

-- all functions of each type, in rising order, are orderly
pub rising-are-orderly : RisingAreOrderly
rising-are-orderly p w = record {
  ascend = sets-ascend 0 (length p.types) all;
  there = λ f a b i. subst (λ z. type_of p.types (bound_in f all) < z) (sym (length-rising 0 (length p.types) all)) (node-there p.types (type_of p.types (bound_in f all)) (slice_get p.types (type_of p.types (bound_in f all))) refl i);
  functions = λ f a b k i j.
      let u = type_of p.types (bound_in f all) in
      let q = of-set p.types all u k (once-known p.types p.body w.once) i ((falls p.types all (once-known p.types p.body w.once) u).all k j) in
      has-number k q.entry all (numbers_in p.types p.body []) u q.is (numbered p.types p.body [] (numbers_in p.types p.body []) (within-same refl)) q.found;
}
  where
    all : List Bound
    all = bound p.types p.body

pub without-functions-well-formed : WithoutFunctionsWellFormed
without-functions-well-formed strings p w h rows bytes =
    formed strings (rising (explicit p)) (explicit p) (explicit-well-formed p w) (rising-are-orderly (explicit p) (explicit-well-formed p w))
    (held strings p.types [] (above (bound p.types p.body)) p.body h) rows bytes
