-- Two values of a type that admits equality are equal or not.
use Rattle.std.proofs.Common.{◌≡◌, ℕ, List, [], ◌∷◌, Bool, true, false, Option, Some, None, if◌then◌else◌, nat_eq, nat_lt, option_map, option_and_then, refl, sym, subst, ap, ◌∙◌}
use Rattle.std.proofs.lemmas.Bool.{eq-eqb, eqb-true}
use Rattle.ir_poly.specs.of_mlc_names.declared.label.Label.{Label}
use Rattle.ir_poly.specs.of_mlc_prims.LitOf.{Literal}
use Rattle.ir_poly.specs.of_mlc_prims.Table.{literal_eq}
use Rattle.ir_poly.specs.of_ty_core.Types.{labels, name}
use Rattle.ir_poly.specs.of_ty_core.declared.name.TyName.{TyName}
use Rattle.ir_poly.specs.of_ir_values.Values.{literal, record_of, con, con_of, address, same_label}
use Rattle.ir_poly.specs.of_ir_values.Equality.{both_equal, where_holds, if_equal, Constructed, same_part, same_at, same_fields}
use Rattle.ir_poly.specs.of_ir_plain.Meaning.{V, Parts}
use Rattle.ir_poly.specs.Types.{int_name, word_name, char_name, string_name, ref_name, exn_name}
use Rattle.ir_mono.specs.Types.{Row, Node, node, node_at, constructor_at, admits, part, part_of, holds, has_literal, is_named, by_number, Is, IsRef, HasLiteral, has_int, has_word, has_char, has_string, IsOther, other_none, other_more, AreDistinct, distinct_none, distinct_more, AllAdmit, admit_none, admit_more, IsComparable, records_are, named_are, IsTable}
use Rattle.ir_mono.specs.Mono.{mono}
use Rattle.ir_mono.proofs.Values as values
use Rattle.ir_mono.specs.Values.{Shape, ValueTyped, literal_is, record_is, con_is, con_function_is, con_of_is, exn_is, exn_function_is, exn_of_is, ref_is, address_is, primitive_is, closure_is, group_is, FieldsTyped, no_fields_are, a_field_is}
use Rattle.ir_mono.proofs.Values.{other-name, literal-name, literal-few, FieldFound, field_found, field-typed, alone_made, argument_made, constructed, recorded, record-of, data-name}

-- there is an answer
pub data Answers : Option Bool → Type 0 where
  answers : (b : Bool) → Answers (Some b)

both-answer : {o q : Option Bool} → Answers o → Answers q → Answers (both_equal o q)
both-answer (answers b) (answers c) = answers _

if-answers : (b : Bool) {o : Option Bool} → (b ≡ true → Answers o) → Answers (if_equal b o)
if-answers true h = h refl
if-answers false h = answers false

where-answers : {b : Bool} {o : Option Bool} → b ≡ true → Answers o → Answers (where_holds b o)
where-answers {b} {o} e h = subst (λ z. Answers (where_holds z o)) (sym e) h

module _ (types : List Row) where
  named : (y : TyName) (n : ℕ) {ps : List ℕ} → Is types n (name y) ps → holds (is_named y) (node_at types n) ≡ true
  named y n {ps} e = ap (holds (is_named y)) e ∙ eq-eqb y.stamp y.stamp refl

  pub literal-there : {l : Literal} {n : ℕ} → HasLiteral types l n → holds (λ k. has_literal k l) (node_at types n) ≡ true
  literal-there {n = n} (has_int z e) = named int_name n e
  literal-there {n = n} (has_word k e) = named word_name n e
  literal-there {n = n} (has_char k e) = named char_name n e
  literal-there {n = n} (has_string s e) = named string_name n e

  literals-answer : {l k : Literal} {n : ℕ} → HasLiteral types l n → HasLiteral types k n → Answers (literal_eq l k)
  literals-answer (has_int z e) (has_int y d) = answers _
  literals-answer (has_int z e) (has_word y d) = absurd (other-name types int_name word_name _ refl e d)
  literals-answer (has_int z e) (has_char y d) = absurd (other-name types int_name char_name _ refl e d)
  literals-answer (has_int z e) (has_string y d) = absurd (other-name types int_name string_name _ refl e d)
  literals-answer (has_word z e) (has_int y d) = absurd (other-name types word_name int_name _ refl e d)
  literals-answer (has_word z e) (has_word y d) = answers _
  literals-answer (has_word z e) (has_char y d) = absurd (other-name types word_name char_name _ refl e d)
  literals-answer (has_word z e) (has_string y d) = absurd (other-name types word_name string_name _ refl e d)
  literals-answer (has_char z e) (has_int y d) = absurd (other-name types char_name int_name _ refl e d)
  literals-answer (has_char z e) (has_word y d) = absurd (other-name types char_name word_name _ refl e d)
  literals-answer (has_char z e) (has_char y d) = answers _
  literals-answer (has_char z e) (has_string y d) = absurd (other-name types char_name string_name _ refl e d)
  literals-answer (has_string z e) (has_int y d) = absurd (other-name types string_name int_name _ refl e d)
  literals-answer (has_string z e) (has_word y d) = absurd (other-name types string_name word_name _ refl e d)
  literals-answer (has_string z e) (has_char y d) = absurd (other-name types string_name char_name _ refl e d)
  literals-answer (has_string z e) (has_string y d) = answers _

  module _ (table : IsTable types) (S : Shape) where
    -- a value of a constant's type is a constant
    pub data Constant (n : ℕ) : V (mono types) → Type 0 where
      constant : {l : Literal} → HasLiteral types l n → Constant n (literal l)

    pub constant-of : {l : Literal} {n : ℕ} {v : V (mono types)} → HasLiteral types l n → ValueTyped types S v n → Constant n v
    constant-of h (literal_is k) = constant k
    constant-of h (con_is {c = c} e) = absurd (values.data-literal types S table c e h)
    constant-of h (con_of_is {c = c} e k) = absurd (values.data-literal types S table c e h)
    constant-of h (record_is e o k) = let d = (literal-name types h).is in absurd (cc)
    constant-of h (con_function_is bare_ e k) = let d = (literal-name types h).is in absurd (cc)
    constant-of h (exn_is e k) = let few = literal-few types exn_name h k in absurd (cc)
    constant-of h (exn_function_is bare_ e k j) = let d = (literal-name types h).is in absurd (cc)
    constant-of h (exn_of_is e k j) = let few = literal-few types exn_name h j in absurd (cc)
    constant-of h (ref_is bare_ k j) = let d = (literal-name types h).is in absurd (cc)
    constant-of h (address_is e k) = let few = literal-few types ref_name h k in absurd (cc)
    constant-of h (primitive_is bare_ p t k) = let d = (literal-name types h).is in absurd (cc)
    constant-of h (closure_is e k j _) = let d = (literal-name types h).is in absurd (cc)
    constant-of h (group_is e i k j _ _) = let d = (literal-name types h).is in absurd (cc)

    -- one of a reference's type is an address, of something that is stored
    pub data Addressed (a : ℕ) : V (mono types) → Type 0 where
      addressed : {i : ℕ} → Rattle.std.proofs.Common.slice_get S.store i ≡ Some a → Addressed a (address i)

    pub address-of : {n a : ℕ} {v : V (mono types)} → IsRef types n a → ValueTyped types S v n → Addressed a v
    address-of {a = a} e (address_is {i = i} {a = b} h k) = let same : b ≡ a = cc in addressed (subst (λ z. Rattle.std.proofs.Common.slice_get S.store i ≡ Some z) same h)
    address-of e (literal_is h) = let few = literal-few types ref_name h e in absurd (cc)
    address-of {n} e (con_is {c = c} h) = let d = data-name types S table n c h in absurd (values.few-data types S table d.0 ref_name n d.3 refl d.2 e)
    address-of {n} e (con_of_is {c = c} h k) = let d = data-name types S table n c h in absurd (values.few-data types S table d.0 ref_name n d.3 refl d.2 e)
    address-of e (record_is h o k) = absurd (cc)
    address-of e (con_function_is bare_ h k) = absurd (cc)
    address-of {n} e (exn_is h k) = absurd (other-name types ref_name exn_name n refl e k)
    address-of e (exn_function_is bare_ h k j) = absurd (cc)
    address-of {n} e (exn_of_is h k j) = absurd (other-name types ref_name exn_name n refl e j)
    address-of e (ref_is bare_ k j) = absurd (cc)
    address-of e (primitive_is bare_ p t k) = absurd (cc)
    address-of e (closure_is h k j _) = absurd (cc)
    address-of e (group_is h fs k j _ _) = absurd (cc)

    -- the parts of what is comparable
    literal-comparable : {l : Literal} {n : ℕ} → HasLiteral types l n → {v : V (mono types)} → ValueTyped types S v n → Answers (same_at (by_number types) n (literal l) v)
    literal-comparable {l} {n} h k = go (constant-of h k)
      where
        go : {v : V (mono types)} → Constant n v → Answers (same_at (by_number types) n (literal l) v)
        go (constant j) = where-answers (literal-there h) (literals-answer h j)

    -- each part is that of its label, and admits equality
    data AtParts (ls : List Label) (ts : List ℕ) : List Label → List ℕ → Type 0 where
      parts_none : AtParts ls ts [] []
      parts_more : {k : Label} {u : ℕ} {ks : List Label} {us : List ℕ} → part k ls ts ≡ Some u → admits types u ≡ true → AtParts ls ts ks us → AtParts ls ts (k ∷ ks) (u ∷ us)

    skip : {A : Type 0} (b : Bool) (o q : Option A) → b ≡ false → (if b then o else q) ≡ q
    skip true o q e = absurd (cc)
    skip false o q e = refl

    first-part : (l : Label) → same_label l l ≡ true
    first-part (Rattle.ir_poly.specs.of_mlc_names.declared.label.Label.TheVariants.Number n) = eq-eqb n n refl
    first-part (Rattle.ir_poly.specs.of_mlc_names.declared.label.Label.TheVariants.Word x) = eq-eqb x x refl

    take-first : {A : Type 0} (b : Bool) (o q : Option A) → b ≡ true → (if b then o else q) ≡ o
    take-first true o q e = refl
    take-first false o q e = absurd (cc)

    later : (l : Label) (t : ℕ) {ls ks : List Label} {ts us : List ℕ} → IsOther l ks → AtParts ls ts ks us → AtParts (l ∷ ls) (t ∷ ts) ks us
    later l t other_none parts_none = parts_none
    later l t (other_more {k = k} e o) (parts_more p a ps) = parts_more (skip (same_label k l) _ _ e ∙ p) a (later l t o ps)

    at-parts : {fs : Parts (mono types)} {ls : List Label} {ts : List ℕ} → FieldsTyped types S fs ls ts → AreDistinct ls → AllAdmit types ts → AtParts ls ts ls ts
    at-parts no_fields_are distinct_none admit_none = parts_none
    at-parts (a_field_is {l = l} {t = t} h hs) (distinct_more o d) (admit_more a as_) = parts_more (take-first (same_label l l) _ _ (first-part l)) a (later l t o (at-parts hs d as_))

    record-admits : {n : ℕ} {ls : List Label} {ps : List ℕ} → IsComparable types n → Is types n (labels ls) ps → AllAdmit types ps
    record-admits {ps = ps} (records_are {ps = qs} h a) e = let same : qs ≡ ps = cc in subst (AllAdmit types) same a
    record-admits (named_are h m a) e = absurd (cc)

    argument-admits : (n c : ℕ) {a : ℕ} → IsComparable types n → constructor_at types n c ≡ Some (Some a) → admits types a ≡ true
    argument-admits n c (records_are h a) e = let d = data-name types S table n c e in let i = d.2 in absurd (cc)
    argument-admits n c {a} (named_are h m k) e = k c a e

    field-type : (n : ℕ) {ls : List Label} {ts : List ℕ} (l : Label) → Is types n (labels ls) ts → option_and_then (part_of l) (node_at types n) ≡ part l ls ts
    field-type n l e = ap (option_and_then (part_of l)) e

    argument-type : (n c : ℕ) {a : ℕ} → constructor_at types n c ≡ Some (Some a) → option_and_then (λ o. o) (constructor_at types n c) ≡ Some a
    argument-type n c e = ap (option_and_then (λ o. o)) e

    no-exn : {n : ℕ} → IsComparable types n → Is types n (name exn_name) [] → ⊥
    no-exn (records_are h a) e = absurd (cc)
    no-exn {n} (named_are {y = y} h m k) e = m (let same : y ≡ exn_name = cc in same)

    no-function : {n a b : ℕ} → IsComparable types n → Rattle.ir_mono.specs.Types.IsFunction types n a b → ⊥
    no-function (records_are h a) e = absurd (cc)
    no-function (named_are h m k) e = absurd (cc)

    part-answers : (v : V (mono types)) {t : ℕ} {g : Option ℕ} {o : Option (V (mono types))} → g ≡ Some t → FieldFound types S t o → ((u : V (mono types)) → ValueTyped types S u t → Answers (same_at (by_number types) t v u))
        → Answers (same_part (by_number types) (λ a. same_at (by_number types) a v) g o)
    part-answers v {t} {o = o} e f h = subst (λ g. Answers (same_part (by_number types) (λ a. same_at (by_number types) a v) g o)) (sym e) (go f)
      where
        go : {o : Option (V (mono types))} → FieldFound types S t o → Answers (same_part (by_number types) (λ a. same_at (by_number types) a v) (Some t) o)
        go (field_found k) = h _ k

    -- what is made at n is taken apart at n
    at-answers : (n : ℕ) {A : Type 0} (a : A) (test : A → Option Bool) → Answers (test a) → Answers (where_holds (nat_eq n n) (option_and_then test (where_holds (nat_eq n n) (Some a))))
    at-answers n {A} a test h = where-answers (eq-eqb n n refl) (subst (λ b. Answers (option_and_then test (where_holds b (Some a)))) (sym (eq-eqb n n refl)) h)

    records-answer : (n : ℕ) (fs : Parts (mono types)) {ls : List Label} {ps : List ℕ} {u : V (mono types)} → values.Recorded types S table n ls ps u → ((gs : Parts (mono types)) → FieldsTyped types S gs ls ps → Answers (same_fields (by_number types) n fs gs))
        → Answers (same_at (by_number types) n (record_of n fs) u)
    records-answer n fs (recorded {fs = gs} j) h = at-answers n gs (same_fields (by_number types) n fs) (h gs j)

    constructors-answer : (n c : ℕ) {u : V (mono types)} → values.Constructed types S table n u → Answers (same_at (by_number types) n (con n c) u)
    constructors-answer n c (alone_made {c = d} q) = where-answers (eq-eqb n n refl) (subst (λ b. Answers (option_map (λ (d : Constructed (V (mono types))). nat_eq c d.number) (where_holds b (Some (record { number = d; argument = None }))))) (sym (eq-eqb n n refl)) (answers _))
    constructors-answer n c (argument_made {c = d} {v = v} q r) = where-answers (eq-eqb n n refl) (subst (λ b. Answers (option_map (λ (d : Constructed (V (mono types))). nat_eq c d.number) (where_holds b (Some (record { number = d; argument = Some v }))))) (sym (eq-eqb n n refl)) (answers _))

    constructions-answer : (n c : ℕ) {a : ℕ} (v : V (mono types)) {u : V (mono types)} → constructor_at types n c ≡ Some (Some a) → values.Constructed types S table n u → ((x : V (mono types)) → ValueTyped types S x a → Answers (same_at (by_number types) a v x))
        → Answers (same_at (by_number types) n (con_of n c v) u)
    constructions-answer n c {a} v e (alone_made {c = d} q) h =
        at-answers n (record { number = d; argument = None }) (λ (d : Constructed (V (mono types))). if_equal (nat_eq c d.number) (same_part (by_number types) (λ a. same_at (by_number types) a v) ((by_number types).argument n c) d.argument))
        (if-answers (nat_eq c d) (λ y. let one : c ≡ d = eqb-true c d y in absurd (cc)))
    constructions-answer n c {a} v e (argument_made {c = d} {a = b} {v = x} q r) h =
        at-answers n (record { number = d; argument = Some x }) (λ (d : Constructed (V (mono types))). if_equal (nat_eq c d.number) (same_part (by_number types) (λ a. same_at (by_number types) a v) ((by_number types).argument n c) d.argument))
        (if-answers (nat_eq c d) (λ y. part-answers v (argument-type n c e) (field_found (let one : c ≡ d = eqb-true c d y in let same : b ≡ a = cc in subst (ValueTyped types S x) same r)) h))

    addresses-answer : (n j : ℕ) {a b : ℕ} {u : V (mono types)} → IsRef types n a → Addressed b u → Answers (same_at (by_number types) n (address j) u)
    addresses-answer n j k (addressed q) = where-answers (named ref_name n k) (answers _)

    mutual
      pub same-answers : {n : ℕ} {v u : V (mono types)} → ValueTyped types S v n → ValueTyped types S u n → IsComparable types n → Answers (same_at (by_number types) n v u)
      same-answers (literal_is h) k i = literal-comparable h k
      same-answers {n} (record_is {fs = fs} {ls = ls} {ps = ps} e d h) k i =
          records-answer n fs (record-of types S table e k) (λ gs j. fields-answer n e h j (at-parts h d (record-admits i e)))
      same-answers {n} (con_is {c = c} e) k i = constructors-answer n c (constructed types S table c e k)
      same-answers {n} (con_of_is {c = c} {a = a} {v = v} e h) k i = constructions-answer n c v e (constructed types S table c e k) (λ x j. same-answers h j (table.comparable a (argument-admits n c i e)))
      same-answers {n} (address_is {i = j} h k) u i = addresses-answer n j k (address-of k u)
      same-answers (exn_is h k) u i = absurd (no-exn i k)
      same-answers (exn_of_is h k j) u i = absurd (no-exn i j)
      same-answers (exn_function_is bare_ h k j) u i = absurd (no-function i k)
      same-answers (con_function_is bare_ h k) u i = absurd (no-function i k)
      same-answers (ref_is bare_ k j) u i = absurd (no-function i k)
      same-answers (primitive_is bare_ p t k) u i = absurd (no-function i k)
      same-answers (closure_is h k j _) u i = absurd (no-function i k)
      same-answers (group_is h fs k j _ _) u i = absurd (no-function i k)

      fields-answer : (n : ℕ) {ls ks : List Label} {ts us : List ℕ} {fs gs : Parts (mono types)} → Is types n (labels ls) ts → FieldsTyped types S fs ks us → FieldsTyped types S gs ls ts → AtParts ls ts ks us → Answers (same_fields (by_number types) n fs gs)
      fields-answer n e no_fields_are k parts_none = answers true
      fields-answer n e (a_field_is {l = l} {v = v} {t = t} h hs) k (parts_more p a ps) =
          both-answer (part-answers v (field-type n l e ∙ p) (field-typed types S l k p) (λ u j. same-answers h j (table.comparable t a))) (fields-answer n e hs k ps)

pub equality-answers : (types : List Row) → IsTable types → (S : Shape) (n : ℕ) (v u : V (mono types)) → ValueTyped types S v n → ValueTyped types S u n → admits types n ≡ true → (b : Bool) × (same_at (by_number types) n v u ≡ Some b)
equality-answers types table S n v u h k a = go (same-answers types table S h k (table.comparable n a))
  where
    go : {o : Option Bool} → Answers o → (b : Bool) × (o ≡ Some b)
    go (answers b) = (b, refl)
