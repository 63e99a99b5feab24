-- What primitives give of values of their types.
use Rattle.std.proofs.Common.{◌≡◌, ℕ, zero, suc, ◌<◌, List, [], ◌∷◌, ◌++◌, length, Bool, true, false, Option, Some, None, slice_get, if◌then◌else◌, nat_eq, nat_lt, option_map, option_and_then, subst, refl, sym, ap, arith, ◌∙◌}
use Rattle.std.specs.Prelude.{slice_set, not, ◌||◌}
use Rattle.std.proofs.lemmas.Bool.{lt-ltb, eq-eqb, eqb-true}
use Rattle.ir_poly.specs.of_mlc_runs.Run.{World, Answer, gives, raises, stops, out_of_turns, then_do, or_handle, or_fail, fail, turn_from}
use Rattle.ir_poly.specs.of_mlc_names.declared.label.Label.{Label}
use Rattle.ir_poly.specs.of_mlc_names.declared.label.Label.TheVariants.{Number}
use Rattle.ir_poly.specs.of_mlc_prims.LitOf.{Literal, int, word, char, string}
use Rattle.ir_poly.specs.of_mlc_prims.PrimOf.{Gives, made}
use Rattle.ir_poly.specs.of_mlc_prims.Table.{row_of}
use Rattle.ir_poly.specs.of_mlc_prims.declared.prim.PrimExn.{PrimExn}
use Rattle.ir_poly.specs.of_mlc_prims.declared.prim.PrimExn.TheVariants.{Overflow, Div, Subscript, Size, Chr}
use Rattle.ir_poly.specs.of_mlc_prims.declared.basis.BasisPrimitive.{BasisPrimitive}
use Rattle.ir_poly.specs.of_mlc_prims.declared.basis.BasisPrimitive.TheVariants.{Add, Subtract, Multiply, Divide, Modulo, Negate, Less, LessEqual, Greater, GreaterEqual, Equals, Assign, Print}
use Rattle.ir_poly.specs.of_ty_core.Types.{Typ, var, name, typs_of}
use Rattle.ir_poly.specs.of_ty_core.Marks.{overloaded}
use Rattle.ir_poly.specs.of_ir_values.Values.{literal, record_of, cell, address, exn, con, no_fields, field, Fields, field_in, truth_number}
use Rattle.ir_poly.specs.of_ir_values.Primitives.{is_overloaded, Sort, compares, assigns, prints, computes, sort_of, begin_at, row_at, literals, parts, arguments, giving, raised_name, perform, perform_as}
use Rattle.ir_poly.specs.of_ir_plain.Meaning.{V, Parts}
use Rattle.ir_poly.specs.Types.{int_name, word_name, char_name, string_name, bool_name, prim_type}
use Rattle.ir_mono.specs.Types.{Row, Is, IsRef, HasLiteral, has_int, has_word, has_char, has_string, distinct_none, Stands, stands_var, stands_con, AllStand, stand_none, stand_more, IsTable, IsTuple, nothing, alone, together, by_number, numbered, bool_number, unit_number}
use Rattle.ir_mono.specs.Mono.{mono}
use Rattle.ir_mono.specs.Typing.{PrimAt}
use Rattle.ir_mono.specs.Values.{Shape, ValueTyped, literal_is, record_is, con_is, address_is, FieldsTyped, no_fields_are, a_field_is}
use Rattle.ir_mono.proofs.Values.{Grows, stays, further, ValuesTyped, no_values_are, a_value_is, IsPacket, alone_is, value-grows, StoreTyped, no_store, stored, WorldTyped, record-of, recorded, Recorded, FieldFound, field_found, count-typed, other-name}
use Rattle.ir_mono.proofs.Comparing.{Answers, answers, same-answers, address-of, literal-there, Addressed, addressed, constant-of, Constant, constant}
use Rattle.ir_mono.proofs.Rows as rows
use Rattle.ir_mono.proofs.Rows.{Base, integers, words, characters, strings, number_of, IsBase, is_int, is_word, is_char, is_string, AllBase, all_none, all_more, the_parameter, the_base, Shapes, shapes_none, shapes_more, Result, a_constant, a_truth, GivesTyped, made_constant, made_truth, was_raised, RowGives, row_gives, ParameterIs, any_type, a_base, performs}

module _ (types : List Row) where
  abbrev pub W : Type 0
  W = V (mono types)

  abbrev pub OfType : ℕ → Shape → W → Type 0
  OfType t S v = ValueTyped types S v t

  -- an answer in a world whose shape has grown, or want of turns
  pub data Fine {A : Type 0} (Q : Shape → A → Type 0) (S : Shape) : Answer W A → Type 0 where
    fine_gives : {S' : Shape} {a : A} {w : World W} → Grows S S' → WorldTyped types S' w → Q S' a → Fine Q S (gives a w)
    fine_raises : {S' : Shape} {p : W} {w : World W} → Grows S S' → WorldTyped types S' w → IsPacket types S' p → Fine Q S (raises p w)
    fine_stops : {w : World W} → Fine Q S (stops out_of_turns w)

  pub widen : {A : Type 0} {Q : Shape → A → Type 0} {S S' : Shape} {r : Answer W A} → Grows S S' → Fine Q S' r → Fine Q S r
  widen g (fine_gives h w q) = fine_gives (further g h) w q
  widen g (fine_raises h w q) = fine_raises (further g h) w q
  widen g fine_stops = fine_stops

  pub here : {A : Type 0} {Q : Shape → A → Type 0} {S : Shape} {a : A} {w : World W} → WorldTyped types S w → Q S a → Fine Q S (gives a w)
  here w q = fine_gives (stays _) w q

  -- the store
  pub store-grows : {S S' : Shape} {vs : List W} {ts : List ℕ} → Grows S S' → StoreTyped types S vs ts → StoreTyped types S' vs ts
  store-grows g no_store = no_store
  store-grows g (stored h hs) = stored (value-grows types g h) (store-grows g hs)

  pub data CellFound (S : Shape) (t : ℕ) : Option W → Type 0 where
    cell_found : {v : W} → ValueTyped types S v t → CellFound S t (Some (cell t v))

  pub get-stored : {S : Shape} {vs : List W} {ts : List ℕ} {t : ℕ} (i : ℕ) → StoreTyped types S vs ts → slice_get ts i ≡ Some t → CellFound S t (slice_get vs i)
  get-stored i no_store e = absurd (cc)
  get-stored {S} {t = t} zero (stored {v = v} {t = t'} h hs) e = let same : t' ≡ t = cc in subst (λ z. CellFound S t (Some (cell z v))) (sym same) (cell_found (subst (ValueTyped types S v) same h))
  get-stored (suc i) (stored h hs) e = get-stored i hs e

  set-stored : {S : Shape} {vs : List W} {ts : List ℕ} {v : W} {t : ℕ} (i : ℕ) → StoreTyped types S vs ts → slice_get ts i ≡ Some t → ValueTyped types S v t → StoreTyped types S (slice_set vs i (cell t v)) ts
  set-stored i no_store e k = no_store
  set-stored {S} {v = v} {t = t} zero (stored {t = t'} {vs = vs} {ts = ts} h hs) e k = let same : t ≡ t' = cc in subst (λ z. StoreTyped types S (cell t v ∷ vs) (z ∷ ts)) same (stored k hs)
  set-stored (suc i) (stored h hs) e k = stored h (set-stored i hs e k)

  push-stored : {S : Shape} {vs : List W} {ts : List ℕ} {v : W} {t : ℕ} → StoreTyped types S vs ts → ValueTyped types S v t → StoreTyped types S (vs ++ cell t v ∷ []) (ts ++ t ∷ [])
  push-stored no_store k = stored k no_store
  push-stored (stored h hs) k = stored h (push-stored hs k)

  at-end : {S : Shape} {vs : List W} {ts : List ℕ} (t : ℕ) → StoreTyped types S vs ts → slice_get (ts ++ t ∷ []) (length vs) ≡ Some t
  at-end t no_store = refl
  at-end t (stored h hs) = at-end t hs

  in-store : {S : Shape} {vs : List W} {ts : List ℕ} {t : ℕ} (i : ℕ) → StoreTyped types S vs ts → slice_get ts i ≡ Some t → i < length vs
  in-store i no_store e = absurd (cc)
  in-store zero (stored h hs) e = omega arith
  in-store (suc i) (stored h hs) e = let l = in-store i hs e in omega arith

  pub still : {A : Type 0} {t : A} (ts us : List A) (i : ℕ) → slice_get ts i ≡ Some t → slice_get (ts ++ us) i ≡ Some t
  still [] us i e = absurd (cc)
  still (t ∷ ts) us zero e = e
  still (t ∷ ts) us (suc i) e = still ts us i e

  more-stored : (S : Shape) (t : ℕ) → Grows S (record S { store = S.store ++ t ∷ [] })
  more-stored S t = record { store = λ i u e. still S.store (t ∷ []) i e; exceptions = λ i u e. e; bare = refl }

  pushed : {S : Shape} {w : World W} {v : W} {t : ℕ} → WorldTyped types S w → ValueTyped types S v t → WorldTyped types (record S { store = S.store ++ t ∷ [] }) (record w { store = w.store ++ cell t v ∷ [] })
  pushed {S} {w} {v} {t} k h = record { store = push-stored (store-grows (more-stored S t) k.store) (value-grows types (more-stored S t) h); exceptions = k.exceptions }

  -- a new reference
  pub reference-fine : {S : Shape} {v : W} {a n : ℕ} (w : World W) → IsRef types n a → ValueTyped types S v a → WorldTyped types S w → Fine (OfType n) S (Rattle.ir_poly.specs.of_ir_values.Primitives.make_reference (by_number types) a v w)
  reference-fine {S} {a = a} w e h k = fine_gives (more-stored S a) (pushed k h) (address_is (at-end a k.store) e)

  if-true : {A : Type 0} {Q : Shape → A → Type 0} {S : Shape} (b : Bool) (r q : Answer W A) → b ≡ true → Fine Q S r → Fine Q S (if b then r else q)
  if-true true r q e h = h
  if-true false r q e h = absurd (cc)

  -- the exceptions of the initial basis are there
  abbrev pub Begun : Shape → Type 0
  Begun S = (i : ℕ) → nat_lt i 7 ≡ true → slice_get S.exceptions i ≡ Some None

  raised-there : (e : PrimExn) → nat_lt (raised_name e) 7 ≡ true
  raised-there Overflow = refl
  raised-there Div = refl
  raised-there Subscript = refl
  raised-there Size = refl
  raised-there Chr = refl

  module _ (table : IsTable types) where
    -- constants of the types of constants
    has-base : {b : Base} {l : Literal} {n : ℕ} → IsBase b l → Is types n (name (overloaded (number_of b))) [] → HasLiteral types l n
    has-base (is_int z) e = has_int z e
    has-base (is_word n) e = has_word n e
    has-base (is_char n) e = has_char n e
    has-base (is_string s) e = has_string s e

    data Based (b : Base) : W → Type 0 where
      based : {l : Literal} → IsBase b l → Based b (literal l)

    base-of : (b : Base) {l : Literal} {n : ℕ} → HasLiteral types l n → Is types n (name (overloaded (number_of b))) [] → Based b (literal l)
    base-of integers (has_int z d) e = based (is_int z)
    base-of integers {n = n} (has_word k d) e = absurd (other-name types word_name int_name n refl d e)
    base-of integers {n = n} (has_char k d) e = absurd (other-name types char_name int_name n refl d e)
    base-of integers {n = n} (has_string k d) e = absurd (other-name types string_name int_name n refl d e)
    base-of words {n = n} (has_int z d) e = absurd (other-name types int_name word_name n refl d e)
    base-of words (has_word k d) e = based (is_word k)
    base-of words {n = n} (has_char k d) e = absurd (other-name types char_name word_name n refl d e)
    base-of words {n = n} (has_string k d) e = absurd (other-name types string_name word_name n refl d e)
    base-of characters {n = n} (has_int z d) e = absurd (other-name types int_name char_name n refl d e)
    base-of characters {n = n} (has_word k d) e = absurd (other-name types word_name char_name n refl d e)
    base-of characters (has_char k d) e = based (is_char k)
    base-of characters {n = n} (has_string k d) e = absurd (other-name types string_name char_name n refl d e)
    base-of strings {n = n} (has_int z d) e = absurd (other-name types int_name string_name n refl d e)
    base-of strings {n = n} (has_word k d) e = absurd (other-name types word_name string_name n refl d e)
    base-of strings {n = n} (has_char k d) e = absurd (other-name types char_name string_name n refl d e)
    base-of strings (has_string k d) e = based (is_string k)

    some-literal : (b : Base) {n : ℕ} → Is types n (name (overloaded (number_of b))) [] → (l : Literal) × HasLiteral types l n
    some-literal integers e = (int (Rattle.std.proofs.Common.pos 0), has_int _ e)
    some-literal words e = (word 0, has_word _ e)
    some-literal characters e = (char 0, has_char _ e)
    some-literal strings e = (string [], has_string _ e)

    value-based : (b : Base) {S : Shape} {v : W} {n : ℕ} → Is types n (name (overloaded (number_of b))) [] → ValueTyped types S v n → Based b v
    value-based b {S} {v} {n} e h = go (constant-of types table S (some-literal b e).1 h)
      where
        go : {v : W} → Constant types table S n v → Based b v
        go (constant k) = base-of b k e

    -- the number of a type that is one of these
    shape-at : {o : Option Base} {u n : ℕ} {b : Base} {t : Typ} → ParameterIs types u o → rows.Shape o b t → Stands types (λ v. u) n t → Is types n (name (overloaded (number_of b))) []
    shape-at any_type (the_parameter q) stands_var = absurd (cc)
    shape-at {u = u} (a_base c i) (the_parameter {b = b} q) stands_var = let same : c ≡ b = cc in subst (λ z. Is types u (name (overloaded (number_of z))) []) same i
    shape-at p (the_base b) (stands_con i stand_none) = i

    data Literals (bs : List Base) : Option (List Literal) → Type 0 where
      literals_are : {ls : List Literal} → AllBase bs ls → Literals bs (Some ls)

    one-more : {b : Base} {bs : List Base} {v : W} (vs : List W) → Based b v → Literals bs (literals vs) → Literals (b ∷ bs) (literals (v ∷ vs))
    one-more {b} {bs} vs (based {l = l} h) k = go k
      where
        go : {o : Option (List Literal)} → Literals bs o → Literals (b ∷ bs) (option_map (λ ls. l ∷ ls) o)
        go (literals_are hs) = literals_are (all_more h hs)

    literals-of : {o : Option Base} {u : ℕ} {bs : List Base} {ts : List Typ} {ns : List ℕ} {S : Shape} {vs : List W} → ParameterIs types u o → Shapes o bs ts → AllStand types (λ v. u) ns (typs_of ts) → ValuesTyped types S vs ns → Literals bs (literals vs)
    literals-of p shapes_none stand_none no_values_are = literals_are all_none
    literals-of p (shapes_more {b = b} s ss) (stand_more i is) (a_value_is {vs = vs} h hs) = one-more vs (value-based b (shape-at p s i) h) (literals-of p ss is hs)

    -- a truth value
    truth-typed : {S : Shape} (b : Bool) {n : ℕ} → Is types n (name bool_name) [] → ValueTyped types S (con bool_number (truth_number b)) n
    truth-typed {S} b {n} e = subst (ValueTyped types S (con bool_number (truth_number b))) (table.once bool_number n _ table.bool e) (con_is (table.truths b))

    truth-result : {u n : ℕ} → Stands types (λ v. u) n (Rattle.ir_poly.specs.Types.of_name bool_name) → Is types n (name bool_name) []
    truth-result (stands_con i stand_none) = i

    unit-typed : {S : Shape} {u n : ℕ} → Stands types (λ v. u) n Rattle.ir_poly.specs.Types.unit_type → ValueTyped types S (record_of unit_number no_fields) n
    unit-typed {S} {n = n} (stands_con i stand_none) = subst (ValueTyped types S (record_of unit_number no_fields)) (table.once unit_number n _ table.unit i) (record_is table.unit distinct_none no_fields_are)

    given-fine : {S : Shape} {b : Base} {l : Literal} {n : ℕ} (w : World W) → IsBase b l → HasLiteral types l n → WorldTyped types S w → Fine (OfType n) S (giving (by_number types) (made l) w)
    given-fine w (is_int z) h k = here k (literal_is h)
    given-fine w (is_word n) h k = here k (literal_is h)
    given-fine w (is_char n) h k = here k (literal_is h)
    given-fine w (is_string s) h k = here k (literal_is h)

    giving-fine : {S : Shape} {o : Option Base} {u n : ℕ} {kind : Option Base} {t : Typ} {g : Gives} (w : World W) → Begun S → ParameterIs types u o → Result o kind t → Stands types (λ v. u) n t → GivesTyped kind g → WorldTyped types S w → Fine (OfType n) S (giving (by_number types) g w)
    giving-fine w b p (a_constant s) i (made_constant h) k = given-fine w h (has-base h (shape-at p s i)) k
    giving-fine w b p a_truth i (made_truth h) k = here k (truth-typed h (truth-result i))
    giving-fine {S} w b p r i (was_raised e) k = fine_raises (stays S) k (alone_is (b (raised_name e) (raised-there e)))

    row-fine : {S : Shape} {o : Option Base} {u n : ℕ} {kind : Option Base} {t : Typ} {r : Option Gives} (w : World W) → Begun S → ParameterIs types u o → Result o kind t → Stands types (λ v. u) n t → RowGives kind r → WorldTyped types S w → Fine (OfType n) S (or_fail r w (λ g. giving (by_number types) g w))
    row-fine w b p r i (row_gives h) k = giving-fine w b p r i h k

    literals-fine : {S : Shape} {Q : Shape → W → Type 0} {bs : List Base} {o : Option (List Literal)} (w : World W) (go : List Literal → Answer W W) → Literals bs o → ((ls : List Literal) → AllBase bs ls → Fine Q S (go ls)) → Fine Q S (or_fail o w go)
    literals-fine w go (literals_are h) k = k _ h

    -- a primitive with a choice of types has a first argument of the type that it is used at
    begins : {o : Option Base} {u v : ℕ} {bs : List Base} {ts : List Typ} {ls : List Literal} → ParameterIs types u o → Shapes o bs (var v ∷ ts) → AllBase bs ls → begin_at (by_number types) u ls ≡ true
    begins i (shapes_more s ss) (all_more h hs) = literal-there types (has-base h (shape-at i s stands_var))

    begins-at : (p : BasisPrimitive) {o : Option Base} {u : ℕ} {bs : List Base} {ls : List Literal} → is_overloaded p ≡ true → ParameterIs types u o → Shapes o bs (prim_type p).arguments → AllBase bs ls → begin_at (by_number types) u ls ≡ true
    begins-at Add e i s h = begins i s h
    begins-at Subtract e i s h = begins i s h
    begins-at Multiply e i s h = begins i s h
    begins-at Divide e i s h = begins i s h
    begins-at Modulo e i s h = begins i s h
    begins-at Negate e i s h = begins i s h
    begins-at Less e i s h = begins i s h
    begins-at LessEqual e i s h = begins i s h
    begins-at Greater e i s h = begins i s h
    begins-at GreaterEqual e i s h = begins i s h
    begins-at _ e i s h = absurd (cc)

    row-there : (p : BasisPrimitive) {o : Option Base} {u : ℕ} {bs : List Base} {ls : List Literal} {kind : Option Base} → ParameterIs types u o → Shapes o bs (prim_type p).arguments → AllBase bs ls → RowGives kind (row_of p ls) → RowGives kind (row_at (by_number types) u p ls)
    row-there p {u = u} {ls = ls} {kind = kind} i s h r = go (is_overloaded p) refl
      where
        go : (b : Bool) → is_overloaded p ≡ b → RowGives kind (if not b || begin_at (by_number types) u ls then row_of p ls else None)
        go true e = rw (begins-at p e i s h) r
        go false e = r

    computes-fine : (p : BasisPrimitive) {S : Shape} {u n : ℕ} {ns : List ℕ} {vs : List W} (w : World W) → sort_of p ≡ computes → Begun S → PrimAt types p u ns n → ValuesTyped types S vs ns → WorldTyped types S w
        → Fine (OfType n) S (perform_as (by_number types) computes u p vs w)
    computes-fine p w e b a h k =
        let r = performs types p e a.mark in
        literals-fine w _ (literals-of r.is r.has_row.arguments a.arguments h) (λ ls q. row-fine w b r.is r.has_row.result a.result (row-there p r.is r.has_row.arguments q (r.has_row.row q)) k)

    compared-fine : {S : Shape} {o : Option Bool} {n : ℕ} (w : World W) → Answers o → Is types n (name bool_name) [] → WorldTyped types S w → Fine (OfType n) S (or_fail o w (λ b. gives (con bool_number (truth_number b)) w))
    compared-fine w (answers b) e k = here k (truth-typed b e)

    equals-fine : {S : Shape} {u n : ℕ} {ns : List ℕ} {vs : List W} (w : World W) → PrimAt types Equals u ns n → ValuesTyped types S vs ns → WorldTyped types S w → Fine (OfType n) S (perform_as (by_number types) compares u Equals vs w)
    equals-fine {S} {u} {n} w a h k = go a.arguments h
      where
        go : {ns : List ℕ} {vs : List W} → AllStand types (λ v. u) ns (typs_of (prim_type Equals).arguments) → ValuesTyped types S vs ns → Fine (OfType n) S (perform_as (by_number types) compares u Equals vs w)
        go (stand_more stands_var (stand_more stands_var stand_none)) (a_value_is x (a_value_is y no_values_are)) = compared-fine w (same-answers types table S x y (table.comparable u a.mark)) (truth-result a.result) k

    assign-fine : {S : Shape} {u n : ℕ} (i : ℕ) {v : W} (w : World W) → slice_get S.store i ≡ Some u → ValueTyped types S v u → Stands types (λ x. u) n Rattle.ir_poly.specs.Types.unit_type → WorldTyped types S w
        → Fine (OfType n) S (Rattle.ir_poly.specs.of_mlc_runs.Run.assign i (cell u v) w (gives (Rattle.ir_poly.specs.of_ir_values.Values.unit_value (by_number types))))
    assign-fine i w e h r k = if-true (nat_lt i (length w.store)) _ _ (lt-ltb i (length w.store) (in-store i k.store e)) (here (record { store = set-stored i k.store e h; exceptions = k.exceptions }) (unit-typed r))

    assigns-fine : {S : Shape} {u n : ℕ} {ns : List ℕ} {vs : List W} (w : World W) → PrimAt types Assign u ns n → ValuesTyped types S vs ns → WorldTyped types S w → Fine (OfType n) S (perform_as (by_number types) assigns u Assign vs w)
    assigns-fine {S} {u} {n} w a h k = go a.arguments h
      where
        to : {r v : W} → Addressed types table S u r → ValueTyped types S v u → Fine (OfType n) S (perform_as (by_number types) assigns u Assign (r ∷ v ∷ []) w)
        to (addressed {i = i} e) x = assign-fine i w e x a.result k

        go : {ns : List ℕ} {vs : List W} → AllStand types (λ v. u) ns (typs_of (prim_type Assign).arguments) → ValuesTyped types S vs ns → Fine (OfType n) S (perform_as (by_number types) assigns u Assign vs w)
        go (stand_more (stands_con e (stand_more stands_var stand_none)) (stand_more stands_var stand_none)) (a_value_is x (a_value_is y no_values_are)) = to (address-of types table S e x) y

    prints-fine : {S : Shape} {u n : ℕ} {ns : List ℕ} {vs : List W} (w : World W) → PrimAt types Print u ns n → ValuesTyped types S vs ns → WorldTyped types S w → Fine (OfType n) S (perform_as (by_number types) prints u Print vs w)
    prints-fine {S} {u} {n} w a h k = go a.arguments h
      where
        to : {v : W} → Based strings v → Fine (OfType n) S (perform_as (by_number types) prints u Print (v ∷ []) w)
        to (based (is_string s)) = here (record { store = k.store; exceptions = k.exceptions }) (unit-typed a.result)

        go : {ns : List ℕ} {vs : List W} → AllStand types (λ v. u) ns (typs_of (prim_type Print).arguments) → ValuesTyped types S vs ns → Fine (OfType n) S (perform_as (by_number types) prints u Print vs w)
        go (stand_more (stands_con e stand_none) stand_none) (a_value_is x no_values_are) = to (value-based strings e x)

    is-equals : (p : BasisPrimitive) → sort_of p ≡ compares → p ≡ Equals
    is-equals Equals e = refl
    is-equals _ e = absurd (cc)

    is-assign : (p : BasisPrimitive) → sort_of p ≡ assigns → p ≡ Assign
    is-assign Assign e = refl
    is-assign _ e = absurd (cc)

    is-print : (p : BasisPrimitive) → sort_of p ≡ prints → p ≡ Print
    is-print Print e = refl
    is-print _ e = absurd (cc)

    -- a primitive at a type, with arguments of its types
    pub perform-fine : (p : BasisPrimitive) {S : Shape} {u n : ℕ} {ns : List ℕ} {vs : List W} (w : World W) → Begun S → PrimAt types p u ns n → ValuesTyped types S vs ns → WorldTyped types S w → Fine (OfType n) S (perform (by_number types) u p vs w)
    perform-fine p {S} {u} {n} {ns} {vs} w b a h k = go (sort_of p) refl
      where
        go : (o : Sort) → sort_of p ≡ o → Fine (OfType n) S (perform_as (by_number types) o u p vs w)
        go compares e = let same = is-equals p e in subst (λ q. Fine (OfType n) S (perform_as (by_number types) compares u q vs w)) (sym same) (equals-fine w (subst (λ q. PrimAt types q u ns n) same a) h k)
        go assigns e = let same = is-assign p e in subst (λ q. Fine (OfType n) S (perform_as (by_number types) assigns u q vs w)) (sym same) (assigns-fine w (subst (λ q. PrimAt types q u ns n) same a) h k)
        go prints e = let same = is-print p e in subst (λ q. Fine (OfType n) S (perform_as (by_number types) prints u q vs w)) (sym same) (prints-fine w (subst (λ q. PrimAt types q u ns n) same a) h k)
        go computes e = computes-fine p w e b a h k

    -- the arguments that a primitive as a function is given

    data AllFound (S : Shape) (fs : Parts (mono types)) : ℕ → List ℕ → Type 0 where
      found_none : {k : ℕ} → AllFound S fs k []
      found_more : {k n : ℕ} {ns : List ℕ} → FieldFound types S n (field_in (Number k) fs) → AllFound S fs (suc k) ns → AllFound S fs k (n ∷ ns)

    unlike : (i j : ℕ) → j < i → nat_eq i j ≡ false
    unlike i j l = go (nat_eq i j) refl
      where
        go : (b : Bool) → nat_eq i j ≡ b → b ≡ false
        go true e = let same = eqb-true i j e in absurd (omega (arith, same))
        go false e = refl

    behind : {S : Shape} {fs : Parts (mono types)} {k : ℕ} {ns : List ℕ} (j : ℕ) (v : W) → j < k → AllFound S fs k ns → AllFound S (field (Number j) v fs) k ns
    behind j v l found_none = found_none
    behind {S} {fs} j v l (found_more {k = k} {n = n} h hs) = found_more (subst (λ b. FieldFound types S n (if b then Some v else field_in (Number k) fs)) (sym (unlike k j l)) h) (behind j v (omega arith) hs)

    all-found : {S : Shape} (k : ℕ) {ns : List ℕ} {fs : Parts (mono types)} {ls : List Label} → FieldsTyped types S fs ls ns → ls ≡ numbered k ns → AllFound S fs k ns
    all-found k no_fields_are e = found_none
    all-found {S} k (a_field_is {l = l} {v = v} {t = n} {fs = fs} {ls = ls} {ts = ns} h hs) e =
        let first : l ≡ Number k = cc in
        let rest : ls ≡ numbered (suc k) ns = cc in
        subst (λ j. AllFound S (field j v fs) k (n ∷ ns)) (sym first)
        (found_more (subst (λ b. FieldFound types S n (if b then Some v else field_in (Number k) fs)) (sym (eq-eqb k k refl)) (field_found h)) (behind k v (omega arith) (all-found (suc k) hs rest)))

    length-numbered : (k : ℕ) (ns : List ℕ) → length (numbered k ns) ≡ length ns
    length-numbered k [] = refl
    length-numbered k (n ∷ ns) = ap suc (length-numbered (suc k) ns)

    data Parted (S : Shape) (ns : List ℕ) : Option (List W) → Type 0 where
      parted : {vs : List W} → ValuesTyped types S vs ns → Parted S ns (Some vs)

    in-front : {S : Shape} {n : ℕ} {ns : List ℕ} {o : Option W} {q : Option (List W)} → FieldFound types S n o → Parted S ns q → Parted S (n ∷ ns) (option_and_then (λ v. option_map (λ vs. v ∷ vs) q) o)
    in-front (field_found h) (parted hs) = parted (a_value_is h hs)

    parts-typed : {S : Shape} {fs : Parts (mono types)} {k : ℕ} {ns : List ℕ} → AllFound S fs k ns → Parted S ns (parts k (length ns) fs)
    parts-typed found_none = parted no_values_are
    parts-typed (found_more h hs) = in-front h (parts-typed hs)

    tuple-typed : {S : Shape} {n : ℕ} {ns : List ℕ} {v : W} → Recorded types S table n (numbered 1 ns) ns v → ValuesTyped types S (arguments v) ns
    tuple-typed {S} {n} {ns = ns} (recorded {fs = fs} h) = go (subst (λ k. Parted S ns (parts 1 k fs)) (sym (count-typed types S h ∙ length-numbered 1 ns)) (parts-typed (all-found 1 h refl)))
      where
        go : {o : Option (List W)} → Parted S ns o → ValuesTyped types S (elim o [ None ↦ record_of n fs ∷ [] | Some vs ↦ vs ]) ns
        go (parted k) = k

    -- a primitive of one argument takes a constant
    sole-base : (p : BasisPrimitive) {u a r : ℕ} → PrimAt types p u (a ∷ []) r → (b : Base) × Is types a (name (overloaded (number_of b))) []
    sole-base p {u} {a} {r} q = go (sort_of p) refl
      where
        from-row : {o : Option Base} {bs : List Base} {ts : List Typ} → ParameterIs types u o → Shapes o bs ts → AllStand types (λ v. u) (a ∷ []) (typs_of ts) → (b : Base) × Is types a (name (overloaded (number_of b))) []
        from-row i (shapes_more {b = b} s shapes_none) (stand_more h stand_none) = (b, shape-at i s h)
        from-row i shapes_none k = elim k [ ]
        from-row i (shapes_more s (shapes_more z zs)) (stand_more h k) = elim k [ ]

        go : (o : Sort) → sort_of p ≡ o → (b : Base) × Is types a (name (overloaded (number_of b))) []
        go compares e = let k = subst (λ z. AllStand types (λ v. u) (a ∷ []) (typs_of (prim_type z).arguments)) (is-equals p e) q.arguments in elim k [ stand_more h hs ↦ elim hs [ ] ]
        go assigns e = let k = subst (λ z. AllStand types (λ v. u) (a ∷ []) (typs_of (prim_type z).arguments)) (is-assign p e) q.arguments in elim k [ stand_more h hs ↦ elim hs [ ] ]
        go prints e = printed (subst (λ z. AllStand types (λ v. u) (a ∷ []) (typs_of (prim_type z).arguments)) (is-print p e) q.arguments)
          where
            printed : {c : ℕ} → AllStand types (λ v. u) (c ∷ []) (typs_of (prim_type Print).arguments) → (b : Base) × Is types c (name (overloaded (number_of b))) []
            printed (stand_more (stands_con i stand_none) stand_none) = (strings, i)
        go computes e = let r = performs types p e q.mark in from-row r.is r.has_row.arguments q.arguments

    sole-typed : {S : Shape} (b : Base) {a : ℕ} {v : W} → Is types a (name (overloaded (number_of b))) [] → ValueTyped types S v a → ValuesTyped types S (arguments v) (a ∷ [])
    sole-typed {S} b {a} e h = go (value-based b e h) h
      where
        go : {v : W} → Based b v → ValueTyped types S v a → ValuesTyped types S (arguments v) (a ∷ [])
        go (based i) h = a_value_is h no_values_are

    pub arguments-typed : (p : BasisPrimitive) {S : Shape} {u r a : ℕ} {ns : List ℕ} {v : W} → PrimAt types p u ns r → IsTuple types ns a → ValueTyped types S v a → ValuesTyped types S (arguments v) ns
    arguments-typed p q alone h = let b = sole-base p q in sole-typed b.0 b.1 h
    arguments-typed p {S} q (nothing e) h = tuple-typed (record-of types S table e h)
    arguments-typed p {S} q (together e) h = tuple-typed (record-of types S table e h)
