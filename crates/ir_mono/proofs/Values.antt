-- What is stored and which exceptions are made only grows; what a typed value is, and what arms find of it.
use Rattle.std.proofs.Common.{◌≡◌, ℕ, suc, List, [], ◌∷◌, length, Bool, true, false, Option, Some, None, slice_get, if◌then◌else◌, nat_eq, nat_lt, subst, sym, refl, ap, ◌∙◌, arith}
use Rattle.std.proofs.lemmas.Bool.{eqb-true, eq-eqb, ltb-true}
use Rattle.ir_poly.specs.of_mlc_runs.Run.{World}
use Rattle.ir_poly.specs.of_mlc_names.declared.label.Label.{Label}
use Rattle.ir_poly.specs.of_mlc_prims.LitOf.{Literal}
use Rattle.ir_poly.specs.of_mlc_prims.Table.{literal_eq}
use Rattle.ir_poly.specs.of_ty_core.Types.{labels, name}
use Rattle.ir_poly.specs.of_ty_core.declared.name.TyName.{TyName}
use Rattle.ir_poly.specs.of_ir_values.Values.{record_of, con, con_of, exn, exn_of, cell, closure, same_label, field_in, count}
use Rattle.ir_poly.specs.of_ir_values.Match.{matches, no_match, mismatch, where_same, against_literal, against_con, under_con, against_exn, under_exn, under_record, match_at, of_size}
use Rattle.ir_poly.specs.of_ir_plain.Tree.{Fun, Funs, Case}
use Rattle.ir_poly.specs.of_ir_plain.Meaning.{V, Scope, Fits, Parts, one_of, look_up, members_from, check}
use Rattle.ir_poly.specs.Types.{int_name, word_name, char_name, string_name, ref_name, exn_name}
use Rattle.ir_poly.specs.TestsChecked.{is_size}
use Rattle.ir_mono.specs.Types.{Row, constructor_at, part, by_number, Is, IsExn, HasLiteral, has_int, has_word, has_char, has_string, IsTable}
use Rattle.ir_mono.specs.Mono.{mono}
use Rattle.ir_mono.specs.Values.{Shape, ValueTyped, literal_is, record_is, con_is, con_function_is, con_of_is, exn_is, exn_function_is, exn_of_is, ref_is, address_is, primitive_is, closure_is, group_is, FieldsTyped, no_fields_are, a_field_is, SortTyped, value_is, name_is, EnvTyped, empty_is, bind_is}
use Rattle.ir_mono.specs.Explicit.{Unless, FunExplicit, FunsExplicit}
use Rattle.ir_mono.specs.Typing.{Sort, exception, Sorts, sort_of, group_sorts, CaseTyped, literal_typed, con_typed, con_of_typed, exn_typed, exn_of_typed, record_typed, FunTyped, FunsTyped, t_last, t_more, t_no_funs, t_fun}

-- what is asked only unless, of a consequence
pub asked-of : {P Q : Type 0} (b : Bool) → (P → Q) → Unless b P → Unless b Q
asked-of true f x = tt
asked-of false f x = f x

-- it isn't so: then nothing is asked
pub bare-holds : {P : Type 0} (b : Bool) → Unless b P → (P → ⊥) → b ≡ true
bare-holds true x f = refl
bare-holds false x f = absurd (f x)

pub record Grows (S S' : Shape) : Type 0 where
  pub store : (i t : ℕ) → slice_get S.store i ≡ Some t → slice_get S'.store i ≡ Some t
  pub exceptions : (i : ℕ) (a : Option ℕ) → slice_get S.exceptions i ≡ Some a → slice_get S'.exceptions i ≡ Some a
  pub bare : S'.bare ≡ S.bare

pub stays : (S : Shape) → Grows S S
stays S = record { store = λ i t h. h; exceptions = λ i a h. h; bare = refl }

pub further : {S S' S'' : Shape} → Grows S S' → Grows S' S'' → Grows S S''
further g h = record { store = λ i t e. h.store i t (g.store i t e); exceptions = λ i a e. h.exceptions i a (g.exceptions i a e); bare = h.bare ∙ g.bare }

-- the identifiers of exceptions, and the types of their arguments
pub data SameLength : List ℕ → List (Option ℕ) → Type 0 where
  no_names : SameLength [] []
  one_more : {i : ℕ} {a : Option ℕ} {is : List ℕ} {as_ : List (Option ℕ)} → SameLength is as_ → SameLength (i ∷ is) (a ∷ as_)

module _ (types : List Row) where
  -- a number is that of one type
  pub other-name : (y z : TyName) (n : ℕ) {ps qs : List ℕ} → nat_eq y.stamp z.stamp ≡ false → Is types n (name y) ps → Is types n (name z) qs → ⊥
  other-name y z n f e k =
      let same : y ≡ z = cc in
      let one : nat_eq y.stamp y.stamp ≡ false = subst (λ x. nat_eq y.stamp x.stamp ≡ false) (sym same) f in
      let two : nat_eq y.stamp y.stamp ≡ true = eq-eqb y.stamp y.stamp refl in
      cc

  -- a constant's type is one of the first four
  pub record Literals (n : ℕ) : Type 0 where
    pub name_of : TyName
    pub few : nat_lt name_of.stamp 4 ≡ true
    pub is : Is types n (name name_of) []

  pub literal-name : {l : Literal} {n : ℕ} → HasLiteral types l n → Literals n
  literal-name (has_int z e) = record { name_of = int_name; few = refl; is = e }
  literal-name (has_word k e) = record { name_of = word_name; few = refl; is = e }
  literal-name (has_char k e) = record { name_of = char_name; few = refl; is = e }
  literal-name (has_string s e) = record { name_of = string_name; few = refl; is = e }

  few-many : (k : ℕ) → nat_lt k 4 ≡ true → nat_lt 5 k ≡ true → ⊥
  few-many k e h = let few = ltb-true k 4 e in let many = ltb-true 5 k h in omega (arith, few, many)

  pub literal-few : (y : TyName) {l : Literal} {n : ℕ} {ps : List ℕ} → HasLiteral types l n → Is types n (name y) ps → nat_lt y.stamp 4 ≡ true
  literal-few y h e = let k = literal-name h in let i = k.is in let same : k.name_of ≡ y = cc in subst (λ z. nat_lt z.stamp 4 ≡ true) same k.few

  -- no datatype's
  pub literal-data : (y : TyName) {l : Literal} {n : ℕ} {ps : List ℕ} → HasLiteral types l n → Is types n (name y) ps → nat_lt 5 y.stamp ≡ true → ⊥
  literal-data y h e m = few-many y.stamp (literal-few y h e) m

  module _ (S : Shape) where
    pub data ValuesTyped : List (V (mono types)) → List ℕ → Type 0 where
      no_values_are : ValuesTyped [] []
      a_value_is : {v : V (mono types)} {t : ℕ} {vs : List (V (mono types))} {ts : List ℕ} → ValueTyped types S v t → ValuesTyped vs ts → ValuesTyped (v ∷ vs) (t ∷ ts)

    -- what is raised
    pub data IsPacket : V (mono types) → Type 0 where
      alone_is : {g i : ℕ} → slice_get S.exceptions i ≡ Some None → IsPacket (exn g i)
      with_argument_is : {i a : ℕ} {v : V (mono types)} → slice_get S.exceptions i ≡ Some (Some a) → ValueTyped types S v a → IsPacket (exn_of a i v)

    pub as-value : {v : V (mono types)} {n : ℕ} → IsPacket v → IsExn types n → ValueTyped types S v n
    as-value (alone_is e) h = exn_is e h
    as-value (with_argument_is e k) h = exn_of_is e k h

  asked-still : (P : Type 0) {S S' : Shape} → Grows S S' → Unless S.bare P → Unless S'.bare P
  asked-still P g x = subst (λ b. Unless b P) (sym g.bare) x

  -- what is typed stays so
  mutual
    pub value-grows : {S S' : Shape} {v : V (mono types)} {t : ℕ} → Grows S S' → ValueTyped types S v t → ValueTyped types S' v t
    value-grows g (literal_is h) = literal_is h
    value-grows g (record_is e d h) = record_is e d (fields-grow g h)
    value-grows g (con_is e) = con_is e
    value-grows g (con_function_is z e h) = con_function_is (g.bare ∙ z) e h
    value-grows g (con_of_is e h) = con_of_is e (value-grows g h)
    value-grows g (exn_is {i = i} e h) = exn_is (g.exceptions i None e) h
    value-grows g (exn_function_is {i = i} {a = a} z e h k) = exn_function_is (g.bare ∙ z) (g.exceptions i (Some a) e) h k
    value-grows g (exn_of_is {i = i} {a = a} e h k) = exn_of_is (g.exceptions i (Some a) e) (value-grows g h) k
    value-grows g (ref_is z e h) = ref_is (g.bare ∙ z) e h
    value-grows g (address_is {i = i} {a = a} e h) = address_is (g.store i a e) h
    value-grows g (primitive_is z p t h) = primitive_is (g.bare ∙ z) p t h
    value-grows g (closure_is h e k x) = closure_is (env-grows g h) e k (asked-still _ g x)
    value-grows g (group_is h fs e k x y) = group_is (env-grows g h) fs e k (asked-still _ g x) (asked-still _ g y)

    pub fields-grow : {S S' : Shape} {fs : Parts (mono types)} {ls : List Label} {ts : List ℕ} → Grows S S' → FieldsTyped types S fs ls ts → FieldsTyped types S' fs ls ts
    fields-grow g no_fields_are = no_fields_are
    fields-grow g (a_field_is h hs) = a_field_is (value-grows g h) (fields-grow g hs)

    pub sort-grows : {S S' : Shape} {v : V (mono types)} {s : Sort} → Grows S S' → SortTyped types S v s → SortTyped types S' v s
    sort-grows g (value_is h) = value_is (value-grows g h)
    sort-grows g (name_is {i = i} {a = a} e) = name_is (g.exceptions i a e)

    pub env-grows : {S S' : Shape} {env : Scope (mono types)} {G : Sorts} → Grows S S' → EnvTyped types S env G → EnvTyped types S' env G
    env-grows g empty_is = empty_is
    env-grows g (bind_is h hs) = bind_is (sort-grows g h) (env-grows g hs)

  module _ (S : Shape) where
    -- a variable's value
    pub data Found (s : Sort) : Option (V (mono types)) → Type 0 where
      found : {v : V (mono types)} → SortTyped types S v s → Found s (Some v)

    pub look_up-typed : {env : Scope (mono types)} {G : Sorts} (x : ℕ) {s : Sort} → EnvTyped types S env G → sort_of G x ≡ Some s → Found s (look_up x env)
    look_up-typed x empty_is e = absurd (cc)
    look_up-typed x {s = s} (bind_is {x = y} {v = v} {s = s'} {env = env} {G = G} h hs) e = go (nat_eq x y) (look_up-typed x hs) e
      where
        go : (b : Bool) → (sort_of G x ≡ Some s → Found s (look_up x env)) → (if b then Some s' else sort_of G x) ≡ Some s → Found s (if b then Some v else look_up x env)
        go true k e = let same : s' ≡ s = cc in found (subst (SortTyped types S v) same h)
        go false k e = k e

    member-typed : {f : Fun (mono types)} {all : Funs (mono types)} {env : Scope (mono types)} {G : Sorts} {t : ℕ} → EnvTyped types S env G → FunsTyped types (group_sorts types all G) all → FunTyped types (group_sorts types all G) f t → Unless S.bare (FunsExplicit types (group_sorts types all G) all) → Unless S.bare (FunExplicit types (group_sorts types all G) f) → ValueTyped types S (closure (one_of f all) env) t
    member-typed h k (t_last e x) y z = group_is h k e (t_last e x) y z
    member-typed h k (t_more e x) y z = group_is h k e (t_more e x) y z

    pub members-typed : {fs all : Funs (mono types)} {env : Scope (mono types)} {G H : Sorts} → EnvTyped types S env G → FunsTyped types (group_sorts types all G) all → FunsTyped types H fs → H ≡ group_sorts types all G → Unless S.bare (FunsExplicit types (group_sorts types all G) all) → Unless S.bare (FunsExplicit types H fs) → EnvTyped types S (members_from fs all env) (group_sorts types fs G)
    members-typed h k t_no_funs e y z = h
    members-typed h k (t_fun {t = t} {f = f} x xs) e y z = bind_is (value_is (member-typed h k (subst (λ H. FunTyped types H f t) e x) y (asked-of S.bare (λ w. subst (λ H. FunExplicit types H f) e w.0) z))) (members-typed h k xs e y (asked-of S.bare (λ w. w.1) z))

    pub data FieldFound (t : ℕ) : Option (V (mono types)) → Type 0 where
      field_found : {v : V (mono types)} → ValueTyped types S v t → FieldFound t (Some v)

    pub field-typed : (l : Label) {t : ℕ} {fs : Parts (mono types)} {ls : List Label} {ts : List ℕ} → FieldsTyped types S fs ls ts → part l ls ts ≡ Some t → FieldFound t (field_in l fs)
    field-typed l no_fields_are e = absurd (cc)
    field-typed l {t} (a_field_is {l = k} {v = v} {t = t'} {fs = fs} {ls = ls} {ts = ts} h hs) e = go (same_label l k) (field-typed l hs) e
      where
        go : (b : Bool) → (part l ls ts ≡ Some t → FieldFound t (field_in l fs)) → (if b then Some t' else part l ls ts) ≡ Some t → FieldFound t (if b then Some v else field_in l fs)
        go true m e = let same : t' ≡ t = cc in field_found (subst (ValueTyped types S v) same h)
        go false m e = m e

    pub count-typed : {fs : Parts (mono types)} {ls : List Label} {ts : List ℕ} → FieldsTyped types S fs ls ts → count fs ≡ length ls
    count-typed no_fields_are = refl
    count-typed (a_field_is h hs) = ap suc (count-typed hs)

    -- a value against an arm: it fits, or it doesn't
    pub data MatchFine (G : Sorts) : Fits (mono types) → Type 0 where
      matches_fine : {env : Scope (mono types)} → EnvTyped types S env G → MatchFine G (matches env)
      no_match_fine : MatchFine G no_match

    if-fine : (b : Bool) {G : Sorts} {r : Fits (mono types)} → (b ≡ true → MatchFine G r) → MatchFine G (if b then r else no_match)
    if-fine true h = h refl
    if-fine false h = no_match_fine

    -- taken apart at its own type
    at-fine : (n : ℕ) {G : Sorts} {r : Fits (mono types)} → MatchFine G r → MatchFine G (match_at (by_number types) n n r)
    at-fine n {G} {r} h = subst (λ b. MatchFine G (if b then r else mismatch)) (sym (eq-eqb n n refl)) h

    same-fine : (b : Bool) {G : Sorts} {r : Fits (mono types)} → MatchFine G r → MatchFine G (where_same (Some b) r)
    same-fine true h = h
    same-fine false h = no_match_fine

    -- two constants of one type
    literals-fine : {l k : Literal} {n : ℕ} {G : Sorts} {r : Fits (mono types)} → HasLiteral types l n → HasLiteral types k n → MatchFine G r → MatchFine G (where_same (literal_eq l k) r)
    literals-fine (has_int z e) (has_int y d) h = same-fine _ h
    literals-fine (has_int z e) (has_word y d) h = absurd (other-name int_name word_name _ refl e d)
    literals-fine (has_int z e) (has_char y d) h = absurd (other-name int_name char_name _ refl e d)
    literals-fine (has_int z e) (has_string y d) h = absurd (other-name int_name string_name _ refl e d)
    literals-fine (has_word z e) (has_int y d) h = absurd (other-name word_name int_name _ refl e d)
    literals-fine (has_word z e) (has_word y d) h = same-fine _ h
    literals-fine (has_word z e) (has_char y d) h = absurd (other-name word_name char_name _ refl e d)
    literals-fine (has_word z e) (has_string y d) h = absurd (other-name word_name string_name _ refl e d)
    literals-fine (has_char z e) (has_int y d) h = absurd (other-name char_name int_name _ refl e d)
    literals-fine (has_char z e) (has_word y d) h = absurd (other-name char_name word_name _ refl e d)
    literals-fine (has_char z e) (has_char y d) h = same-fine _ h
    literals-fine (has_char z e) (has_string y d) h = absurd (other-name char_name string_name _ refl e d)
    literals-fine (has_string z e) (has_int y d) h = absurd (other-name string_name int_name _ refl e d)
    literals-fine (has_string z e) (has_word y d) h = absurd (other-name string_name word_name _ refl e d)
    literals-fine (has_string z e) (has_char y d) h = absurd (other-name string_name char_name _ refl e d)
    literals-fine (has_string z e) (has_string y d) h = same-fine _ h

    module _ (table : IsTable types) where
      -- a datatype's number is not that of other types
      pub data-name : (n c : ℕ) {a : Option ℕ} → constructor_at types n c ≡ Some a → (y : TyName) × (ps : List ℕ) × Is types n (name y) ps × (nat_lt 5 y.stamp ≡ true)
      data-name n c {a} e = table.datatypes n c a e

      pub data-literal : {l : Literal} {n : ℕ} (c : ℕ) {a : Option ℕ} → constructor_at types n c ≡ Some a → HasLiteral types l n → ⊥
      data-literal {n = n} c e h = let d = data-name n c e in literal-data d.0 h d.2 d.3

      literal-fine : {l : Literal} {n : ℕ} {v : V (mono types)} {G : Sorts} {r : Fits (mono types)} → HasLiteral types l n → ValueTyped types S v n → MatchFine G r → MatchFine G (against_literal l v r)
      literal-fine h (literal_is k) r = literals-fine h k r
      literal-fine h (con_is {c = c} e) r = absurd (data-literal c e h)
      literal-fine h (con_of_is {c = c} e k) r = absurd (data-literal c e h)
      literal-fine h (record_is e o k) r = let d = (literal-name h).is in absurd (cc)
      literal-fine h (con_function_is bare_ e k) r = let d = (literal-name h).is in absurd (cc)
      literal-fine h (exn_is e k) r = let few = literal-few exn_name h k in absurd (cc)
      literal-fine h (exn_function_is bare_ e k j) r = let d = (literal-name h).is in absurd (cc)
      literal-fine h (exn_of_is e k j) r = let few = literal-few exn_name h j in absurd (cc)
      literal-fine h (ref_is bare_ k j) r = let d = (literal-name h).is in absurd (cc)
      literal-fine h (address_is e k) r = let few = literal-few ref_name h k in absurd (cc)
      literal-fine h (primitive_is bare_ p t k) r = let d = (literal-name h).is in absurd (cc)
      literal-fine h (closure_is e k j _) r = let d = (literal-name h).is in absurd (cc)
      literal-fine h (group_is e i k j _ _) r = let d = (literal-name h).is in absurd (cc)

      -- what a datatype's values are
      pub data Constructed (n : ℕ) : V (mono types) → Type 0 where
        alone_made : {c : ℕ} → constructor_at types n c ≡ Some None → Constructed n (con n c)
        argument_made : {c a : ℕ} {v : V (mono types)} → constructor_at types n c ≡ Some (Some a) → ValueTyped types S v a → Constructed n (con_of n c v)

      pub few-data : (y z : TyName) (n : ℕ) {ps qs : List ℕ} → nat_lt 5 y.stamp ≡ true → nat_lt 5 z.stamp ≡ false → Is types n (name y) ps → Is types n (name z) qs → ⊥
      few-data y z n h f e k = let same : y ≡ z = cc in let one : nat_lt 5 z.stamp ≡ true = subst (λ x. nat_lt 5 x.stamp ≡ true) same h in cc

      pub constructed : {n : ℕ} (c : ℕ) {a : Option ℕ} {v : V (mono types)} → constructor_at types n c ≡ Some a → ValueTyped types S v n → Constructed n v
      constructed c e (con_is k) = alone_made k
      constructed c e (con_of_is k h) = argument_made k h
      constructed c e (literal_is h) = absurd (data-literal c e h)
      constructed {n} c e (record_is k o h) = let d = data-name n c e in let i = d.2 in absurd (cc)
      constructed {n} c e (con_function_is bare_ h k) = let d = data-name n c e in let i = d.2 in absurd (cc)
      constructed {n} c e (exn_is h k) = let d = data-name n c e in absurd (few-data d.0 exn_name n d.3 refl d.2 k)
      constructed {n} c e (exn_function_is bare_ h k j) = let d = data-name n c e in let i = d.2 in absurd (cc)
      constructed {n} c e (exn_of_is h k j) = let d = data-name n c e in absurd (few-data d.0 exn_name n d.3 refl d.2 j)
      constructed {n} c e (ref_is bare_ k j) = let d = data-name n c e in let i = d.2 in absurd (cc)
      constructed {n} c e (address_is h k) = let d = data-name n c e in absurd (few-data d.0 ref_name n d.3 refl d.2 k)
      constructed {n} c e (primitive_is bare_ p t k) = let d = data-name n c e in let i = d.2 in absurd (cc)
      constructed {n} c e (closure_is h k j _) = let d = data-name n c e in let i = d.2 in absurd (cc)
      constructed {n} c e (group_is h fs k j _ _) = let d = data-name n c e in let i = d.2 in absurd (cc)

      con-fine : (c : ℕ) {n : ℕ} {v : V (mono types)} {G : Sorts} {r : Fits (mono types)} → constructor_at types n c ≡ Some None → Constructed n v → MatchFine G r → MatchFine G (against_con (by_number types) n c v r)
      con-fine c {n} e (alone_made {c = d} k) h = at-fine n (if-fine (nat_eq c d) (λ b. h))
      con-fine c {n} {G = G} e (argument_made {c = d} k u) h =
          at-fine n (go (nat_eq c d) refl)
        where
          go : (b : Bool) → nat_eq c d ≡ b → MatchFine G (if b then mismatch else no_match)
          go true q = let one : c ≡ d = eqb-true c d q in absurd (cc)
          go false q = no_match_fine

      con_of-fine : (c : ℕ) {n a : ℕ} {v : V (mono types)} {G : Sorts} (go : V (mono types) → Fits (mono types)) → constructor_at types n c ≡ Some (Some a) → Constructed n v → ((u : V (mono types)) → ValueTyped types S u a → MatchFine G (go u))
          → MatchFine G (under_con (by_number types) n c v go)
      con_of-fine c {n} {G = G} go e (alone_made {c = d} k) h = at-fine n (choose (nat_eq c d) refl)
        where
          choose : (b : Bool) → nat_eq c d ≡ b → MatchFine G (if b then mismatch else no_match)
          choose true q = let one : c ≡ d = eqb-true c d q in absurd (cc)
          choose false q = no_match_fine
      con_of-fine c {n} {a} go e (argument_made {c = d} {a = b} {v = v} k u) h = at-fine n (if-fine (nat_eq c d) (λ q. let one : c ≡ d = eqb-true c d q in let same : b ≡ a = cc in h v (subst (ValueTyped types S v) same u)))

      -- a packet
      pub packet-of : {n : ℕ} {v : V (mono types)} → IsExn types n → ValueTyped types S v n → IsPacket S v
      packet-of e (exn_is h k) = alone_is h
      packet-of e (exn_of_is h k j) = with_argument_is h k
      packet-of e (literal_is h) = let few = literal-few exn_name h e in absurd (cc)
      packet-of {n} e (con_is {c = c} h) = let d = data-name n c h in absurd (few-data d.0 exn_name n d.3 refl d.2 e)
      packet-of {n} e (con_of_is {c = c} h k) = let d = data-name n c h in absurd (few-data d.0 exn_name n d.3 refl d.2 e)
      packet-of e (record_is h o k) = absurd (cc)
      packet-of e (con_function_is bare_ h k) = absurd (cc)
      packet-of e (exn_function_is bare_ h k j) = absurd (cc)
      packet-of e (ref_is bare_ k j) = absurd (cc)
      packet-of {n} e (address_is h k) = absurd (other-name exn_name ref_name n refl e k)
      packet-of e (primitive_is bare_ p t k) = absurd (cc)
      packet-of e (closure_is h k j _) = absurd (cc)
      packet-of e (group_is h fs k j _ _) = absurd (cc)

      exn-fine : {o : Option (V (mono types))} {v : V (mono types)} {G : Sorts} {r : Fits (mono types)} → Found (exception None) o → IsPacket S v → MatchFine G r → MatchFine G (against_exn o v r)
      exn-fine (found (name_is {i = i} e)) (alone_is {i = j} k) h = if-fine (nat_eq i j) (λ b. h)
      exn-fine {G = G} (found (name_is {i = i} e)) (with_argument_is {i = j} k u) h = go (nat_eq i j) refl
        where
          go : (b : Bool) → nat_eq i j ≡ b → MatchFine G (if b then mismatch else no_match)
          go true q = let one : i ≡ j = eqb-true i j q in absurd (cc)
          go false q = no_match_fine

      exn_of-fine : {a : ℕ} {o : Option (V (mono types))} {v : V (mono types)} {G : Sorts} (go : V (mono types) → Fits (mono types)) → Found (exception (Some a)) o → IsPacket S v → ((u : V (mono types)) → ValueTyped types S u a → MatchFine G (go u))
          → MatchFine G (under_exn (by_number types) a o v go)
      exn_of-fine {G = G} go (found (name_is {i = i} e)) (alone_is {i = j} k) h = choose (nat_eq i j) refl
        where
          choose : (b : Bool) → nat_eq i j ≡ b → MatchFine G (if b then mismatch else no_match)
          choose true q = let one : i ≡ j = eqb-true i j q in absurd (cc)
          choose false q = no_match_fine
      exn_of-fine {a} {G = G} go (found (name_is {i = i} e)) (with_argument_is {i = j} {a = b} {v = v} k u) h =
          if-fine (nat_eq i j) (λ q. let one : i ≡ j = eqb-true i j q in let same : b ≡ a = cc in subst (λ z. MatchFine G (match_at (by_number types) a z (go v))) (sym same) (at-fine a (h v (subst (ValueTyped types S v) same u))))

      -- a record
      pub data Recorded (n : ℕ) (ls : List Label) (ts : List ℕ) : V (mono types) → Type 0 where
        recorded : {fs : Parts (mono types)} → FieldsTyped types S fs ls ts → Recorded n ls ts (record_of n fs)

      pub record-of : {n : ℕ} {ls : List Label} {ts : List ℕ} {v : V (mono types)} → Is types n (labels ls) ts → ValueTyped types S v n → Recorded n ls ts v
      record-of {n} {ls} {ts} e (record_is {fs = fs} {ls = ks} {ps = ps} k o h) =
          let names : ks ≡ ls = cc in let parts : ps ≡ ts = cc in recorded (subst (λ z. FieldsTyped types S fs z ts) names (subst (FieldsTyped types S fs ks) parts h))
      record-of e (literal_is h) = let d = (literal-name h).is in absurd (cc)
      record-of {n} e (con_is {c = c} h) = let d = data-name n c h in let i = d.2 in absurd (cc)
      record-of {n} e (con_of_is {c = c} h k) = let d = data-name n c h in let i = d.2 in absurd (cc)
      record-of e (con_function_is bare_ h k) = absurd (cc)
      record-of e (exn_is h k) = absurd (cc)
      record-of e (exn_function_is bare_ h k j) = absurd (cc)
      record-of e (exn_of_is h k j) = absurd (cc)
      record-of e (ref_is bare_ k j) = absurd (cc)
      record-of e (address_is h k) = absurd (cc)
      record-of e (primitive_is bare_ p t k) = absurd (cc)
      record-of e (closure_is h k j _) = absurd (cc)
      record-of e (group_is h fs k j _ _) = absurd (cc)

      size-fine : (size : Option ℕ) (n : ℕ) {G : Sorts} {r : Fits (mono types)} → is_size size n ≡ true → MatchFine G r → MatchFine G (of_size (by_number types) size n r)
      size-fine None n e h = h
      size-fine (Some k) n {G} {r} e h = subst (λ b. MatchFine G (if b then r else mismatch)) (sym e) h

      of-record-fine : (size : Option ℕ) {n : ℕ} {ls : List Label} {ts : List ℕ} {v : V (mono types)} {G : Sorts} {r : Fits (mono types)} → Recorded n ls ts v → is_size size (length ls) ≡ true → MatchFine G r
          → MatchFine G (under_record (by_number types) n size v (λ fs. r))
      of-record-fine size {n} (recorded {fs = fs} k) e h = at-fine n (size-fine size (count fs) (subst (λ z. is_size size z ≡ true) (sym (count-typed k)) e) h)

      pub case-fine : {c : Case (mono types)} {u : ℕ} {G G' : Sorts} {v : V (mono types)} {env : Scope (mono types)} → CaseTyped types G c u G' → ValueTyped types S v u → EnvTyped types S env G → MatchFine G' (check u c v env)
      case-fine (literal_typed h) k g = literal-fine h k (matches_fine g)
      case-fine (con_typed {c = c} e) k g = con-fine c e (constructed c e k) (matches_fine g)
      case-fine (con_of_typed {c = c} e) k g = con_of-fine c _ e (constructed c e k) (λ u q. matches_fine (bind_is (value_is q) g))
      case-fine (exn_typed {x = x} e h) k g = exn-fine (look_up-typed x g e) (packet-of h k) (matches_fine g)
      case-fine (exn_of_typed {y = y} e h) k g = exn_of-fine _ (look_up-typed y g e) (packet-of h k) (λ u q. matches_fine (bind_is (value_is q) g))
      case-fine (record_typed {size = size} e n) k g = of-record-fine size (record-of e k) n (matches_fine g)

  -- what is stored
  pub data StoreTyped (S : Shape) : List (V (mono types)) → List ℕ → Type 0 where
    no_store : StoreTyped S [] []
    stored : {v : V (mono types)} {t : ℕ} {vs : List (V (mono types))} {ts : List ℕ} → ValueTyped types S v t → StoreTyped S vs ts → StoreTyped S (cell t v ∷ vs) (t ∷ ts)

  pub record WorldTyped (S : Shape) (w : World (V (mono types))) : Type 0 where
    pub store : StoreTyped S w.store S.store
    pub exceptions : SameLength w.exceptions S.exceptions
