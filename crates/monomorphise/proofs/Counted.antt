-- The count is the program's, or there are more types that equality needs.
use Rattle.std.proofs.Common.{◌≡◌, ℕ, zero, suc, ◌+◌, ◌-◌, ◌≤◌, ◌<◌, ◌⊎◌, inl, inr, Bool, true, false, ◌&&◌, List, [], ◌∷◌, ◌++◌, length, Option, Some, None, option_map, nat_eq, nat_lt, if◌then◌else◌, refl, sym, ap, subst, ◌∙◌, arith}
use Rattle.std.proofs.lemmas.Bool.{and_parts, ltb-true, ltb-false, eqb-true}
use Rattle.mlc_names.specs.declared.label.Label.{Label}
use Rattle.ty_core.specs.Types.{Typ, Typs, var, con, arrow, labels, name, none, more, typs_of}
use Rattle.ty_core.specs.declared.name.TyName.{TyName}
use Rattle.ir_mono.specs.of_ir_plain.Tree.{Exp}
use Rattle.ir_mono.specs.of_ir_plain.Weight.{weight}
use Rattle.ir_mono.specs.of_ir_poly.Types.{Constructor, find, argument_at}
use Rattle.ir_mono.specs.of_ir_poly.TestsChecked.{HasConstructor}
use Rattle.monomorphise.specs.Monomorphise.{Named, same_name, same_type}
use Rattle.monomorphise.specs.Expansion.{compared, IsOneOf, this, further, IsPart, this_part, further_part, IsNeeded, needed_itself, needed_field, needed_argument, AreDifferent, none_differ, one_differs, Expands}
use Rattle.monomorphise.specs.Counting.{list_of, one_if, argument_in, arguments_in, parts_of, is_member, go_on, needed_within, expansion_within, Passes}
use Rattle.monomorphise.proofs.Names.{type-same, type-is, name-is, symbol-same}

-- members

member-is : (t : Typ) (ts : List Typ) → is_member t ts ≡ true → IsOneOf t ts
member-is t [] e = absurd (cc)
member-is t (u ∷ ts) e = go (same_type t u) refl (member-is t ts) e
  where
    go : (b : Bool) → same_type t u ≡ b → (is_member t ts ≡ true → IsOneOf t ts) → (if b then true else is_member t ts) ≡ true → IsOneOf t (u ∷ ts)
    go true d rest h = subst (λ z. IsOneOf t (z ∷ ts)) (type-is t u d) this
    go false d rest h = further (rest h)

no-first : (b r : Bool) → b ≡ true → (if b then true else r) ≡ false → ⊥
no-first true r d e = cc
no-first false r d e = cc

rest-false : (b r : Bool) → (if b then true else r) ≡ false → r ≡ false
rest-false true r e = absurd (cc)
rest-false false r e = e

not-member : {t : Typ} (ts : List Typ) → is_member t ts ≡ false → IsOneOf t ts → ⊥
not-member [] e i = elim i [ ]
not-member (u ∷ ts) e this = no-first (same_type u u) (is_member u ts) (type-same u) e
not-member {t} (u ∷ ts) e (further i) = not-member ts (rest-false (same_type t u) (is_member t ts) e) i

in-front : {t : Typ} (ts us : List Typ) → IsOneOf t ts → IsOneOf t (ts ++ us)
in-front [] us i = elim i [ ]
in-front (u ∷ ts) us this = this
in-front (u ∷ ts) us (further i) = further (in-front ts us i)

behind : {t : Typ} (ts us : List Typ) → IsOneOf t us → IsOneOf t (ts ++ us)
behind [] us i = i
behind (u ∷ ts) us i = further (behind ts us i)

split : {t : Typ} (ts us : List Typ) → IsOneOf t (ts ++ us) → IsOneOf t ts ⊎ IsOneOf t us
split [] us i = inr i
split (u ∷ ts) us this = inl this
split {t} (u ∷ ts) us (further i) = go (split ts us i)
  where
    go : IsOneOf t ts ⊎ IsOneOf t us → IsOneOf t (u ∷ ts) ⊎ IsOneOf t us
    go (inl j) = inl (further j)
    go (inr j) = inr j

part-list : {t : Typ} (ts : Typs) → IsPart t ts → IsOneOf t (list_of ts)
part-list none p = elim p [ ]
part-list (more t ts) this_part = this
part-list (more u ts) (further_part p) = further (part-list ts p)

list-part : {t : Typ} (ts : Typs) → IsOneOf t (list_of ts) → IsPart t ts
list-part none i = elim i [ ]
list-part (more t ts) this = this_part
list-part (more u ts) (further i) = further_part (list-part ts i)

whole-list : (ts : Typs) → ts ≡ typs_of (list_of ts)
whole-list none = refl
whole-list (more t ts) = ap (more t) (whole-list ts)

list-whole : (ts : List Typ) → list_of (typs_of ts) ≡ ts
list-whole [] = refl
list-whole (t ∷ ts) = ap (λ z. t ∷ z) (list-whole ts)

some-is : {A : Type 0} {a b : A} → Some a ≡ Some b → a ≡ b
some-is e = cc

module _ (cs : List Constructor) where
  -- what is listed as a part is one
  argument-sound : (y : TyName) (ts : Typs) (k : Constructor) (u : Typ) (o : Option Constructor) → find cs y k.number ≡ o → IsOneOf u (one_if (argument_in y (list_of ts) o))
      → HasConstructor cs k.number (con (name y) ts) (Some u)
  argument-sound y ts k u None e i = elim i [ ]
  argument-sound y ts k u (Some r) e i = go (same_name r.datatype y) refl i
    where
      one : (o : Option Typ) → IsOneOf u (one_if o) → o ≡ Some u
      one None i = elim i [ ]
      one (Some t) this = refl
      one (Some t) (further i) = elim i [ ]

      go : (b : Bool) → same_name r.datatype y ≡ b → IsOneOf u (one_if (if b then argument_at (list_of ts) r.argument else None)) → HasConstructor cs k.number (con (name y) ts) (Some u)
      go true d i = record { datatype = y; arguments = list_of ts; row = r; found = e; same = name-is r.datatype y d; type = ap (con (name y)) (whole-list ts); argument = one (argument_at (list_of ts) r.argument) i }
      go false d i = elim i [ ]

  arguments-sound : (y : TyName) (ts : Typs) (ks : List Constructor) (u : Typ) → IsOneOf u (arguments_in cs y (list_of ts) ks) → (c : ℕ) × HasConstructor cs c (con (name y) ts) (Some u)
  arguments-sound y ts [] u i = elim i [ ]
  arguments-sound y ts (k ∷ ks) u i = go (arguments-sound y ts ks u) (split (one_if (argument_in y (list_of ts) (find cs y k.number))) (arguments_in cs y (list_of ts) ks) i)
    where
      go : (IsOneOf u (arguments_in cs y (list_of ts) ks) → (c : ℕ) × HasConstructor cs c (con (name y) ts) (Some u))
          → IsOneOf u (one_if (argument_in y (list_of ts) (find cs y k.number))) ⊎ IsOneOf u (arguments_in cs y (list_of ts) ks) → (c : ℕ) × HasConstructor cs c (con (name y) ts) (Some u)
      go rest (inl j) = (k.number, argument-sound y ts k u (find cs y k.number) refl j)
      go rest (inr j) = rest j

  part-sound : {roots : List Typ} (t u : Typ) → IsNeeded cs roots t → IsOneOf u (parts_of cs t) → IsNeeded cs roots u
  part-sound (var v) u n i = elim i [ ]
  part-sound (con arrow ts) u n i = elim i [ ]
  part-sound (con (labels ls) ts) u n i = needed_field n (list-part ts i)
  part-sound (con (name y) ts) u n i = let a = arguments-sound y ts cs u i in needed_argument a.0 n a.1

  -- and all are
  same-itself : (y : TyName) → same_name y y ≡ true
  same-itself y = symbol-same (name y)

  argument-listed : (y : TyName) (ts : List Typ) (r : Constructor) (u : Typ) → r.datatype ≡ y → argument_at ts r.argument ≡ Some u → (o : Option Constructor) → o ≡ Some r → IsOneOf u (one_if (argument_in y ts o))
  argument-listed y ts r u d e None h = absurd (cc)
  argument-listed y ts r u d e (Some j) h = go (same_name j.datatype y) (subst (λ z. same_name z y ≡ true) (sym (ap (λ z. z.datatype) (some-is h) ∙ d)) (same-itself y))
    where
      go : (b : Bool) → b ≡ true → IsOneOf u (one_if (if b then argument_at ts j.argument else None))
      go true q = subst (λ z. IsOneOf u (one_if z)) (sym (ap (λ z. argument_at ts z.argument) (some-is h) ∙ e)) this
      go false q = absurd (cc)

  -- a constructor that is found is among them
  found-among : (y : TyName) (ts : List Typ) (c : ℕ) (r : Constructor) (u : Typ) → find cs y c ≡ Some r → r.datatype ≡ y → argument_at ts r.argument ≡ Some u
      → (ks : List Constructor) → find ks y c ≡ Some r → IsOneOf u (arguments_in cs y ts ks)
  found-among y ts c r u f d e [] h = absurd (cc)
  found-among y ts c r u f d e (k ∷ ks) h = go (nat_eq k.datatype.stamp y.stamp) (nat_eq k.number c) refl (found-among y ts c r u f d e ks) h
    where
      go : (a b : Bool) → nat_eq k.number c ≡ b → (find ks y c ≡ Some r → IsOneOf u (arguments_in cs y ts ks)) → (if a && b then Some k else find ks y c) ≡ Some r
          → IsOneOf u (one_if (argument_in y ts (find cs y k.number)) ++ arguments_in cs y ts ks)
      go true true q rest h = in-front (one_if (argument_in y ts (find cs y k.number))) (arguments_in cs y ts ks) (argument-listed y ts r u d e (find cs y k.number) (ap (find cs y) (eqb-true k.number c q) ∙ f))
      go true false q rest h = behind (one_if (argument_in y ts (find cs y k.number))) (arguments_in cs y ts ks) (rest h)
      go false b q rest h = behind (one_if (argument_in y ts (find cs y k.number))) (arguments_in cs y ts ks) (rest h)

  argument-part : (t u : Typ) (c : ℕ) → HasConstructor cs c t (Some u) → IsOneOf u (parts_of cs t)
  argument-part t u c h = subst (λ z. IsOneOf u (parts_of cs z)) (sym h.type)
      (found-among h.datatype (list_of (typs_of h.arguments)) c h.row u h.found h.same (subst (λ z. argument_at z h.row.argument ≡ Some u) (sym (list-whole h.arguments)) h.argument) cs h.found)

  module _ (roots : List Typ) where
    -- those so far are needed, and their parts are there or pending
    record Along (seen ts : List Typ) : Type 0 where
      apart : AreDifferent seen
      needed : (t : Typ) → IsOneOf t seen → IsNeeded cs roots t
      pending : (t : Typ) → IsOneOf t ts → IsNeeded cs roots t
      roots_are : (t : Typ) → IsOneOf t roots → IsOneOf t seen ⊎ IsOneOf t ts
      parts_are : (t u : Typ) → IsOneOf t seen → IsOneOf u (parts_of cs t) → IsOneOf u seen ⊎ IsOneOf u ts

    data Found (limit : ℕ) : Option (List Typ) → Type 0 where
      all_found : {ts : List Typ} → AreDifferent ts → ((t : Typ) → IsOneOf t ts → IsNeeded cs roots t) → ((t : Typ) → IsOneOf t roots → IsOneOf t ts)
          → ((t u : Typ) → IsOneOf t ts → IsOneOf u (parts_of cs t) → IsOneOf u ts) → length ts ≤ limit → Found limit (Some ts)
      too_many : (ts : List Typ) → AreDifferent ts → ((t : Typ) → IsOneOf t ts → IsNeeded cs roots t) → length ts ≡ suc limit → Found limit None

    none-pending : {t : Typ} {seen : List Typ} → IsOneOf t seen ⊎ IsOneOf t [] → IsOneOf t seen
    none-pending (inl i) = i
    none-pending (inr i) = elim i [ ]

    dropped : (t : Typ) (seen ts : List Typ) → IsOneOf t seen → Along seen (t ∷ ts) → Along seen ts
    dropped t seen ts i a = record { apart = a.apart; needed = a.needed; pending = λ u j. a.pending u (further j); roots_are = λ u j. past u (a.roots_are u j); parts_are = λ u v j k. past v (a.parts_are u v j k) }
      where
        past : (u : Typ) → IsOneOf u seen ⊎ IsOneOf u (t ∷ ts) → IsOneOf u seen ⊎ IsOneOf u ts
        past u (inl j) = inl j
        past u (inr this) = inl i
        past u (inr (further j)) = inr j

    taken : (t : Typ) (seen ts : List Typ) → (IsOneOf t seen → ⊥) → Along seen (t ∷ ts) → Along (t ∷ seen) (parts_of cs t ++ ts)
    taken t seen ts new a = record { apart = one_differs new a.apart; needed = needed-too; pending = λ u j. pending-too u (split (parts_of cs t) ts j); roots_are = λ u j. past u (a.roots_are u j); parts_are = parts-too }
      where
        needed-too : (u : Typ) → IsOneOf u (t ∷ seen) → IsNeeded cs roots u
        needed-too u this = a.pending t this
        needed-too u (further j) = a.needed u j

        pending-too : (u : Typ) → IsOneOf u (parts_of cs t) ⊎ IsOneOf u ts → IsNeeded cs roots u
        pending-too u (inl j) = part-sound t u (a.pending t this) j
        pending-too u (inr j) = a.pending u (further j)

        past : (u : Typ) → IsOneOf u seen ⊎ IsOneOf u (t ∷ ts) → IsOneOf u (t ∷ seen) ⊎ IsOneOf u (parts_of cs t ++ ts)
        past u (inl j) = inl (further j)
        past u (inr this) = inl this
        past u (inr (further j)) = inr (behind (parts_of cs t) ts j)

        parts-too : (u v : Typ) → IsOneOf u (t ∷ seen) → IsOneOf v (parts_of cs u) → IsOneOf v (t ∷ seen) ⊎ IsOneOf v (parts_of cs t ++ ts)
        parts-too u v this k = inr (in-front (parts_of cs t) ts k)
        parts-too u v (further j) k = past v (a.parts_are u v j k)

    on-found : (limit n : ℕ) (next : List Typ → List Typ → Option (List Typ)) → ((seen ts : List Typ) → Along seen ts → length seen ≡ suc n → Found limit (next seen ts)) → n ≤ limit
        → (seen ts : List Typ) → Along seen ts → length seen ≡ n → Found limit (go_on cs next seen ts)
    on-found limit n next f le seen [] a l = all_found a.apart a.needed (λ t i. none-pending (a.roots_are t i)) (λ t u i j. none-pending (a.parts_are t u i j)) (omega (arith, l, le))
    on-found limit n next f le seen (t ∷ ts) a l = go (is_member t seen) refl (λ b. on-found limit n next f le seen ts b l)
      where
        go : (b : Bool) → is_member t seen ≡ b → (Along seen ts → Found limit (go_on cs next seen ts)) → Found limit (if b then go_on cs next seen ts else next (t ∷ seen) (parts_of cs t ++ ts))
        go true e rest = rest (dropped t seen ts (member-is t seen e) a)
        go false e rest = f (t ∷ seen) (parts_of cs t ++ ts) (taken t seen ts (not-member seen e) a) (ap suc l)

    within-found : (b limit n : ℕ) → n + b ≡ limit → (seen ts : List Typ) → Along seen ts → length seen ≡ n → Found limit (needed_within cs b seen ts)
    within-found zero limit n e = on-found limit n (λ seen ts. None) (λ seen ts a l. too_many seen a.apart a.needed (omega (arith, l, e))) (omega (arith, e))
    within-found (suc b) limit n e = on-found limit n (needed_within cs b) (λ seen ts a l. within-found b limit (suc n) (omega (arith, e)) seen ts a l) (omega (arith, e))

    begun : Along [] roots
    begun = record { apart = none_differ; needed = λ t i. elim i [ ]; pending = λ t i. needed_itself i; roots_are = λ t i. inr i; parts_are = λ t u i j. elim i [ ] }

    -- a list with the roots and all parts has all that is needed
    all-needed : (ts : List Typ) → ((t : Typ) → IsOneOf t roots → IsOneOf t ts) → ((t u : Typ) → IsOneOf t ts → IsOneOf u (parts_of cs t) → IsOneOf u ts) → {t : Typ} → IsNeeded cs roots t → IsOneOf t ts
    all-needed ts r p (needed_itself {t = t} i) = r t i
    all-needed ts r p (needed_field {ls = ls} {ts = us} {t = t} h i) = p (con (labels ls) us) t (all-needed ts r p h) (part-list us i)
    all-needed ts r p (needed_argument {t = t} {a = a} c h k) = p t a (all-needed ts r p h) (argument-part t a c k)

  pub data Counted (limit : ℕ) (e : Exp Named) : Option ℕ → Type 0 where
    counts : {n : ℕ} → Expands cs e n → n ≤ limit → Counted limit e (Some n)
    passes : Passes limit cs e → Counted limit e None

  pub counted-right : (limit : ℕ) (e : Exp Named) → Counted limit e (expansion_within limit cs e)
  counted-right limit e = go (nat_lt limit (weight e)) refl
    where
      types : Option (List Typ)
      types = needed_within cs (limit - weight e) [] (compared e)

      from : weight e ≤ limit → {o : Option (List Typ)} → Found (compared e) (limit - weight e) o → Counted limit e (option_map (λ ts. weight e + length ts) o)
      from le (all_found {ts = ts} d n r p l) =
          counts (record { types = ts; each_once = d; all = λ t h. all-needed (compared e) ts r p h; only = n; count = refl }) (omega (arith, l, le))
      from le (too_many ts d n l) = passes (record { types = ts; each_once = d; only = n; past = omega (arith, l, le); soon = inr (omega (arith, l, le)) })

      go : (b : Bool) → nat_lt limit (weight e) ≡ b → Counted limit e (if b then None else option_map (λ ts. weight e + length ts) (needed_within cs (limit - weight e) [] (compared e)))
      go true h = let past = ltb-true limit (weight e) h in passes (record { types = []; each_once = none_differ; only = λ t i. elim i [ ]; past = omega (arith, past); soon = inl refl })
      go false h = from (ltb-false limit (weight e) h) (within-found (compared e) (limit - weight e) (limit - weight e) 0 (omega arith) [] (compared e) (begun (compared e)) refl)
