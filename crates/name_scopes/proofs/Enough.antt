-- Levels as many as a phrase has phrases are enough.
use Rattle.std.proofs.Common.{◌≡◌, ◌≤◌, ◌+◌, ℕ, zero, suc, List, [], ◌∷◌, ◌++◌, map, length, inl, inr, refl, ap, ap₂, subst, ◌∙◌, arith}
use Rattle.std.specs.Prelude.{flat_map}
use Rattle.std.specs.List.{Contains}
use Rattle.std.proofs.lemmas.List.{length-append, map-append}
use Rattle.std.proofs.lemmas.List.Elements.{Contains-append_left, Contains-append_right, Contains-append_cases}
use Rattle.mlc_base.specs.declared.place.Place.{Place}
use Rattle.sml_tree.specs.BareTree as bare
use Rattle.sml_tree.specs.BareTree.{Decs}
use Rattle.sml_tree.specs.Phrases.{Phrase, exp, pat, ty, dec, rule, bind, type_bind, data_bind, con_bind, ex_bind, bind_list, dec_list, parts, phrases, never}
use Rattle.sml_tree.proofs.Walks.{walk_is_by_parts}
use Rattle.core_rules.specs.Unbound.{Unbound, Scoped, all_in, dec_names, decs_in, decs_names, own_unbound, parts_in, rec_names, tycons_names, unbound_in, unbound_to, with_parts}
use Rattle.core_rules.specs.Values.{Env, plus}
use Rattle.name_scopes.specs.Placed.{AnyAt, At, FoundAt, found_to, own_places, place_of, places_of}
use Rattle.name_scopes.specs.Twice.{own_twice, twice_in, twice_to}
use Rattle.name_scopes.specs.declared.sought.Sought.{Sought}
use Rattle.name_scopes.specs.declared.sought.What.TheVariants as whats
use Rattle.name_scopes.proofs.Placing.{first-in, first-or-rest, in-flat, none-in, rest-in}

-- The parts in their scopes are the parts.

all-are : (e : Env) (xs : List Phrase) → map (λ s. s.phrase) (all_in e xs) ≡ xs
all-are e [] = refl
all-are e (x ∷ xs) = ap (λ l. x ∷ l) (all-are e xs)

decs-are : (e : Env) (ds : Decs) → map (λ s. s.phrase) (decs_in e ds) ≡ dec_list ds
decs-are e bare.no_decs = refl
decs-are e (bare.dec d ds) = ap (λ l. dec d ∷ l) (decs-are (plus e (dec_names e d)) ds)

both-are : (ss ts : List Scoped) (xs ys : List Phrase) → map (λ s. s.phrase) ss ≡ xs → map (λ s. s.phrase) ts ≡ ys → map (λ s. s.phrase) (ss ++ ts) ≡ xs ++ ys
both-are ss ts xs ys e f = map-append (λ s. s.phrase) ss ts ∙ ap₂ (λ a b. a ++ b) e f

parts-are : (e : Env) (x : Phrase) → map (λ s. s.phrase) (parts_in e x) ≡ parts x
parts-are e (exp (bare.constant_exp p c)) = refl
parts-are e (exp (bare.vid_exp p x)) = refl
parts-are e (exp (bare.built_exp p b)) = refl
parts-are e (exp (bare.fields_exp p fs)) = all-are e (parts (exp (bare.fields_exp p fs)))
parts-are e (exp (bare.let_in p ds b)) = both-are (decs_in e ds) _ _ _ (decs-are e ds) (all-are (plus e (decs_names e ds)) (exp b ∷ []))
parts-are e (exp (bare.app p f a)) = all-are e (parts (exp (bare.app p f a)))
parts-are e (exp (bare.typed p b t)) = all-are e (parts (exp (bare.typed p b t)))
parts-are e (exp (bare.handle p b rs)) = all-are e (parts (exp (bare.handle p b rs)))
parts-are e (exp (bare.raise p b)) = all-are e (parts (exp (bare.raise p b)))
parts-are e (exp (bare.fn p rs)) = all-are e (parts (exp (bare.fn p rs)))
parts-are e (dec (bare.val_dec p q as_ bs rs)) =
    both-are (all_in e (bind_list bs)) _ _ _ (all-are e (bind_list bs)) (all-are (plus e (rec_names rs)) (bind_list rs))
parts-are e (dec (bare.type_dec p bs)) = all-are e (map type_bind bs)
parts-are e (dec (bare.datatype_dec p bs)) = all-are (plus e (tycons_names bs)) (map data_bind bs)
parts-are e (dec (bare.replicate_dec p x c)) = refl
parts-are e (dec (bare.exception_dec p bs)) = all-are e (map ex_bind bs)
parts-are e (dec (bare.local_dec p ds es)) = both-are (decs_in e ds) _ _ _ (decs-are e ds) (decs-are (plus e (decs_names e ds)) es)
parts-are e (dec (bare.open_dec p xs)) = refl
parts-are e (dec (bare.sequence_dec p ds)) = decs-are e ds
parts-are e (rule p a b) = refl
parts-are e (pat a) = all-are e (parts (pat a))
parts-are e (ty t) = all-are e (parts (ty t))
parts-are e (bind p a b) = refl
parts-are e (type_bind b) = refl
parts-are e (data_bind b) = all-are e (map con_bind b.cons)
parts-are e (con_bind c) = all-are e (parts (con_bind c))
parts-are e (ex_bind b) = all-are e (parts (ex_bind b))

-- A part has fewer phrases.

abbrev number : List Phrase → ℕ
number xs = length (flat_map phrases xs)

numbers : (x : Phrase) → length (phrases x) ≡ suc (number (parts x))
numbers x = ap length (walk_is_by_parts never x)

number-more : (x : Phrase) (xs : List Phrase) → number (x ∷ xs) ≡ length (phrases x) + number xs
number-more x xs = length-append (phrases x) (flat_map phrases xs)

one-of : (ss : List Scoped) (s : Scoped) → Contains ss s → length (phrases s.phrase) ≤ number (map (λ s. s.phrase) ss)
one-of [] s h = absurd (none-in s h)
one-of (t ∷ ts) s h =
    let m = number-more t.phrase (map (λ s. s.phrase) ts) in
    elim (first-or-rest t ts h) [
      | inl e ↦ let l = ap (λ z. length (phrases z.phrase)) e in omega (arith, m, l)
      | inr r ↦ let l = one-of ts s r in omega (arith, m, l)
    ]

part-fewer : (e : Env) (x : Phrase) (s : Scoped) → Contains (parts_in e x) s → suc (length (phrases s.phrase)) ≤ length (phrases x)
part-fewer e x s h =
    let l = one-of (parts_in e x) s h in
    let m = ap number (parts-are e x) in
    let n = numbers x in
    omega (arith, l, m, n)

-- More levels have what fewer have.

flat-more : {A B : Type 0} (f g : A → List B) (xs : List A) {y : B} → ((x : A) → Contains xs x → Contains (f x) y → Contains (g x) y)
    → Contains (flat_map f xs) y → Contains (flat_map g xs) y
flat-more f g [] h k = k
flat-more f g (x ∷ xs) {y} h k = elim (Contains-append_cases (f x) (flat_map f xs) y k) [
  | inl l ↦ Contains-append_left (g x) (flat_map g xs) y (h x (first-in x xs) l)
  | inr r ↦ Contains-append_right (g x) (flat_map g xs) y (flat-more f g xs (λ z. λ c. h z (rest-in x xs c)) r)
]

both-more : {A : Type 0} (as_ bs cs ds : List A) {y : A} → (Contains as_ y → Contains cs y) → (Contains bs y → Contains ds y)
    → Contains (as_ ++ bs) y → Contains (cs ++ ds) y
both-more as_ bs cs ds {y} f g h = elim (Contains-append_cases as_ bs y h) [
  | inl l ↦ Contains-append_left cs ds y (f l)
  | inr r ↦ Contains-append_right cs ds y (g r)
]

module _ (s : Sought) where
  levels-more : (k n : ℕ) (e : Env) (x : Phrase) → length (phrases x) ≤ n → Contains (found_to s k e x) s.place → Contains (found_to s n e x) s.place
  levels-more zero n e x le h = absurd (none-in s.place h)
  levels-more (suc k) zero e x le h = let m = numbers x in absurd (omega (arith, m, le))
  levels-more (suc k) (suc n) e x le h =
      both-more (own_places s e x) _ (own_places s e x) _ (λ c. c)
      (flat-more (λ t. found_to s k t.scope t.phrase) (λ t. found_to s n t.scope t.phrase) (parts_in e x)
      (λ t. λ c. let l = part-fewer e x t c in levels-more k n t.scope t.phrase (omega (arith, l, le)))) h

  ends : (e : Env) (x : Phrase) → FoundAt s e x → Contains (found_to s (length (phrases x)) e x) s.place
  ends e x h = levels-more h.levels (length (phrases x)) e x (omega arith) h.at

  -- Identifiers that are bound twice, as they are defined.

  twice-by : (k : ℕ) (e : Env) (x : Phrase) → s.what ≡ whats.Twice → Contains (found_to s k e x) s.place → Contains (twice_to k e x) s.place
  twice-by zero e x w h = h
  twice-by (suc k) e x w h =
      both-more (own_places s e x) _ (own_twice e x) _ (subst (λ v. Contains (places_of v e x) s.place) w)
      (flat-more (λ t. found_to s k t.scope t.phrase) (λ t. twice_to k t.scope t.phrase) (parts_in e x) (λ t. λ c. twice-by k t.scope t.phrase w)) h

  pub twice-in-run : (e : Env) (ds : Decs) → s.what ≡ whats.Twice → AnyAt s (decs_in e ds) → Contains (twice_in e ds) s.place
  twice-in-run e ds w h =
      in-flat (λ t. twice_to (length (phrases t.phrase)) t.scope t.phrase) (decs_in e ds) h.scoped s.place h.is
      (twice-by (length (phrases h.scoped.phrase)) h.scoped.scope h.scoped.phrase w (ends h.scoped.scope h.scoped.phrase h.at))

  -- Identifiers that aren't bound, as they are defined.

  at-left : (us vs : List Unbound) → At s us → At s (us ++ vs)
  at-left us vs h = record { unbound = h.unbound; is = Contains-append_left us vs h.unbound h.is; place = h.place; what = h.what }

  at-right : (us vs : List Unbound) → At s vs → At s (us ++ vs)
  at-right us vs h = record { unbound = h.unbound; is = Contains-append_right us vs h.unbound h.is; place = h.place; what = h.what }

  with-inner : (e : Env) (x : Phrase) (us : List Unbound) → At s us → At s (with_parts e x us)
  with-inner e (pat a) us h = at-right (own_unbound e (pat a)) us h
  with-inner e (exp b) us h = at-left us (own_unbound e (exp b)) h
  with-inner e (ty t) us h = at-left us (own_unbound e (ty t)) h
  with-inner e (dec d) us h = at-left us (own_unbound e (dec d)) h
  with-inner e (rule q a b) us h = at-left us (own_unbound e (rule q a b)) h
  with-inner e (bind q a b) us h = at-left us (own_unbound e (bind q a b)) h
  with-inner e (type_bind b) us h = at-left us (own_unbound e (type_bind b)) h
  with-inner e (data_bind b) us h = at-left us (own_unbound e (data_bind b)) h
  with-inner e (con_bind b) us h = at-left us (own_unbound e (con_bind b)) h
  with-inner e (ex_bind b) us h = at-left us (own_unbound e (ex_bind b)) h

  with-own : (e : Env) (x : Phrase) (us : List Unbound) → At s (own_unbound e x) → At s (with_parts e x us)
  with-own e (pat a) us h = at-left (own_unbound e (pat a)) us h
  with-own e (exp b) us h = at-right us (own_unbound e (exp b)) h
  with-own e (ty t) us h = at-right us (own_unbound e (ty t)) h
  with-own e (dec d) us h = at-right us (own_unbound e (dec d)) h
  with-own e (rule q a b) us h = at-right us (own_unbound e (rule q a b)) h
  with-own e (bind q a b) us h = at-right us (own_unbound e (bind q a b)) h
  with-own e (type_bind b) us h = at-right us (own_unbound e (type_bind b)) h
  with-own e (data_bind b) us h = at-right us (own_unbound e (data_bind b)) h
  with-own e (con_bind b) us h = at-right us (own_unbound e (con_bind b)) h
  with-own e (ex_bind b) us h = at-right us (own_unbound e (ex_bind b)) h

  placed : (us : List Unbound) → s.what ≡ whats.Unbound → Contains (map place_of us) s.place → At s us
  placed [] w h = absurd (none-in s.place h)
  placed (u ∷ us) w h = elim (first-or-rest (place_of u) (map place_of us) h) [
    | inl e ↦ record { unbound = u; is = first-in u us; place = e; what = w }
    | inr r ↦ at-right (u ∷ []) us (placed us w r)
  ]

  flat-at : {A : Type 0} (f : A → List Place) (g : A → List Unbound) (xs : List A) → ((x : A) → Contains (f x) s.place → At s (g x))
      → Contains (flat_map f xs) s.place → At s (flat_map g xs)
  flat-at f g [] k h = absurd (none-in s.place h)
  flat-at f g (x ∷ xs) k h = elim (Contains-append_cases (f x) (flat_map f xs) s.place h) [
    | inl l ↦ at-left (g x) (flat_map g xs) (k x l)
    | inr r ↦ at-right (g x) (flat_map g xs) (flat-at f g xs k r)
  ]

  unbound-by : (k : ℕ) (e : Env) (x : Phrase) → s.what ≡ whats.Unbound → Contains (found_to s k e x) s.place → At s (unbound_to k e x)
  unbound-by zero e x w h = absurd (none-in s.place h)
  unbound-by (suc k) e x w h = elim (Contains-append_cases (own_places s e x) _ s.place h) [
    | inl l ↦ with-own e x _ (placed (own_unbound e x) w (subst (λ v. Contains (places_of v e x) s.place) w l))
    | inr r ↦
        with-inner e x _
        (flat-at (λ t. found_to s k t.scope t.phrase) (λ t. unbound_to k t.scope t.phrase) (parts_in e x) (λ t. unbound-by k t.scope t.phrase w) r)
  ]

  pub in-run : (e : Env) (ds : Decs) → s.what ≡ whats.Unbound → AnyAt s (decs_in e ds) → At s (unbound_in e ds)
  in-run e ds w h =
      let a = unbound-by (length (phrases h.scoped.phrase)) h.scoped.scope h.scoped.phrase w (ends h.scoped.scope h.scoped.phrase h.at) in
      record {
        unbound = a.unbound;
        is = in-flat (λ t. unbound_to (length (phrases t.phrase)) t.scope t.phrase) (decs_in e ds) h.scoped a.unbound h.is a.is;
        place = a.place;
        what = w;
      }
