-- Primitives, references and calls agree on related values.
use Rattle.std.specs.Prelude.{not, ◌||◌}
use Rattle.std.proofs.Common.{◌≡◌, ℕ, zero, suc, Bool, true, false, List, [], ◌∷◌, Option, Some, None, if◌then◌else◌, option_map, option_and_then, refl, sym, subst}
use Rattle.mlc_runs.specs.Agreement.{AllRelated, none, more, BothOrNeither, neither, both, SameWorlds, Agree, both_give, both_raise, both_stop}
use Rattle.mlc_runs.specs.Run.{World, Answer, gives, or_fail, fail}
use Rattle.mlc_runs.specs.of_mlc_names.declared.label.Label.TheVariants.{Number}
use Rattle.mlc_base.specs.declared.place.Place.{Place}
use Rattle.mlc_runs.proofs.RunLaws.{take_turn-agree, new_reference-agree, assign-agree, writes-same}
use Rattle.mlc_prims.specs.LitOf.{Literal, int, word, char, string, truth}
use Rattle.mlc_prims.specs.PrimOf.{Gives, made, raised}
use Rattle.mlc_prims.specs.Table.{row_of}
use Rattle.mlc_prims.specs.declared.basis.BasisPrimitive.{BasisPrimitive}
use Rattle.ir_values.specs.Tags.{Tagging, untagged}
use Rattle.ir_values.specs.Values.{Value, literal, record_of, con, con_of, exn, exn_of, ref, address, cell, primitive, closure, Fields, no_fields, field, Env, field_in, count, literal_in, address_in, packet_name}
use Rattle.ir_values.specs.Primitives.{is_overloaded, Sort, compares, assigns, prints, computes, sort_of, begin_at, row_at, literals, parts, tuple, arguments, marked, raise_value, giving, compare_values, assign_value, print_literals, perform_as, perform, make_reference, content_of, enter}
use Rattle.ir_values.specs.Related.{SameFields, same_none, literals_alike, records_alike, con_alike, con_of_alike, exn_alike, exn_of_alike, ref_alike, address_alike, cell_alike, primitive_alike, AreOfOneKind, alike, functions, IsByKind}
use Rattle.ir_values.proofs.EqualityLemmas.{field-same, count-same, literal-alike, address-alike', packet-alike, same-same}

-- where there are no tags, the type is of no account
begin-untagged : (ls : List Literal) → begin_at untagged tt ls ≡ true
begin-untagged [] = refl
begin-untagged (l ∷ ls) = refl

or-true : (b : Bool) → (b || true) ≡ true
or-true true = refl
or-true false = refl

pub untagged-row : (p : BasisPrimitive) (ls : List Literal) → row_at untagged tt p ls ≡ row_of p ls
untagged-row p ls = rw (begin-untagged ls, or-true (not (is_overloaded p))) refl

module _ (K : Tagging) {B C D E : Type 0} (R : Value B C K.Tag → Value D E K.Tag → Type 0) (by : IsByKind R) where
  abbrev V : Type 0
  V = Value B C K.Tag

  abbrev W : Type 0
  W = Value D E K.Tag

  abbrev Ends : Answer V V → Answer W W → Type 0
  Ends = Agree R R

  pub found-same : {o : Option V} {q : Option W} (w : World V) (u : World W) {go : V → Answer V V} {go' : W → Answer W W} → BothOrNeither R o q → SameWorlds R w u → ((v : V) (v' : W) → R v v' → Ends (go v) (go' v')) → Ends (or_fail o w go) (or_fail q u go')
  found-same w u neither s h = both_stop _ s
  found-same w u (both r) s h = h _ _ r

  -- the same of what is equal in both
  pub equal-same : {A : Type 0} {o q : Option A} (w : World V) (u : World W) {go : A → Answer V V} {go' : A → Answer W W} → q ≡ o → SameWorlds R w u → ((a : A) → Ends (go a) (go' a)) → Ends (or_fail o w go) (or_fail q u go')
  equal-same {A} {o} w u {go} {go'} e s h = subst (λ x. Ends (or_fail o w go) (or_fail x u go')) (sym e) (go-on o)
    where
      go-on : (o : Option A) → Ends (or_fail o w go) (or_fail o u go')
      go-on None = both_stop _ s
      go-on (Some a) = h a

  literals-same : {vs : List V} {ws : List W} → AllRelated R vs ws → literals ws ≡ literals vs
  literals-same none = refl
  literals-same (more r rs) = rw (literal-alike R (by.kind _ _ r), literals-same rs) refl

  unit-same : R (Rattle.ir_values.specs.Values.unit_value K) (Rattle.ir_values.specs.Values.unit_value K)
  unit-same = by.related _ _ (records_alike K.of_unit same_none)

  giving-same : (r : Gives) (w : World V) (u : World W) → SameWorlds R w u → Ends (giving K r w) (giving K r u)
  giving-same (made (int z)) w u s = both_give (by.related _ _ (literals_alike (int z))) s
  giving-same (made (word z)) w u s = both_give (by.related _ _ (literals_alike (word z))) s
  giving-same (made (char z)) w u s = both_give (by.related _ _ (literals_alike (char z))) s
  giving-same (made (string z)) w u s = both_give (by.related _ _ (literals_alike (string z))) s
  giving-same (made (truth b)) w u s = both_give (by.related _ _ (con_alike K.of_bool _)) s
  giving-same (raised e) w u s = both_raise (by.related _ _ (exn_alike K.of_unit _)) s

  compare-same : (g : K.Tag) {vs : List V} {ws : List W} (w : World V) (u : World W) → AllRelated R vs ws → SameWorlds R w u → Ends (compare_values K g vs w) (compare_values K g ws u)
  compare-same g w u (more r (more q none)) s = equal-same w u (same-same K R by g r q) s (λ b. both_give (by.related _ _ (con_alike K.of_bool _)) s)
  compare-same g w u none s = both_stop _ s
  compare-same g w u (more r none) s = both_stop _ s
  compare-same g w u (more r (more q (more p ps))) s = both_stop _ s

  assign-same : (g : K.Tag) {vs : List V} {ws : List W} (w : World V) (u : World W) → AllRelated R vs ws → SameWorlds R w u → Ends (assign_value K g vs w) (assign_value K g ws u)
  assign-same g w u (more r (more q none)) s = equal-same w u (address-alike' R (by.kind _ _ r)) s (λ a. assign-agree R R a _ _ w u _ _ (by.related _ _ (cell_alike g q)) s (λ w' u' t. both_give unit-same t))
  assign-same g w u none s = both_stop _ s
  assign-same g w u (more r none) s = both_stop _ s
  assign-same g w u (more r (more q (more p ps))) s = both_stop _ s

  print-same : (ls : List Literal) (w : World V) (u : World W) → SameWorlds R w u → Ends (print_literals K ls w) (print_literals K ls u)
  print-same (string t ∷ []) w u s = both_give unit-same (writes-same R t w u s)
  print-same _ w u s = both_stop _ s

  perform-as-same : (o : Sort) (g : K.Tag) (p : BasisPrimitive) {vs : List V} {ws : List W} (w : World V) (u : World W) → AllRelated R vs ws → SameWorlds R w u → Ends (perform_as K o g p vs w) (perform_as K o g p ws u)
  perform-as-same compares g p w u rs s = compare-same g w u rs s
  perform-as-same assigns g p w u rs s = assign-same g w u rs s
  perform-as-same prints g p w u rs s = equal-same w u (literals-same rs) s (λ ls. print-same ls w u s)
  perform-as-same computes g p w u rs s = equal-same w u (literals-same rs) s (λ ls. equal-same w u refl s (λ r. giving-same r w u s))

  pub perform-same : (g : K.Tag) (p : BasisPrimitive) {vs : List V} {ws : List W} (w : World V) (u : World W) → AllRelated R vs ws → SameWorlds R w u → Ends (perform K g p vs w) (perform K g p ws u)
  perform-same g p w u rs s = perform-as-same (sort_of p) g p w u rs s

  pub reference-same : (g : K.Tag) {v : V} {z : W} (w : World V) (u : World W) → R v z → SameWorlds R w u → Ends (make_reference K g v w) (make_reference K g z u)
  reference-same g w u r s = new_reference-agree R R _ _ w u _ _ (by.related _ _ (cell_alike g r)) s (λ a w' u' t. both_give (by.related _ _ (address_alike a)) t)

  if-same : {v : V} {z : W} (b : Bool) (w : World V) (u : World W) → R v z → SameWorlds R w u → Ends (if b then gives v w else fail w) (if b then gives z u else fail u)
  if-same true w u r s = both_give r s
  if-same false w u r s = both_stop _ s

  pub content-same : (g : K.Tag) {v : V} {z : W} (w : World V) (u : World W) → AreOfOneKind R v z → SameWorlds R w u → Ends (content_of K g w v) (content_of K g u z)
  content-same g w u (alike (cell_alike h r)) s = if-same (K.same g h) w u r s
  content-same g w u (alike k) s = both_stop _ s
  content-same g w u (functions c d e e') s = both_stop _ s

  -- the arguments of a primitive
  in-front : {o : Option V} {q : Option W} {os : Option (List V)} {qs : Option (List W)} → BothOrNeither R o q → BothOrNeither (AllRelated R) os qs
      → BothOrNeither (AllRelated R) (option_and_then (λ v. option_map (λ vs. v ∷ vs) os) o) (option_and_then (λ v. option_map (λ vs. v ∷ vs) qs) q)
  in-front neither h = neither
  in-front (both r) neither = neither
  in-front (both r) (both rs) = both (more r rs)

  parts-same : (k n : ℕ) {fs : Fields B C K.Tag} {gs : Fields D E K.Tag} → SameFields R fs gs → BothOrNeither (AllRelated R) (parts k n fs) (parts k n gs)
  parts-same k zero rs = both none
  parts-same k (suc n) rs = in-front (field-same R (Number k) rs) (parts-same (suc k) n rs)

  tuple-same : {v : V} {z : W} → AreOfOneKind R v z → BothOrNeither (AllRelated R) (tuple v) (tuple z)
  tuple-same (alike (records_alike g rs)) = rw (count-same R rs) (parts-same 1 _ rs)
  tuple-same (alike k) = neither
  tuple-same (functions c d e e') = neither

  arguments-in : {o : Option (List V)} {q : Option (List W)} {v : V} {z : W} → BothOrNeither (AllRelated R) o q → R v z → AllRelated R (elim o [ None ↦ v ∷ [] | Some vs ↦ vs ]) (elim q [ None ↦ z ∷ [] | Some vs ↦ vs ])
  arguments-in neither r = more r none
  arguments-in (both rs) r = rs

  pub arguments-same : {v : V} {z : W} → R v z → AllRelated R (arguments v) (arguments z)
  arguments-same r = arguments-in (tuple-same (by.kind _ _ r)) r

  pub raise-same : {v : V} {z : W} (w : World V) (u : World W) → R v z → SameWorlds R w u → Ends (raise_value v w) (raise_value z u)
  raise-same w u r s = equal-same w u (packet-alike R (by.kind _ _ r)) s (λ n. both_raise r s)

  abbrev Go : Type 0
  Go = C → Env B C K.Tag → V → World V → Answer V V

  abbrev Go' : Type 0
  Go' = E → Env D E K.Tag → W → World W → Answer W W

  -- calls agree, where those of related closures do
  enter-kind : (go : Go) (go' : Go') (place : Place) {f : V} {f' : W} {v : V} {z : W} (w : World V) (u : World W) → AreOfOneKind R f f' → R f f' → R v z → SameWorlds R w u
      → ((c : C) (c' : E) (e : Env B C K.Tag) (e' : Env D E K.Tag) → R (closure c e) (closure c' e') → (w' : World V) (u' : World W) → SameWorlds R w' u' → Ends (go c e v w') (go' c' e' z u'))
      → Ends (enter K go place f v w) (enter K go' place f' z u)
  enter-kind go go' place w u (alike (con_alike g c)) r q s h = take_turn-agree R R place w u _ _ s (λ w' u' t. both_give (by.related _ _ (con_of_alike g c q)) t)
  enter-kind go go' place w u (alike (exn_alike g c)) r q s h = take_turn-agree R R place w u _ _ s (λ w' u' t. both_give (by.related _ _ (exn_of_alike g c q)) t)
  enter-kind go go' place w u (alike (ref_alike g)) r q s h = take_turn-agree R R place w u _ _ s (λ w' u' t. reference-same g w' u' q t)
  enter-kind go go' place w u (alike (primitive_alike g p)) r q s h = take_turn-agree R R place w u _ _ s (λ w' u' t. perform-same g p w' u' (arguments-same q) t)
  enter-kind go go' place w u (alike k) r q s h = both_stop _ s
  enter-kind go go' place w u (functions c c' e e') r q s h = take_turn-agree R R place w u _ _ s (λ w' u' t. h c c' e e' r w' u' t)

  pub enter-same : (go : Go) (go' : Go') (place : Place) {f : V} {f' : W} {v : V} {z : W} (w : World V) (u : World W) → R f f' → R v z → SameWorlds R w u
      → ((c : C) (c' : E) (e : Env B C K.Tag) (e' : Env D E K.Tag) → R (closure c e) (closure c' e') → (w' : World V) (u' : World W) → SameWorlds R w' u' → Ends (go c e v w') (go' c' e' z u'))
      → Ends (enter K go place f v w) (enter K go' place f' z u)
  enter-same go go' place w u r q s h = enter-kind go go' place w u (by.kind _ _ r) r q s h
