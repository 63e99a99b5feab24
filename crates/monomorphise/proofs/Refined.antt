-- What is done with values of the copies is done with those of the program, unless it goes wrong with the copies.
use Rattle.std.proofs.Common.{◌≡◌, ℕ, List, [], ◌∷◌, Bool, true, false, Option, Some, None, option_map, option_and_then, nat_eq, subst, refl, sym}
use Rattle.std.specs.Prelude.{zero, suc, not, ◌||◌, if◌then◌else◌}
use Rattle.mlc_names.specs.declared.label.Label.TheVariants.{Number}
use Rattle.mlc_runs.specs.Agreement.{AllRelated, none, more, BothOrNeither, neither, both, SameWorlds}
use Rattle.mlc_runs.specs.Refinement.{Refines, both_give, both_raise, both_stop, first_wrong}
use Rattle.mlc_runs.specs.Run.{World, Answer, gives, or_fail}
use Rattle.mlc_runs.proofs.RunLaws.{writes-same}
use Rattle.mlc_runs.proofs.RefineLaws.{new_reference-refines, assign-refines}
use Rattle.mlc_prims.specs.LitOf.{Literal, int, word, char, string, truth}
use Rattle.mlc_prims.specs.PrimOf.{Gives, made, raised}
use Rattle.mlc_prims.specs.Table.{literal_eq, row_of}
use Rattle.mlc_prims.specs.declared.basis.BasisPrimitive.{BasisPrimitive}
use Rattle.ir_mono.specs.of_ir_values.Tags.{untagged}
use Rattle.ir_mono.specs.of_ir_values.Values.{count, address_in, unit_value, truth_value}
use Rattle.ir_mono.specs.of_ir_values.Equality.{both_equal, where_holds, if_equal, Constructed, fields_at, con_at, same_part, same_at, same_fields}
use Rattle.ir_mono.specs.of_ir_values.Primitives.{is_overloaded, Sort, compares, assigns, prints, computes, sort_of, begin_at, row_at, literals, parts, tuple, arguments, giving, compare_values, assign_value, print_literals, perform_as, perform, make_reference}
use Rattle.ir_mono.proofs.of_ir_values.PrimitiveLemmas.{untagged-row}
use Rattle.ir_mono.specs.of_ir_plain.Meaning.{V, Parts}
use Rattle.ir_mono.specs.of_ir_poly.Tests.{poly}
use Rattle.monomorphise.specs.Copies.{Target}
use Rattle.monomorphise.proofs.Related.{K, G, Rel, rel_literal, rel_record, rel_con, rel_con_of, rel_exn, rel_exn_of, rel_ref, rel_address, rel_cell, rel_primitive, rel_closure, rel_group, RelFields, rel_no_fields, rel_a_field, literal-same, address-same, field-same, count-same}

-- where the first has an answer, the second has it
pub data Answered : Option Bool → Option Bool → Type 0 where
  no_answer : {o : Option Bool} → Answered None o
  answered : (b : Bool) → Answered (Some b) (Some b)

equal-answered : (o : Option Bool) → Answered o o
equal-answered None = no_answer
equal-answered (Some b) = answered b

both-answered : {a b c d : Option Bool} → Answered a c → Answered b d → Answered (both_equal a b) (both_equal c d)
both-answered no_answer k = no_answer
both-answered (answered b) no_answer = no_answer
both-answered (answered b) (answered c) = answered _

where-answered : (b : Bool) {o q : Option Bool} → Answered o q → Answered (where_holds b o) q
where-answered true h = h
where-answered false h = no_answer

if-answered : (b : Bool) {o q : Option Bool} → Answered o q → Answered (if_equal b o) (if_equal b q)
if-answered true h = h
if-answered false h = answered false

module _ (T : Target) where
  abbrev R : V (K T) → V poly → Type 0
  R = Rel T

  abbrev Ends : Answer (V (K T)) (V (K T)) → Answer (V poly) (V poly) → Type 0
  Ends = Refines R R

  abbrev Worlds : World (V (K T)) → World (V poly) → Type 0
  Worlds = SameWorlds R

  -- a part
  part-answered : (v' : V (K T)) (v : V poly) {o' : Option (V (K T))} {o : Option (V poly)} (g : Option (G T)) → ((a : G T) (u' : V (K T)) (u : V poly) → R u' u → Answered (same_at T.tags a v' u') (same_at untagged tt v u)) → BothOrNeither R o' o
      → Answered (same_part T.tags (λ a. same_at T.tags a v') g o') (same_part untagged (λ a. same_at untagged a v) (Some tt) o)
  part-answered v' v None h k = no_answer
  part-answered v' v (Some a) h neither = no_answer
  part-answered v' v (Some a) h (both k) = h a _ _ k

  where-fields : (b : Bool) {fs' : Parts (K T)} {fs : Parts poly} (test' : Parts (K T) → Option Bool) (test : Parts poly → Option Bool) → Answered (test' fs') (test fs) → Answered (option_and_then test' (where_holds b (Some fs'))) (test fs)
  where-fields true test' test h = h
  where-fields false test' test h = no_answer

  where-made : (b : Bool) (c' : Constructed (V (K T))) (c : Constructed (V poly)) (test' : Constructed (V (K T)) → Option Bool) (test : Constructed (V poly) → Option Bool) → Answered (test' c') (test c) → Answered (option_and_then test' (where_holds b (Some c'))) (test c)
  where-made true c' c test' test h = h
  where-made false c' c test' test h = no_answer

  where-number : (b : Bool) (c d : ℕ) (o : Option (V (K T))) → Answered (option_map (λ (k : Constructed (V (K T))). nat_eq c k.number) (where_holds b (Some (record { number = d; argument = o })))) (Some (nat_eq c d))
  where-number true c d o = answered _
  where-number false c d o = no_answer

  literals-answered : (l : Literal) {o' o : Option Literal} → o' ≡ o → Answered (option_and_then (literal_eq l) o') (option_and_then (literal_eq l) o)
  literals-answered l {o'} e = subst (λ q. Answered (option_and_then (literal_eq l) o') (option_and_then (literal_eq l) q)) e (equal-answered _)

  addresses-answered : (i : ℕ) {o' o : Option ℕ} → o' ≡ o → Answered (option_map (nat_eq i) o') (option_map (nat_eq i) o)
  addresses-answered i {o'} e = subst (λ q. Answered (option_map (nat_eq i) o') (option_map (nat_eq i) q)) e (equal-answered _)

  records-answered : (g : G T) (fs' : Parts (K T)) (fs : Parts poly) {u' : V (K T)} {u : V poly} → R u' u → ((gs' : Parts (K T)) (gs : Parts poly) → RelFields T gs' gs → Answered (same_fields T.tags g fs' gs') (same_fields untagged tt fs gs))
      → Answered (option_and_then (same_fields T.tags g fs') (fields_at T.tags g u')) (option_and_then (same_fields untagged tt fs) (fields_at untagged tt u))
  records-answered g fs' fs (rel_record h q) k = where-fields (T.tags.same g h) (same_fields T.tags g fs') (same_fields untagged tt fs) (k _ _ q)
  records-answered g fs' fs _ k = no_answer

  constructors-answered : (g : G T) (c : ℕ) {u' : V (K T)} {u : V poly} → R u' u → Answered (option_map (λ (d : Constructed (V (K T))). nat_eq c d.number) (con_at T.tags g u')) (option_map (λ (d : Constructed (V poly)). nat_eq c d.number) (con_at untagged tt u))
  constructors-answered g c (rel_con h d) = where-number (T.tags.same g h) c d None
  constructors-answered g c (rel_con_of h d q) = where-number (T.tags.same g h) c d _
  constructors-answered g c _ = no_answer

  constructions-answered : (g : G T) (c : ℕ) (v' : V (K T)) (v : V poly) {u' : V (K T)} {u : V poly} → R u' u → ((a : G T) (z' : V (K T)) (z : V poly) → R z' z → Answered (same_at T.tags a v' z') (same_at untagged tt v z))
      → Answered (option_and_then (λ (d : Constructed (V (K T))). if_equal (nat_eq c d.number) (same_part T.tags (λ a. same_at T.tags a v') (T.tags.argument g c) d.argument)) (con_at T.tags g u'))
      (option_and_then (λ (d : Constructed (V poly)). if_equal (nat_eq c d.number) (same_part untagged (λ a. same_at untagged a v) (Some tt) d.argument)) (con_at untagged tt u))
  constructions-answered g c v' v (rel_con h d) k = where-made (T.tags.same g h) (record { number = d; argument = None }) (record { number = d; argument = None }) (λ (d : Constructed (V (K T))). if_equal (nat_eq c d.number) (same_part T.tags (λ a. same_at T.tags a v') (T.tags.argument g c) d.argument)) (λ (d : Constructed (V poly)). if_equal (nat_eq c d.number) (same_part untagged (λ a. same_at untagged a v) (Some tt) d.argument)) (if-answered (nat_eq c d) (part-answered v' v (T.tags.argument g c) k neither))
  constructions-answered g c v' v (rel_con_of h d {v' = x'} {v = x} q) k = where-made (T.tags.same g h) (record { number = d; argument = Some x' }) (record { number = d; argument = Some x }) (λ (d : Constructed (V (K T))). if_equal (nat_eq c d.number) (same_part T.tags (λ a. same_at T.tags a v') (T.tags.argument g c) d.argument)) (λ (d : Constructed (V poly)). if_equal (nat_eq c d.number) (same_part untagged (λ a. same_at untagged a v) (Some tt) d.argument)) (if-answered (nat_eq c d) (part-answered v' v (T.tags.argument g c) k (both q)))
  constructions-answered g c v' v _ k = no_answer

  mutual
    pub same-answered : (g : G T) {v' : V (K T)} {v : V poly} {u' : V (K T)} {u : V poly} → R v' v → R u' u → Answered (same_at T.tags g v' u') (same_at untagged tt v u)
    same-answered g (rel_literal l) k = where-answered (T.tags.has_literal g l) (literals-answered l (literal-same T k))
    same-answered g (rel_record h {fs' = fs'} {fs = fs} q) k = where-answered (T.tags.same g h) (records-answered g fs' fs k (λ gs' gs p. fields-answered g q p))
    same-answered g (rel_con h c) k = where-answered (T.tags.same g h) (constructors-answered g c k)
    same-answered g (rel_con_of h c {v' = v'} {v = v} q) k = where-answered (T.tags.same g h) (constructions-answered g c v' v k (λ a z' z p. same-answered a q p))
    same-answered g (rel_address i) k = where-answered (T.tags.has_references g) (addresses-answered i (address-same T k))
    same-answered g (rel_exn h i) k = no_answer
    same-answered g (rel_exn_of h i q) k = no_answer
    same-answered g (rel_ref h) k = no_answer
    same-answered g (rel_cell h q) k = no_answer
    same-answered g (rel_primitive h p) k = no_answer
    same-answered g (rel_closure f c) k = no_answer
    same-answered g (rel_group x n m f c) k = no_answer

    fields-answered : (g : G T) {fs' gs' : Parts (K T)} {fs gs : Parts poly} → RelFields T fs' fs → RelFields T gs' gs → Answered (same_fields T.tags g fs' gs') (same_fields untagged tt fs gs)
    fields-answered g rel_no_fields k = answered true
    fields-answered g (rel_a_field l {v' = v'} {v = v} h hs) k = both-answered (part-answered v' v (T.tags.field g l) (λ a u' u p. same-answered a h p) (field-same T l k)) (fields-answered g hs k)

  literals-related : {vs' : List (V (K T))} {vs : List (V poly)} → AllRelated R vs' vs → literals vs' ≡ literals vs
  literals-related none = refl
  literals-related (more r rs) = rw (literal-same T r, literals-related rs) refl

  -- the same of what is equal in both
  equal-refines : {A : Type 0} (o : Option A) {q : Option A} (u : World (V (K T))) (w : World (V poly)) {go' : A → Answer (V (K T)) (V (K T))} {go : A → Answer (V poly) (V poly)} → o ≡ q → Worlds u w → ((a : A) → Ends (go' a) (go a)) → Ends (or_fail o u go') (or_fail q w go)
  equal-refines {A} o {q} u w {go'} {go} e s h = subst (λ z. Ends (or_fail o u go') (or_fail z w go)) e (each o)
    where
      each : (o : Option A) → Ends (or_fail o u go') (or_fail o w go)
      each None = both_stop _ s
      each (Some a) = h a

  unit-related : R (unit_value T.tags) (unit_value untagged)
  unit-related = rel_record T.tags.of_unit rel_no_fields

  giving-refines : (r : Gives) (u : World (V (K T))) (w : World (V poly)) → Worlds u w → Ends (giving T.tags r u) (giving untagged r w)
  giving-refines (made (int z)) u w s = both_give (rel_literal (int z)) s
  giving-refines (made (word z)) u w s = both_give (rel_literal (word z)) s
  giving-refines (made (char z)) u w s = both_give (rel_literal (char z)) s
  giving-refines (made (string z)) u w s = both_give (rel_literal (string z)) s
  giving-refines (made (truth b)) u w s = both_give (rel_con T.tags.of_bool _) s
  giving-refines (raised e) u w s = both_raise (rel_exn T.tags.of_unit _) s

  answered-refines : {o q : Option Bool} (u : World (V (K T))) (w : World (V poly)) → Answered o q → Worlds u w → Ends (or_fail o u (λ b. gives (truth_value T.tags b) u)) (or_fail q w (λ b. gives (truth_value untagged b) w))
  answered-refines u w no_answer s = first_wrong _
  answered-refines u w (answered b) s = both_give (rel_con T.tags.of_bool _) s

  compare-refines : (g : G T) {vs' : List (V (K T))} {vs : List (V poly)} (u : World (V (K T))) (w : World (V poly)) → AllRelated R vs' vs → Worlds u w → Ends (compare_values T.tags g vs' u) (compare_values untagged tt vs w)
  compare-refines g u w (more r (more q none)) s = answered-refines u w (same-answered g r q) s
  compare-refines g u w none s = both_stop _ s
  compare-refines g u w (more r none) s = both_stop _ s
  compare-refines g u w (more r (more q (more p ps))) s = both_stop _ s

  assign-value-refines : (g : G T) {vs' : List (V (K T))} {vs : List (V poly)} (u : World (V (K T))) (w : World (V poly)) → AllRelated R vs' vs → Worlds u w → Ends (assign_value T.tags g vs' u) (assign_value untagged tt vs w)
  assign-value-refines g u w (more {v = r'} r (more q none)) s = equal-refines (address_in r') u w (address-same T r) s (λ a. assign-refines R R a _ _ u w _ _ (rel_cell g q) s (λ u' w' t. both_give unit-related t))
  assign-value-refines g u w none s = both_stop _ s
  assign-value-refines g u w (more r none) s = both_stop _ s
  assign-value-refines g u w (more r (more q (more p ps))) s = both_stop _ s

  print-refines : (ls : List Literal) (u : World (V (K T))) (w : World (V poly)) → Worlds u w → Ends (print_literals T.tags ls u) (print_literals untagged ls w)
  print-refines (string t ∷ []) u w s = both_give unit-related (writes-same R t u w s)
  print-refines _ u w s = both_stop _ s

  -- at a type whose constants the arguments aren't, it goes wrong with the copies
  row-refines : (g : G T) (p : BasisPrimitive) (ls : List Literal) (u : World (V (K T))) (w : World (V poly)) → Worlds u w → Ends (or_fail (row_at T.tags g p ls) u (λ r. giving T.tags r u)) (or_fail (row_at untagged tt p ls) w (λ r. giving untagged r w))
  row-refines g p ls u w s = rw (untagged-row p ls) (go (not (is_overloaded p) || begin_at T.tags g ls))
    where
      go : (b : Bool) → Ends (or_fail (if b then row_of p ls else None) u (λ r. giving T.tags r u)) (or_fail (row_of p ls) w (λ r. giving untagged r w))
      go true = equal-refines (row_of p ls) u w refl s (λ r. giving-refines r u w s)
      go false = first_wrong _

  perform-as-refines : (o : Sort) (g : G T) (p : BasisPrimitive) {vs' : List (V (K T))} {vs : List (V poly)} (u : World (V (K T))) (w : World (V poly)) → AllRelated R vs' vs → Worlds u w → Ends (perform_as T.tags o g p vs' u) (perform_as untagged o tt p vs w)
  perform-as-refines compares g p u w rs s = compare-refines g u w rs s
  perform-as-refines assigns g p u w rs s = assign-value-refines g u w rs s
  perform-as-refines prints g p {vs' = vs'} u w rs s = equal-refines (literals vs') u w (literals-related rs) s (λ ls. print-refines ls u w s)
  perform-as-refines computes g p {vs' = vs'} u w rs s = equal-refines (literals vs') u w (literals-related rs) s (λ ls. row-refines g p ls u w s)

  pub perform-refines : (g : G T) (p : BasisPrimitive) {vs' : List (V (K T))} {vs : List (V poly)} (u : World (V (K T))) (w : World (V poly)) → AllRelated R vs' vs → Worlds u w → Ends (perform T.tags g p vs' u) (perform untagged tt p vs w)
  perform-refines g p u w rs s = perform-as-refines (sort_of p) g p u w rs s

  pub reference-refines : (g : G T) {v' : V (K T)} {v : V poly} (u : World (V (K T))) (w : World (V poly)) → R v' v → Worlds u w → Ends (make_reference T.tags g v' u) (make_reference untagged tt v w)
  reference-refines g u w r s = new_reference-refines R R _ _ u w _ _ (rel_cell g r) s (λ a u' w' t. both_give (rel_address a) t)

  -- a tuple's parts
  list-in-front : {v' : V (K T)} {v : V poly} {o' : Option (List (V (K T)))} {o : Option (List (V poly))} → R v' v → BothOrNeither (AllRelated R) o' o → BothOrNeither (AllRelated R) (option_map (λ vs. v' ∷ vs) o') (option_map (λ vs. v ∷ vs) o)
  list-in-front r neither = neither
  list-in-front r (both rs) = both (more r rs)

  and-then-related : {o' : Option (V (K T))} {o : Option (V poly)} {go' : V (K T) → Option (List (V (K T)))} {go : V poly → Option (List (V poly))} → BothOrNeither R o' o → ((v' : V (K T)) (v : V poly) → R v' v → BothOrNeither (AllRelated R) (go' v') (go v))
      → BothOrNeither (AllRelated R) (option_and_then go' o') (option_and_then go o)
  and-then-related neither h = neither
  and-then-related (both r) h = h _ _ r

  parts-related : (k n : ℕ) {fs' : Parts (K T)} {fs : Parts poly} → RelFields T fs' fs → BothOrNeither (AllRelated R) (parts k n fs') (parts k n fs)
  parts-related k zero h = both none
  parts-related k (suc n) h = and-then-related (field-same T (Number k) h) (λ v' v r. list-in-front r (parts-related (suc k) n h))

  tuple-related : {v' : V (K T)} {v : V poly} → R v' v → BothOrNeither (AllRelated R) (tuple v') (tuple v)
  tuple-related (rel_record g {fs' = fs'} {fs = fs} h) = subst (λ n. BothOrNeither (AllRelated R) (parts 1 n fs') (parts 1 (count fs) fs)) (sym (count-same T h)) (parts-related 1 (count fs) h)
  tuple-related _ = neither

  pub arguments-related : {v' : V (K T)} {v : V poly} → R v' v → AllRelated R (arguments v') (arguments v)
  arguments-related {v'} {v} r = go (tuple-related r)
    where
      go : {o' : Option (List (V (K T)))} {o : Option (List (V poly))} → BothOrNeither (AllRelated R) o' o → AllRelated R (elim o' [ None ↦ v' ∷ [] | Some vs ↦ vs ]) (elim o [ None ↦ v ∷ [] | Some vs ↦ vs ])
      go neither = more r none
      go (both rs) = rs
