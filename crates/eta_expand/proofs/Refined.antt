-- What is done with values of the expansion is done with those of the program, unless it goes wrong with the first.
use Rattle.std.proofs.Common.{◌≡◌, ℕ, zero, suc, List, [], ◌∷◌, Bool, true, false, Option, Some, None, option_map, option_and_then, nat_eq, subst, refl, sym}
use Rattle.mlc_names.specs.declared.label.Label.TheVariants.{Number}
use Rattle.mlc_runs.specs.Agreement.{AllRelated, none, more, BothOrNeither, neither, both, SameWorlds}
use Rattle.mlc_runs.specs.Refinement.{Refines, both_give, both_raise, both_stop, first_wrong}
use Rattle.mlc_runs.specs.Run.{World, Answer, gives, or_fail}
use Rattle.mlc_runs.proofs.RunLaws.{writes-same}
use Rattle.mlc_runs.proofs.RefineLaws.{new_reference-refines, assign-refines}
use Rattle.mlc_prims.specs.LitOf.{Literal, int, word, char, string, truth}
use Rattle.mlc_prims.specs.PrimOf.{Gives, made, raised}
use Rattle.mlc_prims.specs.Table.{literal_eq}
use Rattle.mlc_prims.specs.declared.basis.BasisPrimitive.{BasisPrimitive}
use Rattle.ir_values.specs.Values.{address_in, unit_value, truth_value}
use Rattle.ir_values.specs.Equality.{both_equal, where_holds, if_equal, Constructed, fields_at, con_at, same_part, same_at, same_fields}
use Rattle.ir_values.specs.Primitives.{Sort, compares, assigns, prints, computes, sort_of, row_at, literals, parts, giving, compare_values, assign_value, print_literals, perform_as, perform, make_reference}
use Rattle.ir_plain.specs.Meaning.{V, Parts}
use Rattle.ir_mono.specs.Types as table
use Rattle.ir_mono.specs.Types.{IsTable}
use Rattle.eta_expand.proofs.Related.{K, TT, labels_none, Rel, rel_literal, rel_record, rel_con, rel_con_of, rel_exn, rel_address, rel_cell, RelFields, rel_no_fields, rel_a_field, literal-same, address-same, field-same}

-- where the first has an answer, the second has it
pub data Answered : Option Bool → Option Bool → Type 0 where
  no_answer : {o : Option Bool} → Answered None o
  answered : (b : Bool) → Answered (Some b) (Some b)

equal-answered : (o : Option Bool) → Answered o o
equal-answered None = no_answer
equal-answered (Some b) = answered b

both-answered : {a b c d : Option Bool} → Answered a c → Answered b d → Answered (both_equal a b) (both_equal c d)
both-answered no_answer k = no_answer
both-answered (answered b) no_answer = no_answer
both-answered (answered b) (answered c) = answered _

where-answered : (b : Bool) {o q : Option Bool} → Answered o q → Answered (where_holds b o) (where_holds b q)
where-answered true h = h
where-answered false h = no_answer

if-answered : (b : Bool) {o q : Option Bool} → Answered o q → Answered (if_equal b o) (if_equal b q)
if-answered true h = h
if-answered false h = answered false

module _ (types : List table.Row) (sound : IsTable types) where
  abbrev W : Type 0
  W = V (K types)

  abbrev R : W → W → Type 0
  R = Rel types

  abbrev Ends : Answer W W → Answer W W → Type 0
  Ends = Refines R R

  abbrev Worlds : World W → World W → Type 0
  Worlds = SameWorlds R

  abbrev P : Type 0
  P = Parts (K types)

  abbrev Made : Type 0
  Made = Constructed W

  -- a part
  part-answered : (v' v : W) {o' o : Option W} (g : Option ℕ) → ((a : ℕ) (u' u : W) → R u' u → Answered (same_at (TT types) a v' u') (same_at (TT types) a v u)) → BothOrNeither R o' o
      → Answered (same_part (TT types) (λ a. same_at (TT types) a v') g o') (same_part (TT types) (λ a. same_at (TT types) a v) g o)
  part-answered v' v None h k = no_answer
  part-answered v' v (Some a) h neither = no_answer
  part-answered v' v (Some a) h (both k) = h a _ _ k

  then-answered : {A : Type 0} (b : Bool) (x' x : A) (test' test : A → Option Bool) → Answered (test' x') (test x) → Answered (option_and_then test' (where_holds b (Some x'))) (option_and_then test (where_holds b (Some x)))
  then-answered true x' x test' test h = h
  then-answered false x' x test' test h = no_answer

  where-number : (b : Bool) (c d : ℕ) (o' o : Option W) → Answered (option_map (λ (k : Made). nat_eq c k.number) (where_holds b (Some (record { number = d; argument = o' })))) (option_map (λ (k : Made). nat_eq c k.number) (where_holds b (Some (record { number = d; argument = o }))))
  where-number true c d o' o = answered _
  where-number false c d o' o = no_answer

  literals-answered : (l : Literal) {o' o : Option Literal} → o' ≡ o → Answered (option_and_then (literal_eq l) o') (option_and_then (literal_eq l) o)
  literals-answered l {o'} e = subst (λ q. Answered (option_and_then (literal_eq l) o') (option_and_then (literal_eq l) q)) e (equal-answered _)

  addresses-answered : (i : ℕ) {o' o : Option ℕ} → o' ≡ o → Answered (option_map (nat_eq i) o') (option_map (nat_eq i) o)
  addresses-answered i {o'} e = subst (λ q. Answered (option_map (nat_eq i) o') (option_map (nat_eq i) q)) e (equal-answered _)

  records-answered : (g : ℕ) (fs' fs : P) {u' u : W} → R u' u → ((gs' gs : P) → RelFields types gs' gs → Answered (same_fields (TT types) g fs' gs') (same_fields (TT types) g fs gs))
      → Answered (option_and_then (same_fields (TT types) g fs') (fields_at (TT types) g u')) (option_and_then (same_fields (TT types) g fs) (fields_at (TT types) g u))
  records-answered g fs' fs (rel_record h i j q) k = then-answered (nat_eq g h) _ _ (same_fields (TT types) g fs') (same_fields (TT types) g fs) (k _ _ q)
  records-answered g fs' fs _ k = no_answer

  constructors-answered : (g c : ℕ) {u' u : W} → R u' u → Answered (option_map (λ (d : Made). nat_eq c d.number) (con_at (TT types) g u')) (option_map (λ (d : Made). nat_eq c d.number) (con_at (TT types) g u))
  constructors-answered g c (rel_con h d) = where-number (nat_eq g h) c d None None
  constructors-answered g c (rel_con_of h d q) = where-number (nat_eq g h) c d _ _
  constructors-answered g c _ = no_answer

  abbrev is_made : (g c : ℕ) → W → Made → Option Bool
  is_made g c v d = if_equal (nat_eq c d.number) (same_part (TT types) (λ a. same_at (TT types) a v) ((TT types).argument g c) d.argument)

  constructions-answered : (g c : ℕ) (v' v : W) {u' u : W} → R u' u → ((a : ℕ) (z' z : W) → R z' z → Answered (same_at (TT types) a v' z') (same_at (TT types) a v z))
      → Answered (option_and_then (is_made g c v') (con_at (TT types) g u')) (option_and_then (is_made g c v) (con_at (TT types) g u))
  constructions-answered g c v' v (rel_con h d) k =
      then-answered (nat_eq g h) (record { number = d; argument = None }) (record { number = d; argument = None }) (is_made g c v') (is_made g c v) (if-answered (nat_eq c d) (part-answered v' v ((TT types).argument g c) k neither))
  constructions-answered g c v' v (rel_con_of h d {v' = x'} {v = x} q) k =
      then-answered (nat_eq g h) (record { number = d; argument = Some x' }) (record { number = d; argument = Some x }) (is_made g c v') (is_made g c v) (if-answered (nat_eq c d) (part-answered v' v ((TT types).argument g c) k (both q)))
  constructions-answered g c v' v _ k = no_answer

  mutual
    pub same-answered : (g : ℕ) {v' v u' u : W} → R v' v → R u' u → Answered (same_at (TT types) g v' u') (same_at (TT types) g v u)
    same-answered g (rel_literal l) k = where-answered ((TT types).has_literal g l) (literals-answered l (literal-same types k))
    same-answered g (rel_record h {fs' = fs'} {fs = fs} i j q) k = where-answered (nat_eq g h) (records-answered g fs' fs k (λ gs' gs p. fields-answered g q p))
    same-answered g (rel_con h c) k = where-answered (nat_eq g h) (constructors-answered g c k)
    same-answered g (rel_con_of h c {v' = v'} {v = v} q) k = where-answered (nat_eq g h) (constructions-answered g c v' v k (λ a z' z p. same-answered a q p))
    same-answered g (rel_address i) k = where-answered ((TT types).has_references g) (addresses-answered i (address-same types k))
    same-answered g _ k = no_answer

    fields-answered : (g : ℕ) {fs' gs' fs gs : P} → RelFields types fs' fs → RelFields types gs' gs → Answered (same_fields (TT types) g fs' gs') (same_fields (TT types) g fs gs)
    fields-answered g rel_no_fields k = answered true
    fields-answered g (rel_a_field l {v' = v'} {v = v} h hs) k = both-answered (part-answered v' v ((TT types).field g l) (λ a u' u p. same-answered a h p) (field-same types l k)) (fields-answered g hs k)

  literals-related : {vs' vs : List W} → AllRelated R vs' vs → literals vs ≡ literals vs'
  literals-related none = refl
  literals-related (more r rs) = rw (literal-same types r, literals-related rs) refl

  -- the same of what is equal in both
  equal-refines : {A : Type 0} (o : Option A) {q : Option A} (u w : World W) {go' go : A → Answer W W} → q ≡ o → Worlds u w → ((a : A) → Ends (go' a) (go a)) → Ends (or_fail o u go') (or_fail q w go)
  equal-refines {A} o {q} u w {go'} {go} e s h = subst (λ z. Ends (or_fail o u go') (or_fail z w go)) (sym e) (each o)
    where
      each : (o : Option A) → Ends (or_fail o u go') (or_fail o w go)
      each None = both_stop _ s
      each (Some a) = h a

  unit-related : R (unit_value (TT types)) (unit_value (TT types))
  unit-related = rel_record 0 sound.unit labels_none rel_no_fields

  giving-refines : (r : Gives) (u w : World W) → Worlds u w → Ends (giving (TT types) r u) (giving (TT types) r w)
  giving-refines (made (int z)) u w s = both_give (rel_literal (int z)) s
  giving-refines (made (word z)) u w s = both_give (rel_literal (word z)) s
  giving-refines (made (char z)) u w s = both_give (rel_literal (char z)) s
  giving-refines (made (string z)) u w s = both_give (rel_literal (string z)) s
  giving-refines (made (truth b)) u w s = both_give (rel_con _ _) s
  giving-refines (raised e) u w s = both_raise (rel_exn _ _) s

  answered-refines : {o q : Option Bool} (u w : World W) → Answered o q → Worlds u w → Ends (or_fail o u (λ b. gives (truth_value (TT types) b) u)) (or_fail q w (λ b. gives (truth_value (TT types) b) w))
  answered-refines u w no_answer s = first_wrong _
  answered-refines u w (answered b) s = both_give (rel_con _ _) s

  compare-refines : (g : ℕ) {vs' vs : List W} (u w : World W) → AllRelated R vs' vs → Worlds u w → Ends (compare_values (TT types) g vs' u) (compare_values (TT types) g vs w)
  compare-refines g u w (more r (more q none)) s = answered-refines u w (same-answered g r q) s
  compare-refines g u w none s = both_stop _ s
  compare-refines g u w (more r none) s = both_stop _ s
  compare-refines g u w (more r (more q (more p ps))) s = both_stop _ s

  assign-value-refines : (g : ℕ) {vs' vs : List W} (u w : World W) → AllRelated R vs' vs → Worlds u w → Ends (assign_value (TT types) g vs' u) (assign_value (TT types) g vs w)
  assign-value-refines g u w (more {v = r'} r (more q none)) s = equal-refines (address_in r') u w (sym (address-same types r)) s (λ a. assign-refines R R a _ _ u w _ _ (rel_cell g q) s (λ u' w' t. both_give unit-related t))
  assign-value-refines g u w none s = both_stop _ s
  assign-value-refines g u w (more r none) s = both_stop _ s
  assign-value-refines g u w (more r (more q (more p ps))) s = both_stop _ s

  print-refines : (ls : List Literal) (u w : World W) → Worlds u w → Ends (print_literals (TT types) ls u) (print_literals (TT types) ls w)
  print-refines (string t ∷ []) u w s = both_give unit-related (writes-same R t u w s)
  print-refines _ u w s = both_stop _ s

  perform-as-refines : (o : Sort) (g : ℕ) (p : BasisPrimitive) {vs' vs : List W} (u w : World W) → AllRelated R vs' vs → Worlds u w → Ends (perform_as (TT types) o g p vs' u) (perform_as (TT types) o g p vs w)
  perform-as-refines compares g p u w rs s = compare-refines g u w rs s
  perform-as-refines assigns g p u w rs s = assign-value-refines g u w rs s
  perform-as-refines prints g p {vs' = vs'} u w rs s = equal-refines (literals vs') u w (literals-related rs) s (λ ls. print-refines ls u w s)
  perform-as-refines computes g p {vs' = vs'} u w rs s = equal-refines (literals vs') u w (literals-related rs) s (λ ls. equal-refines (row_at (TT types) g p ls) u w refl s (λ r. giving-refines r u w s))

  pub perform-refines : (g : ℕ) (p : BasisPrimitive) {vs' vs : List W} (u w : World W) → AllRelated R vs' vs → Worlds u w → Ends (perform (TT types) g p vs' u) (perform (TT types) g p vs w)
  perform-refines g p u w rs s = perform-as-refines (sort_of p) g p u w rs s

  pub reference-refines : (g : ℕ) {v' v : W} (u w : World W) → R v' v → Worlds u w → Ends (make_reference (TT types) g v' u) (make_reference (TT types) g v w)
  reference-refines g u w r s = new_reference-refines R R _ _ u w _ _ (rel_cell g r) s (λ a u' w' t. both_give (rel_address a) t)

  -- a tuple's parts
  list-in-front : {v' v : W} {o' o : Option (List W)} → R v' v → BothOrNeither (AllRelated R) o' o → BothOrNeither (AllRelated R) (option_map (λ vs. v' ∷ vs) o') (option_map (λ vs. v ∷ vs) o)
  list-in-front r neither = neither
  list-in-front r (both rs) = both (more r rs)

  and-then-related : {o' o : Option W} {go' go : W → Option (List W)} → BothOrNeither R o' o → ((v' v : W) → R v' v → BothOrNeither (AllRelated R) (go' v') (go v)) → BothOrNeither (AllRelated R) (option_and_then go' o') (option_and_then go o)
  and-then-related neither h = neither
  and-then-related (both r) h = h _ _ r

  pub parts-related : (k n : ℕ) {fs' fs : P} → RelFields types fs' fs → BothOrNeither (AllRelated R) (parts k n fs') (parts k n fs)
  parts-related k zero h = both none
  parts-related k (suc n) h = and-then-related (field-same types (Number k) h) (λ v' v r. list-in-front r (parts-related (suc k) n h))
