-- Two values of a program are equal where their conversions are.
use Rattle.std.proofs.Common.{◌≡◌, ℕ, List, [], ◌∷◌, Option, Some, None, Bool, true, false, if◌then◌else◌, nat_eq, get_or, refl, sym, ap, subst, ◌∙◌}
use Rattle.std.specs.Prelude.{option_map, option_and_then}
use Rattle.mlc_names.specs.declared.label.Label.{Label}
use Rattle.mlc_names.specs.declared.label.Label.TheVariants.{Number, Word}
use Rattle.mlc_prims.specs.LitOf.{Literal, int, word, char, string, truth}
use Rattle.mlc_prims.specs.Table.{literal_eq}
use Rattle.ty_core.specs.Types.{labels}
use Rattle.ir_values.specs.Values.{same_label, field_in}
use Rattle.ir_values.specs.Equality.{both_equal, where_holds, if_equal, same_part, same_at, same_fields}
use Rattle.ir_plain.specs.Meaning.{Parts}
use Rattle.ir_explicit.specs.of_ir_mono.Types as table
use Rattle.ir_explicit.specs.of_ir_mono.Types.{part, part_of, node_at, node, Is, IsOther, other_none, other_more, AreDistinct, distinct_none, distinct_more, IsTable, constructor_at, by_number}
use Rattle.ir_explicit.specs.of_ir_mono.Mono.{mono}
use Rattle.first_values.specs.Values as cells
use Rattle.first_values.specs.Equality.{Shape, unless_different, equal_at, equal_parts}
use Rattle.ir_first.specs.Tree as out
use Rattle.closure_convert.proofs.of_flow_sets.Member.{nat_eq-to, nat_eq-same, decide}
use Rattle.closure_meaning.specs.Convert.{con_tag, shapes}
use Rattle.closure_meaning.specs.Fits.{Setting}
use Rattle.closure_meaning.proofs.Related.{Val, Same, same_literal, same_record, same_con, same_con_of, same_exn, same_exn_of, same_ref, same_primitive, same_address, same_cell, same_closure, SameFields, no_fields_same, a_field_same}
use Rattle.closure_meaning.proofs.Tags.{tag-test-first, shape_at, shape-record, shape-named, ConShape, con-shape}

-- the second answers as the first does, where that answers
pub data Follows {A : Type 0} : Option A → Option A → Type 0 where
  follows_none : (q : Option A) → Follows None q
  follows_some : (a : A) → Follows (Some a) (Some a)

where-none : {A : Type 0} (b : Bool) (q : Option A) → Follows (where_holds {A = A} b None) q
where-none true q = follows_none q
where-none false q = follows_none q

where-follows : {A : Type 0} (b : Bool) {o q : Option A} → (b ≡ true → Follows o q) → Follows (where_holds b o) q
where-follows true h = h refl
where-follows false h = follows_none _

follows-same : {A : Type 0} (o : Option A) → Follows o o
follows-same None = follows_none None
follows-same (Some a) = follows_some a

both-follow : {a a' b b' : Option Bool} → Follows a a' → Follows b b' → Follows (both_equal a b) (unless_different a' b')
both-follow (follows_none q) h = follows_none _
both-follow (follows_some true) (follows_none q) = follows_none q
both-follow (follows_some true) (follows_some c) = follows_some c
both-follow (follows_some false) (follows_none q) = follows_none _
both-follow (follows_some false) (follows_some c) = follows_some false

alone-follows : {o q : Option Bool} → Follows o q → Follows o (unless_different q (Some true))
alone-follows (follows_none q) = follows_none _
alone-follows (follows_some true) = follows_some true
alone-follows (follows_some false) = follows_some false

label-same : (l : Label) → same_label l l ≡ true
label-same (Number n) = nat_eq-same n
label-same (Word n) = nat_eq-same n

pub labels-one : (k m : Label) → same_label k m ≡ true → k ≡ m
labels-one (Number a) (Number b) e = ap Number (nat_eq-to a b e)
labels-one (Number a) (Word b) e = absurd (cc)
labels-one (Word a) (Number b) e = absurd (cc)
labels-one (Word a) (Word b) e = ap Word (nat_eq-to a b e)

-- a label among these isn't the first
apart : (k l : Label) {ls : List Label} → IsOther l ls → (ts : List ℕ) (v : ℕ) → part k ls ts ≡ Some v → same_label k l ≡ false
apart k l other_none ts v q = absurd (cc)
apart k l (other_more e o) [] v q = absurd (cc)
apart k l (other_more {k = m} {ls = ls} e o) (t ∷ ts) v q = go (same_label k m) (labels-one k m) q (apart k l o ts v)
  where
    go : (b : Bool) → (b ≡ true → k ≡ m) → (if b then Some t else part k ls ts) ≡ Some v → (part k ls ts ≡ Some v → same_label k l ≡ false) → same_label k l ≡ false
    go true s q h = subst (λ z. same_label z l ≡ false) (sym (s refl)) e
    go false s q h = h q

module _ (C : Setting) (all : List out.Fun) (sound : IsTable C.types) where
  abbrev S : Val C.types → cells.Value → Type 0
  S = Same C all

  abbrev TY : List Shape
  TY = shapes C.types

  apart-field : (k l : Label) {g : ℕ} {ls : List Label} {ts : List ℕ} {fs : Parts (mono C.types)} {us : cells.Values} → IsOther l ls → SameFields C all g ls ts fs us → (v : Val C.types) → field_in k fs ≡ Some v → same_label k l ≡ false
  apart-field k l other_none no_fields_same v q = absurd (cc)
  apart-field k l (other_more {k = m} {ls = ls} e o) (a_field_same n {v = w} {fs = fs} same isin rest) v q = go (same_label k m) (labels-one k m) q (apart-field k l o rest v)
    where
      go : (b : Bool) → (b ≡ true → k ≡ m) → (if b then Some w else field_in k fs) ≡ Some v → (field_in k fs ≡ Some v → same_label k l ≡ false) → same_label k l ≡ false
      go true s q h = subst (λ z. same_label z l ≡ false) (sym (s refl)) e
      go false s q h = h q

  -- what is made at one type
  where-both : {A : Type 0} (g h h' : ℕ) (o : Option A) (f : A → Option Bool) {q : Option Bool} → (g ≡ h → g ≡ h' → Follows (option_and_then f o) q) → Follows (where_holds (nat_eq g h) (option_and_then f (where_holds (nat_eq g h') o))) q
  where-both g h h' o f {q} k = go (nat_eq g h) (nat_eq g h') (nat_eq-to g h) (nat_eq-to g h')
    where
      go : (x y : Bool) → (x ≡ true → g ≡ h) → (y ≡ true → g ≡ h') → Follows (where_holds x (option_and_then f (where_holds y o))) q
      go true true p r = k (p refl) (r refl)
      go true false p r = follows_none q
      go false y p r = follows_none q

  map-both : {A : Type 0} (g h h' : ℕ) (a : A) (f : A → Bool) {q : Option Bool} → (g ≡ h → g ≡ h' → Follows (Some (f a)) q) → Follows (where_holds (nat_eq g h) (option_map f (where_holds (nat_eq g h') (Some a)))) q
  map-both g h h' a f {q} k = go (nat_eq g h) (nat_eq g h') (nat_eq-to g h) (nat_eq-to g h')
    where
      go : (x y : Bool) → (x ≡ true → g ≡ h) → (y ≡ true → g ≡ h') → Follows (where_holds x (option_map f (where_holds y (Some a)))) q
      go true true p r = k (p refl) (r refl)
      go true false p r = follows_none q
      go false y p r = follows_none q

  -- constructors alone
  cons-equal : (g c d : ℕ) → constructor_at C.types g c ≡ Some None → Follows (Some (nat_eq c d)) (equal_at TY (shape_at C.types g) (cells.cell (con_tag C.types g c) cells.no_values) (cells.cell (con_tag C.types g d) cells.no_values))
  cons-equal g c d e =
      let s = con-shape C.types sound g c e in
      subst (λ z. Follows (Some (nat_eq c d)) (equal_at TY z (cells.cell (con_tag C.types g c) cells.no_values) (cells.cell (con_tag C.types g d) cells.no_values))) (sym s.is)
      (subst (λ ts. Follows (Some (nat_eq c d)) (if nat_eq (con_tag C.types g c) (con_tag C.types g d) then equal_parts TY ts cells.no_values cells.no_values else Some false)) (sym s.at_tag)
      (subst (λ b. Follows (Some (nat_eq c d)) (if b then Some true else Some false)) (sym (tag-test-first C.types g c d e)) (go (nat_eq c d))))
    where
      go : (b : Bool) → Follows (Some b) (if b then Some true else Some false)
      go true = follows_some true
      go false = follows_some false

  -- constructors that differ, whatever their arguments
  differ : (g c d : ℕ) {a : Option ℕ} (us vs : cells.Values) → constructor_at C.types g c ≡ Some a → nat_eq c d ≡ false → Follows (Some false) (equal_at TY (shape_at C.types g) (cells.cell (con_tag C.types g c) us) (cells.cell (con_tag C.types g d) vs))
  differ g c d us vs e n =
      let s = con-shape C.types sound g c e in
      subst (λ z. Follows (Some false) (equal_at TY z (cells.cell (con_tag C.types g c) us) (cells.cell (con_tag C.types g d) vs))) (sym s.is)
      (subst (λ b. Follows (Some false) (if b then equal_parts TY (get_or s.parts (con_tag C.types g c) []) us vs else Some false)) (sym (tag-test-first C.types g c d e ∙ n)) (follows_some false))

  -- one constructor, with arguments
  same-con : (g c d a : ℕ) {o : Option Bool} (u z : cells.Value) → constructor_at C.types g c ≡ Some (Some a) → c ≡ d → Follows o (equal_at TY (shape_at C.types a) u z) → Follows o (equal_at TY (shape_at C.types g) (cells.cell (con_tag C.types g c) (cells.value u cells.no_values)) (cells.cell (con_tag C.types g d) (cells.value z cells.no_values)))
  same-con g c d a {o} u z e q h =
      let s = con-shape C.types sound g c e in
      subst (λ y. Follows o (equal_at TY y (cells.cell (con_tag C.types g c) (cells.value u cells.no_values)) (cells.cell (con_tag C.types g d) (cells.value z cells.no_values)))) (sym s.is)
      (subst (λ b. Follows o (if b then equal_parts TY (get_or s.parts (con_tag C.types g c) []) (cells.value u cells.no_values) (cells.value z cells.no_values) else Some false)) (sym (tag-test-first C.types g c d e ∙ (ap (λ x. nat_eq c x) (sym q) ∙ nat_eq-same c)))
      (subst (λ ts. Follows o (equal_parts TY ts (cells.value u cells.no_values) (cells.value z cells.no_values))) (sym s.at_tag) (alone-follows h)))

  arguments-equal : (g c d a : ℕ) (v w : Val C.types) (u z : cells.Value) → constructor_at C.types g c ≡ Some (Some a) → Follows (same_at (by_number C.types) a v w) (equal_at TY (shape_at C.types a) u z) → Follows (if_equal (nat_eq c d) (same_part (by_number C.types) (λ t. same_at (by_number C.types) t v) ((by_number C.types).argument g c) (Some w))) (equal_at TY (shape_at C.types g) (cells.cell (con_tag C.types g c) (cells.value u cells.no_values)) (cells.cell (con_tag C.types g d) (cells.value z cells.no_values)))
  arguments-equal g c d a v w u z e h = go (nat_eq c d) refl
    where
      go : (b : Bool) → nat_eq c d ≡ b → Follows (if_equal b (same_part (by_number C.types) (λ t. same_at (by_number C.types) t v) ((by_number C.types).argument g c) (Some w))) (equal_at TY (shape_at C.types g) (cells.cell (con_tag C.types g c) (cells.value u cells.no_values)) (cells.cell (con_tag C.types g d) (cells.value z cells.no_values)))
      go true q = subst (λ o. Follows (same_part (by_number C.types) (λ t. same_at (by_number C.types) t v) (option_and_then (λ x. x) o) (Some w)) (equal_at TY (shape_at C.types g) (cells.cell (con_tag C.types g c) (cells.value u cells.no_values)) (cells.cell (con_tag C.types g d) (cells.value z cells.no_values)))) (sym e) (same-con g c d a u z e (nat_eq-to c d q) h)
      go false q = differ g c d (cells.value u cells.no_values) (cells.value z cells.no_values) e q

  not-same : (g c d : ℕ) {a : ℕ} → constructor_at C.types g c ≡ Some None → constructor_at C.types g d ≡ Some (Some a) → nat_eq c d ≡ false
  not-same g c d {a} e f = decide (nat_eq c d) (λ q. absurd (let h : constructor_at C.types g c ≡ Some (Some a) = subst (λ x. constructor_at C.types g x ≡ Some (Some a)) (sym (nat_eq-to c d q)) f in cc)) (λ q. q)

  no-literal : (o : Option table.Node) → table.holds (λ k. false) o ≡ true → ⊥
  no-literal None e = cc
  no-literal (Some k) e = cc

  literals-equal : (g : ℕ) (l k : Literal) → Follows (where_holds ((by_number C.types).has_literal g l) (literal_eq l k)) (equal_at TY (shape_at C.types g) (cells.literal l) (cells.literal k))
  literals-equal g (int z) k = where-follows ((by_number C.types).has_literal g (int z)) (λ q. let s = shape-named C.types g 0 q in subst (λ y. Follows (literal_eq (int z) k) (equal_at TY y (cells.literal (int z)) (cells.literal k))) (sym s.2) (follows-same (literal_eq (int z) k)))
  literals-equal g (word z) k = where-follows ((by_number C.types).has_literal g (word z)) (λ q. let s = shape-named C.types g 1 q in subst (λ y. Follows (literal_eq (word z) k) (equal_at TY y (cells.literal (word z)) (cells.literal k))) (sym s.2) (follows-same (literal_eq (word z) k)))
  literals-equal g (char z) k = where-follows ((by_number C.types).has_literal g (char z)) (λ q. let s = shape-named C.types g 2 q in subst (λ y. Follows (literal_eq (char z) k) (equal_at TY y (cells.literal (char z)) (cells.literal k))) (sym s.2) (follows-same (literal_eq (char z) k)))
  literals-equal g (string z) k = where-follows ((by_number C.types).has_literal g (string z)) (λ q. let s = shape-named C.types g 3 q in subst (λ y. Follows (literal_eq (string z) k) (equal_at TY y (cells.literal (string z)) (cells.literal k))) (sym s.2) (follows-same (literal_eq (string z) k)))
  literals-equal g (truth b) k = where-follows ((by_number C.types).has_literal g (truth b)) (λ q. absurd (no-literal (node_at C.types g) q))

  addresses-equal : (g a b : ℕ) → Follows (where_holds ((by_number C.types).has_references g) (Some (nat_eq a b))) (equal_at TY (shape_at C.types g) (cells.reference a) (cells.reference b))
  addresses-equal g a b = where-follows ((by_number C.types).has_references g) (λ q. let s = shape-named C.types g 4 q in subst (λ y. Follows (Some (nat_eq a b)) (equal_at TY y (cells.reference a) (cells.reference b))) (sym s.2) (follows_some (nat_eq a b)))

  -- one field, of both, at its type
  field-equal : (g t : ℕ) (l : Label) (v w : Val C.types) (G : Parts (mono C.types)) {q : Option Bool} → (by_number C.types).field g l ≡ Some t → field_in l G ≡ Some w → Follows (same_at (by_number C.types) t v w) q → Follows (same_part (by_number C.types) (λ a. same_at (by_number C.types) a v) ((by_number C.types).field g l) (field_in l G)) q
  field-equal g t l v w G {q} e f h =
      subst (λ o. Follows (same_part (by_number C.types) (λ a. same_at (by_number C.types) a v) o (field_in l G)) q) (sym e)
      (subst (λ o. Follows (same_part (by_number C.types) (λ a. same_at (by_number C.types) a v) (Some t) o) q) (sym f) h)

  mutual
    pub equal-same : (g : ℕ) {v w : Val C.types} {u z : cells.Value} → S v u → S w z → Follows (same_at (by_number C.types) g v w) (equal_at TY (shape_at C.types g) u z)
    equal-same g (same_literal l) (same_literal k) = literals-equal g l k
    equal-same g (same_literal l) _ = where-none ((by_number C.types).has_literal g l) _
    equal-same g (same_record h {ls = ls} {ts = ts} {fs = fs} {us = us} is d sf) (same_record h' {ls = ls'} {ts = ts'} {fs = gs} {us = vs} is' d' sf') =
        where-both g h h' (Some gs) (same_fields (by_number C.types) g fs) (λ p q.
        let i : Is C.types g (labels ls) ts = subst (λ x. Is C.types x (labels ls) ts) (sym p) is in
        let i' : Is C.types g (labels ls') ts' = subst (λ x. Is C.types x (labels ls') ts') (sym q) is' in
        let el : ls' ≡ ls = cc in
        let et : ts' ≡ ts = cc in
        subst (λ y. Follows (same_fields (by_number C.types) g fs gs) (equal_at TY y (cells.cell 0 us) (cells.cell 0 vs))) (sym (shape-record C.types g i))
        (fields-equal g gs sf (subst (λ x. SameFields C all h' ls x gs vs) et (subst (λ x. SameFields C all h' x ts' gs vs) el sf')) d (λ l t e. ap (option_and_then (part_of l)) i ∙ e) (λ l v e. e)))
    equal-same g (same_record h is d sf) _ = where-none (nat_eq g h) _
    equal-same g (same_con h c e) (same_con h' d e') =
        let a : Rattle.ir_values.specs.Equality.Constructed (Val C.types) = record { number = d; argument = None } in
        map-both g h h' a (λ x. nat_eq c x.number) (λ p q.
        subst (λ y. Follows (Some (nat_eq c d)) (equal_at TY (shape_at C.types g) (cells.cell (con_tag C.types y c) cells.no_values) (cells.cell (con_tag C.types h' d) cells.no_values))) p
        (subst (λ y. Follows (Some (nat_eq c d)) (equal_at TY (shape_at C.types g) (cells.cell (con_tag C.types g c) cells.no_values) (cells.cell (con_tag C.types y d) cells.no_values))) q
        (cons-equal g c d (subst (λ y. constructor_at C.types y c ≡ Some None) (sym p) e))))
    equal-same g (same_con h c e) (same_con_of h' d {a = t} {v = w} {u = z} e' sw isin) =
        let a : Rattle.ir_values.specs.Equality.Constructed (Val C.types) = record { number = d; argument = Some w } in
        map-both g h h' a (λ x. nat_eq c x.number) (λ p q.
        let eg : constructor_at C.types g c ≡ Some None = subst (λ y. constructor_at C.types y c ≡ Some None) (sym p) e in
        let n : nat_eq c d ≡ false = not-same g c d eg (subst (λ y. constructor_at C.types y d ≡ Some (Some t)) (sym q) e') in
        subst (λ y. Follows (Some (nat_eq c d)) (equal_at TY (shape_at C.types g) (cells.cell (con_tag C.types y c) cells.no_values) (cells.cell (con_tag C.types h' d) (cells.value z cells.no_values)))) p
        (subst (λ y. Follows (Some (nat_eq c d)) (equal_at TY (shape_at C.types g) (cells.cell (con_tag C.types g c) cells.no_values) (cells.cell (con_tag C.types y d) (cells.value z cells.no_values)))) q
        (subst (λ b. Follows (Some b) (equal_at TY (shape_at C.types g) (cells.cell (con_tag C.types g c) cells.no_values) (cells.cell (con_tag C.types g d) (cells.value z cells.no_values)))) (sym n) (differ g c d cells.no_values (cells.value z cells.no_values) eg n))))
    equal-same g (same_con h c e) _ = where-none (nat_eq g h) _
    equal-same g (same_con_of h c {a = t} {v = v} {u = u} e sv isin) (same_con h' d e') =
        let a : Rattle.ir_values.specs.Equality.Constructed (Val C.types) = record { number = d; argument = None } in
        where-both g h h' (Some a) (λ x. if_equal (nat_eq c x.number) (same_part (by_number C.types) (λ y. same_at (by_number C.types) y v) ((by_number C.types).argument g c) x.argument)) (λ p q.
        let eg : constructor_at C.types g c ≡ Some (Some t) = subst (λ y. constructor_at C.types y c ≡ Some (Some t)) (sym p) e in
        let n : nat_eq c d ≡ false = Rattle.closure_meaning.proofs.Tags.nat_eq-swap c d ∙ not-same g d c (subst (λ y. constructor_at C.types y d ≡ Some None) (sym q) e') eg in
        subst (λ y. Follows (if_equal (nat_eq c d) (same_part (by_number C.types) (λ y. same_at (by_number C.types) y v) ((by_number C.types).argument g c) None)) (equal_at TY (shape_at C.types g) (cells.cell (con_tag C.types y c) (cells.value u cells.no_values)) (cells.cell (con_tag C.types h' d) cells.no_values))) p
        (subst (λ y. Follows (if_equal (nat_eq c d) (same_part (by_number C.types) (λ y. same_at (by_number C.types) y v) ((by_number C.types).argument g c) None)) (equal_at TY (shape_at C.types g) (cells.cell (con_tag C.types g c) (cells.value u cells.no_values)) (cells.cell (con_tag C.types y d) cells.no_values))) q
        (subst (λ b. Follows (if_equal b (same_part (by_number C.types) (λ y. same_at (by_number C.types) y v) ((by_number C.types).argument g c) None)) (equal_at TY (shape_at C.types g) (cells.cell (con_tag C.types g c) (cells.value u cells.no_values)) (cells.cell (con_tag C.types g d) cells.no_values))) (sym n) (differ g c d (cells.value u cells.no_values) cells.no_values eg n))))
    equal-same g (same_con_of h c {a = t} {v = v} {u = u} e sv isin) (same_con_of h' d {v = w} {u = z} e' sw isin') =
        let a : Rattle.ir_values.specs.Equality.Constructed (Val C.types) = record { number = d; argument = Some w } in
        where-both g h h' (Some a) (λ x. if_equal (nat_eq c x.number) (same_part (by_number C.types) (λ y. same_at (by_number C.types) y v) ((by_number C.types).argument g c) x.argument)) (λ p q.
        subst (λ y. Follows (if_equal (nat_eq c d) (same_part (by_number C.types) (λ y. same_at (by_number C.types) y v) ((by_number C.types).argument g c) (Some w))) (equal_at TY (shape_at C.types g) (cells.cell (con_tag C.types y c) (cells.value u cells.no_values)) (cells.cell (con_tag C.types h' d) (cells.value z cells.no_values)))) p
        (subst (λ y. Follows (if_equal (nat_eq c d) (same_part (by_number C.types) (λ y. same_at (by_number C.types) y v) ((by_number C.types).argument g c) (Some w))) (equal_at TY (shape_at C.types g) (cells.cell (con_tag C.types g c) (cells.value u cells.no_values)) (cells.cell (con_tag C.types y d) (cells.value z cells.no_values)))) q
        (arguments-equal g c d t v w u z (subst (λ y. constructor_at C.types y c ≡ Some (Some t)) (sym p) e) (equal-same t sv sw))))
    equal-same g (same_con_of h c e sv isin) _ = where-none (nat_eq g h) _
    equal-same g (same_address a) (same_address b) = addresses-equal g a b
    equal-same g (same_address a) _ = where-none ((by_number C.types).has_references g) _
    equal-same g (same_exn h i) k = follows_none _
    equal-same g (same_exn_of h i sv isin) k = follows_none _
    equal-same g (same_ref h u) k = follows_none _
    equal-same g (same_primitive h p u) k = follows_none _
    equal-same g (same_cell h sv isin) k = follows_none _
    equal-same g (same_closure q c l good all_good caps) k = follows_none _

    fields-equal : (g : ℕ) {h h' : ℕ} (G : Parts (mono C.types)) {ls : List Label} {ts : List ℕ} {fs gs : Parts (mono C.types)} {us vs : cells.Values} → SameFields C all h ls ts fs us → SameFields C all h' ls ts gs vs → AreDistinct ls → ((l : Label) (t : ℕ) → part l ls ts ≡ Some t → (by_number C.types).field g l ≡ Some t) → ((l : Label) (v : Val C.types) → field_in l gs ≡ Some v → field_in l G ≡ Some v) → Follows (same_fields (by_number C.types) g fs G) (equal_parts TY ts us vs)
    fields-equal g G no_fields_same no_fields_same d typed there = follows_some true
    fields-equal g G (a_field_same l {t = t} {v = v} {ls = ls} {ts = ts} sv isin rest) (a_field_same l' {v = w} {fs = gs} sw isin' rest') (distinct_more o d) typed there =
        both-follow (field-equal g t l v w G (typed l t (ap (λ b. if b then Some t else part l ls ts) (label-same l))) (there l w (ap (λ b. if b then Some w else field_in l gs) (label-same l))) (equal-same t sv sw))
        (fields-equal g G rest rest' d (λ k s e. typed k s (ap (λ b. if b then Some t else part k ls ts) (apart k l o ts s e) ∙ e)) (λ k x e. there k x (ap (λ b. if b then Some w else field_in k gs) (apart-field k l o rest' x e) ∙ e)))
